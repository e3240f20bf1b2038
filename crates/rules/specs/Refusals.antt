-- The numbers of the refusals, as 01 and the requests have them.
use Rattle.std.specs.Prelude.{ℕ, Result, Ok, Err, cond, eqb}
use Rattle.rules.specs.declared.Refusal.{Refusal}
use Rattle.rules.specs.declared.Refusal.TheVariants.{UnknownTask, EarlierTick, TooManyEvents, WrongState, EarlyArrival, NoProcessor, NoReleaseLeft, BadProcessors, BadTasks, BadPriority, BadPeriod, BadMode, CutOff, UnknownKind, WrongLength, SpareUsed, OutOfPlace, WrongCount, BytesAfterEnd, NoBytes, NoRoom, NotRising, OtherSetup, TotalPasses}

-- 1 to 7 of an event, 10 to 14 of a setup, 20 to 29 of a record or a log, 40 and 41 of the report
abbrev pub refusal_number : Refusal → ℕ
refusal_number UnknownTask = 1
refusal_number EarlierTick = 2
refusal_number TooManyEvents = 3
refusal_number WrongState = 4
refusal_number EarlyArrival = 5
refusal_number NoProcessor = 6
refusal_number NoReleaseLeft = 7
refusal_number BadProcessors = 10
refusal_number BadTasks = 11
refusal_number BadPriority = 12
refusal_number BadPeriod = 13
refusal_number BadMode = 14
refusal_number CutOff = 20
refusal_number UnknownKind = 21
refusal_number WrongLength = 22
refusal_number SpareUsed = 23
refusal_number OutOfPlace = 24
refusal_number WrongCount = 25
refusal_number BytesAfterEnd = 26
refusal_number NoBytes = 27
refusal_number NoRoom = 28
refusal_number NotRising = 29
refusal_number OtherSetup = 40
refusal_number TotalPasses = 41

-- the number of an answer that may refuse, '0: accepted'
abbrev pub result_number : {A : Type 0} → Result A Refusal → ℕ
result_number (Ok x) = 0
result_number (Err refusal) = refusal_number refusal

-- the refusal that a number names; of a number that names none, which no definition gives, the last
unfoldable pub refusal_of : ℕ → Refusal
refusal_of number =
    cond (eqb number 1) UnknownTask
    (cond (eqb number 2) EarlierTick
    (cond (eqb number 3) TooManyEvents
    (cond (eqb number 4) WrongState
    (cond (eqb number 5) EarlyArrival
    (cond (eqb number 6) NoProcessor
    (cond (eqb number 7) NoReleaseLeft
    (cond (eqb number 10) BadProcessors
    (cond (eqb number 11) BadTasks
    (cond (eqb number 12) BadPriority
    (cond (eqb number 13) BadPeriod
    (cond (eqb number 14) BadMode
    (cond (eqb number 20) CutOff
    (cond (eqb number 21) UnknownKind
    (cond (eqb number 22) WrongLength
    (cond (eqb number 23) SpareUsed
    (cond (eqb number 24) OutOfPlace
    (cond (eqb number 25) WrongCount
    (cond (eqb number 26) BytesAfterEnd
    (cond (eqb number 27) NoBytes
    (cond (eqb number 28) NoRoom
    (cond (eqb number 29) NotRising
    (cond (eqb number 40) OtherSetup TotalPasses))))))))))))))))))))))

-- whether all is well, by its number
abbrev pub verdict_of : ℕ → Result Unit Refusal
verdict_of number = cond (eqb number 0) (Ok tt) (Err (refusal_of number))
