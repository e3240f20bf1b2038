-- A refusal and its number say the same.
use Rattle.std.specs.Prelude.{ℕ, ◌≡◌, ◌≢◌, Result, Ok, Err}
use mathlib.Core.Path.{refl, sym, ap, ◌∙◌}
use native.Mathlib.Omega.{arith}
use Rattle.rules.specs.declared.Refusal.{Refusal}
use Rattle.rules.specs.declared.Refusal.TheVariants.{UnknownTask, EarlierTick, TooManyEvents, WrongState, EarlyArrival, NoProcessor, NoReleaseLeft, BadProcessors, BadTasks, BadPriority, BadPeriod, BadMode, CutOff, UnknownKind, WrongLength, SpareUsed, OutOfPlace, WrongCount, BytesAfterEnd, NoBytes, NoRoom, NotRising, OtherSetup, TotalPasses}
use borrow.Author.Tests.{ne_eqb}
use Rattle.rules.specs.Refusals.{refusal_number, result_number, refusal_of, verdict_of}

-- a number names the refusal that has it
pub refusal_back : (refusal : Refusal) → refusal_of (refusal_number refusal) ≡ refusal
unfolding refusal_of
refusal_back UnknownTask = refl
refusal_back EarlierTick = refl
refusal_back TooManyEvents = refl
refusal_back WrongState = refl
refusal_back EarlyArrival = refl
refusal_back NoProcessor = refl
refusal_back NoReleaseLeft = refl
refusal_back BadProcessors = refl
refusal_back BadTasks = refl
refusal_back BadPriority = refl
refusal_back BadPeriod = refl
refusal_back BadMode = refl
refusal_back CutOff = refl
refusal_back UnknownKind = refl
refusal_back WrongLength = refl
refusal_back SpareUsed = refl
refusal_back OutOfPlace = refl
refusal_back WrongCount = refl
refusal_back BytesAfterEnd = refl
refusal_back NoBytes = refl
refusal_back NoRoom = refl
refusal_back NotRising = refl
refusal_back OtherSetup = refl
refusal_back TotalPasses = refl

-- so there is one refusal of a number
pub refusal_is : (number : ℕ) (refusal : Refusal) → refusal_number refusal ≡ number → refusal_of number ≡ refusal
refusal_is number refusal is = ap refusal_of (sym is) ∙ refusal_back refusal

-- and a number that some refusal has is that of the refusal that it names
pub number_back : (number : ℕ) (refusal : Refusal) → refusal_number refusal ≡ number → refusal_number (refusal_of number) ≡ number
number_back number refusal is = ap refusal_number (refusal_is number refusal is) ∙ is

-- no refusal has the number 0: 0 would name the last one, which has another
pub refusal_not_0 : (refusal : Refusal) → refusal_number refusal ≢ 0
unfolding refusal_of
refusal_not_0 refusal is = let last : TotalPasses ≡ refusal = refusal_is 0 refusal is in absurd (omega (arith, ap refusal_number last))

-- the number of a verdict gives the verdict back
pub verdict_back : (verdict : Result Unit Refusal) → verdict_of (result_number verdict) ≡ verdict
verdict_back (Ok done) = refl
verdict_back (Err refusal) = rw (ne_eqb (refusal_number refusal) 0 (refusal_not_0 refusal), refusal_back refusal)
