-- What an answer lists: sixteen places, empty past the count, and numbers that fit, since each admission has the counts that its task had as it waited.
use Prim.Native.Nat.{ℕ, ◌≤◌, zero-le}
use mathlib.Core.Path.{◌≡◌, ap, ◌∙◌}
use native.Mathlib.Nat.{lt_of_lt_of_le, le_trans}
use native.Mathlib.Omega.{arith}
use lib.ListN.{length, get_or, replicate, length-replicate, length-set}
use lib.Seq.{get_or-set_other}
use Rattle.rules.specs.declared.Session.{Session}
use Rattle.rules.specs.declared.Event.{Event}
use Rattle.rules.specs.declared.Admission.{Admission}
use Rattle.rules.specs.declared.Admissions.{Admissions}
use Rattle.rules.specs.declared.Answer.{Answer}
use Rattle.rules.specs.Ranking.{Ranking}
use Rattle.rules.specs.Scan.{no_admission, none, scan}
use Rattle.rules.specs.Listed.{admission_at}
use Rattle.rules.specs.Events.{trying, arrive_number, release_number, commit_number, finish_number, begins, step}
use Rattle.rules.proofs.Laws.Rows.{filled_with}
use Rattle.rules.proofs.Laws.Numbers.{timely}
use Rattle.rules.proofs.Laws.Looks.{Lasts, scan_lasts}
use Rattle.rules.proofs.Laws.Scan.{scan_few}
use Rattle.rules.proofs.Laws.Listed.{scan_settled}
use Rattle.rules.proofs.Laws.Steps.{step_cases, arrive_cases, release_cases, commit_cases, finish_cases}
use Rattle.machine.specs.Theorem.{Fits, Sixteen, StepSixteen, ListFits, StepLists}
use Rattle.machine.proofs.Fits.{Onward, releases, commits, finishes}

-- sixteen places, of which those past the count are empty
record Unused (a : Admissions) : Type 0 where
  size : length a.list ≡ 16
  unused : (k : ℕ) → a.count ≤ k → get_or a.list k no_admission ≡ no_admission

-- an empty list has no admission at any place
pub no_place : (n k : ℕ) → get_or (replicate n no_admission) k no_admission ≡ no_admission
no_place n k = filled_with n k no_admission

-- an empty list
none_unused : Unused none
none_unused = record { size = length-replicate 16 no_admission; unused = λ k l. no_place 16 k }

-- one more admission
admit_unused : (rank : Ranking) → Lasts rank (λ x. Unused x.admitted)
admit_unused rank x i p l w a = record {
  size = length-set x.admitted.list x.admitted.count _ ∙ p.size;
  unused = λ k m. get_or-set_other x.admitted.list x.admitted.count k _ no_admission (λ e. omega (arith, m)) ∙ p.unused k (omega (arith, m));
}

-- what a scan lists
scan_unused : (rank : Ranking) (s : Session) → Unused (scan rank s).admitted
scan_unused rank s = scan_lasts rank (λ x. Unused x.admitted) (admit_unused rank) s none_unused

-- ---- sixteen places

-- an empty list
none_sixteen : Sixteen none
none_sixteen = record { size = none_unused.size; few = zero-le; unused = none_unused.unused }

-- a scan's, which admits no more than m
scan_sixteen : (rank : Ranking) (s : Session) → s.m ≤ 16 → Sixteen (scan rank s).admitted
scan_sixteen rank s few =
    let u = scan_unused rank s in
    record { size = u.size; few = le_trans (scan_few rank s) few; unused = u.unused }

-- ---- numbers that fit

-- an empty list
none_listed : ListFits none
none_listed = record { task = λ k l. absurd (omega arith); clashes = λ k l. absurd (omega arith); retries = λ k l. absurd (omega arith) }

-- a scan of a session whose numbers fit
scan_listed : (rank : Ranking) (s : Session) → s.m ≤ 16 → s.n ≤ 64 → Fits s → ListFits (scan rank s).admitted
scan_listed rank s few tasks fits =
    let entries = (scan_settled rank s few).entries in
    let a = (scan rank s).admitted in
    record {
      task = λ k l. lt_of_lt_of_le (entries k l).0 tasks;
      clashes = λ k l. rw (ap (λ (x : Admission). x.clashes) (entries k l).2) (fits.clashes (admission_at a k).task);
      retries = λ k l. rw (ap (λ (x : Admission). x.retries) (entries k l).2) (fits.retries (admission_at a k).task);
    }

-- ---- of every answer

-- Of what an answer lists, where it is none or a scan's, after an event that was accepted.
module _ (P : Admissions → Type 0) (rank : Ranking) (s : Session) (e : Event) (empty : P none)
    (scanned : (s₁ : Session) → Onward e s s₁ → s.m ≤ 16 → s.n ≤ 64 → P (scan rank s₁).admitted) where
  -- of an answer, what it lists
  abbrev of_answer : Answer → Type 0
  of_answer a = P a.admitted

  -- a scan of an event that is accepted, whose number is 0
  after_scan : (rest : ℕ) (s₁ : Session) → Onward e s s₁ → trying s e.tick e.task rest ≡ 0 → P (scan rank s₁).admitted
  after_scan rest s₁ on z = let ok = timely s e.tick e.task rest z in scanned s₁ on ok.m_high ok.n_high

  -- any event
  answered : P (step rank s e).admitted
  unfolding arrive_number release_number commit_number finish_number
  answered =
      step_cases rank s e of_answer
      (λ kind. arrive_cases of_answer s (λ k h. empty) e.tick e.task (λ z. empty))
      (λ kind. release_cases of_answer s (λ k h. empty) e.tick e.task rank e.reads e.writes
      (λ z b. after_scan _ _ (releases rank s e (begins e.tick) (λ l. l) (omega arith) (omega arith) z) z)
      (λ z b. empty))
      (λ kind. commit_cases of_answer s (λ k h. empty) e.tick e.task rank (λ z. after_scan _ _ (commits rank s e z) z))
      (λ kind. finish_cases of_answer s (λ k h. empty) e.tick e.task rank (λ z. after_scan _ _ (finishes rank s e z) z))

-- sixteen places
pub step_sixteen : StepSixteen
step_sixteen rank s e = answered Sixteen rank s e none_sixteen (λ s₁ on few tasks. scan_sixteen rank s₁ (omega (arith, on.m)))

-- numbers that fit
pub step_lists : StepLists
step_lists rank s e in-time fits =
    answered ListFits rank s e none_listed
    (λ s₁ on few tasks. scan_listed rank s₁ (omega (arith, on.m)) (omega (arith, on.n)) (on.fits in-time fits))
