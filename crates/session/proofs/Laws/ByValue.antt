-- A session laid into words, one event, and the session read back: the answer is the rules'.
use Prim.Native.Nat.{ℕ, zero, suc, ◌+◌, ◌%◌, ◌^◌, ◌≤◌, ◌<◌, min}
use mathlib.Core.Path.{◌≡◌, refl, sym, ap, ap₂, ◌∙◌}
use mathlib.Core.Logic.{inl, inr}
use mathlib.Core.List.{List}
use mathlib.Core.Bool.{cond, and-false}
use lib.Dec.{eqb}
use native.Mathlib.Nat.{lt_of_lt_of_le, ne_of_lt, mod-eq_of_lt}
use native.Mathlib.Numerals.{add-one}
use native.Mathlib.Omega.{arith}
use lib.ListN.{set, length, get_or, length-replicate, length-set}
use lib.Seq.{get_or-set_same, get_or-set_other, ext_get_or}
use Rattle.objects.proofs.Laws.Below.{below_suc, below_or_from}
use Rattle.rules.specs.declared.Admission.{Admission}
use Rattle.rules.specs.declared.Admissions.{Admissions}
use Rattle.rules.specs.declared.Session.{Session}
use Rattle.rules.specs.declared.Event.{Event}
use Rattle.rules.specs.declared.Answer.{Answer}
use Rattle.rules.specs.declared.Said.{Said}
use Rattle.rules.specs.Ranking.{by_rank}
use Rattle.rules.specs.Scan.{no_admission, none}
use Rattle.rules.specs.Listed.{admission_at}
use Rattle.rules.specs.Tasks.{allowed}
use Rattle.rules.specs.Events.{trying, arrive_number, release_number, commit_number, finish_number, refused, arrive, release, commit, finish, step}
use Rattle.machine.specs.declared.Reply.{Reply}
use Rattle.machine.specs.Events.{Outcome, saying, step_in}
use Rattle.machine.specs.Opened.{opened, read_back}
use Rattle.machine.specs.Holds.{Holds}
use Rattle.machine.specs.Theorem.{listed_at, Answers, Fits, Sized, Sixteen, ListFits}
use Rattle.rules.proofs.Laws.Numbers.{allowed_past}
use Rattle.rules.proofs.Laws.Steps.{step_cases}
use Rattle.machine.proofs.Step.{step_holds}
use Rattle.machine.proofs.Opened.{opened_holds}
use Rattle.machine.proofs.Back.{reads_back}
use Rattle.machine.proofs.Fits.{step_fits, step_beside}
use Rattle.machine.proofs.Lists.{no_place, step_sixteen, step_lists}
use Rattle.session.specs.Listed.{admission_in, first_of, admissions_in}

-- ---- the admissions of a list

-- before the first place, and one place more
pub first_none : (list : List ℕ) → first_of list 0 ≡ none.list
unfolding first_of
first_none list = refl

pub first_more : (list : List ℕ) (k : ℕ) → first_of list (k + 1) ≡ set (first_of list k) k (admission_in list k)
unfolding first_of
first_more list k = ap (first_of list) (add-one k)

-- the first k places of the answer are those of the list, and the others are empty
first_size : (list : List ℕ) (k : ℕ) → length (first_of list k) ≡ 16
unfolding first_of
first_size list zero = length-replicate 16 no_admission
first_size list (suc k) = length-set (first_of list k) k (admission_in list k) ∙ first_size list k

-- the first c places have the list's admissions, and the others none
first_at : (list : List ℕ) (c k : ℕ) → c ≤ 16
    → (k < c → get_or (first_of list c) k no_admission ≡ admission_in list k) × (c ≤ k → get_or (first_of list c) k no_admission ≡ no_admission)
unfolding first_of
first_at list zero k l = (λ m. absurd (omega arith), λ m. no_place 16 k)
first_at list (suc c) k l =
    let before = first_at list c k (omega arith) in
    let size = first_size list c in (
      λ m.
          elim (below_suc k c m) [
            | inl e ↦ rw (e, get_or-set_same (first_of list c) c (admission_in list c) no_admission (omega arith))
            | inr b ↦ get_or-set_other (first_of list c) c k (admission_in list c) no_admission (ne_of_lt b) ∙ before.0 b
          ],
      λ m. get_or-set_other (first_of list c) c k (admission_in list c) no_admission (λ e. omega arith) ∙ before.1 (omega arith),
    )

-- so they are the answer's, where each that is listed is
listed_are : (list : List ℕ) (count : ℕ) (a : Admissions) → Sixteen a → count ≡ a.count
    → ((k : ℕ) → k < a.count → admission_in list k ≡ admission_at a k) → admissions_in list count ≡ a
listed_are list count a all e same = ap₂ made e lists
  where
    made : ℕ → List Admission → Admissions
    made c l = record { count = c; list = l }

    few : min count 16 ≡ a.count
    few = omega (arith, e, all.few)

    at : (k : ℕ) → get_or (first_of list a.count) k no_admission ≡ get_or a.list k no_admission
    at k =
        let first = first_at list a.count k all.few in
        elim (below_or_from k a.count) [ inl l ↦ first.0 l ∙ same k l | inr l ↦ first.1 l ∙ sym (all.unused k l) ]

    lists : first_of list (min count 16) ≡ a.list
    lists =
        ap (first_of list) few
        ∙ ext_get_or no_admission (first_of list a.count) a.list (first_size list a.count ∙ sym all.size) (λ k l. at k)

-- ---- the whole answer

abbrev pub made_of : Said → Admissions → Session → Answer
made_of said admitted session = record { said = said; admitted = admitted; session = session }

module _ (w list : List ℕ) (s : Session) (e : Event) (size : length w ≡ 1280) (places : length list ≡ 64)
    (sized : Sized s) (fits : Fits s) (in-time : e.tick < 2 ^ 32) (few : s.n ≤ 64) where
  abbrev x : Outcome
  x = step_in (opened w s) list e

  abbrev a : Answer
  a = step by_rank s e

  held : Answers s e x a × Holds by_rank x.words a.session
  held = step_holds (opened w s) list s e places (opened_holds w s size sized (λ i l. fits.period i) few)

  lists : ListFits a.admitted
  lists = step_lists by_rank s e in-time fits

  -- the numbers of an admission fit their places, and so stay what they are
  small : (k : ℕ) → k < a.admitted.count → admission_in x.list k ≡ admission_at a.admitted k
  small k l = within (admission_at a.admitted k) (held.0.list k (omega (arith, held.0.admitted))) (lt_of_lt_of_le (lists.task k l) (omega arith)) (lists.clashes k l) (lists.retries k l)
    where
      within : (y : Admission) → listed_at x.list k ≡ y → y.task < 256 → y.clashes < 4294967296 → y.retries < 4294967296 → admission_in x.list k ≡ y
      within y is t c r = rest (listed_at x.list k) is
        where
          cut : Admission → Admission
          cut z = record { task = z.task % 256; clashes = z.clashes % 4294967296; retries = z.retries % 4294967296 }

          rest : (z : Admission) → z ≡ y → cut z ≡ y
          rest z e = ap cut e ∙ simp (mod-eq_of_lt t, mod-eq_of_lt c, mod-eq_of_lt r)

  pub by_value : made_of x.said (admissions_in x.list x.admitted) (read_back x.words s) ≡ a
  by_value =
      let session = reads_back by_rank x.words a.session s held.1 (step_fits by_rank s e in-time fits) sized (step_beside by_rank s e) in
      let admitted = listed_are x.list x.admitted a.admitted (step_sixteen by_rank s e) held.0.admitted small in
      rw (held.0.said, admitted, session)

  -- and so where each call's own contract says what it gave
  pub by_calls : (w₁ w₂ list₂ : List ℕ) (reply : Reply) (admitted : Admissions) (session : Session) → w₁ ≡ opened w s → reply ≡ saying (step_in w₁ list e)
      → w₂ ≡ (step_in w₁ list e).words → list₂ ≡ (step_in w₁ list e).list → admitted ≡ admissions_in list₂ reply.admitted → session ≡ read_back w₂ s
      → made_of reply.said admitted session ≡ a
  by_calls w₁ w₂ list₂ reply admitted session opens says leaves lists-are lists-so reads =
      rw (reads, lists-so, says, leaves, lists-are) (ap answer opens ∙ by_value)
    where
      answer : List ℕ → Answer
      answer v =
          let y = step_in v list e in
          made_of y.said (admissions_in y.list y.admitted) (read_back y.words s)

-- ---- a session of more tasks than a table has

module _ (s : Session) (many : 64 < s.n) where
  first : (tick i rest : ℕ) → trying s tick i rest ≡ 1
  first tick i rest = rw (allowed_past 64 s.n many, and-false (allowed 16 s.m))

  by_1 : (k : ℕ) (accepts : Answer) → k ≡ 1 → cond (eqb k 0) accepts (refused s k) ≡ refused s 1
  by_1 k accepts e = rw e

  pub too_many : (e : Event) → step by_rank s e ≡ refused s 1
  unfolding arrive arrive_number release release_number commit commit_number finish finish_number
  too_many e =
      step_cases by_rank s e (λ a. a ≡ refused s 1) (λ kind. by_1 (arrive_number s e.tick e.task) _ (first _ _ _))
      (λ kind. by_1 (release_number by_rank s e.tick e.task) _ (first _ _ _)) (λ kind. by_1 (commit_number s e.tick e.task) _ (first _ _ _))
      (λ kind. by_1 (finish_number by_rank s e.tick e.task) _ (first _ _ _))
