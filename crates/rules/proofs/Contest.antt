-- What is decided of a transaction against those that execute is what is said plainly: a yes of `any` has a task that gives it, and the other way round. The task that a
-- wait names is the foremost of those that clash, and with a strict ranking there is one foremost.
use Prim.Native.Nat.{ℕ, ◌≤◌, ◌<◌}
use mathlib.Core.Path.{◌≡◌, refl, sym, ◌∙◌}
use mathlib.Core.Logic.{inl, inr, ◌≢◌, ⊎_elim}
use mathlib.Core.Bool.{Bool, true, false, ◌&&◌, false≢true}
use native.Mathlib.Nat.{le_antisymm}
use native.Mathlib.Omega.{arith}
use Rattle.objects.specs.Objects.{Sets, clash, clash_on, Clash, ClashOn}
use Rattle.objects.specs.Below.{any}
use Rattle.objects.proofs.Laws.Below.{below_or_from, any_witness, any_at, and_left, and_right, and_both}
use Rattle.objects.proofs.Laws.Clash.{clash_plain, clash_on_plain}
use Rattle.objects.proofs.Laws.Plainly.{Passes, least_lowest, count_many, lowest_same, many_same}
use Rattle.rules.specs.declared.Session.{Session}
use Rattle.rules.specs.declared.Said.{Said}
use Rattle.rules.specs.declared.Said.TheVariants.{Ok, Run, No}
use Rattle.rules.specs.declared.Answer.{Answer}
use Rattle.rules.specs.Answers.{is_wait}
use Rattle.rules.specs.Ranking.{Ranking}
use Rattle.rules.specs.Tasks.{task_at, executing, sets_at, sets_of}
use Rattle.rules.specs.Room.{rank_at}
use Rattle.rules.specs.Contest.{clashing, blocked, contested_on, lowest_contested, contested_count, highest_clashing, Blocked, ContestedOn, BlockedPlain, ContestedPlain, LowestContestedPlain, ContestedCountPlain, HighestClashing, HighestPlain}
use Rattle.rules.specs.Scan.{scan}
use Rattle.rules.specs.Listed.{ScanLeaves}
use Rattle.rules.specs.Events.{release_number, refused, wait_said}
use Rattle.rules.specs.Reachable.{WaitSays, OthersSay, AnswerSays, WaitsPlainly}
use Rattle.rules.proofs.Laws.Foremost.{foremost_found, foremost_first}
use Rattle.rules.proofs.Laws.Numbers.{timely}
use Rattle.rules.proofs.Laws.Scan.{scan_held}
use Rattle.rules.proofs.Laws.Steps.{arrive_cases, release_cases, commit_cases, finish_cases, step_cases}

-- What is asked of the executing tasks, and agrees with what is said plainly of each: so it does of one that executes, and of whether there is one.
module _ (s : Session) (P : ℕ → Bool) (Plain : ℕ → Type 0) (agree : (j : ℕ) → (P j ≡ true → Plain j) × (Plain j → P j ≡ true)) where
  executing_plain : (j : ℕ)
      → ((executing s j && P j) ≡ true → (executing s j ≡ true) × Plain j) × (executing s j ≡ true → Plain j → (executing s j && P j) ≡ true)
  executing_plain j =
      (λ e. (and_left (executing s j) (P j) e, (agree j).0 (and_right (executing s j) (P j) e)), λ e c. and_both (executing s j) (P j) e ((agree j).1 c))

  some_plain : let with_it : ℕ → Bool = λ j. executing s j && P j in
      let Some : Type 0 = (j : ℕ) × (j < s.n) × (executing s j ≡ true) × Plain j in
      (any s.n with_it ≡ true → Some) × (Some → any s.n with_it ≡ true)
  some_plain = (
    λ e.
        let w = any_witness s.n (λ j. executing s j && P j) e in
        let plain = (executing_plain w.0).0 w.2 in
        (w.0, w.1, plain.0, plain.1),
    λ b. any_at s.n (λ j. executing s j && P j) b.0 b.1 ((executing_plain b.0).1 b.2 b.3),
  )

pub blocked_plain : BlockedPlain
unfolding blocked
blocked_plain s x = some_plain s (λ j. clash x (sets_at s j)) (λ j. Clash x (sets_at s j)) (λ j. clash_plain x (sets_at s j))

pub contested_plain : ContestedPlain
unfolding contested_on
contested_plain s x b l = some_plain s (λ j. clash_on x (sets_at s j) b) (λ j. ClashOn x (sets_at s j) b) (λ j. clash_on_plain x (sets_at s j) b l)

said_plainly : (s : Session) (x : Sets) (b : ℕ) → Passes 256 (contested_on s x) b → ContestedOn s x b
said_plainly s x b p = (contested_plain s x b p.0).0 p.1

plainly_said : (s : Session) (x : Sets) (b : ℕ) → ContestedOn s x b → Passes 256 (contested_on s x) b
plainly_said s x b c = (c.3.object, (contested_plain s x b c.3.object).1 c)

-- there is a contested object where it clashes with an executing transaction
pub lowest_contested_plain : LowestContestedPlain
unfolding lowest_contested
lowest_contested_plain s x b =
    let w = b.3.0 in
    let some = any_at 256 (contested_on s x) w b.3.1.object ((contested_plain s x w b.3.1.object).1 (b.0, b.1, b.2, b.3.1)) in
    lowest_same (Passes 256 (contested_on s x)) (ContestedOn s x) (said_plainly s x) (plainly_said s x) (lowest_contested s x)
    (least_lowest 256 (contested_on s x) some)

pub contested_count_plain : ContestedCountPlain
unfolding contested_count
contested_count_plain s x =
    many_same (Passes 256 (contested_on s x)) (ContestedOn s x) (said_plainly s x) (plainly_said s x) (contested_count s x)
    (count_many 256 (contested_on s x))

pub highest_plain : HighestPlain
unfolding highest_clashing
highest_plain rank strict s x small = (found, only)
  where
    h : ℕ
    h = highest_clashing rank s x

    plainly : (j : ℕ)
        → (clashing s x j ≡ true → (executing s j ≡ true) × Clash x (sets_at s j)) × (executing s j ≡ true → Clash x (sets_at s j) → clashing s x j ≡ true)
    plainly = executing_plain s (λ j. clash x (sets_at s j)) (λ j. Clash x (sets_at s j)) (λ j. clash_plain x (sets_at s j))

    first : (j : ℕ) → j < s.n → executing s j ≡ true → Clash x (sets_at s j) → (h ≢ 64) × (rank_at rank s h ≤ rank_at rank s j)
    first j l e c = foremost_first s.n _ _ small j l ((plainly j).1 e c)

    is : h ≢ 64 → HighestClashing rank s x h
    is d =
        let w = foremost_found s.n _ _ d in
        let plain = (plainly h).0 w.1 in
        record {
          below = w.0;
          executes = plain.0;
          clashes = plain.1;
          highest = λ j l e c above. absurd (omega (arith, (first j l e c).1, above));
        }

    found : Blocked s x → HighestClashing rank s x h
    found b = is (first b.0 b.1 b.2 b.3).0

    only : (i : ℕ) → HighestClashing rank s x i → i ≡ h
    only i g =
        let f = first i g.below g.executes g.clashes in
        let m = is f.0 in
        let not-above = g.highest h m.below m.executes m.clashes in
        let same = ⊎_elim (λ l. absurd (not-above l)) (λ l. le_antisymm l f.1) (below_or_from (rank_at rank s h) (rank_at rank s i)) in
        strict (task_at s i) (task_at s h) i h (omega (arith, g.below, small)) (omega (arith, m.below, small)) same

-- a session that accepts a release has an allowed n
release_few : (rank : Ranking) (s : Session) (tick i : ℕ) → release_number rank s tick i ≡ 0 → s.n ≤ 64
unfolding release_number
release_few rank s tick i z = (timely s tick i _ z).n_high

-- only a release that is accepted and blocked is answered with a wait
pub answer_says : AnswerSays
answer_says rank strict s e =
    step_cases rank s e Says
    (λ kind. arrive_cases Says s refuses e.tick e.task (λ z. says_ok))
    (λ kind. release_cases Says s refuses e.tick e.task rank e.reads e.writes waits (λ z free. says_run))
    (λ kind. commit_cases Says s refuses e.tick e.task rank (λ z. says_ok))
    (λ kind. finish_cases Says s refuses e.tick e.task rank (λ z. says_ok))
  where
    x : Sets
    x = sets_of e.reads e.writes

    SaysOf : Said → Type 0
    SaysOf said = (is_wait said ≡ true → WaitSays rank s x said) × (is_wait said ≡ false → OthersSay said)

    Says : Answer → Type 0
    Says a = SaysOf a.said

    other : (said : Said) → is_wait said ≡ false → OthersSay said → SaysOf said
    other said q zeros = (λ p. absurd (false≢true (sym q ∙ p)), λ p. zeros)

    says_ok : SaysOf Ok
    says_ok = other Ok refl (refl, refl, refl)

    says_run : SaysOf Run
    says_run = other Run refl (refl, refl, refl)

    refuses : (k : ℕ) → k ≢ 0 → Says (refused s k)
    refuses k d = other (No k) refl (refl, refl, refl)

    waits : release_number rank s e.tick e.task ≡ 0 → blocked s x ≡ true → SaysOf (wait_said rank s x)
    waits z clashes = (
      λ p. (refl, refl, (highest_plain rank strict s x (release_few rank s e.tick e.task z)).0 ((blocked_plain s x).0 clashes)),
      λ p. absurd (false≢true (sym p)),
    )

-- what is named executes and clashes, so there is a contested object
pub waits_plainly : WaitsPlainly
waits_plainly rank strict s e w =
    let x = sets_of e.reads e.writes in
    let says = (answer_says rank strict s e).0 w in
    let named = says.2 in (
      rw says.0 (lowest_contested_plain s x (_, named.below, named.executes, named.clashes)),
      rw says.1 (contested_count_plain s x),
    )

-- ---- what a scan leaves

pub scan_leaves : ScanLeaves
scan_leaves rank strict stays s small i l w =
    let s' = (scan rank s).session in
    elim (scan_held rank strict stays s small i l w) [ inl b ↦ inl ((blocked_plain s' (sets_at s' i)).0 b) | inr r ↦ inr r ]
