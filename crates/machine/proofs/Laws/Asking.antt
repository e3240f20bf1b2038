-- What the rules ask of a transaction that releases goes by those that execute alone: two sessions in which the same tasks execute, with the same sets and ranks, answer
-- alike.
use Prim.Native.Nat.{ℕ, ◌<◌}
use mathlib.Core.Path.{◌≡◌, ap, ◌∙◌}
use mathlib.Core.Bool.{Bool, true, ◌&&◌}
use Rattle.objects.specs.Below.{any}
use Rattle.objects.specs.Objects.{Sets, clash, clash_on}
use Rattle.objects.proofs.Laws.Below.{any_ext, count_ext, least_ext}
use Rattle.rules.specs.declared.Session.{Session}
use Rattle.rules.specs.Ranking.{Ranking, foremost}
use Rattle.rules.specs.Tasks.{executing, sets_at}
use Rattle.rules.specs.Room.{rank_at}
use Rattle.rules.specs.Contest.{clashing, blocked, contested_on, lowest_contested, contested_count, highest_clashing}
use Rattle.rules.specs.Events.{wait_said}
use Rattle.rules.proofs.Laws.Rows.{Agree, on_agree, clash_agree}
use Rattle.rules.proofs.Laws.Foremost.{foremost_ext}
use Rattle.machine.proofs.Laws.Choices.{asked_where}

module _ (rank : Ranking) (s s' : Session) (x x' : Sets) (n_same : s'.n ≡ s.n) (sets : Agree x' x)
    (ranked : (j : ℕ) → rank_at rank s' j ≡ rank_at rank s j) (executes : (j : ℕ) → executing s' j ≡ executing s j)
    (others : (j : ℕ) → executing s j ≡ true → Agree (sets_at s' j) (sets_at s j)) where
  -- who clashes with it
  clashing_same : (j : ℕ) → clashing s' x' j ≡ clashing s x j
  clashing_same j =
      ap (λ (b : Bool). b && clash x' (sets_at s' j)) (executes j)
      ∙ asked_where (executing s j) (clash x' (sets_at s' j)) (clash x (sets_at s j))
      (λ e. clash_agree x' (sets_at s' j) x (sets_at s j) sets (others j e))

  -- and on which object
  on_same : (b : ℕ) → b < 256 → (j : ℕ) → (executing s' j && clash_on x' (sets_at s' j) b) ≡ (executing s j && clash_on x (sets_at s j) b)
  on_same b l j =
      ap (λ (t : Bool). t && clash_on x' (sets_at s' j) b) (executes j)
      ∙ asked_where (executing s j) (clash_on x' (sets_at s' j) b) (clash_on x (sets_at s j) b)
      (λ e. on_agree x' (sets_at s' j) x (sets_at s j) sets (others j e) b l)

  -- whether it is blocked
  pub blocked_same : blocked s' x' ≡ blocked s x
  unfolding blocked
  blocked_same =
      ap (λ (k : ℕ). any k (clashing s' x')) n_same ∙ any_ext s.n (clashing s' x') (clashing s x) (λ j l. clashing_same j)

  -- which objects are contested
  contested_same : (b : ℕ) → b < 256 → contested_on s' x' b ≡ contested_on s x b
  unfolding contested_on
  contested_same b l =
      ap (λ (k : ℕ). any k (λ j. executing s' j && clash_on x' (sets_at s' j) b)) n_same
      ∙ any_ext s.n (λ j. executing s' j && clash_on x' (sets_at s' j) b) (λ j. executing s j && clash_on x (sets_at s j) b) (λ j m. on_same b l j)

  -- the lowest of them
  lowest_same : lowest_contested s' x' ≡ lowest_contested s x
  unfolding lowest_contested
  lowest_same = least_ext 256 (contested_on s' x') (contested_on s x) contested_same

  -- how many they are
  count_same : contested_count s' x' ≡ contested_count s x
  unfolding contested_count
  count_same = count_ext 256 (contested_on s' x') (contested_on s x) contested_same

  -- for whom it waits
  highest_same : highest_clashing rank s' x' ≡ highest_clashing rank s x
  unfolding highest_clashing
  highest_same =
      ap (λ (k : ℕ). foremost k (clashing s' x') (rank_at rank s')) n_same
      ∙ foremost_ext s.n (clashing s' x') (clashing s x) (rank_at rank s') (rank_at rank s) (λ j l. clashing_same j) (λ j l. ranked j)

  -- so what is said of its wait
  pub said_same : wait_said rank s' x' ≡ wait_said rank s x
  said_same = rw (lowest_same, count_same, highest_same)
