-- When waiting tasks become executing, room only shrinks and blocked only grows: what held a waiting task holds it still.
use Prim.Native.Nat.{ℕ, ◌+◌, ◌<◌}
use mathlib.Core.Path.{◌≡◌, sym, ap, ap₂, ◌∙◌}
use mathlib.Core.Logic.{◌⊎◌, inl, inr}
use mathlib.Core.Bool.{Bool, true, false, ◌&&◌}
use native.Mathlib.Omega.{arith}
use lib.Dec.{ltb}
use borrow.Author.Tests.{ltb-true, ltb-false, le-ltb}
use Rattle.objects.specs.Below.{any, count}
use Rattle.objects.specs.Objects.{Sets, clash}
use Rattle.objects.proofs.Laws.Below.{not_both, not_true_false, and_left, and_right, and_both, any_false, any_mono, count_ext, count_mono}
use Rattle.rules.specs.declared.Task.{Task}
use Rattle.rules.specs.declared.Session.{Session}
use Rattle.rules.specs.Ranking.{Ranking}
use Rattle.rules.specs.Tasks.{is_plain, state_at, plain, waiting, executing, sets_at}
use Rattle.rules.specs.Room.{rank_at, plain_above, room}
use Rattle.rules.specs.Contest.{clashing, blocked}
use Rattle.rules.proofs.Laws.Kept.{Kept}
use Rattle.rules.proofs.Laws.Tasks.{waiting_not_plain}
use Rattle.rules.proofs.Laws.Keeping.{EachKept, kept_waiting, kept_plain, kept_executing, kept_sets}

-- what stands against a waiting task
abbrev pub HeldAt : Ranking → Session → ℕ → Type 0
HeldAt rank s i = (blocked s (sets_at s i) ≡ true) ⊎ (room rank s i ≡ false)

-- where there is room, fewer than m execute
pub room_fewer : (rank : Ranking) (s : Session) (i : ℕ) → room rank s i ≡ true → count s.n (executing s) < s.m
unfolding room
room_fewer rank s i e = omega (arith, ltb-true (count s.n (executing s) + count s.n (plain_above rank s i)) s.m e)

-- one that is not blocked clashes with none that executes
pub unblocked_apart : (s : Session) (x : Sets) → blocked s x ≡ false → (j : ℕ) → j < s.n → executing s j ≡ true → clash x (sets_at s j) ≡ false
unfolding blocked
unblocked_apart s x e j l w =
    not_true_false (clash x (sets_at s j))
    (λ p. not_both (clashing s x j) (and_both (executing s j) (clash x (sets_at s j)) w p)
    (any_false s.n (clashing s x) e j l))

module _ (s s' : Session) (kept : Kept s s') where
  pub blocked_grows : (x : Sets) → blocked s x ≡ true → blocked s' x ≡ true
  unfolding blocked
  blocked_grows x e =
      ap (λ (n : ℕ). any n (clashing s' x)) kept.n
      ∙ any_mono s.n (clashing s x) (clashing s' x) still e
    where
      still : (j : ℕ) → j < s.n → clashing s x j ≡ true → clashing s' x j ≡ true
      still j l q =
          and_both (executing s' j) (clash x (sets_at s' j))
          (kept_executing s s' kept j (and_left (executing s j) (clash x (sets_at s j)) q))
          (ap (clash x) (kept_sets s s' kept j) ∙ and_right (executing s j) (clash x (sets_at s j)) q)

  -- of one that still waits, the plain tasks above it are the same
  kept_above : (rank : Ranking) (i : ℕ) → waiting s' i ≡ true → (j : ℕ) → plain_above rank s' i j ≡ plain_above rank s i j
  kept_above rank i w j = go (kept.each j)
    where
      go : EachKept s s' j → plain_above rank s' i j ≡ plain_above rank s i j
      go (inl e) =
          ap₂ (λ (t u : Task). is_plain t.state && ltb (rank t j) (rank u i)) e (kept_waiting s s' kept i w)
      go (inr c) =
          let before : plain s j ≡ false = waiting_not_plain (state_at s j) c.1 in
          let after : plain s' j ≡ false = kept_plain s s' kept j ∙ before in
          ap (λ (p : Bool). p && ltb (rank_at rank s' j) (rank_at rank s' i)) after
          ∙ sym (ap (λ (p : Bool). p && ltb (rank_at rank s j) (rank_at rank s i)) before)

  pub room_shrinks : (rank : Ranking) (i : ℕ) → waiting s' i ≡ true → room rank s i ≡ false → room rank s' i ≡ false
  unfolding room
  room_shrinks rank i w e =
      le-ltb (count s'.n (executing s') + count s'.n (plain_above rank s' i)) s'.m
      (rw (kept.m, kept.n)
      (omega (
        arith,
        ltb-false (count s.n (executing s) + count s.n (plain_above rank s i)) s.m e,
        count_mono s.n (executing s) (executing s') (λ j l. kept_executing s s' kept j),
        count_ext s.n (plain_above rank s' i) (plain_above rank s i) (λ j l. kept_above rank i w j),
      )))

  pub still_held : (rank : Ranking) (i : ℕ) → waiting s' i ≡ true → HeldAt rank s i → HeldAt rank s' i
  still_held rank i w (inl b) = inl (ap (blocked s') (kept_sets s s' kept i) ∙ blocked_grows (sets_at s i) b)
  still_held rank i w (inr r) = inr (room_shrinks rank i w r)
