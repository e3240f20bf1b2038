-- The laws of the searches' loops: what holds of the indices passed holds of one more, and what is asked of the tasks to come is asked of all.
use Prim.Native.Nat.{ℕ, ◌+◌, ◌%◌, ◌<◌}
use mathlib.Core.Path.{◌≡◌, sym, ap, ◌∙◌}
use mathlib.Core.List.{List, ◌∷◌}
use mathlib.Core.Bool.{Bool, true, false, ◌&&◌, ◌||◌, or-false}
use native.Mathlib.Nat.{mod-eq_of_lt}
use Rattle.std.specs.List.{list_any}
use Rattle.objects.specs.Below.{any}
use Rattle.objects.specs.Objects.{bit}
use Rattle.objects.proofs.Laws.Below.{any_more, any_ext, any_at}
use Rattle.machine.specs.Places.{executing_of}
use Rattle.machine.specs.Asked.{clash_in, clashing_in, blocked_in}
use Rattle.seek.specs.declared.clash.Group.{Group}
use Rattle.seek.specs.Groups.{group_in, group_clashes}
use Rattle.seek.specs.Tasks.{tasks_in}
use Rattle.seek.proofs.Laws.Clash.{clash_is, group_clash, clash_in_lem}
use Rattle.seek.proofs.Laws.Tasks.{tasks_any}

-- ---- the indices passed

-- none was found, and this one is none
pub none_more : (k : ℕ) (f : ℕ → Bool) → any k f ≡ false → f k ≡ false → any (k + 1) f ≡ false
none_more k f p q = any_more k f ∙ ap (λ (b : Bool). b || f k) p ∙ q

-- a place without a one of the word adds none of its ones
pub any_stays : (x : ℕ) (f : ℕ → Bool) (j : ℕ) → bit x j ≡ false → any (j + 1) (λ j. bit x j && f j) ≡ any j (λ j. bit x j && f j)
any_stays x f j e =
    any_more j (λ j. bit x j && f j) ∙ ap (λ (b : Bool). any j (λ j. bit x j && f j) || (b && f j)) e ∙ or-false (any j (λ j. bit x j && f j))

-- ---- the clash of two tasks

module _ (w : List ℕ) (i j : ℕ) where
  -- the answer to the question for group g, asked of the group where it lies
  pub group_asked : (g : ℕ) (x : Group) (answer : Bool) → x ≡ group_in w i j g → answer ≡ group_clashes x → group_clash w i j g ≡ answer
  group_asked g x answer e p = sym (p ∙ ap group_clashes e)

  -- a group is contested
  pub group_clashes_lem : (g : ℕ) → g < 4 → group_clash w i j g ≡ true → clash_in w i j ≡ true
  group_clashes_lem g l e = clash_in_lem w i j ∙ any_at 4 (group_clash w i j) g l e

  -- none of the four is
  pub no_group_clashes : (g : ℕ) → g ≡ 4 → any g (group_clash w i j) ≡ false → clash_in w i j ≡ false
  no_group_clashes g done e = clash_in_lem w i j ∙ ap (λ (k : ℕ). any k (group_clash w i j)) (sym done) ∙ e

-- ---- the clash with an executing task

module _ (w : List ℕ) (i : ℕ) where
  -- it clashes with the task
  abbrev pub meets : ℕ → Bool
  meets j = clash_in w i (j % 64)

  -- it clashes with one of these
  abbrev pub Met : List ℕ → Type 0
  Met rest = list_any meets rest ≡ blocked_in w i

  -- at first all are to come
  pub met_all : (rest : List ℕ) → rest ≡ tasks_in (executing_of w) → Met rest
  unfolding blocked_in
  met_all rest e =
      ap (list_any meets) e ∙ tasks_any (executing_of w) meets
      ∙ any_ext 64 (λ j. bit (executing_of w) j && meets j) (clashing_in w i)
      (λ j l. ap (λ (b : Bool). bit (executing_of w) j && b) (ap (clash_in w i) (mod-eq_of_lt l) ∙ sym (clash_is w i j)))

  -- one is passed with which it does not clash
  pub met_more : (task : ℕ) (rest more : List ℕ) → rest ≡ task ∷ more → meets task ≡ false → Met rest → Met more
  met_more task rest more e none met = sym (ap (list_any meets) e ∙ ap (λ (b : Bool). b || list_any meets more) none) ∙ met

  -- one is found with which it clashes
  pub met_one : (task : ℕ) (rest more : List ℕ) → rest ≡ task ∷ more → meets task ≡ true → Met rest → true ≡ blocked_in w i
  met_one task rest more e some met = sym (ap (list_any meets) e ∙ ap (λ (b : Bool). b || list_any meets more) some) ∙ met
