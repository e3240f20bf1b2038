-- `seek::contest::wait_said` meets its contract. The loop's invariant: the groups passed have so many contested objects, the lowest of them is found where there is one, and
-- the tasks are those with which the transaction clashes in one of these groups.
use Prim.Native.Nat.{ℕ, ◌+◌, ◌*◌, ◌^◌, ◌<◌}
use mathlib.Core.Path.{◌≡◌, refl, sym, ap, ap₂, ◌∙◌}
use mathlib.Core.List.{List}
use mathlib.Core.Bool.{Bool, true, false, ◌&&◌, ◌||◌, and-false}
use lib.Bits.{bit_or}
use Rattle.objects.specs.Below.{any}
use Rattle.objects.specs.Objects.{bit, lowest_object, how_many}
use Rattle.objects.proofs.Laws.Below.{any_empty, any_more}
use Rattle.objects.proofs.Laws.Bits.{bit_zero, bit_or_lem, word_lt}
use Rattle.rules.specs.declared.Said.TheVariants.{Wait}
use Rattle.machine.specs.Places.{executing_of}
use Rattle.machine.specs.Asked.{clashing_in, contested_in, contested_groups, highest_in, wait_said_in}
use Rattle.seek.specs.Foremost.{foremost}
use Rattle.seek.proofs.Laws.Clash.{group_clash, clash_is, clash_in_lem}
use Rattle.seek.proofs.Laws.Highest.{foremost_ext, highest_is}
use Rattle.seek.proofs.Laws.Groups.{Passed}
use Rattle.seek.proofs.contest.wait_said.Given as goal

module _ (w : List ℕ) (i : ℕ) where
  -- each contested group is a word of 64 bits
  pub groups_fit : (g : ℕ) → g < 4 → contested_groups w i g < 2 ^ 64
  unfolding contested_groups
  groups_fit g l = word_lt 64 (λ b. contested_in w i (g * 64 + b))

  -- the executing tasks with which it clashes in one of the groups below g
  abbrev pub Told : ℕ → ℕ → Type 0
  Told g tasks = (j : ℕ) → j < 64 → bit tasks j ≡ (bit (executing_of w) j && any g (group_clash w i j))

  pub told_none : Told 0 0
  told_none j l = bit_zero j ∙ sym (ap (λ (b : Bool). bit (executing_of w) j && b) (any_empty (group_clash w i j)) ∙ and-false (bit (executing_of w) j))

  -- with those of one group more
  pub told_more : (g tasks more : ℕ) → Told g tasks → ((j : ℕ) → j < 64 → bit more j ≡ (bit (executing_of w) j && group_clash w i j g)) → Told (g + 1) (bit_or tasks more)
  told_more g tasks more seen each j l =
      bit_or_lem tasks more j ∙ ap₂ (λ (a b : Bool). a || b) (seen j l) (each j l) ∙ joined (bit (executing_of w) j) (any g (group_clash w i j)) (group_clash w i j g)
      ∙ ap (λ (b : Bool). bit (executing_of w) j && b) (sym (any_more g (group_clash w i j)))
    where
      joined : (a b c : Bool) → ((a && b) || (a && c)) ≡ (a && (b || c))
      joined true b c = refl
      joined false b c = refl

  -- of all four they are those with which it clashes, and the highest ranked of them is whom it waits for
  pub whom_is : (g tasks whom : ℕ) → g ≡ 4 → Told g tasks → whom ≡ foremost w (bit tasks) 64 → whom ≡ highest_in w i
  whom_is g tasks whom all seen e =
      e ∙ foremost_ext w (bit tasks) (clashing_in w i) 64
      (λ j l. seen j l ∙ ap (λ (b : Bool). bit (executing_of w) j && b) (ap (λ (k : ℕ). any k (group_clash w i j)) all ∙ sym (clash_in_lem w i j) ∙ sym (clash_is w i j)))
      ∙ sym (highest_is w i)

  -- what is said of these three
  pub said_is : (object contested whom : ℕ) → object ≡ lowest_object (contested_groups w i) → contested ≡ how_many (contested_groups w i) → whom ≡ highest_in w i
      → Wait object contested whom ≡ wait_said_in w i
  unfolding wait_said_in
  said_is object contested whom p q r = cc

abbrev pub invariant-loop-g : goal.invariant-loop-g
invariant-loop-g l =
    Passed (contested_groups l.words l.i) (groups_fit l.words l.i) l.g l.object l.contested × Told l.words l.i l.g l.tasks
