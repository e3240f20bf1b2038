-- The clash of two tasks, group by group, as the groups lie in the words.
use Prim.Native.Nat.{ℕ}
use mathlib.Core.Path.{◌≡◌, refl, sym, ap, ◌∙◌}
use mathlib.Core.List.{List}
use mathlib.Core.Bool.{Bool}
use native.Mathlib.Nat.{add-zero, add_right_comm}
use Rattle.objects.specs.Below.{any}
use Rattle.objects.specs.Objects.{Sets, clash}
use Rattle.objects.proofs.Laws.Below.{any_ext}
use Rattle.objects.proofs.Laws.Clash.{clash_groups}
use Rattle.machine.specs.Places.{sets_in}
use Rattle.machine.specs.Asked.{clash_in}
use Rattle.seek.specs.declared.clash.Group.{Group}
use Rattle.seek.specs.Groups.{group_in, group_clashes}

-- group g of two transactions
abbrev pub group_of : Sets → Sets → ℕ → Group
group_of x y g = record { reads = x.reads g; writes = x.writes g; other_reads = y.reads g; other_writes = y.writes g }

module _ (w : List ℕ) (i j : ℕ) where
  -- their transactions clash
  abbrev pub clashes : Bool
  clashes = clash (sets_in w i) (sets_in w j)

  pub clash_is : clashes ≡ clash_in w i j
  unfolding clash_in
  clash_is = refl

  -- the group that lies in the words is that of the two tasks' sets
  pub group_in_lem : (g : ℕ) → group_in w i j g ≡ group_of (sets_in w i) (sets_in w j) g
  group_in_lem g = simp (add-zero, add_right_comm)

  -- group g of tasks i and j is contested
  abbrev pub group_clash : ℕ → Bool
  group_clash g = group_clashes (group_in w i j g)

  -- they clash where one of the four is
  pub clash_in_lem : clash_in w i j ≡ any 4 group_clash
  unfolding clash_in
  clash_in_lem =
      clash_groups (sets_in w i) (sets_in w j)
      ∙ any_ext 4 (λ g. group_clashes (group_of (sets_in w i) (sets_in w j) g)) group_clash (λ g l. ap group_clashes (sym (group_in_lem g)))
