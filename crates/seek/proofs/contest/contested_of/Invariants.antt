-- `seek::contest::contested_of` meets its contract. The loop's invariant: the words have the objects of the group on which task i clashes with an executing task that the walk
-- has passed, and those tasks. Assumes nothing.
use Prim.Native.Nat.{ℕ, ◌+◌, ◌*◌, ◌%◌, ◌^◌, ◌<◌}
use mathlib.Core.Path.{◌≡◌, sym, ap, ◌∙◌}
use mathlib.Core.Logic.{◌≢◌}
use mathlib.Core.List.{List}
use mathlib.Core.Bool.{Bool, true, false, not, ◌&&◌, ◌||◌, and-false, and-true, or-false}
use native.Mathlib.Nat.{mod-eq_of_lt}
use native.Mathlib.Omega.{arith}
use lib.Dec.{eqb}
use lib.ListN.{get_or}
use borrow.Author.Tests.{eqb-true, eq-eqb, ne_eqb}
use Rattle.std.specs.List.{list_any}
use Rattle.objects.specs.Below.{any}
use Rattle.objects.specs.Objects.{bit, clash_on, word}
use Rattle.objects.proofs.Laws.Below.{any_ext, any_none, any_at, any_witness, bool_ext, and_left, and_right, and_both}
use Rattle.objects.proofs.Laws.Bits.{bit_zero, bit_word, word_lt, word_eq}
use Rattle.objects.proofs.Laws.Clash.{contested_bit, group_contested_bits, group_contested_word, clash_on_split}
use Rattle.machine.specs.Bits.{with_bit}
use Rattle.machine.specs.Places.{executing_of, set_place, sets_in}
use Rattle.machine.specs.Asked.{contested_in, contested_groups}
use Rattle.seek.specs.declared.clash.Group.{Group}
use Rattle.machine.proofs.Laws.Bits.{with_bit_lem}
use Rattle.seek.specs.Groups.{group_in, word_in, group_clashes}
use Rattle.seek.specs.Tasks.{tasks_in}
use Rattle.seek.proofs.Laws.Gathered.{Gathered}
use Rattle.seek.proofs.Laws.Clash.{group_of, group_in_lem}
use Rattle.seek.proofs.Laws.Tasks.{tasks_any}
use Rattle.seek.proofs.contest.contested_of.Given as goal

-- a word of which no bit is set is 0
pub no_word : (f : ℕ → Bool) → ((b : ℕ) → b < 64 → f b ≡ false) → 0 ≡ word 64 f
no_word f none = word_eq 64 0 (word 64 f) (omega arith) (word_lt 64 f) (λ b l. bit_zero b ∙ sym (bit_word 64 f b l ∙ none b l))

module _ (w : List ℕ) (i g : ℕ) where
  -- ---- the objects

  -- task j is executing and clashes with task i on object b
  abbrev clashing : ℕ → ℕ → Bool
  clashing b j = bit (executing_of w) j && clash_on (sets_in w i) (sets_in w j) b

  -- the word of the group of tasks i and j has the objects on which they clash
  pub word_in_bit : (j b : ℕ) → b < 64 → bit (word_in (group_in w i j g)) b ≡ clash_on (sets_in w i) (sets_in w j) (g * 64 + b)
  word_in_bit j b l =
      let x = group_of (sets_in w i) (sets_in w j) g in
      ap (λ (x : Group). bit (word_in x) b) (group_in_lem w i j g) ∙ contested_bit x.reads x.writes x.other_reads x.other_writes b l
      ∙ sym (clash_on_split (sets_in w i) (sets_in w j) g b l)

  -- object b of the group is contested by the task
  abbrev pub object_of : ℕ → ℕ → Bool
  object_of b j = bit (word_in (group_in w i (j % 64) g)) b

  -- all are passed
  pub objects_all : (objects : ℕ) → objects < 2 ^ 64 → ((b : ℕ) → b < 64 → bit objects b ≡ list_any (object_of b) (tasks_in (executing_of w))) → objects ≡ contested_groups w i g
  unfolding contested_groups contested_in
  objects_all objects fits all =
      word_eq 64 objects (contested_groups w i g) fits (word_lt 64 (λ b. contested_in w i (g * 64 + b)))
      (λ b l. all b l ∙ tasks_any (executing_of w) (object_of b)
      ∙ any_ext 64 (λ j. bit (executing_of w) j && object_of b j) (clashing (g * 64 + b))
      (λ j m. ap (λ (t : Bool). bit (executing_of w) j && t) (ap (λ (k : ℕ). bit (word_in (group_in w i k g)) b) (mod-eq_of_lt m) ∙ word_in_bit j b l))
      ∙ sym (bit_word 64 (λ b. contested_in w i (g * 64 + b)) b l))

  -- ---- the tasks

  -- task j is one of those with which task i clashes in the group
  abbrev pub among : ℕ → Bool
  among j = bit (executing_of w) j && group_clashes (group_in w i j g)

  -- it is the task, and task i clashes with it in the group
  abbrev pub task_of : ℕ → ℕ → Bool
  task_of b j = eqb b (j % 64) && group_clashes (group_in w i (j % 64) g)

  -- all are passed
  pub tasks_all : (tasks : ℕ) → ((b : ℕ) → b < 64 → bit tasks b ≡ list_any (task_of b) (tasks_in (executing_of w))) → (j : ℕ) → j < 64 → bit tasks j ≡ among j
  tasks_all tasks all b l =
      all b l ∙ tasks_any (executing_of w) (task_of b)
      ∙ bool_ext (any 64 (λ j. bit (executing_of w) j && task_of b j)) (among b)
      (λ e.
      let p = any_witness 64 (λ j. bit (executing_of w) j && task_of b j) e in
      let of : task_of b p.0 ≡ true = and_right (bit (executing_of w) p.0) (task_of b p.0) p.2 in
      let same : p.0 % 64 ≡ p.0 = mod-eq_of_lt p.1 in
      let here : b ≡ p.0 % 64 = eqb-true b (p.0 % 64) (and_left (eqb b (p.0 % 64)) (group_clashes (group_in w i (p.0 % 64) g)) of) in
      and_both (bit (executing_of w) b) (group_clashes (group_in w i b g))
      (ap (bit (executing_of w)) (here ∙ same) ∙ and_left (bit (executing_of w) p.0) (task_of b p.0) p.2)
      (ap (λ (k : ℕ). group_clashes (group_in w i k g)) here ∙ and_right (eqb b (p.0 % 64)) (group_clashes (group_in w i (p.0 % 64) g)) of))
      (λ e.
      let same : b % 64 ≡ b = mod-eq_of_lt l in
      any_at 64 (λ j. bit (executing_of w) j && task_of b j) b l
      (and_both (bit (executing_of w) b) (task_of b b) (and_left (bit (executing_of w) b) (group_clashes (group_in w i b g)) e)
      (and_both (eqb b (b % 64)) (group_clashes (group_in w i (b % 64) g)) (eq-eqb b (b % 64) (sym same))
      (ap (λ (k : ℕ). group_clashes (group_in w i k g)) same ∙ and_right (bit (executing_of w) b) (group_clashes (group_in w i b g)) e))))

  -- where the transaction of task i has no object in the group, none is contested
  module _ (r : get_or w (set_place i g) 0 ≡ 0) (n : get_or w (set_place i g + 4) 0 ≡ 0) where
    pub no_bit : (j b : ℕ) → b < 64 → bit (word_in (group_in w i j g)) b ≡ false
    no_bit j b l =
        let x = group_in w i j g in
        contested_bit x.reads x.writes x.other_reads x.other_writes b l ∙ rw (r, n, bit_zero b)

    pub own_none : 0 ≡ contested_groups w i g
    unfolding contested_groups
    own_none =
        no_word (λ b. any 64 (clashing (g * 64 + b)))
        (λ b l. any_none 64 (clashing (g * 64 + b))
        (λ j m. ap (λ (t : Bool). bit (executing_of w) j && t) (sym (word_in_bit j b l) ∙ no_bit j b l) ∙ and-false (bit (executing_of w) j)))

    -- and nobody is clashed with
    pub nobody : (j : ℕ) → j < 64 → bit 0 j ≡ among j
    nobody j l =
        let x = group_in w i j g in
        bit_zero j
        ∙ sym (ap (λ (t : Bool). bit (executing_of w) j && t)
        (group_contested_bits x.reads x.writes x.other_reads x.other_writes ∙ any_none 64 (bit (word_in x)) (λ b m. no_bit j b m))
        ∙ and-false (bit (executing_of w) j))

  -- what the turn does to the tasks
  module _ (p tasks new more : ℕ) (x : Group) (found : x ≡ group_in w i p g) (is : more ≡ word_in x) where
    pub some : (b : Bool) → eqb more 0 ≡ b → group_clashes (group_in w i p g) ≡ not b
    some b e =
        let y = group_in w i p g in
        group_contested_word y.reads y.writes y.other_reads y.other_writes ∙ ap not (sym (ap (λ (v : ℕ). eqb v 0) (is ∙ ap word_in found)) ∙ e)

    -- it is put with them where there is a contested object
    pub tasks_with : more ≢ 0 → new ≡ with_bit tasks p → (j : ℕ) → j < 64 → bit new j ≡ (bit tasks j || (eqb j p && group_clashes (group_in w i p g)))
    tasks_with n e j l =
        ap (λ (y : ℕ). bit y j) e ∙ with_bit_lem tasks p j l
        ∙ ap (λ (b : Bool). bit tasks j || b) (sym (ap (λ (b : Bool). eqb j p && b) (some false (ne_eqb more 0 n)) ∙ and-true (eqb j p)))

    -- and else they stay
    pub tasks_without : more ≡ 0 → new ≡ tasks → (j : ℕ) → j < 64 → bit new j ≡ (bit tasks j || (eqb j p && group_clashes (group_in w i p g)))
    tasks_without n e j l =
        ap (λ (y : ℕ). bit y j) e
        ∙ sym (ap (λ (b : Bool). bit tasks j || (eqb j p && b)) (some true (eq-eqb more 0 n)) ∙ ap (λ (b : Bool). bit tasks j || b) (and-false (eqb j p)) ∙ or-false (bit tasks j))

abbrev pub invariant-loop-other : goal.invariant-loop-other
invariant-loop-other l =
    let all = tasks_in (executing_of l.words) in
    let rest = tasks_in l.other-iterator.0 in
    Gathered (object_of l.words l.i l.g) all l.objects rest × Gathered (task_of l.words l.i l.g) all l.tasks rest
