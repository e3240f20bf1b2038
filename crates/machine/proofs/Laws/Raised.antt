-- What a commit raises in the words: the counts of each waiting task that clashes with the committed one, and nothing else. Each stands at one place of the row, and has run
-- where those that are busy and those before it are fewer than m.
use Prim.Native.Nat.{ℕ, zero, suc, ◌+◌, ◌%◌, ◌≤◌, ◌<◌}
use mathlib.Core.Path.{◌≡◌, refl, sym, ap, ◌∙◌}
use mathlib.Core.Logic.{◌≢◌, ◌⊎◌, inl, inr}
use mathlib.Core.List.{List}
use mathlib.Core.Bool.{Bool, true, false, cond}
use native.Mathlib.Nat.{le_of_lt}
use native.Mathlib.Omega.{arith}
use lib.Dec.{eqb, ltb}
use lib.ListN.{length, get_or, set, length-set}
use borrow.Author.Tests.{ne_eqb, lt-ltb}
use Rattle.objects.proofs.Laws.Below.{below_suc}
use Rattle.rules.specs.Events.{one_more}
use Rattle.rules.proofs.Laws.Rows.{Agree, clash_agree}
use Rattle.machine.specs.Places.{row_at, row_task, number_place, clashes_at, retries_at, set_place, sets_in}
use Rattle.machine.specs.Asked.{clash_in}
use Rattle.machine.specs.Events.{counts_raised, hit_at, ran_at, raise_at, raised_in}
use Rattle.machine.specs.Holds.{Ordered}
use Rattle.machine.proofs.Laws.Choices.{either}
use Rattle.machine.proofs.Laws.Places.{kept, chain}
use Rattle.machine.proofs.Laws.Counting.{row_once}

-- ---- one task's counts

-- a place that is no count of a task
abbrev pub Aside : ℕ → Type 0
Aside q = (j : ℕ) → j < 64 → (number_place j 6 ≢ q) × (number_place j 7 ≢ q)

-- such a place is as it was
counts_aside : (w : List ℕ) (j : ℕ) (b : Bool) (q : ℕ) → j < 64 → Aside q → get_or (counts_raised w j b) q 0 ≡ get_or w q 0
counts_aside w j b q l aside =
    kept (set w (number_place j 6) (one_more (clashes_at w j))) (number_place j 7) q (cond b (one_more (retries_at w j)) (retries_at w j)) (aside j l).1
    ∙ kept w (number_place j 6) q (one_more (clashes_at w j)) (aside j l).0

-- those of another task
counts_other : (w : List ℕ) (j k : ℕ) (b : Bool) → k ≢ j → (clashes_at (counts_raised w j b) k ≡ clashes_at w k) × (retries_at (counts_raised w j b) k ≡ retries_at w k)
counts_other w j k b d = let other : eqb j k ≡ false = ne_eqb j k (λ e. d (sym e)) in (simp chain, simp chain)

-- its own
counts_own : (w : List ℕ) (j : ℕ) (b : Bool) → length w ≡ 1280 → j < 64
    → (clashes_at (counts_raised w j b) j ≡ one_more (clashes_at w j)) × (retries_at (counts_raised w j b) j ≡ cond b (one_more (retries_at w j)) (retries_at w j))
counts_own w j b size l = let inside : ltb j 64 ≡ true = lt-ltb j 64 l in (simp (chain, size), simp (chain, size))

-- ---- those at the first places of the row

-- one place, whatever is asked of it: no other place is touched
raise_aside : (v : List ℕ) (i busy p q : ℕ) → Aside q → get_or (raise_at v i busy p) q 0 ≡ get_or v q 0
raise_aside v i busy p q aside =
    either (λ (x : List ℕ). get_or x q 0 ≡ get_or v q 0) (hit_at v i p) (counts_aside v (row_task v p) (ran_at v busy p) q (omega arith) aside) refl

-- and the words stay as many
raise_length : (v : List ℕ) (i busy p : ℕ) → length (raise_at v i busy p) ≡ length v
raise_length v i busy p = either (λ (x : List ℕ). length x ≡ length v) (hit_at v i p) (simp length-set) refl

-- the same of all
module _ (w : List ℕ) (i busy : ℕ) where
  -- no other place is touched
  pub raised_aside : (p q : ℕ) → Aside q → get_or (raised_in w i busy p) q 0 ≡ get_or w q 0
  unfolding raised_in
  raised_aside zero q aside = refl
  raised_aside (suc p) q aside = raise_aside (raised_in w i busy p) i busy p q aside ∙ raised_aside p q aside

  -- the words stay as many
  pub raised_length : (p : ℕ) → length (raised_in w i busy p) ≡ length w
  unfolding raised_in
  raised_length zero = refl
  raised_length (suc p) = raise_length (raised_in w i busy p) i busy p ∙ raised_length p

-- ---- the places beside the counts

-- what stands before the tasks' numbers
pub aside_low : (q : ℕ) → q < 136 → Aside q
aside_low q l j m = (omega arith, omega arith)

-- a task's other numbers
pub aside_number : (k f : ℕ) → f < 6 → Aside (number_place k f)
aside_number k f l j m = (omega arith, omega arith)

-- the sets
pub aside_set : (q : ℕ) → 648 ≤ q → Aside q
aside_set q l j m = (omega arith, omega arith)

-- ---- each place in turn

module _ (f : ℕ → Bool) (r : ℕ → ℕ) (w : List ℕ) (c i busy : ℕ) (row : Ordered f r w c) (size : length w ≡ 1280) where
  -- the sets are as they were
  sets_aside : (p j : ℕ) → Agree (sets_in (raised_in w i busy p) j) (sets_in w j)
  sets_aside p j = record {
    reads = λ g l. raised_aside w i busy p (set_place j 0 + g) (aside_set (set_place j 0 + g) (omega arith));
    writes = λ g l. raised_aside w i busy p (set_place j 4 + g) (aside_set (set_place j 4 + g) (omega arith));
  }

  -- so whoever clashed clashes
  clash_aside : (p a j : ℕ) → clash_in (raised_in w i busy p) a j ≡ clash_in w a j
  unfolding clash_in
  clash_aside p a j =
      clash_agree (sets_in (raised_in w i busy p) a) (sets_in (raised_in w i busy p) j) (sets_in w a) (sets_in w j) (sets_aside p a) (sets_aside p j)

  -- the one at place p, whether it clashes and whether it ran are as they were
  task_aside : (p : ℕ) → p < c → row_task (raised_in w i busy p) p ≡ row_task w p
  task_aside p l = ap (λ (k : ℕ). k % 64) (raised_aside w i busy p (8 + p) (aside_low (8 + p) (omega (arith, row.places))))

  hit_aside : (p : ℕ) → p < c → hit_at (raised_in w i busy p) i p ≡ hit_at w i p
  hit_aside p l = rw (task_aside p l, clash_aside p)

  ran_aside : (p : ℕ) → ran_at (raised_in w i busy p) busy p ≡ ran_at w busy p
  ran_aside p = rw (raised_aside w i busy p 0 (aside_low 0 (omega arith)))

  -- it is below 64
  task_small : (p : ℕ) → p < c → row_task w p ≡ row_at w p
  task_small p l = omega (arith, (row.each p l).0)

  -- both counts of the task at place k as they were
  abbrev Kept : List ℕ → ℕ → Type 0
  Kept v k = (clashes_at v (row_at w k) ≡ clashes_at w (row_at w k)) × (retries_at v (row_at w k) ≡ retries_at w (row_at w k))

  -- or raised
  abbrev pub Counted : List ℕ → ℕ → Type 0
  Counted v k =
      (clashes_at v (row_at w k) ≡ cond (hit_at w i k) (one_more (clashes_at w (row_at w k))) (clashes_at w (row_at w k)))
      × (retries_at v (row_at w k)
      ≡ cond (hit_at w i k) (cond (ran_at w busy k) (one_more (retries_at w (row_at w k))) (retries_at w (row_at w k))) (retries_at w (row_at w k)))

  -- a place leaves the counts of a task that stands at another
  elsewhere : (p k : ℕ) → p < c → row_at w k ≢ row_at w p
      → (clashes_at (raised_in w i busy (suc p)) (row_at w k) ≡ clashes_at (raised_in w i busy p) (row_at w k))
      × (retries_at (raised_in w i busy (suc p)) (row_at w k) ≡ retries_at (raised_in w i busy p) (row_at w k))
  unfolding raised_in
  elsewhere p k l d =
      let v = raised_in w i busy p in
      either (λ (x : List ℕ). (clashes_at x (row_at w k) ≡ clashes_at v (row_at w k)) × (retries_at x (row_at w k) ≡ retries_at v (row_at w k))) (hit_at v i p)
      (counts_other v (row_task v p) (row_at w k) (ran_at v busy p) (λ e. d (e ∙ task_aside p l ∙ task_small p l)))
      (refl, refl)

  -- a task whose place is still to come
  raised_later : (p k : ℕ) → p ≤ k → k < c → Kept (raised_in w i busy p) k
  unfolding raised_in
  raised_later zero k h l = (refl, refl)
  raised_later (suc p) k h l =
      let same = elsewhere p k (omega arith) (λ e. row_once f r w c row p k h l (sym e)) in
      let before = raised_later p k (le_of_lt h) l in
      (same.0 ∙ before.0, same.1 ∙ before.1)

  -- at its place
  raised_here : (p : ℕ) → p < c → Counted (raised_in w i busy (suc p)) p
  unfolding raised_in
  raised_here p l = go (row_task v p) (hit_at v i p) (ran_at v busy p) (task_aside p l ∙ task_small p l) (hit_aside p l) (ran_aside p)
    where
      v : List ℕ
      v = raised_in w i busy p

      before : Kept v p
      before = raised_later p p (omega arith) l

      here : (b : Bool)
          → (clashes_at (cond b (counts_raised v (row_at w p) (ran_at w busy p)) v) (row_at w p)
          ≡ cond b (one_more (clashes_at w (row_at w p))) (clashes_at w (row_at w p)))
          × (retries_at (cond b (counts_raised v (row_at w p) (ran_at w busy p)) v) (row_at w p)
          ≡ cond b (cond (ran_at w busy p) (one_more (retries_at w (row_at w p))) (retries_at w (row_at w p))) (retries_at w (row_at w p)))
      here true =
          let own = counts_own v (row_at w p) (ran_at w busy p) (raised_length w i busy p ∙ size) (row.each p l).0 in
          (own.0 ∙ ap one_more before.0, own.1 ∙ ap (λ (k : ℕ). cond (ran_at w busy p) (one_more k) k) before.1)
      here false = before

      go : (j : ℕ) (b h : Bool) → j ≡ row_at w p → b ≡ hit_at w i p → h ≡ ran_at w busy p → Counted (cond b (counts_raised v j h) v) p
      go j b h stands hits ran = rw (stands, hits, ran) (here (hit_at w i p))

  -- and ever after
  pub raised_at : (p k : ℕ) → k < p → p ≤ c → Counted (raised_in w i busy p) k
  raised_at zero k l h = absurd (omega arith)
  raised_at (suc p) k l h = go (λ m. raised_at p k m (le_of_lt h)) (below_suc k p l)
    where
      go : (k < p → Counted (raised_in w i busy p) k) → (k ≡ p) ⊎ (k < p) → Counted (raised_in w i busy (suc p)) k
      go rest (inl e) = rw e (raised_here p h)
      go rest (inr m) =
          let same = elsewhere p k h (row_once f r w c row k p m h) in
          (same.0 ∙ (rest m).0, same.1 ∙ (rest m).1)
