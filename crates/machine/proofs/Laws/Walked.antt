-- A scan looks at the waiting tasks in the order of their ranks: where they stand in a row so, it tries the one at each place in turn.
use Prim.Native.Nat.{ℕ, zero, suc, ◌+◌, ◌≤◌, ◌<◌}
use mathlib.Core.Path.{◌≡◌, refl, sym, ap, ◌∙◌}
use mathlib.Core.Logic.{◌⊎◌, inl, inr, ◌≢◌}
use mathlib.Core.Bool.{Bool, true, false, cond}
use native.Mathlib.Nat.{lt_of_lt_of_le, le_of_eq, le_of_lt, le_refl, le_antisymm, ne_of_lt}
use native.Mathlib.Omega.{arith}
use lib.Dec.{eqb, leb}
use borrow.Author.Tests.{eqb-true, eqb-false, eq-eqb, ne_eqb, le-leb}
use Rattle.objects.proofs.Laws.Below.{below_suc, below_or_from, and_both, count_le, count_at}
use Rattle.rules.specs.declared.Task.{Task}
use Rattle.rules.specs.declared.State.TheVariants.{Executing}
use Rattle.rules.specs.declared.Session.{Session}
use Rattle.rules.specs.Ranking.{Ranking, Strict}
use Rattle.rules.specs.Tasks.{is_waiting, task_at, waiting, in_state}
use Rattle.rules.specs.Room.{rank_at}
use Rattle.rules.specs.Scan.{next, admissible, Scanned, none, admit, tried, look, scan}
use Rattle.rules.proofs.Laws.Kept.{Kept}
use Rattle.rules.proofs.Laws.Tasks.{task_other}
use Rattle.rules.proofs.Laws.Foremost.{ahead, Found, next_found, next_first}
use Rattle.rules.proofs.Laws.Keeping.{kept_refl, kept_waiting}
use Rattle.rules.proofs.Laws.Looks.{Lasts, tried_lasts, admit_kept}
use Rattle.rules.proofs.Laws.Passed.{Passed, look_passes, tried_holds}

-- ---- one look

-- it goes on from the next one, which is tried
look_on : (rank : Ranking) (k from : ℕ) (x : Scanned) (i : ℕ) → next rank x.session from ≡ i → i ≢ 64
    → look rank (suc k) from x ≡ look rank k (rank_at rank x.session i + 1) (tried rank x i)
unfolding look
look_on rank k from x i is d =
    ap (λ (j : ℕ). cond (eqb j 64) x (look rank k (rank_at rank x.session j + 1) (tried rank x j))) is
    ∙ ap (λ (b : Bool). cond b x (look rank k (rank_at rank x.session i + 1) (tried rank x i))) (ne_eqb i 64 d)

-- it ends where there is none
look_none : (rank : Ranking) (k from : ℕ) (x : Scanned) → next rank x.session from ≡ 64 → look rank k from x ≡ x
unfolding look
look_none rank zero from x e = refl
look_none rank (suc k) from x e =
    ap
    (λ (b : Bool).
    cond b x
    (look rank k (rank_at rank x.session (next rank x.session from) + 1) (tried rank x (next rank x.session from))))
    (eq-eqb (next rank x.session from) 64 e)

-- ---- the places of a row

-- the first c places have the waiting tasks, and no others, and their ranks rise
pub record Row (rank : Ranking) (s : Session) (row : ℕ → ℕ) (c : ℕ) : Type 0 where
  pub below : (k : ℕ) → k < c → row k < s.n
  pub waits : (k : ℕ) → k < c → waiting s (row k) ≡ true
  pub rising : (j k : ℕ) → j < k → k < c → rank_at rank s (row j) < rank_at rank s (row k)
  pub all : (i : ℕ) → i < s.n → waiting s i ≡ true → (k : ℕ) × (k < c) × (row k ≡ i)

-- the tasks at the first p places tried, each against what those before it left
unfoldable pub walked : Ranking → (ℕ → ℕ) → Scanned → ℕ → Scanned
unfolding admissible
walked rank row x zero = x
walked rank row x (suc p) = tried rank (walked rank row x p) (row p)

module _ (rank : Ranking) (s : Session) (row : ℕ → ℕ) (c : ℕ) (order : Row rank s row c) where
  -- a scan before it looks
  abbrev start : Scanned
  start = record { admitted = none; session = s }

  -- no task stands at two places
  once : (j k : ℕ) → j < k → k < c → row k ≢ row j
  once j k l h e = omega (arith, order.rising j k l h, ap (rank_at rank s) e)

  -- before place p the tasks from p on are as they were, and nothing but a waiting task has changed
  record Before (p : ℕ) (x : Scanned) : Type 0 where
    kept : Kept s x.session
    later : (q : ℕ) → p ≤ q → q < c → task_at x.session (row q) ≡ task_at s (row q)

  -- only the one that is tried may change
  tried_other : (x : Scanned) (i j : ℕ) → j ≢ i → task_at (tried rank x i).session j ≡ task_at x.session j
  tried_other x i j d = go (admissible rank x.session i)
    where
      go : (b : Bool) → task_at (cond b (admit x i) x).session j ≡ task_at x.session j
      go true = task_other x.session i j (in_state (task_at x.session i) Executing) d
      go false = refl

  module _ (p : ℕ) (l : p < c) (x : Scanned) (b : Before p x) where
    -- the one at place p is a task, and waits
    here_below : row p < x.session.n
    here_below = lt_of_lt_of_le (order.below p l) (le_of_eq (sym b.kept.n))

    here_waits : waiting x.session (row p) ≡ true
    here_waits = ap (λ (t : Task). is_waiting t.state) (b.later p (omega arith) l) ∙ order.waits p l

    -- one place on
    before_more : Before (suc p) (tried rank x (row p))
    before_more = record {
      kept = tried_lasts rank (λ y. Kept s y.session) (admit_kept rank s) x (row p) b.kept here_below here_waits;
      later = λ q h m. tried_other x (row p) (row q) (once p q h m) ∙ b.later q (le_of_lt h) m;
    }

  -- so it is before each place
  walked_before : (p : ℕ) → p ≤ c → Before p (walked rank row start p)
  unfolding walked
  walked_before zero h = record { kept = kept_refl s; later = λ q l m. refl }
  walked_before (suc p) h = before_more p h (walked rank row start p) (walked_before p (le_of_lt h))

  -- the tasks from place p on are as they were
  pub walked_later : (p q : ℕ) → p ≤ q → q < c → task_at (walked rank row start p).session (row q) ≡ task_at s (row q)
  walked_later p q h l = (walked_before p (omega arith)).later q h l

  -- the one at place p is tried
  walked_more : (p : ℕ) → walked rank row start (suc p) ≡ tried rank (walked rank row start p) (row p)
  unfolding walked
  walked_more p = refl

  -- what every admission keeps holds before each place
  pub walked_lasts : (P : Scanned → Type 0) → Lasts rank P → P start → (p : ℕ) → p ≤ c → P (walked rank row start p)
  unfolding walked
  walked_lasts P step first zero h = first
  walked_lasts P step first (suc p) h =
      let x = walked rank row start p in
      let b = walked_before p (le_of_lt h) in
      tried_lasts rank P step x (row p) (walked_lasts P step first p (le_of_lt h)) (here_below p h x b) (here_waits p h x b)

  -- ---- the looks

  -- before place p, the looks left and the rank from which they look: past those before, and not past those from p on
  record Looks (p k from : ℕ) (x : Scanned) : Type 0 where
    before : Before p x
    passed : Passed rank k from x.session
    behind : (q : ℕ) → q < p → q < c → rank_at rank s (row q) < from
    front : (q : ℕ) → p ≤ q → q < c → from ≤ rank_at rank s (row q)

  module _ (strict : Strict rank) (small : s.n ≤ 64) where
    module _ (p k from : ℕ) (x : Scanned) (g : Looks p k from x) where
      -- one that is ahead stands at place p or after it
      stands : (i : ℕ) → Found rank x.session from i → (q : ℕ) × (p ≤ q) × (q < c) × (row q ≡ i)
      stands i found =
          let as_was : task_at x.session i ≡ task_at s i = kept_waiting s x.session g.before.kept i found.waits in
          let at : (q : ℕ) × (q < c) × (row q ≡ i) =
          order.all i (lt_of_lt_of_le found.below (le_of_eq g.before.kept.n))
          (ap (λ (t : Task). is_waiting t.state) (sym as_was) ∙ found.waits) in
          (at.0, go at.0 at.1 at.2 as_was (below_or_from at.0 p), at.1, at.2)
        where
          go : (q : ℕ) → q < c → row q ≡ i → task_at x.session i ≡ task_at s i → (q < p) ⊎ (p ≤ q) → p ≤ q
          go q l e as_was (inl m) =
              absurd (omega (arith, g.behind q m l, ap (rank_at rank s) e, ap (λ (t : Task). rank t i) as_was, found.ranked))
          go q l e as_was (inr m) = m

      -- at the end nobody is ahead
      ends : p ≡ c → next rank x.session from ≡ 64
      ends e = go (eqb (next rank x.session from) 64) refl
        where
          go : (t : Bool) → eqb (next rank x.session from) 64 ≡ t → next rank x.session from ≡ 64
          go true q = eqb-true (next rank x.session from) 64 q
          go false q =
              let at = stands (next rank x.session from) (next_found rank x.session from (eqb-false (next rank x.session from) 64 q)) in
              absurd (omega (arith, at.1, at.2))

      module _ (l : p < c) where
        -- the one at place p has the rank that it had, and is ahead
        here_ranked : rank_at rank x.session (row p) ≡ rank_at rank s (row p)
        here_ranked = ap (λ (t : Task). rank t (row p)) (g.before.later p (omega arith) l)

        here_found : Found rank x.session from (row p)
        here_found = record {
          below = here_below p l x g.before;
          waits = here_waits p l x g.before;
          ranked = omega (arith, g.front p (omega arith) l, here_ranked);
        }

        -- it is the next one
        is_next : next rank x.session from ≡ row p
        is_next =
            let first = next_first rank x.session from g.passed.size (row p) here_found.below here_found.waits here_found.ranked in
            let found = next_found rank x.session from first.0 in
            let at = stands (next rank x.session from) found in
            let as_was = kept_waiting s x.session g.before.kept (next rank x.session from) found.waits in
            go at.0 at.1 at.2 at.3 as_was first.1 (below_or_from p at.0)
          where
            go : (q : ℕ) → p ≤ q → q < c → row q ≡ next rank x.session from
                → task_at x.session (next rank x.session from) ≡ task_at s (next rank x.session from)
                → rank_at rank x.session (next rank x.session from) ≤ rank_at rank x.session (row p)
                → (p < q) ⊎ (q ≤ p) → next rank x.session from ≡ row p
            go q h m e as_was first (inl after) =
                absurd (omega (
                  arith,
                  order.rising p q after m,
                  ap (rank_at rank s) e,
                  ap (λ (t : Task). rank t (next rank x.session from)) as_was,
                  here_ranked,
                ))
            go q h m e as_was first (inr not_after) = sym e ∙ ap row (le_antisymm not_after h)

        -- so there is a look left
        looks_left : 0 < k
        looks_left =
            lt_of_lt_of_le
            (count_at x.session.n (ahead rank x.session from) (row p) here_found.below
            (and_both (waiting x.session (row p)) (leb from (rank_at rank x.session (row p))) here_found.waits
            (le-leb from (rank_at rank x.session (row p)) here_found.ranked)))
            g.passed.left

    -- one place on
    looks_more : (p k from : ℕ) (x : Scanned) (g : Looks p (suc k) from x) (l : p < c)
        → Looks (suc p) k (rank_at rank x.session (row p) + 1) (tried rank x (row p))
    looks_more p k from x g l = record {
      before = before_more p l x g.before;
      passed =
          look_passes rank strict k from x.session (tried rank x (row p)).session
          (tried_lasts rank (λ y. Kept x.session y.session) (admit_kept rank x.session) x (row p) (kept_refl x.session) found.below found.waits)
          g.passed (row p) (is_next p (suc k) from x g l) found (tried_holds rank x (row p) found.below found.waits);
      behind = λ q h m. go q (below_suc q p h) m;
      front = λ q h m. omega (arith, order.rising p q h m, here_ranked p (suc k) from x g l);
    }
      where
        found : Found rank x.session from (row p)
        found = here_found p (suc k) from x g l

        go : (q : ℕ) → (q ≡ p) ⊎ (q < p) → q < c → rank_at rank s (row q) < rank_at rank x.session (row p) + 1
        go q (inl e) m = omega (arith, ap (λ (j : ℕ). rank_at rank s (row j)) e, here_ranked p (suc k) from x g l)
        go q (inr h) m = omega (arith, order.rising q p h l, here_ranked p (suc k) from x g l)

    -- the scan is the looks that are left, from place p on
    Rest : ℕ → Type 0
    Rest p =
        (k : ℕ) × (from : ℕ) × Looks p k from (walked rank row start p)
        × (look rank s.n 0 start ≡ look rank k from (walked rank row start p))

    -- one place on
    rest_more : (p k from : ℕ) (x y : Scanned) → y ≡ tried rank x (row p) → Looks p k from x → p < c → 0 < k → look rank s.n 0 start ≡ look rank k from x
        → (k' : ℕ) × (from' : ℕ) × Looks (suc p) k' from' y × (look rank s.n 0 start ≡ look rank k' from' y)
    rest_more p zero from x y is g l some e = absurd (omega arith)
    rest_more p (suc k) from x y is g l some e =
        rw is (
          k,
          rank_at rank x.session (row p) + 1,
          looks_more p k from x g l,
          e ∙ look_on rank k from x (row p) (is_next p (suc k) from x g l) (ne_of_lt (lt_of_lt_of_le (order.below p l) small)),
        )

    -- before the first place
    rest_first : Rest 0
    unfolding Rest walked
    rest_first = (
      s.n,
      0,
      record {
        before = walked_before 0 (omega arith);
        passed = record { size = small; behind = λ i l w b. absurd (omega arith); left = count_le s.n (ahead rank s 0) };
        behind = λ q l m. absurd (omega arith);
        front = λ q l m. omega arith;
      },
      refl,
    )

    -- before each place
    walk_to : (p : ℕ) → p ≤ c → Rest p
    unfolding Rest
    walk_to zero h = rest_first
    walk_to (suc p) h =
        let r = walk_to p (le_of_lt h) in
        rest_more p r.0 r.1 (walked rank row start p) (walked rank row start (suc p)) (walked_more p) r.2 h
        (looks_left p r.0 r.1 (walked rank row start p) r.2 h)
        r.3

    -- a scan tries the one at each place in turn
    pub scan_walked : scan rank s ≡ walked rank row start c
    unfolding scan Rest
    scan_walked = let r = walk_to c (le_refl c) in r.3 ∙ look_none rank r.0 r.1 (walked rank row start c) (ends c r.0 r.1 (walked rank row start c) r.2 refl)
