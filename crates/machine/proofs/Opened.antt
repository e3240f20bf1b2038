-- Words into which a session is laid hold it: first its own numbers, then the numbers and the sets of each task, then who ranks above it and whom it ranks above, its
-- state, and where it waits its place in the row.
use Prim.Native.Nat.{ℕ, zero, suc, ◌+◌, ◌*◌, ◌≤◌, ◌<◌, zero-le}
use mathlib.Core.Path.{◌≡◌, refl, sym, ap, ap₂, ◌∙◌}
use mathlib.Core.Logic.{◌⊎◌, inl, inr, ◌≢◌}
use mathlib.Core.List.{List}
use mathlib.Core.Bool.{Bool, true, false, cond, ◌&&◌, ◌||◌}
use native.Mathlib.Nat.{not-suc-le-zero, ne_of_lt}
use native.Mathlib.Omega.{arith}
use lib.Dec.{eqb, ltb}
use lib.ListN.{length, get_or, set, length-set}
use borrow.Author.Tests.{eqb-true, eqb-false, eq-eqb, ne_eqb, lt-ltb, le-ltb, ltb-true}
use Rattle.objects.specs.Objects.{bit}
use Rattle.objects.proofs.Laws.Below.{below_suc, below_or_from, not_both, and_left}
use Rattle.objects.proofs.Laws.Bits.{bit_zero}
use Rattle.rules.specs.declared.State.{State}
use Rattle.rules.specs.declared.State.TheVariants.{Absent, Plain, Waiting, Executing}
use Rattle.rules.specs.declared.Task.{Task}
use Rattle.rules.specs.declared.Session.{Session}
use Rattle.rules.specs.Ranking.{by_rank}
use Rattle.rules.specs.Tasks.{is_plain, is_waiting, is_executing, wait_of, task_at, state_at, plain, waiting, executing, sets_at}
use Rattle.rules.specs.Room.{rank_at}
use Rattle.rules.specs.Demand3.{SameSets}
use Rattle.rules.proofs.Laws.Alike.{at_or_other}
use Rattle.rules.proofs.Ranking.{rank_strict_and_stays}
use Rattle.machine.specs.Bits.{with_bit}
use Rattle.machine.specs.Places.{m_of, n_of, tick_of, accepted_of, plain_of, waiting_of, executing_of, row_size, above_of, rank_place, job_rank_at, mode_of, number_place, set_place, sets_in, sets_put}
use Rattle.machine.specs.Ranks.{rank_in, ranks_moved}
use Rattle.machine.specs.Row.{row_put}
use Rattle.machine.specs.Opened.{head_put, terms_put, wait_put, four_of, numbers_put, state_put, states_put, held, opened}
use Rattle.machine.specs.Holds.{TaskHeld, Ordered}
use Rattle.machine.specs.Theorem.{OpenedHolds}
use Rattle.machine.proofs.Laws.Bits.{with_bit_lem}
use Rattle.machine.proofs.Laws.Places.{kept, put, sized, passes, chain, sets_length, sets_kept, sets_before, sets_own, sets_other}
use Rattle.machine.proofs.Laws.Ranks.{ranks_size, ranks_kept, ranks_own, ranks_theirs, ranks_others}
use Rattle.machine.proofs.Laws.RowPut.{row_put_length, row_put_kept, row_put_size, row_put_ordered}
use Rattle.machine.proofs.Laws.Gapped.{ordered_stays}
use Rattle.machine.proofs.Laws.Changed.{numbers_stay, sets_stay, sets_meet}
use Rattle.machine.proofs.Back.{four_at_lem}

-- ---- the session's own numbers

-- they stand at the first four places and the mode behind all others; nobody is in a state, and nobody in the row
pub record HeadIn (v : List ℕ) (s : Session) : Type 0 where
  pub size : length v ≡ 1280
  pub m : m_of v ≡ s.m
  pub n : n_of v ≡ s.n
  pub mode : mode_of v ≡ s.mode
  pub tick : tick_of v ≡ s.tick
  pub accepted : accepted_of v ≡ s.accepted
  pub plains : plain_of v ≡ 0
  pub waits : waiting_of v ≡ 0
  pub executes : executing_of v ≡ 0
  pub row : row_size v ≡ 0

-- as they are put there
head_in : (w : List ℕ) (s : Session) → length w ≡ 1280 → HeadIn (head_put w s) s
head_in w s size = record {
  size = simp (length-set, size);
  m = simp (chain, size);
  n = simp (chain, size);
  mode = simp (chain, size);
  tick = simp (chain, size);
  accepted = simp (chain, size);
  plains = simp (chain, size);
  waits = simp (chain, size);
  executes = simp (chain, size);
  row = simp (chain, size);
}

-- ---- the numbers of one task

-- all its numbers put in
abbrev pub numbered : List ℕ → ℕ → Task → List ℕ
numbered v i t = wait_put (terms_put v i t) i (wait_of t.state)

module _ (v : List ℕ) (i : ℕ) (t : Task) where
  -- the words stay as many
  numbered_size : length v ≡ 1280 → length (numbered v i t) ≡ 1280
  numbered_size size = simp (length-set, size)

  -- every place but its eight and that of its job's rank is as it was
  numbered_kept : (q : ℕ) → ((f : ℕ) → f < 8 → number_place i f ≢ q) → rank_place i ≢ q → get_or (numbered v i t) q 0 ≡ get_or v q 0
  numbered_kept q apart rank =
      let differs : (f : ℕ) → ltb f 8 ≡ true → eqb (136 + i * 8 + f) q ≡ false = λ f e. ne_eqb (number_place i f) q (apart f (ltb-true f 8 e)) in
      simp (passes, differs, ne_eqb (rank_place i) q rank)

  -- and those have its numbers
  numbered_held : length v ≡ 1280 → i < 64 → TaskHeld (numbered v i t) i t
  numbered_held size l =
      let below = lt-ltb i 64 l in
      record {
        priority = simp (chain, size, below);
        period = simp (chain, size, below);
        transactions = simp (chain, size, below);
        arrival = simp (chain, size, below);
        releases = simp (chain, size, below);
        rank = simp (chain, size, below);
        wait = λ e. record { release = simp (chain, size, below); clashes = simp (chain, size, below); retries = simp (chain, size, below) };
      }

-- ---- the numbers and the sets of the tasks below k

-- words v have them, and before them they are words u, with the mode of u
pub record NumbersIn (u : List ℕ) (s : Session) (k : ℕ) (v : List ℕ) : Type 0 where
  pub size : length v ≡ 1280
  pub head : (q : ℕ) → q < 136 → get_or v q 0 ≡ get_or u q 0
  pub mode : mode_of v ≡ mode_of u
  pub numbers : (i : ℕ) → i < k → TaskHeld v i (task_at s i)
  pub sets : (i : ℕ) → i < k → SameSets (sets_in v i) (sets_at s i)

-- those of one task more
one_more : (u : List ℕ) (s : Session) (k : ℕ) (v : List ℕ) → k < 64 → NumbersIn u s k v →
    let x = numbered v k (task_at s k) in
    NumbersIn u s (suc k) (sets_put x k (four_of s.reads k) (four_of s.writes k))
one_more u s k v l known = record {
  size = sets_length x k reads writes ∙ x_size;
  head = λ q m. sets_before x k reads writes q (omega arith) ∙ numbered_kept v k t q (λ f lf. omega arith) (omega arith) ∙ known.head q m;
  mode = sets_kept x k reads writes 1224 (λ g lg. omega arith) ∙ numbered_kept v k t 1224 (λ f lf. omega arith) (omega arith) ∙ known.mode;
  numbers = λ i m. numbers i (below_suc i k m);
  sets = λ i m. sets i (below_suc i k m);
}
  where
    t : Task
    t = task_at s k

    x : List ℕ
    x = numbered v k t

    reads : List ℕ
    reads = four_of s.reads k

    writes : List ℕ
    writes = four_of s.writes k

    y : List ℕ
    y = sets_put x k reads writes

    x_size : length x ≡ 1280
    x_size = numbered_size v k t known.size

    -- its sets leave every job's rank
    sets_rank : (i : ℕ) → job_rank_at y i ≡ job_rank_at x i
    sets_rank i = sets_kept x k reads writes (rank_place i) (λ g lg. omega arith)

    numbers : (i : ℕ) → (i ≡ k) ⊎ (i < k) → TaskHeld y i (task_at s i)
    numbers i (inl e) =
        rw e
        (numbers_stay x y k t (λ f lf. sets_before x k reads writes (number_place k f) (omega arith)) (sets_rank k) (numbered_held v k t known.size l))
    numbers i (inr m) =
        numbers_stay v y i (task_at s i)
        (λ f lf. sets_before x k reads writes (number_place i f) (omega arith) ∙ numbered_kept v k t (number_place i f) (λ g lg. omega arith) (omega arith))
        (sets_rank i ∙ numbered_kept v k t (rank_place i) (λ g lg. omega arith) (omega arith))
        (known.numbers i m)

    sets : (i : ℕ) → (i ≡ k) ⊎ (i < k) → SameSets (sets_in y i) (sets_at s i)
    sets i (inl e) =
        rw e
        (sets_meet (sets_in y k) (record { reads = λ g. get_or reads g 0; writes = λ g. get_or writes g 0 }) (sets_at s k)
        (sets_own x k reads writes x_size l) (λ g lg. (four_at_lem s.reads (k * 4) g lg, four_at_lem s.writes (k * 4) g lg)))
    sets i (inr m) =
        sets_meet (sets_in y i) (sets_in x i) (sets_at s i) (sets_other x k reads writes i (λ e. ne_of_lt m (sym e)))
        (sets_meet (sets_in x i) (sets_in v i) (sets_at s i) (sets_stay v x i (λ f lf. numbered_kept v k t (set_place i f) (λ g lg. omega arith) (omega arith)))
        (known.sets i m))

-- of all tasks below k
numbers_in : (u : List ℕ) (s : Session) → length u ≡ 1280 → (k : ℕ) → k ≤ 64 → NumbersIn u s k (numbers_put u s k)
unfolding numbers_put
numbers_in u s size zero h =
    record { size = size; head = λ q l. refl; mode = refl; numbers = λ i l. absurd (not-suc-le-zero l); sets = λ i l. absurd (not-suc-le-zero l) }
numbers_in u s size (suc k) h = one_more u s k (numbers_put u s k) h (numbers_in u s size k (omega arith))

-- ---- the tasks below k that have g

-- task j is one of them
abbrev pub upto : ℕ → (ℕ → Bool) → ℕ → Bool
upto k g j = ltb j k && g j

-- one task more is one of them, or not
upto_more : (k : ℕ) (g : ℕ → Bool) (j : ℕ) → upto (suc k) g j ≡ cond (g k) (upto k g j || eqb j k) (upto k g j)
upto_more k g =
    at_or_other k (λ (j : ℕ). upto (suc k) g j ≡ cond (g k) (upto k g j || eqb j k) (upto k g j))
    (rw (lt-ltb k (suc k) (omega arith), le-ltb k k (omega arith), eq-eqb k k refl) (here (g k)))
    (λ j d. rw (beside j d, ne_eqb j k d) (there (upto k g j) (g k)))
  where
    here : (b : Bool) → b ≡ cond b true false
    here true = refl
    here false = refl

    there : (a b : Bool) → a ≡ cond b (a || false) a
    there true true = refl
    there true false = refl
    there false true = refl
    there false false = refl

    beside : (j : ℕ) → j ≢ k → ltb j (suc k) ≡ ltb j k
    beside j d = go (below_or_from j k)
      where
        go : (j < k) ⊎ (k ≤ j) → ltb j (suc k) ≡ ltb j k
        go (inl l) = lt-ltb j (suc k) (omega arith) ∙ sym (lt-ltb j k l)
        go (inr l) = le-ltb j (suc k) (omega arith) ∙ sym (le-ltb j k l)

-- ---- a task in its state

-- the place of the word of a state; an absent task has none
abbrev pub word_of : State → ℕ
word_of Absent = 0
word_of Plain = 4
word_of (Waiting v) = 5
word_of Executing = 6

-- a task is in a state where its bit stands in that state's word
word_of_lem : (state : State) → (is_plain state ≡ eqb 4 (word_of state)) × (is_waiting state ≡ eqb 5 (word_of state)) × (is_executing state ≡ eqb 6 (word_of state))
word_of_lem Absent = (refl, refl, refl)
word_of_lem Plain = (refl, refl, refl)
word_of_lem (Waiting v) = (refl, refl, refl)
word_of_lem Executing = (refl, refl, refl)

-- a bit set in the word at one place
bit_put : (w : List ℕ) (a p i j : ℕ) → a < length w → j < 64
    → bit (get_or (set w a (with_bit (get_or w a 0) i)) p 0) j ≡ cond (eqb p a) (bit (get_or w p 0) j || eqb j i) (bit (get_or w p 0) j)
bit_put w a p i j l lj =
    at_or_other a (λ (p : ℕ). bit (get_or (set w a (with_bit (get_or w a 0) i)) p 0) j ≡ cond (eqb p a) (bit (get_or w p 0) j || eqb j i) (bit (get_or w p 0) j))
    (rw (eq-eqb a a refl, put w a (with_bit (get_or w a 0) i) l) (with_bit_lem (get_or w a 0) i j lj))
    (λ p d. rw (ne_eqb p a d, kept w a p (with_bit (get_or w a 0) i) (λ e. d (sym e))))
    p

-- the words stay as many
state_size : (w : List ℕ) (i : ℕ) (state : State) → length (state_put w i state) ≡ length w
state_size w i Absent = refl
state_size w i Plain = length-set w 4 (with_bit (plain_of w) i)
state_size w i (Waiting v) = row_put_length (set w 5 (with_bit (waiting_of w) i)) i ∙ length-set w 5 (with_bit (waiting_of w) i)
state_size w i Executing = length-set w 6 (with_bit (executing_of w) i)

-- what stands before the words of the states, and behind the row
state_kept : (w : List ℕ) (i : ℕ) (state : State) (q : ℕ) → (q < 4) ⊎ (72 ≤ q) → get_or (state_put w i state) q 0 ≡ get_or w q 0
state_kept w i Absent q l = refl
state_kept w i Plain q (inl l) = kept w 4 q (with_bit (plain_of w) i) (omega arith)
state_kept w i Plain q (inr l) = kept w 4 q (with_bit (plain_of w) i) (omega arith)
state_kept w i (Waiting v) q (inl l) =
    row_put_kept (set w 5 (with_bit (waiting_of w) i)) i q (inl (omega arith)) ∙ kept w 5 q (with_bit (waiting_of w) i) (omega arith)
state_kept w i (Waiting v) q (inr l) =
    row_put_kept (set w 5 (with_bit (waiting_of w) i)) i q (inr l) ∙ kept w 5 q (with_bit (waiting_of w) i) (omega arith)
state_kept w i Executing q (inl l) = kept w 6 q (with_bit (executing_of w) i) (omega arith)
state_kept w i Executing q (inr l) = kept w 6 q (with_bit (executing_of w) i) (omega arith)

-- the word of its state has its bit too, and the other two are as they were
state_bits : (w : List ℕ) (i : ℕ) (state : State) (p j : ℕ) → length w ≡ 1280 → 4 ≤ p → p < 7 → j < 64
    → bit (get_or (state_put w i state) p 0) j ≡ cond (eqb p (word_of state)) (bit (get_or w p 0) j || eqb j i) (bit (get_or w p 0) j)
state_bits w i Absent p j size low high lj = rw (ne_eqb p 0 (omega arith))
state_bits w i Plain p j size low high lj = bit_put w 4 p i j (omega arith) lj
state_bits w i (Waiting v) p j size low high lj =
    ap (λ (x : ℕ). bit x j) (row_put_kept (set w 5 (with_bit (waiting_of w) i)) i p (inl high)) ∙ bit_put w 5 p i j (omega arith) lj
state_bits w i Executing p j size low high lj = bit_put w 6 p i j (omega arith) lj

-- ---- the states of the tasks below k, and who ranks above the tasks below a

-- words v have them; the rest is as in words u
pub record StatesIn (u : List ℕ) (s : Session) (a k : ℕ) (v : List ℕ) : Type 0 where
  pub size : length v ≡ 1280
  -- the session's own numbers, and those of the tasks and their sets, are as in u
  pub head : (q : ℕ) → q < 4 → get_or v q 0 ≡ get_or u q 0
  pub rest : (q : ℕ) → 136 ≤ q → get_or v q 0 ≡ get_or u q 0
  pub plains : (j : ℕ) → j < 64 → bit (plain_of v) j ≡ upto k (plain s) j
  pub waits : (j : ℕ) → j < 64 → bit (waiting_of v) j ≡ upto k (waiting s) j
  pub executes : (j : ℕ) → j < 64 → bit (executing_of v) j ≡ upto k (executing s) j
  pub above : (i j : ℕ) → i < a → j < s.n → bit (above_of v i) j ≡ ltb (rank_at by_rank s j) (rank_at by_rank s i)
  pub row : Ordered (upto k (waiting s)) (rank_at by_rank s) v (row_size v)

module _ (u : List ℕ) (s : Session) (few : s.n ≤ 64) (n_is : n_of u ≡ s.n) (ranks : (i : ℕ) → i < s.n → job_rank_at u i ≡ (task_at s i).rank) where
  -- who ranks above task k is written, and whom it ranks above
  above_in : (v : List ℕ) (k : ℕ) → k < s.n → StatesIn u s k k v → StatesIn u s (suc k) k (ranks_moved v k)
  unfolding by_rank
  above_in v k l known = record {
    size = ranks_size v k ∙ known.size;
    head = λ q m. same q (inl (omega arith)) ∙ known.head q m;
    rest = λ q m. same q (inr m) ∙ known.rest q m;
    plains = λ j m. ap (λ (x : ℕ). bit x j) (same 4 (inl (omega arith))) ∙ known.plains j m;
    waits = λ j m. ap (λ (x : ℕ). bit x j) (same 5 (inl (omega arith))) ∙ known.waits j m;
    executes = λ j m. ap (λ (x : ℕ). bit x j) (same 6 (inl (omega arith))) ∙ known.executes j m;
    above = λ i j m lj. above i j lj (below_suc i k m) (eqb j k) refl;
    row =
        rw (same 7 (inl (omega arith)))
        (ordered_stays (upto k (waiting s)) (upto k (waiting s)) (rank_at by_rank s) (rank_at by_rank s) v (ranks_moved v k) (row_size v)
        (λ j m. refl) (λ j. refl) (λ p m. same (8 + p) (inl (omega (arith, known.row.places)))) known.row);
  }
    where
      small : k < 64
      small = omega arith

      same : (q : ℕ) → (q < 72) ⊎ (136 ≤ q) → get_or (ranks_moved v k) q 0 ≡ get_or v q 0
      same q out = ranks_kept v k q small out

      n_now : n_of v ≡ s.n
      n_now = known.head 1 (omega arith) ∙ n_is

      -- the ranks in the words are the session's
      now : (i : ℕ) → i < s.n → rank_in v i ≡ rank_at by_rank s i
      now i m = ap (λ (x : ℕ). x * 64 + i) (known.rest (rank_place i) (omega arith) ∙ ranks i m)

      above : (i j : ℕ) → j < s.n → (i ≡ k) ⊎ (i < k) → (b : Bool) → eqb j k ≡ b
          → bit (above_of (ranks_moved v k) i) j ≡ ltb (rank_at by_rank s j) (rank_at by_rank s i)
      above i j lj (inl e) b is =
          rw e (ranks_own v k j known.size small (omega (arith, n_now)) (omega (arith, n_now)) ∙ ap₂ ltb (now j lj) (now k l))
      above i j lj (inr m) true is =
          rw (eqb-true j k is)
          (ranks_theirs v k i known.size small (omega (arith, n_now)) (omega (arith, n_now)) (omega arith) ∙ ap₂ ltb (now k l) (now i (omega arith)))
      above i j lj (inr m) false is =
          ranks_others v k i j known.size small (omega arith) (omega arith) (omega arith) (eqb-false j k is) ∙ known.above i j m lj

  -- the row stays where the task does not wait
  row_stays : (v x : List ℕ) (k : ℕ) → waiting s k ≡ false → ((q : ℕ) → 7 ≤ q → get_or x q 0 ≡ get_or v q 0)
      → Ordered (upto k (waiting s)) (rank_at by_rank s) v (row_size v) → Ordered (upto (suc k) (waiting s)) (rank_at by_rank s) x (row_size x)
  row_stays v x k idle same row =
      rw (same 7 (omega arith))
      (ordered_stays (upto k (waiting s)) (upto (suc k) (waiting s)) (rank_at by_rank s) (rank_at by_rank s) v x (row_size v)
      (λ j m. upto_more k (waiting s) j ∙ ap (λ (b : Bool). cond b (upto k (waiting s) j || eqb j k) (upto k (waiting s) j)) idle) (λ j. refl)
      (λ p m. same (8 + p) (omega arith)) row)

  -- the row after the task is in its state
  row_in : (v : List ℕ) (k : ℕ) (state : State) → k < s.n → state_at s k ≡ state → StatesIn u s (suc k) k v
      → Ordered (upto (suc k) (waiting s)) (rank_at by_rank s) (state_put v k state) (row_size (state_put v k state))
  row_in v k Absent l e known = row_stays v v k (ap is_waiting e) (λ q m. refl) known.row
  row_in v k Plain l e known = row_stays v (set v 4 (with_bit (plain_of v) k)) k (ap is_waiting e) (λ q m. kept v 4 q (with_bit (plain_of v) k) (omega arith)) known.row
  row_in v k (Waiting x) l e known =
      rw (row_put_size f r w (row_size w) k size refl row below idle)
      (ordered_stays (λ j. f j || eqb j k) (upto (suc k) (waiting s)) r r (row_put w k) (row_put w k) (row_size w + 1)
      (λ j m. upto_more k (waiting s) j ∙ ap (λ (b : Bool). cond b (f j || eqb j k) (f j)) (ap is_waiting e)) (λ j. refl) (λ p m. refl)
      (row_put_ordered f r w (row_size w) k size refl row below idle above apart))
    where
      f : ℕ → Bool
      f = upto k (waiting s)

      r : ℕ → ℕ
      r = rank_at by_rank s

      new : ℕ
      new = with_bit (waiting_of v) k

      w : List ℕ
      w = set v 5 new

      row : Ordered f r w (row_size w)
      row =
          rw (kept v 5 7 new (omega arith))
          (ordered_stays f f r r v w (row_size v) (λ j m. refl) (λ j. refl) (λ p m. kept v 5 (8 + p) new (omega arith)) known.row)

      size : length w ≡ 1280
      size = sized v 5 new known.size

      below : k < 64
      below = omega arith

      idle : f k ≡ false
      idle = rw (le-ltb k k (omega arith))

      before : (j : ℕ) → f j ≡ true → j < k
      before j has = ltb-true j k (and_left (ltb j k) (waiting s j) has)

      above : (j : ℕ) → j < 64 → f j ≡ true → bit (above_of w j) k ≡ ltb (r k) (r j)
      above j m has =
          ap (λ (y : ℕ). bit y k) (kept v 5 (72 + j) new (omega arith)) ∙ known.above j k (omega (arith, before j has)) l

      apart : (j : ℕ) → j < 64 → f j ≡ true → r j ≢ r k
      apart j m has q = ne_of_lt (before j has) (rank_strict_and_stays.0 (task_at s j) (task_at s k) j k m (omega arith) q)
  row_in v k Executing l e known =
      row_stays v (set v 6 (with_bit (executing_of v) k)) k (ap is_waiting e) (λ q m. kept v 6 q (with_bit (executing_of v) k) (omega arith)) known.row

  -- the task is put in its state
  state_in : (v : List ℕ) (k : ℕ) → k < s.n → StatesIn u s (suc k) k v → StatesIn u s (suc k) (suc k) (state_put v k (state_at s k))
  state_in v k l known = record {
    size = state_size v k (state_at s k) ∙ known.size;
    head = λ q m. state_kept v k (state_at s k) q (inl m) ∙ known.head q m;
    rest = λ q m. state_kept v k (state_at s k) q (inr (omega arith)) ∙ known.rest q m;
    plains = word 4 is_plain (omega arith) (omega arith) (λ state. (word_of_lem state).0) known.plains;
    waits = word 5 is_waiting (omega arith) (omega arith) (λ state. (word_of_lem state).1) known.waits;
    executes = word 6 is_executing (omega arith) (omega arith) (λ state. (word_of_lem state).2) known.executes;
    above = λ i j m lj. ap (λ (x : ℕ). bit x j) (state_kept v k (state_at s k) (72 + i) (inr (omega arith))) ∙ known.above i j m lj;
    row = row_in v k (state_at s k) l refl known;
  }
    where
      -- the word of a state, at its place
      word : (p : ℕ) (is : State → Bool) → 4 ≤ p → p < 7 → ((state : State) → is state ≡ eqb p (word_of state))
          → ((j : ℕ) → j < 64 → bit (get_or v p 0) j ≡ upto k (λ j. is (state_at s j)) j)
          → (j : ℕ) → j < 64 → bit (get_or (state_put v k (state_at s k)) p 0) j ≡ upto (suc k) (λ j. is (state_at s j)) j
      word p is low high place before j m =
          state_bits v k (state_at s k) p j known.size low high m
          ∙ rw (sym (place (state_at s k)), before j m) (sym (upto_more k (λ j. is (state_at s j)) j))

  -- of all tasks below k
  states_in : StatesIn u s 0 0 u → (k : ℕ) → k ≤ s.n → StatesIn u s k k (states_put u s k)
  unfolding states_put
  states_in start zero h = start
  states_in start (suc k) h =
      let v = states_put u s k in
      state_in (ranks_moved v k) k h (above_in v k h (states_in start k (omega arith)))

-- ---- the words hold the session

-- no number is below 0
none_upto : (g : ℕ → Bool) (j : ℕ) → upto 0 g j ≡ false
none_upto g j = rw (le-ltb j 0 zero-le)

-- before the first task nobody is in a state
none_in : (x u : List ℕ) (s : Session) (k : ℕ) → HeadIn x s → NumbersIn x s k u → StatesIn u s 0 0 u
none_in x u s k head known = record {
  size = known.size;
  head = λ q l. refl;
  rest = λ q l. refl;
  plains = empty 4 (plain s) (omega arith) head.plains;
  waits = empty 5 (waiting s) (omega arith) head.waits;
  executes = empty 6 (executing s) (omega arith) head.executes;
  above = λ i j l. absurd (not-suc-le-zero l);
  row = rw (known.head 7 (omega arith) ∙ head.row) (record {
    places = omega arith;
    each = λ p l. absurd (not-suc-le-zero l);
    rising = λ i j l m. absurd (not-suc-le-zero m);
    all = λ i l e. absurd (not_both (upto 0 (waiting s) i) e (none_upto (waiting s) i));
  });
}
  where
    empty : (p : ℕ) (g : ℕ → Bool) → p < 136 → get_or x p 0 ≡ 0 → (j : ℕ) → j < 64 → bit (get_or u p 0) j ≡ upto 0 g j
    empty p g l zeroed j m = ap (λ (y : ℕ). bit y j) (known.head p l ∙ zeroed) ∙ bit_zero j ∙ sym (none_upto g j)

-- words into which a session is laid hold it
pub opened_holds : OpenedHolds
unfolding opened
opened_holds w s size tables periods few = rw all (record {
  table = record {
    size = states.size;
    tasks = tables.tasks;
    reads = tables.reads;
    writes = tables.writes;
    few = few;
    m = states.head 0 (omega arith) ∙ numbers.head 0 (omega arith) ∙ head.m;
    n = states.head 1 (omega arith) ∙ numbers.head 1 (omega arith) ∙ head.n;
    mode = states.rest 1224 (omega arith) ∙ numbers.mode ∙ head.mode;
    tick = states.head 2 (omega arith) ∙ numbers.head 2 (omega arith) ∙ head.tick;
    accepted = states.head 3 (omega arith) ∙ numbers.head 3 (omega arith) ∙ head.accepted;
    plains = states.plains;
    waits = states.waits;
    executes = states.executes;
    above = λ i j l m here there. states.above i j l m;
    numbers = λ i l.
        numbers_stay u v i (task_at s i) (λ f lf. states.rest (number_place i f) (omega arith)) (states.rest (rank_place i) (omega arith))
        (numbers.numbers i l);
    sets = λ i l.
        sets_meet (sets_in v i) (sets_in u i) (sets_at s i) (sets_stay u v i (λ f lf. states.rest (set_place i f) (omega arith)))
        (numbers.sets i l);
    periods = periods;
  };
  row = states.row;
})
  where
    all : held s ≡ s.n
    all = omega arith

    x : List ℕ
    x = head_put w s

    u : List ℕ
    u = numbers_put x s s.n

    v : List ℕ
    v = states_put u s s.n

    head : HeadIn x s
    head = head_in w s size

    numbers : NumbersIn x s s.n u
    numbers = numbers_in x s head.size s.n few

    states : StatesIn u s s.n s.n v
    states =
        states_in u s few (numbers.head 1 (omega arith) ∙ head.n) (λ i l. (numbers.numbers i l).rank) (none_in x u s s.n head numbers) s.n
        (omega arith)
