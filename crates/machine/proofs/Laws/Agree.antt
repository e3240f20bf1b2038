-- What is asked of words that hold a session is what the rules ask of the session: who is known, absent, plain, waits or executes, how many are, who has room, who clashes
-- with whom, who is blocked, on which objects, and for whom it waits.
use Prim.Native.Nat.{ℕ, zero, suc, ◌+◌, ◌-◌, ◌*◌, ◌/◌, ◌%◌, ◌≤◌, ◌<◌}
use mathlib.Core.Path.{◌≡◌, refl, sym, ap, ap₂, ◌∙◌}
use mathlib.Core.List.{List}
use mathlib.Core.Bool.{Bool, true, false, not, ◌&&◌, ◌||◌, or-false, false≢true}
use native.Mathlib.Nat.{add-zero, add-suc, add-sub_of_le, lt_of_lt_of_le}
use native.Mathlib.Omega.{arith}
use lib.Dec.{eqb, ltb}
use borrow.Author.Tests.{eqb-false, lt-ltb, le-ltb, ltb-true}
use Rattle.objects.specs.Below.{any, count, least}
use Rattle.objects.specs.Objects.{Groups, Sets, bit, has, word, clash, clash_on, lowest_object, how_many}
use Rattle.objects.proofs.Laws.Below.{bool_ext, any_ext, any_none, any_at, any_witness, any_split, count_ext, count_none, count_split, least_ext, and_left, and_right, and_both}
use Rattle.objects.proofs.Laws.Bits.{bit_word}
use Rattle.objects.proofs.Laws.Sets.{has_group, lowest_some}
use Rattle.rules.specs.declared.State.{State}
use Rattle.rules.specs.declared.State.TheVariants.{Absent, Plain, Waiting, Executing}
use Rattle.rules.specs.declared.Session.{Session}
use Rattle.rules.specs.declared.Said.TheVariants.{Wait}
use Rattle.rules.specs.Ranking.{Ranking, foremost}
use Rattle.rules.specs.Tasks.{is_absent, is_plain, is_waiting, is_executing, state_at, plain, waiting, executing, sets_at}
use Rattle.rules.specs.Room.{rank_at, plain_above, room}
use Rattle.rules.specs.Contest.{clashing, blocked, contested_on, lowest_contested, contested_count, highest_clashing}
use Rattle.rules.specs.Events.{wait_said}
use Rattle.rules.specs.Demand3.{present_at}
use Rattle.rules.proofs.Laws.Foremost.{foremost_found}
use Rattle.rules.proofs.Laws.Rows.{Agree, clash_is, on_agree, clash_agree}
use Rattle.machine.specs.Bits.{ones, common}
use Rattle.machine.specs.Places.{plain_of, waiting_of, executing_of, above_of, sets_in}
use Rattle.machine.specs.Asked.{absent_in, left_in, room_in, clash_in, clashing_in, blocked_in, contested_in, highest_below, highest_in, contested_groups, wait_said_in}
use Rattle.machine.specs.Events.{busy_in}
use Rattle.machine.specs.Holds.{within, Tabled}
use Rattle.machine.proofs.Laws.Choices.{asked_where}

-- ---- what nobody from n on has is asked below n alone

module _
    (k n : ℕ)
    (f g : ℕ → Bool)
    (few : n ≤ k)
    (same : (j : ℕ) → j < n → f j ≡ g j)
    (past : (j : ℕ) → n ≤ j → j < k → f j ≡ false)
  where
    -- whether one has it
    pub any_within : any k f ≡ any n g
    any_within =
        ap (λ (x : ℕ). any x f) (sym (add-sub_of_le few)) ∙ any_split n (k - n) f
        ∙ ap₂ (λ (a b : Bool). a || b) (any_ext n f g same) (any_none (k - n) (λ j. f (n + j)) (λ j l. past (n + j) (omega arith) (omega arith)))
        ∙ or-false (any n g)

    -- how many have it
    pub count_within : count k f ≡ count n g
    count_within =
        ap (λ (x : ℕ). count x f) (sym (add-sub_of_le few)) ∙ count_split n (k - n) f
        ∙ ap₂ (λ (a b : ℕ). a + b) (count_ext n f g same) (count_none (k - n) (λ j. f (n + j)) (λ j l. past (n + j) (omega arith) (omega arith)))
        ∙ add-zero (count n g)

-- a number below m less another is, with the other, below m
less_than_left : (a b m : ℕ) → ltb a (m - b) ≡ ltb (b + a) m
less_than_left a b m =
    bool_ext (ltb a (m - b)) (ltb (b + a) m)
    (λ e. let l = ltb-true a (m - b) e in lt-ltb (b + a) m (omega arith))
    (λ e. let l = ltb-true (b + a) m e in lt-ltb a (m - b) (omega arith))

-- ---- objects in four words

module _ (set : Groups) (f : ℕ → Bool) (each : (g : ℕ) → g < 4 → set g ≡ word 64 (λ b. f (g * 64 + b))) where
  -- an object is in the set where f says so
  has_each : (b : ℕ) → b < 256 → has set b ≡ f b
  has_each b l =
      has_group set b (b / 64) refl
      ∙ ap (λ (w : ℕ). bit w (b % 64)) (each (b / 64) (omega arith))
      ∙ bit_word 64 (λ c. f (b / 64 * 64 + c)) (b % 64) (omega arith)
      ∙ ap f (omega arith)

  -- the lowest of them
  lowest_each : any 256 f ≡ true → lowest_object set ≡ least 256 f
  lowest_each e = lowest_some set (any_ext 256 (has set) f has_each ∙ e) ∙ least_ext 256 (has set) f has_each

  -- how many they are
  many_each : how_many set ≡ count 256 f
  unfolding how_many
  many_each = count_ext 256 (has set) f has_each

-- a transaction that clashes with an executing one has a contested object
pub blocked_contested : (s : Session) (x : Sets) → blocked s x ≡ true → any 256 (contested_on s x) ≡ true
unfolding blocked contested_on
blocked_contested s x e =
    let task = any_witness s.n (clashing s x) e in
    let j = task.0 in
    let object = any_witness 256 (clash_on x (sets_at s j)) (sym (clash_is x (sets_at s j)) ∙ and_right (executing s j) (clash x (sets_at s j)) task.2) in
    any_at 256 (contested_on s x) object.0 object.1
    (any_at s.n (λ k. executing s k && clash_on x (sets_at s k) object.0) j task.1
    (and_both (executing s j) (clash_on x (sets_at s j) object.0) (and_left (executing s j) (clash x (sets_at s j)) task.2) object.2))

-- a task in none of the other three states is absent
absent_not : (state : State) → not (is_plain state || (is_waiting state || is_executing state)) ≡ is_absent state
absent_not Absent = refl
absent_not Plain = refl
absent_not (Waiting v) = refl
absent_not Executing = refl

-- and one in a state in which no absent task is, is present
pub present : (f : State → Bool) → f Absent ≡ false → (state : State) → f state ≡ true → not (is_absent state) ≡ true
present f never Absent e = absurd (false≢true (sym never ∙ e))
present f never Plain e = refl
present f never (Waiting v) e = refl
present f never Executing e = refl

-- a wait is said alike where its three numbers are
same_said : (object object' contested contested' whom whom' : ℕ) → object ≡ object' → contested ≡ contested' → whom ≡ whom'
    → Wait object contested whom ≡ Wait object' contested' whom'
same_said object object' contested contested' whom whom' p q r = rw (p, q, r)

-- ---- of words that hold a session

module _ (rank : Ranking) (w : List ℕ) (s : Session) (t : Tabled rank w s) where
  -- a task's number is below 64
  small : (j : ℕ) → j < s.n → j < 64
  small j l = lt_of_lt_of_le l t.few

  -- a bit of a state's word is that of a task below n, and there is none from n on
  of_task : (state : Session → ℕ → Bool) (word : ℕ) → ((j : ℕ) → j < 64 → bit word j ≡ within s state j) → (j : ℕ) → j < s.n
      → bit word j ≡ state s j
  of_task state word is j l = is j (small j l) ∙ ap (λ (b : Bool). b && state s j) (lt-ltb j s.n l)

  of_none : (state : Session → ℕ → Bool) (word : ℕ) → ((j : ℕ) → j < 64 → bit word j ≡ within s state j) → (j : ℕ) → s.n ≤ j → j < 64
      → bit word j ≡ false
  of_none state word is j from l = is j l ∙ ap (λ (b : Bool). b && state s j) (le-ltb j s.n from)

  -- the bits of the tasks below n say their states
  pub plain_bit : (j : ℕ) → j < s.n → bit (plain_of w) j ≡ plain s j
  plain_bit = of_task plain (plain_of w) t.plains

  pub waiting_bit : (j : ℕ) → j < s.n → bit (waiting_of w) j ≡ waiting s j
  waiting_bit = of_task waiting (waiting_of w) t.waits

  pub executing_bit : (j : ℕ) → j < s.n → bit (executing_of w) j ≡ executing s j
  executing_bit = of_task executing (executing_of w) t.executes

  -- nobody from n on is in a state
  pub plain_past : (j : ℕ) → s.n ≤ j → j < 64 → bit (plain_of w) j ≡ false
  plain_past = of_none plain (plain_of w) t.plains

  pub executing_past : (j : ℕ) → s.n ≤ j → j < 64 → bit (executing_of w) j ≡ false
  executing_past = of_none executing (executing_of w) t.executes

  -- ---- who is absent

  -- one with no bit is absent
  pub absent_agrees : (i : ℕ) → i < s.n → absent_in w i ≡ is_absent (state_at s i)
  absent_agrees i l = rw (plain_bit i l, waiting_bit i l, executing_bit i l) (absent_not (state_at s i))

  -- ---- how many

  -- how many are plain
  pub ones_plain : ones (plain_of w) ≡ count s.n (plain s)
  unfolding ones
  ones_plain = count_within 64 s.n (bit (plain_of w)) (plain s) t.few plain_bit plain_past

  -- how many execute
  pub ones_executing : ones (executing_of w) ≡ count s.n (executing s)
  unfolding ones
  ones_executing = count_within 64 s.n (bit (executing_of w)) (executing s) t.few executing_bit executing_past

  -- how many more may execute
  pub left_agrees : left_in w ≡ s.m - count s.n (executing s)
  unfolding left_in
  left_agrees = ap₂ (λ (a b : ℕ). a - b) t.m ones_executing

  -- how many are busy
  pub busy_agrees : busy_in w ≡ count s.n (plain s) + count s.n (executing s)
  unfolding busy_in
  busy_agrees = ap₂ (λ (a b : ℕ). a + b) ones_plain ones_executing

  -- ---- room

  -- how many plain tasks rank above task i, which is present
  pub above_agrees : (i : ℕ) → i < s.n → present_at s i ≡ true → common (plain_of w) (above_of w i) ≡ count s.n (plain_above rank s i)
  unfolding common
  above_agrees i l here =
      count_within 64 s.n (λ j. bit (plain_of w) j && bit (above_of w i) j) (plain_above rank s i) t.few
      (λ j h.
      ap (λ (a : Bool). a && bit (above_of w i) j) (plain_bit j h)
      ∙ asked_where (plain s j) (bit (above_of w i) j) (ltb (rank_at rank s j) (rank_at rank s i)) (λ e. t.above i j l h here (present is_plain refl (state_at s j) e)))
      (λ j from h. ap (λ (b : Bool). b && bit (above_of w i) j) (plain_past j from h))

  -- with as many left as m has more than execute
  pub room_agrees : (left i : ℕ) → left ≡ s.m - count s.n (executing s) → i < s.n → present_at s i ≡ true → room_in w left i ≡ room rank s i
  unfolding room_in room
  room_agrees left i e l here =
      ap₂ ltb (above_agrees i l here) e ∙ less_than_left (count s.n (plain_above rank s i)) (count s.n (executing s)) s.m

  -- ---- clashes

  -- a task's sets in the words are those of the session
  pub sets_agree : (i : ℕ) → i < s.n → Agree (sets_in w i) (sets_at s i)
  sets_agree i l = record { reads = λ g h. (t.sets i l g h).0; writes = λ g h. (t.sets i l g h).1 }

  -- who clashes with whom
  pub clash_agrees : (i j : ℕ) → i < s.n → j < s.n → clash_in w i j ≡ clash (sets_at s i) (sets_at s j)
  unfolding clash_in
  clash_agrees i j li lj = clash_agree (sets_in w i) (sets_in w j) (sets_at s i) (sets_at s j) (sets_agree i li) (sets_agree j lj)

  module _ (i : ℕ) (li : i < s.n) where
    -- which executing ones clash with task i
    pub clashing_agrees : (j : ℕ) → j < s.n → clashing_in w i j ≡ clashing s (sets_at s i) j
    unfolding clash_in
    clashing_agrees j l = ap₂ (λ (a b : Bool). a && b) (executing_bit j l) (clash_agrees i j li l)

    -- none from n on
    pub clashing_past : (j : ℕ) → s.n ≤ j → j < 64 → clashing_in w i j ≡ false
    clashing_past j from l = ap (λ (b : Bool). b && clash (sets_in w i) (sets_in w j)) (executing_past j from l)

    -- whether one does
    pub blocked_agrees : blocked_in w i ≡ blocked s (sets_at s i)
    unfolding blocked_in blocked
    blocked_agrees = any_within 64 s.n (clashing_in w i) (clashing s (sets_at s i)) t.few clashing_agrees clashing_past

    -- ---- the contested objects

    -- whether object b is contested
    pub contested_agrees : (b : ℕ) → b < 256 → contested_in w i b ≡ contested_on s (sets_at s i) b
    unfolding contested_in contested_on
    contested_agrees b l =
        any_within 64 s.n (λ j. bit (executing_of w) j && clash_on (sets_in w i) (sets_in w j) b)
        (λ j. executing s j && clash_on (sets_at s i) (sets_at s j) b)
        t.few
        (λ j h. ap₂ (λ (x y : Bool). x && y) (executing_bit j h)
        (on_agree (sets_in w i) (sets_in w j) (sets_at s i) (sets_at s j) (sets_agree i li) (sets_agree j h) b l))
        (λ j from h. ap (λ (x : Bool). x && clash_on (sets_in w i) (sets_in w j) b) (executing_past j from h))

    -- the lowest that is
    pub lowest_agrees : blocked s (sets_at s i) ≡ true → lowest_object (contested_groups w i) ≡ lowest_contested s (sets_at s i)
    unfolding contested_groups lowest_contested
    lowest_agrees e =
        lowest_each (contested_groups w i) (contested_in w i) (λ g l. refl)
        (any_ext 256 (contested_in w i) (contested_on s (sets_at s i)) contested_agrees ∙ blocked_contested s (sets_at s i) e)
        ∙ least_ext 256 (contested_in w i) (contested_on s (sets_at s i)) contested_agrees

    -- how many are
    pub many_agrees : how_many (contested_groups w i) ≡ contested_count s (sets_at s i)
    unfolding contested_groups contested_count
    many_agrees =
        many_each (contested_groups w i) (contested_in w i) (λ g l. refl)
        ∙ count_ext 256 (contested_in w i) (contested_on s (sets_at s i)) contested_agrees

    -- ---- the highest ranked executing one

    -- it executes, and the transaction of task i clashes with its
    f : ℕ → Bool
    f = clashing s (sets_at s i)

    -- of those below k, where all of them are tasks
    highest_below_lem : (k : ℕ) → k ≤ s.n → highest_below w i k ≡ foremost k f (rank_at rank s)
    unfolding highest_below foremost f
    highest_below_lem zero h = refl
    highest_below_lem (suc k) h = rw (highest_below_lem k (omega arith), clashing_agrees k h, asked_where (f k) _ _ (λ c. go c (eqb m 64) refl))
      where
        m : ℕ
        m = foremost k f (rank_at rank s)

        -- one that executes is present
        here : (j : ℕ) → f j ≡ true → present_at s j ≡ true
        here j c = present is_executing refl (state_at s j) (and_left (executing s j) (clash (sets_at s i) (sets_at s j)) c)

        go : f k ≡ true → (b : Bool) → eqb m 64 ≡ b → (b || bit (above_of w m) k) ≡ (b || ltb (rank_at rank s k) (rank_at rank s m))
        go c true e = refl
        go c false e =
            let found = foremost_found k f (rank_at rank s) (eqb-false m 64 e) in
            t.above m k (lt_of_lt_of_le found.0 (omega arith)) h (here m found.1) (here k c)

    -- from n on there is none
    highest_past : (d : ℕ) → s.n + d ≤ 64 → highest_below w i (s.n + d) ≡ highest_below w i s.n
    unfolding highest_below
    highest_past zero h = ap (highest_below w i) (add-zero s.n)
    highest_past (suc d) h =
        ap (highest_below w i) (add-suc s.n d) ∙ rw (clashing_past (s.n + d) (omega arith) (omega arith)) (highest_past d (omega arith))

    -- of all tasks
    pub highest_agrees : highest_in w i ≡ highest_clashing rank s (sets_at s i)
    unfolding highest_in highest_clashing f
    highest_agrees =
        ap (highest_below w i) (sym (add-sub_of_le t.few)) ∙ highest_past (64 - s.n) (omega (arith, t.few))
        ∙ highest_below_lem s.n (omega arith)

    -- what is said of a release that waits
    pub wait_said_agrees : blocked s (sets_at s i) ≡ true → wait_said_in w i ≡ wait_said rank s (sets_at s i)
    unfolding wait_said_in
    wait_said_agrees e = same_said _ _ _ _ _ _ (lowest_agrees e) many_agrees highest_agrees
