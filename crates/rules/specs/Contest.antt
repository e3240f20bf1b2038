-- A transaction against those that are executing.
use Rattle.std.specs.Prelude.{ℕ, ◌≤◌, ◌<◌, ◌≡◌, Bool, true, ◌&&◌}
use Rattle.objects.specs.Below.{any, count, least, Lowest, SoMany}
use Rattle.objects.specs.Objects.{Sets, clash, clash_on, Clash, ClashOn}
use Rattle.rules.specs.declared.Session.{Session}
use Rattle.rules.specs.Ranking.{Ranking, Strict, foremost}
use Rattle.rules.specs.Tasks.{executing, sets_at}
use Rattle.rules.specs.Room.{rank_at}

-- an 'executing task it clashes with': task j executes, and the transaction clashes with that of task j
abbrev pub clashing : Session → Sets → ℕ → Bool
clashing s x j = executing s j && clash x (sets_at s j)

-- it clashes with an executing transaction. 'For a yes or no, the first such object ends the question.' The two are of different tasks: this is asked of
-- one that releases or waits, and those do not execute.
unfoldable pub blocked : Session → Sets → Bool
unfolding any clash
blocked s x = any s.n (clashing s x)

-- 'objects on which it clashes with at least one executing transaction'
unfoldable pub contested_on : Session → Sets → ℕ → Bool
unfolding any clash_on
contested_on s x b = any s.n (λ j. executing s j && clash_on x (sets_at s j) b)

-- 'the lowest contested object number'
unfoldable pub lowest_contested : Session → Sets → ℕ
unfolding least contested_on
lowest_contested s x = least 256 (contested_on s x)

-- 'how many objects are contested', 'each counted once'
unfoldable pub contested_count : Session → Sets → ℕ
unfolding count contested_on
contested_count s x = count 256 (contested_on s x)

-- Request 3: 'the highest ranked executing task it clashes with'; 64, which is no task, where it clashes with none
unfoldable pub highest_clashing : Ranking → Session → Sets → ℕ
unfolding foremost clash
highest_clashing rank s x = foremost s.n (clashing s x) (rank_at rank s)

-- The same said plainly: there is an executing task below n with which it clashes, or with which it clashes on this object.
abbrev pub Blocked : Session → Sets → Type 0
Blocked s x = (j : ℕ) × (j < s.n) × (executing s j ≡ true) × Clash x (sets_at s j)

abbrev pub ContestedOn : Session → Sets → ℕ → Type 0
ContestedOn s x b = (j : ℕ) × (j < s.n) × (executing s j ≡ true) × ClashOn x (sets_at s j) b

abbrev pub BlockedPlain : Type 0
BlockedPlain = (s : Session) (x : Sets) → (blocked s x ≡ true → Blocked s x) × (Blocked s x → blocked s x ≡ true)

abbrev pub ContestedPlain : Type 0
ContestedPlain =
    (s : Session) (x : Sets) (b : ℕ) → b < 256 → (contested_on s x b ≡ true → ContestedOn s x b) × (ContestedOn s x b → contested_on s x b ≡ true)

-- 'the lowest contested object number': a contested object below which none is contested, where there is one
abbrev pub LowestContestedPlain : Type 0
LowestContestedPlain = (s : Session) (x : Sets) → Blocked s x → Lowest (ContestedOn s x) (lowest_contested s x)

-- 'how many objects are contested', 'each counted once': as many as stand in a list that has each contested object, once, and no other
abbrev pub ContestedCountPlain : Type 0
ContestedCountPlain = (s : Session) (x : Sets) → SoMany (ContestedOn s x) (contested_count s x)

-- Task i is the one that is named: it executes, it clashes, and no executing one that clashes ranks above it.
pub record HighestClashing (rank : Ranking) (s : Session) (x : Sets) (i : ℕ) : Type 0 where
  pub below : i < s.n
  pub executes : executing s i ≡ true
  pub clashes : Clash x (sets_at s i)
  pub highest : (j : ℕ) → j < s.n → executing s j ≡ true → Clash x (sets_at s j) → ¬ (rank_at rank s j < rank_at rank s i)

-- They agree, and there is exactly one: a transaction that clashes with an executing one has such a task, which the definition gives, and no other.
abbrev pub HighestPlain : Type 0
HighestPlain =
    (rank : Ranking) → Strict rank → (s : Session) (x : Sets) → s.n ≤ 64
    → (Blocked s x → HighestClashing rank s x (highest_clashing rank s x))
    × ((i : ℕ) → HighestClashing rank s x i → i ≡ highest_clashing rank s x)
