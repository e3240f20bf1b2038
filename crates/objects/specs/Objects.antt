-- The 256 objects in four groups of 64, and when two transactions clash.
use Rattle.std.specs.Prelude.{ℕ, ◌+◌, ◌*◌, ◌/◌, ◌%◌, ◌^◌, ◌<◌, ◌≡◌, ◌⊎◌, List, Bool, cond, ◌&&◌, ◌||◌, eqb, get_or}
use Rattle.objects.specs.Below.{any, sum, one, count, least}

-- A set of objects, as its four groups: group g is a word of 64 bits.
abbrev pub Groups : Type 0
Groups = ℕ → ℕ

-- the groups that lie in a row of words, the first of them at place base
abbrev pub groups_at : List ℕ → ℕ → Groups
groups_at words base g = get_or words (base + g) 0

-- bit b of a word is set
unfoldable pub bit : ℕ → ℕ → Bool
bit word b = eqb (word / 2 ^ b % 2) 1

-- 'Object b is bit b mod 8, lowest first, of byte ⌊b/8⌋', so of 64-bit words bit b mod 64 of word ⌊b/64⌋.
unfoldable pub has : Groups → ℕ → Bool
unfolding bit
has set b = bit (set (b / 64)) (b % 64)

-- 'A waiting or executing task has a read set and a write set of objects. Either or both may be empty, and an object may stand in both.'
pub record Sets : Type 0 where
  pub reads : Groups
  pub writes : Groups

-- Of one object, in the first's read set, its write set, the second's read set, its write set or not:
-- 'some object is in both and at least one of the two writes it'
abbrev pub contended : Bool → Bool → Bool → Bool → Bool
contended r w r' w' = (r || w) && (r' || w') && (w || w')

-- the two transactions clash on object b
unfoldable pub clash_on : Sets → Sets → ℕ → Bool
unfolding has
clash_on x y b = contended (has x.reads b) (has x.writes b) (has y.reads b) (has y.writes b)

-- 'Two transactions of different tasks clash if some object is in both and at least one of the two writes it.' Decided, object by object.
unfoldable pub clash : Sets → Sets → Bool
unfolding any clash_on
clash x y = any 256 (clash_on x y)

-- The same said plainly: there is an object below 256 that is in both, and at least one of the two writes it. The law clash_plain says that they agree.
abbrev pub Has : Groups → ℕ → Type 0
Has set b = set (b / 64) / 2 ^ (b % 64) % 2 ≡ 1

pub record ClashOn (x y : Sets) (b : ℕ) : Type 0 where
  pub object : b < 256
  pub in_first : Has x.reads b ⊎ Has x.writes b
  pub in_second : Has y.reads b ⊎ Has y.writes b
  pub written : Has x.writes b ⊎ Has y.writes b

abbrev pub Clash : Sets → Sets → Type 0
Clash x y = (b : ℕ) × ClashOn x y b

-- the transaction that touches nothing
unfoldable pub nothing : Sets
nothing = record { reads = λ g. 0; writes = λ g. 0 }

-- ---- words of 64 objects

-- the word whose bit b is set where f b, for the b below k
unfoldable pub word : ℕ → (ℕ → Bool) → ℕ
unfolding sum
word k f = sum k (λ b. one (f b) * 2 ^ b)

-- the word of one group's objects on which two transactions clash, from their words of that group
unfoldable pub contested_word : ℕ → ℕ → ℕ → ℕ → ℕ
unfolding word bit
contested_word r w r' w' = word 64 (λ b. contended (bit r b) (bit w b) (bit r' b) (bit w' b))

-- some object of the group is contested
unfoldable pub group_contested : ℕ → ℕ → ℕ → ℕ → Bool
unfolding any bit
group_contested r w r' w' = any 64 (λ b. contended (bit r b) (bit w b) (bit r' b) (bit w' b))

-- 'the lowest contested object number': the lowest object of a set, and 0 where the set is empty
unfoldable pub lowest_object : Groups → ℕ
unfolding any least has
lowest_object set = cond (any 256 (has set)) (least 256 (has set)) 0

-- 'how many objects are contested': how many objects a set has
unfoldable pub how_many : Groups → ℕ
unfolding count has
how_many set = count 256 (has set)
