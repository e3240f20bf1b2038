-- What is proved of the clash, and of the lowest object of a set and how many it has, as statements. Their proofs are in proofs/Laws/Clash.antt and Plainly.antt.
use Rattle.std.specs.Prelude.{ℕ, ◌<◌, ◌≡◌, true, false}
use Rattle.objects.specs.Below.{Lowest, SoMany}
use Rattle.objects.specs.Objects.{Groups, Sets, Has, clash_on, clash, ClashOn, Clash, nothing, lowest_object, how_many}

-- the decided clash on an object is the one said plainly
abbrev pub ClashOnPlain : Type 0
ClashOnPlain = (x y : Sets) (b : ℕ) → b < 256 → (clash_on x y b ≡ true → ClashOn x y b) × (ClashOn x y b → clash_on x y b ≡ true)

-- the decided clash is the one said plainly
abbrev pub ClashPlain : Type 0
ClashPlain = (x y : Sets) → (clash x y ≡ true → Clash x y) × (Clash x y → clash x y ≡ true)

-- of two transactions, either one may be named first
abbrev pub ClashSymmetric : Type 0
ClashSymmetric = (x y : Sets) → clash x y ≡ clash y x

-- the set has no object
abbrev pub Empty : Groups → Type 0
Empty set = (g : ℕ) → g < 4 → set g ≡ 0

-- two transactions that only read do not clash
abbrev pub ReadersAgree : Type 0
ReadersAgree = (x y : Sets) → Empty x.writes → Empty y.writes → clash x y ≡ false

-- a transaction that touches nothing clashes with none
abbrev pub EmptyAgrees : Type 0
EmptyAgrees = (x y : Sets) → Empty x.reads → Empty x.writes → clash x y ≡ false

abbrev pub NothingAgrees : Type 0
NothingAgrees = (y : Sets) → clash nothing y ≡ false

-- object b is in the set
abbrev pub ObjectOf : Groups → ℕ → Type 0
ObjectOf set b = (b < 256) × Has set b

-- the lowest object is one that the set has, and it has none below; 0 where it has none
abbrev pub LowestPlain : Type 0
LowestPlain =
    (set : Groups) → ((b : ℕ) → ObjectOf set b → Lowest (ObjectOf set) (lowest_object set)) × (((b : ℕ) → ¬ ObjectOf set b) → lowest_object set ≡ 0)

-- as many as there are
abbrev pub HowManyPlain : Type 0
HowManyPlain = (set : Groups) → SoMany (ObjectOf set) (how_many set)
