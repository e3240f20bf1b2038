-- What the sheet says of all tasks, in the words of request 1 over numbers and lists: by the waits that are booked, and by none of the definitions that a sheet is made with.
use Rattle.std.specs.Prelude.{ℕ, ◌*◌, ◌≤◌, ◌<◌, ◌≡◌, ◌⊎◌, ◌≢◌, List, ◌∷◌, ◌++◌, length, get_or}
use Rattle.rising.specs.Laws.{Stands}
use Rattle.report.specs.Items.{Item, wait, waits_in}
use Rattle.report.specs.Ledger.{total, ticks_in, ledger}
use Rattle.report.specs.Sheet.{middle, nine_tenths, most}
use Rattle.report.specs.Report.{InEveryReport}

-- ---- the wait at the middle and at nine tenths

-- 'the least of 4,096, the row's places and the waits booked': none of the three is less than k, and k is one of them
pub record LeastOfThree (a b c k : ℕ) : Type 0 where
  pub first : k ≤ a
  pub second : k ≤ b
  pub third : k ≤ c
  pub one_of_them : (k ≡ a) ⊎ ((k ≡ b) ⊎ (k ≡ c))

-- 'the last k waits of all tasks in order of admission': k of them, with the earlier ones before them
pub record LastOnes (k : ℕ) (waits last : List ℕ) : Type 0 where
  pub earlier : List ℕ
  pub is : earlier ++ last ≡ waits
  pub size : length last ≡ k

-- p is ⌈ak/b⌉: the least number with a·k ≤ b·p
pub record Ceiling (a b k p : ℕ) : Type 0 where
  pub enough : a * k ≤ b * p
  pub least : (q : ℕ) → a * k ≤ b * q → p ≤ q

-- 'over the last k waits ..: in rising order, numbers' ⌈ak/b⌉ 'counted from 1, and 0 where k is 0': x is that wait, of a row with so many places and the waits booked
pub record WaitAt (a b places : ℕ) (waits : List ℕ) (x : ℕ) : Type 0 where
  pub k : ℕ
  pub least : LeastOfThree 4096 places (length waits) k
  pub last : List ℕ
  pub lasts : LastOnes k waits last
  pub place : ℕ
  pub ceiling : Ceiling a b k place
  pub some : 1 ≤ k → Stands last place x
  pub none : k ≡ 0 → x ≡ 0

-- there is but one such number
abbrev pub WaitAlone : Type 0
WaitAlone = (a b places : ℕ) (waits : List ℕ) (x y : ℕ) → WaitAt a b places waits x → WaitAt a b places waits y → x ≡ y

-- 'the wait at the middle and at nine tenths ..: numbers ⌈k/2⌉ and ⌈9k/10⌉': of the waits of any list of sessions booked one after another
abbrev pub MiddlePlain : Type 0
MiddlePlain = InEveryReport (λ start t row o sessions. WaitAt 1 2 (length start) (waits_in (ledger sessions)) (middle t row))

abbrev pub NineTenthsPlain : Type 0
NineTenthsPlain = InEveryReport (λ start t row o sessions. WaitAt 9 10 (length start) (waits_in (ledger sessions)) (nine_tenths t row))

-- ---- the tasks that waited

-- a wait of task i is booked, of however many ticks: of 0 too
pub data WaitBooked (i : ℕ) : List Item → Type 0 where
  first : {ticks clashes retries : ℕ} {more : List Item} → WaitBooked i (wait i ticks clashes retries ∷ more)
  later : {x : Item} {more : List Item} → WaitBooked i more → WaitBooked i (x ∷ more)

-- task i has waited longer than task j, over all that is booked; or as long, and has the lower number
abbrev pub WaitedMore : List Item → ℕ → ℕ → Type 0
WaitedMore booked i j =
    (total (ticks_in j) booked < total (ticks_in i) booked) ⊎ ((total (ticks_in i) booked ≡ total (ticks_in j) booked) × (i < j))

-- a list of the first n tasks that waited, 'most ticks first, then the lower number'
pub record MostOf (n : ℕ) (booked : List Item) (list : List ℕ) : Type 0 where
  -- each that it names has a wait booked
  pub only : (a : ℕ) → a < length list → (get_or list a 64 < n) × WaitBooked (get_or list a 64) booked
  -- each that has one is named
  pub every : (i : ℕ) → i < n → WaitBooked i booked → (a : ℕ) × (a < length list) × (get_or list a 64 ≡ i)
  -- once
  pub once : (a b : ℕ) → a < b → b < length list → get_or list a 64 ≢ get_or list b 64
  -- and of any two the one that waited more stands first
  pub order : (a b : ℕ) → a < b → b < length list → WaitedMore booked (get_or list a 64) (get_or list b 64)

abbrev pub MostPlain : Type 0
MostPlain = InEveryReport (λ start t row o sessions. (n : ℕ) → n ≤ 64 → MostOf n (ledger sessions) (most t.figures n))
