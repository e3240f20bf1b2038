-- The row of waits read plainly: which wait stands at which place, and that its first k places hold the last k waits.
use Rattle.std.specs.Prelude.{ℕ, ◌+◌, ◌%◌, ◌≤◌, ◌<◌, ◌≡◌, ◌⊎◌, List, length, get_or, take}
use Rattle.rising.specs.Order.{in_rising}
use Rattle.rising.specs.Counts.{not_passing}
use Rattle.report.specs.Items.{places_of, written}
use Rattle.report.specs.Ledger.{last_of}
use Rattle.report.specs.Sheet.{kept_of}

-- 'In a row lent beside the tally, of one length and untouched between calls, wait i, from 0, goes to place i mod the lesser of 4,096 and its places, if any': what
-- a row has that was start before the waits, with c the lesser of 4,096 and its places
pub record Placed (start waits row : List ℕ) : Type 0 where
  -- its length is what it was
  pub size : length row ≡ length start
  -- each of the last c waits stands at its place: no later one went there
  pub held : (i : ℕ) → i < length waits → length waits ≤ i + places_of start → get_or row (i % places_of start) 0 ≡ get_or waits i 0
  -- a place that no wait went to, past the waits or past the c places, has what it had
  pub rest : (p : ℕ) → (length waits ≤ p) ⊎ (places_of start ≤ p) → get_or row p 0 ≡ get_or start p 0

-- the row with waits written, the first as wait 0
abbrev pub RowPlaces : Type 0
RowPlaces = (start waits : List ℕ) → Placed start waits (written start 0 waits)

-- 'the wait at the middle and at nine tenths over the last k waits of all tasks in order of admission, k the least of 4,096, the row's places and the waits
-- booked: in rising order': two lists of k numbers that are the same numbers, in whatever order
pub record SameNumbers (k : ℕ) (xs ys : List ℕ) : Type 0 where
  pub size : length xs ≡ k
  pub sizes : length ys ≡ k
  -- as many of each do not pass any v
  pub counts : (v : ℕ) → not_passing v xs ≡ not_passing v ys
  -- so that in rising order the same number stands at each place
  pub places : (place : ℕ) → in_rising place xs ≡ in_rising place ys

-- the first k places of the row hold the last k waits
abbrev pub LastK : Type 0
LastK =
    (start waits : List ℕ)
    → let k = kept_of (length start) (length waits) in
    SameNumbers k (take k (written start 0 waits)) (last_of k waits)
