-- The text of the sums: for each task the sum of demand 3, for a wait of one length.
use Rattle.std.specs.Prelude.{ℕ, zero, suc, min, List, [], ◌∷◌, ◌++◌}
use Rattle.rules.specs.declared.Session.{Session}
use Rattle.rules.specs.Sum.{summed, sum_of}
use Rattle.text.specs.Lines.{joined}
use Rattle.sheet.specs.Text.{decimals, named_text}

-- 'length' and 'task sum', in ASCII
abbrev pub length_word : List ℕ
length_word = 108 ∷ 101 ∷ 110 ∷ 103 ∷ 116 ∷ 104 ∷ []

abbrev pub sum_columns : List (List ℕ)
sum_columns = (116 ∷ 97 ∷ 115 ∷ 107 ∷ []) ∷ (115 ∷ 117 ∷ 109 ∷ []) ∷ []

-- 'The sum of demand 3 is also a public answer, for a task and a wait length in ticks': a task's number and its sum
unfoldable pub sum_text : Session → ℕ → ℕ → List ℕ
unfolding joined decimals
sum_text s length i = joined (decimals (i ∷ sum_of (summed s i length) ∷ []))

-- the first n tasks
unfoldable pub sum_rows : Session → ℕ → ℕ → List ℕ
unfolding sum_text
sum_rows s length zero = []
sum_rows s length (suc n) = sum_rows s length n ++ sum_text s length n

-- the whole text; an n past 64, which no accepted setup has, counts as 64
unfoldable pub sums_text : Session → ℕ → List ℕ
unfolding named_text joined sum_rows
sums_text s length = named_text length_word length ++ joined sum_columns ++ sum_rows s length (min s.n 64)
