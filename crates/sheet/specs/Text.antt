-- The sheet's text: lines that are their parts, with one space between two of them and a line feed at the end.
use Rattle.std.specs.Prelude.{ℕ, zero, suc, min, List, [], ◌∷◌, ◌++◌}
use Rattle.report.specs.declared.Figures.{Figures}
use Rattle.report.specs.declared.Tally.{Tally}
use Rattle.report.specs.Items.{figures_at}
use Rattle.report.specs.Sheet.{middle, nine_tenths, most}
use Rattle.text.specs.Decimal.{decimal}
use Rattle.text.specs.Words.{bad_word}
use Rattle.text.specs.Lines.{joined}

-- ---- words, in ASCII

-- 'logs', 'middle', 'ninetenths', 'most', 'left': what the lines are told by
abbrev pub logs_word : List ℕ
logs_word = 108 ∷ 111 ∷ 103 ∷ 115 ∷ []

abbrev pub middle_word : List ℕ
middle_word = 109 ∷ 105 ∷ 100 ∷ 100 ∷ 108 ∷ 101 ∷ []

abbrev pub nine_tenths_word : List ℕ
nine_tenths_word = 110 ∷ 105 ∷ 110 ∷ 101 ∷ 116 ∷ 101 ∷ 110 ∷ 116 ∷ 104 ∷ 115 ∷ []

abbrev pub most_word : List ℕ
most_word = 109 ∷ 111 ∷ 115 ∷ 116 ∷ []

abbrev pub left_word : List ℕ
left_word = 108 ∷ 101 ∷ 102 ∷ 116 ∷ []

-- 'task', 'committed', 'waited', 'clashes', 'retries', 'longest', 'ticks', 'waits': what stands in a row. Request 2: 'CR 1's total splits in two',
-- the clashes before the retries, as on the admit line.
abbrev pub columns : List (List ℕ)
columns =
    (116 ∷ 97 ∷ 115 ∷ 107 ∷ [])
    ∷ (99 ∷ 111 ∷ 109 ∷ 109 ∷ 105 ∷ 116 ∷ 116 ∷ 101 ∷ 100 ∷ [])
    ∷ (119 ∷ 97 ∷ 105 ∷ 116 ∷ 101 ∷ 100 ∷ [])
    ∷ (99 ∷ 108 ∷ 97 ∷ 115 ∷ 104 ∷ 101 ∷ 115 ∷ [])
    ∷ (114 ∷ 101 ∷ 116 ∷ 114 ∷ 105 ∷ 101 ∷ 115 ∷ [])
    ∷ (108 ∷ 111 ∷ 110 ∷ 103 ∷ 101 ∷ 115 ∷ 116 ∷ [])
    ∷ (116 ∷ 105 ∷ 99 ∷ 107 ∷ 115 ∷ [])
    ∷ (119 ∷ 97 ∷ 105 ∷ 116 ∷ 115 ∷ [])
    ∷ []

-- ---- lines

-- numbers, in decimal
unfoldable pub decimals : List ℕ → List (List ℕ)
decimals [] = []
decimals (n ∷ more) = decimal n ∷ decimals more

-- a piece of a line: numbers with a space before each
unfoldable pub spaced_text : List ℕ → List ℕ
spaced_text [] = []
spaced_text (n ∷ more) = 32 ∷ (decimal n ++ spaced_text more)

-- a word and a number
unfoldable pub named_text : List ℕ → ℕ → List ℕ
unfolding joined
named_text name n = joined (name ∷ decimal n ∷ [])

-- a task's figures, in the order of the columns, and the row of a task
abbrev pub figures_in : Figures → List ℕ
figures_in f = f.committed ∷ f.waited ∷ f.clashes ∷ f.retries ∷ f.longest ∷ f.ticks ∷ f.waits ∷ []

unfoldable pub row_text : ℕ → Figures → List ℕ
unfolding joined decimals
row_text i f = joined (decimals (i ∷ figures_in f))

-- the first n tasks
unfoldable pub rows_text : ℕ → List Figures → List ℕ
unfolding row_text
rows_text zero all = []
rows_text (suc n) all = rows_text n all ++ row_text n (figures_at all n)

-- those of the first n tasks that waited, in their order
unfoldable pub most_text : ℕ → List Figures → List ℕ
unfolding joined decimals most
most_text n all = joined (most_word ∷ decimals (most all n))

-- the lines up to the last row
unfoldable pub head_text : ℕ → ℕ → List Figures → List ℕ
unfolding named_text joined rows_text
head_text logs n all = named_text logs_word logs ++ joined columns ++ rows_text n all

-- the lines after the rows: what is over all tasks
unfoldable pub foot_text : ℕ → ℕ → ℕ → List Figures → ℕ → List ℕ
unfolding named_text most_text
foot_text half nine n all left = named_text middle_word half ++ named_text nine_tenths_word nine ++ most_text n all ++ named_text left_word left

-- how many tasks have a row: an n past 64, which no accepted setup has, counts as 64
abbrev pub rows_of : Tally → ℕ
rows_of t = min t.setup.n 64

-- the sheet, from a tally and its row; the counts of logs and of what is left are the caller's
unfoldable pub sheet_text : ℕ → Tally → List ℕ → ℕ → List ℕ
unfolding head_text foot_text middle nine_tenths
sheet_text logs t row left =
    head_text logs (rows_of t) t.figures ++ foot_text (middle t row) (nine_tenths t row) (rows_of t) t.figures left

-- the line of a log that reads badly: the number, and the log's name as it stands
unfoldable pub bad_text : ℕ → List ℕ → List ℕ
unfolding joined
bad_text number name = joined (bad_word ∷ decimal number ∷ name ∷ [])

-- a piece of it: what stands before the name
abbrev pub bad_front : ℕ → List ℕ
bad_front number = bad_word ++ (32 ∷ decimal number) ++ (32 ∷ [])
