-- The sheet of document 01's session given twice, byte by byte.
use Rattle.std.specs.Prelude.{◌≡◌, [], ◌∷◌}
use Rattle.report.specs.Cases.{session_twice}
use Rattle.sheet.specs.Text.{sheet_text}

-- from the tally, the row and the count of those left out that its bookings lead to: 'logs 2', the names of the columns, a row for each task, 'middle 4', 'ninetenths 4',
-- 'most 1', 'left 0'
abbrev pub Sheet : Type 0
Sheet = sheet_text 2 session_twice.tally session_twice.row session_twice.left
    ≡ 108 ∷ 111 ∷ 103 ∷ 115 ∷ 32 ∷ 50 ∷ 10 ∷
    116 ∷ 97 ∷ 115 ∷ 107 ∷ 32 ∷ 99 ∷ 111 ∷ 109 ∷ 109 ∷ 105 ∷ 116 ∷ 116 ∷ 101 ∷ 100 ∷ 32 ∷ 119 ∷ 97 ∷ 105 ∷ 116 ∷ 101 ∷ 100 ∷ 32 ∷ 99 ∷ 108 ∷ 97 ∷ 115 ∷ 104 ∷ 101 ∷ 115 ∷ 32 ∷ 114 ∷ 101 ∷ 116 ∷ 114 ∷ 105 ∷ 101 ∷ 115 ∷ 32 ∷ 108 ∷ 111 ∷ 110 ∷ 103 ∷ 101 ∷ 115 ∷ 116 ∷ 32 ∷ 116 ∷ 105 ∷ 99 ∷ 107 ∷ 115 ∷ 32 ∷ 119 ∷ 97 ∷ 105 ∷ 116 ∷ 115 ∷ 10 ∷
    48 ∷ 32 ∷ 50 ∷ 32 ∷ 48 ∷ 32 ∷ 48 ∷ 32 ∷ 48 ∷ 32 ∷ 48 ∷ 32 ∷ 48 ∷ 32 ∷ 48 ∷ 10 ∷
    49 ∷ 32 ∷ 50 ∷ 32 ∷ 50 ∷ 32 ∷ 52 ∷ 32 ∷ 48 ∷ 32 ∷ 52 ∷ 32 ∷ 56 ∷ 32 ∷ 50 ∷ 10 ∷
    50 ∷ 32 ∷ 50 ∷ 32 ∷ 48 ∷ 32 ∷ 48 ∷ 32 ∷ 48 ∷ 32 ∷ 48 ∷ 32 ∷ 48 ∷ 32 ∷ 48 ∷ 10 ∷
    109 ∷ 105 ∷ 100 ∷ 100 ∷ 108 ∷ 101 ∷ 32 ∷ 52 ∷ 10 ∷
    110 ∷ 105 ∷ 110 ∷ 101 ∷ 116 ∷ 101 ∷ 110 ∷ 116 ∷ 104 ∷ 115 ∷ 32 ∷ 52 ∷ 10 ∷
    109 ∷ 111 ∷ 115 ∷ 116 ∷ 32 ∷ 49 ∷ 10 ∷
    108 ∷ 101 ∷ 102 ∷ 116 ∷ 32 ∷ 48 ∷ 10 ∷ []
