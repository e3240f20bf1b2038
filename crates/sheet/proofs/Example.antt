-- The worked sheet: the session booked twice is the tally that was computed, and its text holds by computing both sides.
use mathlib.Core.Path.{ap, refl, ◌∙◌}
use Rattle.report.specs.Cases.{Lent}
use Rattle.report.proofs.Cases.{session_twice}
use Rattle.text.specs.Decimal.{decimal}
use Rattle.sheet.specs.Text.{sheet_text}
use Rattle.sheet.specs.Example.{Sheet}

pub sheet : Sheet
unfolding decimal sheet_text
sheet = ap (λ (x : Lent). sheet_text 2 x.tally x.row x.left) session_twice ∙ refl
