-- `laid::back::four_back` meets its contract: the four words are put one by one. Assumes nothing.
use Rattle.std.proofs.Common.{arith, ◌≡◌, ◌+◌, ◌*◌, ◌-◌, ◌<◌, ℕ, List, ap, ◌∙◌, get_or, drop}
use native.Mathlib.Nat.{add-zero}
use Rattle.std.proofs.lemmas.List.{get_or-take, get_or-drop}
use Rattle.laid.proofs.Laws.Laid.{four_put}
use Rattle.laid.proofs.back.four_back.Goals as goal

pub returns : goal.returns
returns c =
    let a = c.args in
    let four = c.copy_from_slice.new.self in
    let n = a.at + 4 - a.at in
    let copied : (k : ℕ) → k < 4 → get_or four k 0 ≡ get_or a.words.now (a.at + k) 0 =
    λ k below. ap (λ (xs : List ℕ). get_or xs k 0) c.copy_from_slice.ensures.after ∙ get_or-take n (drop a.at a.words.now) k 0 (omega arith) ∙ get_or-drop a.at a.words.now k 0 in
    four_put a.row.now four (a.i * 4) (a.i * 4 + 4 - a.i * 4) (omega arith) (omega arith) (omega arith)
    ∙ rw (copied 0 (omega arith), copied 1 (omega arith), copied 2 (omega arith), copied 3 (omega arith), add-zero a.at)
