-- `objects::lowest_object` meets its contract. The loop's invariant: the groups passed are empty. So the first group that is not has the lowest object,
-- and where the loop ends all four are empty.
use Prim.Native.Nat.{ℕ, ◌+◌, ◌*◌}
use mathlib.Core.Path.{ap, sym, ◌∙◌}
use native.Mathlib.Omega.{arith}
use lib.Count.{trailing_le}
use lib.ListN.{get_or}
use borrow.Author.Rules.{rules}
use mir.Syntax.{w64}
use mir.Val.{Fits}
use Rattle.objects.specs.Objects.{lowest_object}
use Rattle.objects.proofs.Laws.Bits.{trailing_least}
use Rattle.objects.proofs.Laws.Sets.{groups_at_start, lowest_at, lowest_none, lowest_below}
use Rattle.objects.proofs.lowest_object.Goals as goal

pub overflow_cast-result-then-word-ne0 : goal.overflow_cast-result-then-word-ne0
overflow_cast-result-then-word-ne0 c = omega (arith, trailing_le 64 (get_or c.args.words c.loop-g.g 0))

-- an element is a word of 64 bits, so the number of its lowest object fits
pub overflow_add-result : goal.overflow_add-result
overflow_add-result c =
    let word = get_or c.args.words c.loop-g.g 0 in
    let fits : Fits w64 word = search rules in
    omega (arith, lowest_below word c.loop-g.g c.loop-g-test.true fits.fits c.if-word-ne0.true)

pub returns-then-word-ne0 : goal.returns-then-word-ne0
returns-then-word-ne0 c =
    let words = c.args.words in
    let g = c.loop-g.g in
    let fits : Fits w64 (get_or words g 0) = search rules in
    ap (λ (i : ℕ). g * 64 + i) (trailing_least 64 (get_or words g 0))
    ∙ lowest_at (λ g. get_or words g 0) g c.loop-g-test.true fits.fits c.if-word-ne0.true c.loop-g.invariant
    ∙ ap lowest_object (sym (groups_at_start words))

pub returns : goal.returns
returns c =
    let words = c.args.words in
    sym (ap lowest_object (groups_at_start words) ∙ lowest_none (λ g. get_or words g 0) (λ g l. c.loop-g.invariant g (omega arith)))
