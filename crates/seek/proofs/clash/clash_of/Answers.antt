-- `seek::clash::clash_of` meets its contract: two transactions clash where one of the four groups is contested.
use Prim.Native.Nat.{ℕ, ◌%◌}
use mathlib.Core.Path.{◌≡◌, refl, sym, ◌∙◌}
use mathlib.Core.Bool.{Bool, true, false, ◌||◌}
use borrow.Author.Tests.{tests}
use Rattle.std.proofs.Common.{rules}
use Rattle.std.specs.List.{list_any, range_with_len}
use Rattle.std.proofs.lemmas.Iterator.{YieldsList-from_range}
use Rattle.std.proofs.lemmas.Iterator.Search.{any_from_yields_List}
use Rattle.objects.specs.Below.{any}
use Rattle.seek.proofs.Laws.Clash.{group_clash, clash_in_lem}
use Rattle.seek.proofs.clash.clash_of.Goals as goal

any_four : (f : ℕ → Bool) → list_any f (range_with_len 0 4) ≡ any 4 f
unfolding any
any_four f = go (f 0) (f 1) (f 2) (f 3)
  where
    go : (a b c d : Bool) → (a || (b || (c || (d || false)))) ≡ ((((false || a) || b) || c) || d)
    go true b c d = refl
    go false true c d = refl
    go false false true d = refl
    go false false false true = refl
    go false false false false = refl

pub returns : goal.returns
returns c =
    let w = c.args.words.now in
    let i = c.args.task % 64 in
    let j = c.args.other % 64 in
    any_from_yields_List (group_clash w i j) _ _ c.any.result c.any.ensures.ran (YieldsList-from_range 0 4 4 refl refl) (λ x b q k. search (rules, tests))
    ∙ any_four (group_clash w i j) ∙ sym (clash_in_lem w i j)
