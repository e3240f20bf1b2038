-- `objects::how_many` meets its contract: the set bits of the four words, summed, are the objects of the four groups, of which there are at most 256.
use Prim.Native.Nat.{ℕ, ◌+◌, ◌^◌, ◌≤◌, ◌<◌}
use mathlib.Core.Path.{◌≡◌, ap, sym, ◌∙◌}
use mathlib.Core.List.{List, [], ◌∷◌}
use native.Mathlib.Omega.{arith}
use lib.ListN.{length, get_or}
use lib.Count.{ones}
use borrow.Author.Tests.{tests}
use Rattle.std.proofs.Common.{rules}
use Rattle.std.specs.List.{sum_by}
use Rattle.std.proofs.lemmas.List.Sums.{sum_by-cons}
use Rattle.std.proofs.lemmas.Iterator.{YieldsList-from_slice, YieldsList-from_map}
use Rattle.std.proofs.lemmas.Iterator.Consumers.{YieldsList-at, sum_by_from_yields_List, fits_by_from_yields_list}
use Rattle.objects.specs.Below.{sum, count}
use Rattle.objects.specs.Objects.{bit, groups_at, has, how_many}
use Rattle.objects.proofs.Laws.Below.{sum_empty, sum_first, sum_ext, count_le}
use Rattle.objects.proofs.Laws.Bits.{ones_count}
use Rattle.objects.proofs.Laws.Sets.{groups_at_start, how_many_groups}
use Rattle.objects.proofs.how_many.Goals.{After-map, After-sum}
use Rattle.objects.proofs.how_many.Goals as goal
use mir.Syntax.{w64}
use mir.Val.{Fits}

-- the sum over a list is that over its places
sum_places : (f : ℕ → ℕ) (xs : List ℕ) → sum_by f xs ≡ sum (length xs) (λ g. f (get_or xs g 0))
sum_places f [] = sym (sum_empty (λ g. f (get_or [] g 0)))
sum_places f (x ∷ xs) =
    sum_by-cons f x xs ∙ ap (λ (n : ℕ). f x + n) (sum_places f xs) ∙ sym (sum_first (length xs) (λ g. f (get_or (x ∷ xs) g 0)))

-- so of four words
four : (words : List ℕ) → length words ≡ 4 → ((g : ℕ) → get_or words g 0 < 2 ^ 64) → sum_by ones words ≡ how_many (groups_at words 0)
four words all fits =
    sum_places ones words ∙ ap (λ (k : ℕ). sum k (λ g. ones (get_or words g 0))) all
    ∙ sum_ext 4 (λ g. ones (get_or words g 0)) (λ g. count 64 (bit (get_or words g 0))) (λ g l. ones_count 64 (get_or words g 0) (fits g))
    ∙ how_many_groups (λ g. get_or words g 0) ∙ ap how_many (sym (groups_at_start words))

few : (words : List ℕ) → how_many (groups_at words 0) ≤ 256
unfolding how_many
few words = count_le 256 (has (groups_at words 0))

-- the array's own: its length, and that each word has 64 bits
of_words : (c : After-map) → sum_by ones c.args.words ≡ how_many (groups_at c.args.words 0)
of_words c = four c.args.words (search rules) (λ g. word_fits g)
  where
    word_fits : (g : ℕ) → get_or c.args.words g 0 < 2 ^ 64
    word_fits g = let fits : Fits w64 (get_or c.args.words g 0) = search rules in fits.fits

pub sum-requires-clause-fits : goal.sum-requires-clause-fits
sum-requires-clause-fits c =
    let words = c.args.words in
    fits_by_from_yields_list ones words c.map.result (2 ^ 32)
    (YieldsList-from_map _ ones (YieldsList-at c.map.ensures.source (YieldsList-from_slice words (cc))) c.map.ensures.closure (λ x r q k. search (rules, tests)))
    (omega (arith, few words, of_words c))

total : (c : After-sum) → c.sum.result ≡ how_many (groups_at c.args.words 0)
total c =
    let words = c.args.words in
    sum_by_from_yields_List ones words c.map.result c.sum.result c.sum.ensures.ran
    (YieldsList-from_map _ ones (YieldsList-at c.map.ensures.source (YieldsList-from_slice words (cc))) c.map.ensures.closure (λ x r q k. search (rules, tests)))
    ∙ of_words c.before

pub overflow_cast-result : goal.overflow_cast-result
overflow_cast-result c = omega (arith, total c, few c.args.words)

pub returns : goal.returns
returns c = total c
