-- A word that is gathered on a walk over tasks: it has bit b where f b says yes to one of the tasks passed.
use Prim.Native.Nat.{ℕ, ◌<◌}
use mathlib.Core.Path.{◌≡◌, sym, ap, ◌∙◌}
use mathlib.Core.List.{List, [], ◌∷◌}
use mathlib.Core.Bool.{Bool, ◌||◌, or_assoc, or-false}
use Rattle.std.specs.List.{list_any}
use Rattle.objects.specs.Objects.{bit}
use Rattle.objects.proofs.Laws.Bits.{bit_zero}

module _ (f : ℕ → ℕ → Bool) (all : List ℕ) where
  -- with what is still to come of the others it is that of all
  abbrev pub Gathered : ℕ → List ℕ → Type 0
  Gathered word rest = (b : ℕ) → b < 64 → (bit word b || list_any (f b) rest) ≡ list_any (f b) all

  -- at first all are to come
  pub gathered_none : (rest : List ℕ) → rest ≡ all → Gathered 0 rest
  gathered_none rest e b l = ap (λ (t : Bool). t || list_any (f b) rest) (bit_zero b) ∙ ap (list_any (f b)) e

  -- one more is passed
  pub gathered_more : (word new task : ℕ) (rest more : List ℕ) → rest ≡ task ∷ more → ((b : ℕ) → b < 64 → bit new b ≡ (bit word b || f b task))
      → Gathered word rest → Gathered new more
  gathered_more word new task rest more e h seen b l =
      ap (λ (t : Bool). t || list_any (f b) more) (h b l) ∙ or_assoc (bit word b) (f b task) (list_any (f b) more)
      ∙ ap (λ (ts : List ℕ). bit word b || list_any (f b) ts) (sym e) ∙ seen b l

  -- none is left
  pub gathered_all : (word : ℕ) (rest : List ℕ) → rest ≡ [] → Gathered word rest → (b : ℕ) → b < 64 → bit word b ≡ list_any (f b) all
  gathered_all word rest e seen b l = sym (or-false (bit word b)) ∙ ap (λ (ts : List ℕ). bit word b || list_any (f b) ts) (sym e) ∙ seen b l
