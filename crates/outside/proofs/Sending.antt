-- Writes, one after another.
use Rattle.std.proofs.Common.{ℕ, ◌+◌, ◌-◌, List, ◌++◌, length, take, drop, subst, sym, ap, ◌∙◌}
use Rattle.std.specs.Prelude.{Option}
use Rattle.std.proofs.Math.Seq.{take-add}
use Rattle.std.proofs.lemmas.List.{take_rest}
use Rattle.std.proofs.KnownBytes.{Appends-trans}
use Rattle.std.specs.Io.KnownBytes.{Appends}

-- one more write goes on where the bytes before it ended
pub sent_more : (a b c : Option (List ℕ)) (bytes : List ℕ) (taken n : ℕ) → Appends a b (take taken bytes) → Appends b c (take n (take (length bytes - taken) (drop taken bytes)))
    → Appends a c (take (taken + n) bytes)
sent_more a b c bytes taken n p q =
    subst (Appends a c) (ap (λ l. take taken bytes ++ l) (ap (take n) (take_rest bytes taken)) ∙ sym (take-add taken n bytes)) (Appends-trans a b c _ _ p q)
