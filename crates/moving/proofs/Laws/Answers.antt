-- What moving a whole log answers and leaves, by its number.
use Prim.Native.Nat.{ℕ, ◌≤◌}
use mathlib.Core.Path.{◌≡◌, refl, sym, ◌∙◌}
use mathlib.Core.Logic.{◌≢◌}
use mathlib.Core.List.{List}
use mathlib.Core.Bool.{Bool, true, false, cond, ◌||◌}
use lib.Dec.{eqb, leb}
use lib.ListN.{length}
use Rattle.std.specs.Prelude.{Ok, Err}
use borrow.Author.Tests.{eq-eqb, ne_eqb, eqb-true}
use Rattle.objects.proofs.Laws.Below.{not_both}
use Rattle.rules.specs.declared.Refusal.{Refusal}
use Rattle.rules.specs.Refusals.{refusal_number}
use Rattle.rules.proofs.Laws.Refusals.{refusal_not_0, refusal_back}
use Rattle.logs.specs.Order.{whole_log, whole_number}
use Rattle.moving.specs.Logs.{converted}
use Rattle.moving.specs.Convert.{copied_kind, over, start_reading, copying, moved_bytes, convert_number, converts, converted_into}
use Rattle.moving.proofs.Moved.{converter_converts}
use Rattle.moving.proofs.Laws.Fitting.{all_copied}

module _ (wanted : ℕ) (s : List ℕ) where
  -- ---- the number

  pub number_bad : (room : ℕ) → whole_number (whole_log s) ≢ 0 → convert_number wanted s room ≡ whole_number (whole_log s)
  unfolding convert_number
  number_bad room n = rw (ne_eqb (whole_number (whole_log s)) 0 n)

  module _ (room : ℕ) (z : whole_number (whole_log s) ≡ 0) where
    pub number_kind : (eqb wanted 3 || eqb wanted 8) ≡ false → convert_number wanted s room ≡ 21
    unfolding convert_number
    number_kind k = rw (eq-eqb (whole_number (whole_log s)) 0 z, k)

    module _ (k : (eqb wanted 3 || eqb wanted 8) ≡ true) where
      pub number_room : {b : Bool} → leb (length (converted wanted s)) room ≡ b → convert_number wanted s room ≡ cond b 0 28
      unfolding convert_number
      number_room l = rw (eq-eqb (whole_number (whole_log s)) 0 z, k, l)

  -- ---- what is answered and left

  pub answers_no : (buf : List ℕ) (refusal : Refusal) → convert_number wanted s (length buf) ≡ refusal_number refusal
      → (converts wanted s (length buf) ≡ Err refusal) × (converted_into wanted s buf ≡ buf)
  unfolding converts converted_into
  answers_no buf refusal e = rw (e, ne_eqb (refusal_number refusal) 0 (refusal_not_0 refusal), refusal_back refusal) (refl, refl)

  pub answers_yes : (buf : List ℕ) → convert_number wanted s (length buf) ≡ 0
      → (converts wanted s (length buf) ≡ Ok (length (converted wanted s))) × (converted_into wanted s buf ≡ over (converted wanted s) buf)
  unfolding converts converted_into
  answers_yes buf e = rw e (refl, refl)

  -- ---- the log that is moved

  -- a kind that releases can be of is copied in
  kind_same : (eqb wanted 3 || eqb wanted 8) ≡ true → copied_kind wanted ≡ wanted
  kind_same k = go (eqb wanted 3) (eqb wanted 8) (eqb-true wanted 3) (eqb-true wanted 8) k
    where
      go : (a b : Bool) → (a ≡ true → wanted ≡ 3) → (b ≡ true → wanted ≡ 8) → (a || b) ≡ true → cond b 8 3 ≡ wanted
      go a true p q e = sym (q refl)
      go true false p q e = sym (p refl)
      go false false p q e = absurd (not_both false e refl)

  pub moved_is : whole_number (whole_log s) ≡ 0 → (eqb wanted 3 || eqb wanted 8) ≡ true → moved_bytes (copied_kind wanted) start_reading s ≡ converted wanted s
  moved_is z k = rw (kind_same k) (converter_converts wanted s z)

  pub copied_is : (room : ℕ) → whole_number (whole_log s) ≡ 0 → (eqb wanted 3 || eqb wanted 8) ≡ true → length (converted wanted s) ≤ room
      → (copying (copied_kind wanted) start_reading s true room).out ≡ converted wanted s
  copied_is room z k l =
      let e = moved_is z k in
      all_copied (copied_kind wanted) start_reading s room (rw e l) ∙ e
