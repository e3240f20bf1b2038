-- What a writer answers and leaves, by the paper's number and the next place.
use Prim.Native.Nat.{ℕ, ◌+◌, ◌-◌, ◌≤◌, ◌<◌}
use mathlib.Core.Path.{◌≡◌, refl, sym, ap, ◌∙◌}
use mathlib.Core.Logic.{◌⊎◌, inl, inr}
use mathlib.Core.List.{List, ◌++◌, append_assoc}
use native.Mathlib.Omega.{arith}
use lib.ListN.{length, take, drop, length-append, length-take}
use lib.Seq.{take_at, drop_at}
use Rattle.text.specs.Written.{put_number, put_next, over, buffer_after}
use Rattle.text.specs.Laws.{PutSays}
use Rattle.text.proofs.Writing.{accepted, refused}

-- there is no room: the text would end past the buffer
too_long : (size at few : ℕ) → (size < at) ⊎ (size - at < few) → size < at + few
too_long size at few (inl h) = omega arith
too_long size at few (inr h) = omega arith

-- the three parts of a text over a buffer, where it has room
module _ (buf : List ℕ) (at : ℕ) (text : List ℕ) (h : at + length text ≤ length buf) where
  abbrev rest : List ℕ
  rest = drop (at + length text) buf

  front : length (take at buf) ≡ at
  front = simp length-take (omega arith)

  split : over buf at text ≡ take at buf ++ (text ++ rest)
  split = append_assoc (take at buf) text rest

  over_before : take at (over buf at text) ≡ take at buf
  over_before = ap (take at) split ∙ take_at (take at buf) (text ++ rest) at front

  over_there : take (length text) (drop at (over buf at text)) ≡ text
  over_there =
      ap (λ (l : List ℕ). take (length text) (drop at l)) split ∙ ap (take (length text)) (drop_at (take at buf) (text ++ rest) at front)
      ∙ take_at text rest (length text) refl

  over_after : drop (at + length text) (over buf at text) ≡ rest
  over_after = drop_at (take at buf ++ text) rest (at + length text) (simp (length-append, length-take) (omega arith))

pub put_says : PutSays
put_says buf at text = record {
  no_room = λ h.
      let r = refused buf at text (too_long (length buf) at (length text) h) in
      (ap put_number (sym r.0), ap put_next (sym r.0), sym r.1);
  room = λ l h. let r = accepted buf at text (omega arith) in (ap put_number (sym r.0), ap put_next (sym r.0));
  before_it = λ l h. ap (take at) (left l h) ∙ over_before buf at text (omega arith);
  there = λ l h. ap (λ (x : List ℕ). take (length text) (drop at x)) (left l h) ∙ over_there buf at text (omega arith);
  after_it = λ l h. ap (drop (at + length text)) (left l h) ∙ over_after buf at text (omega arith);
}
  where
    left : at ≤ length buf → length text ≤ length buf - at → buffer_after buf at text ≡ over buf at text
    left l h = sym (accepted buf at text (omega arith)).1
