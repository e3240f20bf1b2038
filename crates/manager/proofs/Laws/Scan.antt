-- The scan as its loop goes: how far it has come after the places that are passed, and what a turn makes of it.
use Prim.Native.Nat.{ℕ, zero, suc, ◌+◌, ◌-◌, ◌*◌, ◌≤◌, ◌<◌}
use mathlib.Core.Path.{◌≡◌, refl, sym, ap, ◌∙◌}
use mathlib.Core.List.{List, [], ◌∷◌}
use mathlib.Core.Bool.{Bool, true, false, cond, not, ◌&&◌}
use native.Mathlib.Numerals.{add-one}
use native.Mathlib.Nat.{sub-le}
use native.Mathlib.Omega.{arith}
use lib.Dec.{ltb}
use lib.ListN.{length, set}
use borrow.Rule.Slice.PartMut.{put_mid}
use borrow.Author.Tests.{ltb-true}
use Rattle.machine.specs.Bits.{ones, common}
use Rattle.machine.specs.Places.{m_of, plain_of, executing_of, above_of, row_at, row_held, row_task, clashes_at, retries_at, release_at}
use Rattle.machine.specs.Asked.{left_in, room_in, blocked_in}
use Rattle.machine.specs.Row.{Scan, list_put, executes_in, admit_in, keep_in, look_at, look_to, scan_from, scan_in}

-- ---- the four numbers of an admission

-- four numbers written over four places in one go stand where they would if they were written one by one
four_put : (list : List ℕ) (at a b c d : ℕ) → at + 4 ≤ length list
    → put_mid at 4 list (a ∷ b ∷ c ∷ d ∷ []) ≡ set (set (set (set list at a) (suc at) b) (suc (suc at)) c) (suc (suc (suc at))) d
four_put [] at a b c d l = absurd (omega arith)
four_put (w ∷ []) zero a b c d l = absurd (omega arith)
four_put (w ∷ x ∷ []) zero a b c d l = absurd (omega arith)
four_put (w ∷ x ∷ y ∷ []) zero a b c d l = absurd (omega arith)
four_put (w ∷ x ∷ y ∷ z ∷ list) zero a b c d l = refl
four_put (x ∷ list) (suc at) a b c d l = ap (λ (xs : List ℕ). x ∷ xs) (four_put list at a b c d (omega arith))

pub listed : (list : List ℕ) (k size i clashes retries release : ℕ) → k < 16 → length list ≡ 64 → size ≡ 4
    → put_mid (k * 4) size list (i ∷ clashes ∷ retries ∷ release ∷ []) ≡ list_put list k i clashes retries release
listed list k size i clashes retries release l e f = rw f (grind (arith, four_put list (k * 4) i clashes retries release (omega arith)))

-- ---- the definitions, one step open

look_none : (x : Scan) → look_to x 0 ≡ x
unfolding look_to
look_none x = refl

look_more : (x : Scan) (p : ℕ) → look_to x (suc p) ≡ look_at (look_to x p) p
unfolding look_to
look_more x p = refl

look_is : (x : Scan) (p : ℕ)
    → let i = row_task x.words p in
    look_at x p ≡ cond (room_in x.words x.left i && not (blocked_in x.words i)) (admit_in x i) (keep_in x p)
unfolding look_at
look_is x p = refl

admit_is : (x : Scan) (i : ℕ)
    → admit_in x i
    ≡ (record {
      words = executes_in x.words i;
      list = list_put x.list x.admitted i (clashes_at x.words i) (retries_at x.words i) (release_at x.words i);
      admitted = x.admitted + 1;
      kept = x.kept;
      left = x.left - 1;
    })
unfolding admit_in
admit_is x i = refl

keep_is : (x : Scan) (p : ℕ)
    → keep_in x p
    ≡ (record { words = set x.words (8 + x.kept) (row_at x.words p); list = x.list; admitted = x.admitted; kept = x.kept + 1; left = x.left })
unfolding keep_in
keep_is x p = refl

left_is : (w : List ℕ) → left_in w ≡ m_of w - ones (executing_of w)
unfolding left_in
left_is w = refl

-- no more are left than may execute
left_few : (w : List ℕ) → left_in w ≤ m_of w
left_few w = rw (left_is w) (sub-le (m_of w) (ones (executing_of w)))

room_is : (w : List ℕ) (left i : ℕ) → room_in w left i ≡ ltb (common (plain_of w) (above_of w i)) left
unfolding room_in
room_is w left i = refl

-- where a task has room, one is left
pub room_left : (w : List ℕ) (left i : ℕ) → room_in w left i ≡ true → 0 < left
room_left w left i e = let h = ltb-true (common (plain_of w) (above_of w i)) left (sym (room_is w left i) ∙ e) in omega arith

-- ---- the loop

-- how far the scan has come past the first p places, and what bounds the list and the row
pub record Looked (w list : List ℕ) (p : ℕ) (x : Scan) : Type 0 where
  pub is : x ≡ look_to (scan_from w list) p
  pub few : x.admitted + x.left ≤ 16
  pub behind : x.kept ≤ p

-- before the first place
pub looked_none : (w list : List ℕ) (left : ℕ) → m_of w ≤ 16 → left ≡ left_in w
    → Looked w list 0 (record { words = w; list = list; admitted = 0; kept = 0; left = left })
looked_none w list left h e = record {
  is = rw e (sym (look_none (scan_from w list)));
  few = omega (arith, e, left_few w);
  behind = omega arith;
}

module _ (w list : List ℕ) (p : ℕ) (x : Scan) (looked : Looked w list p x) where
  -- one place more, by whether the task that stands there is admitted
  next : (b : Bool) → room_in x.words x.left (row_task x.words p) && not (blocked_in x.words (row_task x.words p)) ≡ b
      → look_to (scan_from w list) (p + 1) ≡ cond b (admit_in x (row_task x.words p)) (keep_in x p)
  next b e =
      rw (add-one p) (look_more (scan_from w list) p ∙ rw (← looked.is) (look_is x p ∙ rw e))

  -- the task is admitted
  pub looked_admitted : (words list' : List ℕ) → room_in x.words x.left (row_task x.words p) ≡ true → blocked_in x.words (row_task x.words p) ≡ false
      → words ≡ executes_in x.words (row_task x.words p)
      → list' ≡ list_put x.list x.admitted (row_task x.words p) (clashes_at x.words (row_task x.words p)) (retries_at x.words (row_task x.words p)) (release_at x.words (row_task x.words p))
      → Looked w list (p + 1) (record { words = words; list = list'; admitted = x.admitted + 1; kept = x.kept; left = x.left - 1 })
  looked_admitted words list' room free e f = record {
    is = rw (e, f) (sym (next true (rw (room, free)) ∙ admit_is x (row_task x.words p)));
    few = omega (arith, looked.few, room_left x.words x.left (row_task x.words p) room);
    behind = omega (arith, looked.behind);
  }

  -- it stays in the row
  pub looked_kept : room_in x.words x.left (row_task x.words p) && not (blocked_in x.words (row_task x.words p)) ≡ false
      → Looked w list (p + 1) (record { words = set x.words (8 + x.kept) (row_at x.words p); list = x.list; admitted = x.admitted; kept = x.kept + 1; left = x.left })
  looked_kept e = record {
    is = sym (next false e ∙ keep_is x p);
    few = looked.few;
    behind = omega (arith, looked.behind);
  }

-- all places: the row's size is how many stay
abbrev pub closed : Scan → Scan
closed x = record { words = set x.words 7 x.kept; list = x.list; admitted = x.admitted; kept = x.kept; left = x.left }

scan_is : (w list : List ℕ) → scan_in w list ≡ closed (look_to (scan_from w list) (row_held w))
unfolding scan_in
scan_is w list = refl

-- past all places it is the whole scan
pub scanned : (w list : List ℕ) (p : ℕ) (x : Scan) → p ≡ row_held w → Looked w list p x → closed x ≡ scan_in w list
scanned w list p x e looked = rw (looked.is, e) (sym (scan_is w list))
