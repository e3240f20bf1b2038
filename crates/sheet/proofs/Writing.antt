-- What is put where it has room follows what stood there.
use Prim.Native.Nat.{ℕ, ◌+◌, ◌≤◌, ◌<◌, min}
use mathlib.Core.Path.{◌≡◌, refl, sym, ap, ap₂, ◌∙◌}
use mathlib.Core.List.{List, [], ◌∷◌, ◌++◌, append_assoc}
use native.Mathlib.Numerals.{add-one}
use native.Mathlib.Omega.{arith}
use lib.ListN.{length, take, drop, length-append, length-take, length-drop}
use lib.Seq.{take_at, drop-drop, drop-append-add}
use Rattle.rules.specs.declared.Session.{Session}
use Rattle.report.specs.declared.Figures.{Figures}
use Rattle.report.specs.Items.{figures_at}
use Rattle.std.specs.Prelude.{Option, Some, None}
use Rattle.text.specs.Decimal.{decimal}
use Rattle.text.specs.Lines.{joined, parts_after, numbers_after}
use Rattle.text.specs.Written.{wrote, over, buffer_after}
use Rattle.text.proofs.Writing.{accepted, refused}
use Rattle.sheet.specs.Text.{decimals, named_text, row_text, rows_text, bad_front, bad_text}
use Rattle.sheet.specs.Sums.{length_word, sum_columns, sum_text, sum_rows, sums_text}

-- ---- numbers with a space before each

-- they are what follows a word, to the end of the line
numbers_parts : (ns : List ℕ) → numbers_after ns ≡ parts_after (decimals ns)
unfolding parts_after decimals
numbers_parts [] = refl
numbers_parts (n ∷ more) = ap (λ (s : List ℕ). 32 ∷ (decimal n ++ s)) (numbers_parts more)

pub numbers_line : (word ns : List ℕ) → word ++ numbers_after ns ≡ joined (word ∷ decimals ns)
unfolding joined
numbers_line word ns = ap (λ (s : List ℕ). word ++ s) (numbers_parts ns)

-- ---- the rows

pub rows_more : (n : ℕ) (all : List Figures) → rows_text (n + 1) all ≡ rows_text n all ++ row_text n (figures_at all n)
unfolding rows_text
rows_more n all = rw add-one

pub sum_rows_more : (s : Session) (ticks n : ℕ) → sum_rows s ticks (n + 1) ≡ sum_rows s ticks n ++ sum_text s ticks n
unfolding sum_rows
sum_rows_more s ticks n = rw add-one

-- the text of the sums, as it is pushed
pub sums_parts : (s : Session) (ticks n : ℕ) → n ≡ min s.n 64 → named_text length_word ticks ++ (joined sum_columns ++ sum_rows s ticks n) ≡ sums_text s ticks
unfolding sums_text
sums_parts s ticks n e = rw e (sym (append_assoc (named_text length_word ticks) (joined sum_columns) (sum_rows s ticks (min s.n 64))))

-- ---- one word after another, each in its place

-- a word over a buffer and one more after it are both together over it
over_more : (l : List ℕ) (at : ℕ) (p q : List ℕ) → at + length p + length q ≤ length l → over (over l at p) (at + length p) q ≡ over l at (p ++ q)
over_more l at p q h =
    let front = take at l ++ p in
    let back = drop (at + length p) l in
    let size : length front ≡ at + length p = simp (length-append, length-take) (omega arith) in
    let first = take_at front back (at + length p) size in
    let last : drop (at + length p + length q) (front ++ back) ≡ drop (at + length p + length q) l =
    ap (λ (n : ℕ). drop (n + length q) (front ++ back)) (sym size) ∙ drop-append-add front back (length q) ∙ drop-drop (length q) (at + length p) l in
    let sum : at + length p + length q ≡ at + length (p ++ q) = simp length-append (omega arith) in
    ap₂ (λ (x y : List ℕ). x ++ q ++ y) first last
    ∙ ap₂ (λ (x y : List ℕ). x ++ y) (append_assoc (take at l) p q) (ap (λ (n : ℕ). drop n l) sum)

length_over : (l : List ℕ) (at : ℕ) (word : List ℕ) → at + length word ≤ length l → length (over l at word) ≡ length l
length_over l at word h = simp (length-append, length-take, length-drop) (omega arith)

-- where a text that has room ends
pub put_end : (l : List ℕ) (at end : ℕ) (word : List ℕ) → at + length word ≤ length l → Some end ≡ wrote l at word → end ≡ at + length word
put_end l at end word h e = let p = (accepted l at word h).0 in cc

pub put_none : (l : List ℕ) (at : ℕ) (word : List ℕ) → at + length word ≤ length l → None ≡ wrote l at word → ⊥
put_none l at word h e = let p = (accepted l at word h).0 in cc

-- a put keeps the length
pub put_length : (l : List ℕ) (at : ℕ) (word m : List ℕ) → at + length word ≤ length l → m ≡ buffer_after l at word → length m ≡ length l
put_length l at word m h e = ap length (e ∙ sym (accepted l at word h).1) ∙ length_over l at word h

-- what the second of two puts answers and leaves, where both have room
pub both_put : (l : List ℕ) (at : ℕ) (p q m r : List ℕ) (put : Option ℕ) → at + length p + length q ≤ length l
    → m ≡ buffer_after l at p → put ≡ wrote m (at + length p) q → r ≡ buffer_after m (at + length p) q
    → (put ≡ wrote l at (p ++ q)) × (r ≡ buffer_after l at (p ++ q))
both_put l at p q m r put h e said left =
    let sum : at + length p + length q ≡ at + length (p ++ q) = simp length-append (omega arith) in
    let first : m ≡ over l at p = e ∙ sym (accepted l at p (omega arith)).1 in
    let size : length m ≡ length l = ap length first ∙ length_over l at p (omega arith) in
    let second = accepted m (at + length p) q (omega arith) in
    let both = accepted l at (p ++ q) (omega (arith, sum)) in (
      said ∙ sym second.0 ∙ ap Some sum ∙ both.0,
      left ∙ sym second.1 ∙ ap (λ (x : List ℕ). over x (at + length p) q) first ∙ over_more l at p q h ∙ both.1,
    )

-- three that have no room
pub refused_three : (l : List ℕ) (at : ℕ) (a b c : List ℕ) → length l < at + length a + length b + length c
    → (None ≡ wrote l at (a ++ b ++ c)) × (l ≡ buffer_after l at (a ++ b ++ c))
refused_three l at a b c h =
    let size : length (a ++ b ++ c) ≡ length a + length b + length c = simp length-append in
    refused l at (a ++ b ++ c) (omega arith)

-- the same of three
pub three_put : (l : List ℕ) (at : ℕ) (a b c m n r : List ℕ) (second put : Option ℕ) → at + length a + length b + length c ≤ length l
    → m ≡ buffer_after l at a → second ≡ wrote m (at + length a) b → n ≡ buffer_after m (at + length a) b
    → put ≡ wrote n (at + length a + length b) c → r ≡ buffer_after n (at + length a + length b) c
    → (put ≡ wrote l at (a ++ b ++ c)) × (r ≡ buffer_after l at (a ++ b ++ c))
three_put l at a b c m n r second put h e said left said' left' =
    let sum : at + length a + length b ≡ at + length (a ++ b) = simp length-append (omega arith) in
    both_put l at (a ++ b) c n r put (omega (arith, sum)) (both_put l at a b m n second (omega arith) e said left).1
    (said' ∙ ap (λ (k : ℕ). wrote n k c) sum) (left' ∙ ap (λ (k : ℕ). buffer_after n k c) sum)

-- ---- the line of a log that reads badly

pub bad_parts : (number : ℕ) (name : List ℕ) → bad_front number ++ name ++ (10 ∷ []) ≡ bad_text number name
unfolding bad_text
bad_parts number name = simp append_assoc
