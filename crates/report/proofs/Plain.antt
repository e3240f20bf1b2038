-- What the sheet says of all tasks, over numbers and lists alone: it follows from the theorem, with the places computed and each test read as what it says.
use Prim.Native.Nat.{ℕ, zero, suc, ◌-◌, ◌≤◌, ◌<◌, min, zero-le, suc-le-suc}
use mathlib.Core.Path.{◌≡◌, refl, sym, ap, subst, ◌∙◌}
use mathlib.Core.Logic.{◌⊎◌, inl, inr}
use mathlib.Core.List.{List, [], ◌∷◌}
use mathlib.Core.Bool.{Bool, true, false, ◌&&◌}
use native.Mathlib.Nat.{le_antisymm, not-suc-le-zero, le_of_suc-le-suc}
use native.Mathlib.Omega.{arith}
use lib.Dec.{eqb, ltb}
use lib.ListN.{length, get_or, drop, take, length-append, take-append-drop}
use lib.Seq.{drop_at}
use borrow.Author.Tests.{eq-eqb, eqb-true, leb-true, le-leb, lt-ltb, ltb-true}
use Rattle.objects.specs.Below.{one}
use Rattle.objects.proofs.Laws.Below.{below_or_from, and_left, and_right, and_both, all_at}
use Rattle.rising.specs.Order.{in_rising}
use Rattle.rising.specs.Laws.{times_in, Stands}
use Rattle.rising.proofs.Agree.{no_place}
use Rattle.rising.proofs.Plain.{place_stands, stands_alone}
use Rattle.report.specs.declared.Figures.{Figures}
use Rattle.report.specs.Items.{Item, commit, wait, within, figures_at, waits_in}
use Rattle.report.specs.Ledger.{total, ticks_in, wait_is, figures_of, totals_fit, fitting, ledger, last_of}
use Rattle.report.specs.Sheet.{kept_of, middle_place, nine_place, last_waits, middle_of, nine_tenths_of, has_wait, most, ComesBefore, Ordered}
use Rattle.report.specs.Plain.{LeastOfThree, LastOnes, Ceiling, WaitAt, WaitAlone, MiddlePlain, NineTenthsPlain, WaitBooked, first, later, WaitedMore, MostOf, MostPlain}
use Rattle.report.proofs.Laws.Most.{most_is}
use Rattle.report.proofs.Laws.Row.{last_length}
use Rattle.report.proofs.Report.{holds, figures_are, middle_is, nine_tenths_is}

-- ---- places

middle_ceiling : (k : ℕ) → Ceiling 1 2 k (middle_place k)
middle_ceiling k = record { enough = omega arith; least = λ q h. omega arith }

nine_ceiling : (k : ℕ) → Ceiling 9 10 k (nine_place k)
nine_ceiling k = record { enough = omega arith; least = λ q h. omega arith }

-- a place of k numbers that is a share of them
record Share (k p : ℕ) : Type 0 where
  from : 1 ≤ k → 1 ≤ p
  to : p ≤ k

middle_share : (k : ℕ) → Share k (middle_place k)
middle_share k = record { from = λ h. omega arith; to = omega arith }

nine_share : (k : ℕ) → Share k (nine_place k)
nine_share k = record { from = λ h. omega arith; to = omega arith }

-- ---- the wait at such a place

-- what `last_waits` has is the last k, with k as it is said
kept_least : (a b c : ℕ) → LeastOfThree a b c (min (min a b) c)
kept_least a b c = record {
  first = omega arith;
  second = omega arith;
  third = omega arith;
  one_of_them = go (below_or_from (min a b) c) (below_or_from a b);
}
  where
    go : (min a b < c) ⊎ (c ≤ min a b) → (a < b) ⊎ (b ≤ a) → (min (min a b) c ≡ a) ⊎ ((min (min a b) c ≡ b) ⊎ (min (min a b) c ≡ c))
    go (inl l) (inl m) = inl (omega arith)
    go (inl l) (inr m) = inr (inl (omega arith))
    go (inr l) m = inr (inr (omega arith))

last_ones : (k : ℕ) (xs : List ℕ) → k ≤ length xs → LastOnes k xs (last_of k xs)
last_ones k xs l = record { earlier = take (length xs - k) xs; is = take-append-drop (length xs - k) xs; size = last_length k xs l }

module _ (a b : ℕ) (place : ℕ → ℕ) (ceiling : (k : ℕ) → Ceiling a b k (place k)) (share : (k : ℕ) → Share k (place k)) where
  wait_at : (size : ℕ) (booked : List Item) → WaitAt a b size (waits_in booked) (in_rising (place (length (last_waits size booked))) (last_waits size booked))
  wait_at size booked =
      let waits = waits_in booked in
      let k = kept_of size (length waits) in
      let last = last_waits size booked in
      let least = kept_least 4096 size (length waits) in
      let sized : length last ≡ k = last_length k waits least.third in
      record {
        k = k;
        least = least;
        last = last;
        lasts = last_ones k waits least.third;
        place = place (length last);
        ceiling = subst (λ (n : ℕ). Ceiling a b n (place (length last))) sized (ceiling (length last));
        some = λ h. place_stands (place (length last)) last ((share (length last)).from (omega arith)) (share (length last)).to;
        none = λ z. no_place (place (length last)) last (inl (omega (arith, (share (length last)).to)));
      }

pub middle_plain : MiddlePlain
unfolding middle_of
middle_plain u start t row o sessions r =
    subst (WaitAt 1 2 (length start) (waits_in (ledger sessions))) (sym (middle_is u start t row o sessions r))
    (wait_at 1 2 middle_place middle_ceiling middle_share (length start) (ledger sessions))

pub nine_tenths_plain : NineTenthsPlain
unfolding nine_tenths_of
nine_tenths_plain u start t row o sessions r =
    subst (WaitAt 9 10 (length start) (waits_in (ledger sessions))) (sym (nine_tenths_is u start t row o sessions r))
    (wait_at 9 10 nine_place nine_ceiling nine_share (length start) (ledger sessions))

-- ---- there is but one such wait

least_below : (a b c j k : ℕ) → LeastOfThree a b c j → LeastOfThree a b c k → j ≤ k
least_below a b c j k p q = go q.one_of_them
  where
    go : (k ≡ a) ⊎ ((k ≡ b) ⊎ (k ≡ c)) → j ≤ k
    go (inl e) = omega (arith, p.first)
    go (inr (inl e)) = omega (arith, p.second)
    go (inr (inr e)) = omega (arith, p.third)

last_is : (k : ℕ) (waits last : List ℕ) → LastOnes k waits last → last ≡ last_of k waits
last_is k waits last p =
    let size : length p.earlier ≡ length waits - k = omega (arith, p.size, length-append p.earlier last, ap length p.is) in
    sym (drop_at p.earlier last (length waits - k) size) ∙ ap (drop (length waits - k)) p.is

pub wait_alone : WaitAlone
wait_alone a b places waits x y p q = go (below_or_from 0 p.k)
  where
    same_k : p.k ≡ q.k
    same_k =
        le_antisymm (least_below 4096 places (length waits) p.k q.k p.least q.least)
        (least_below 4096 places (length waits) q.k p.k q.least p.least)

    same_last : p.last ≡ q.last
    same_last =
        last_is p.k waits p.last p.lasts ∙ ap (λ (k : ℕ). last_of k waits) same_k ∙ sym (last_is q.k waits q.last q.lasts)

    ceiling : Ceiling a b p.k q.place
    ceiling = subst (λ (k : ℕ). Ceiling a b k q.place) (sym same_k) q.ceiling

    same_place : p.place ≡ q.place
    same_place = le_antisymm (p.ceiling.least q.place ceiling.enough) (ceiling.least p.place p.ceiling.enough)

    go : (0 < p.k) ⊎ (p.k ≤ 0) → x ≡ y
    go (inl l) =
        stands_alone p.place p.last x y (p.some l)
        (subst (λ (xs : List ℕ). Stands xs p.place y) (sym same_last) (subst (λ (n : ℕ). Stands q.last n y) (sym same_place) (q.some (omega (arith, same_k)))))
    go (inr l) = p.none (omega arith) ∙ sym (q.none (omega (arith, same_k)))

-- ---- the tasks that waited

has_booked : (i : ℕ) (booked : List Item) → 1 ≤ total (wait_is i) booked → WaitBooked i booked
unfolding total
has_booked i [] h = absurd (not-suc-le-zero h)
has_booked i (commit j waited ∷ more) h = later (has_booked i more (omega arith))
has_booked i (wait j ticks clashes retries ∷ more) h = go (has_booked i more) (eqb j i) refl
  where
    go : (1 ≤ total (wait_is i) more → WaitBooked i more) → (b : Bool) → eqb j i ≡ b → WaitBooked i (wait j ticks clashes retries ∷ more)
    go rest true e = subst (λ (n : ℕ). WaitBooked i (wait n ticks clashes retries ∷ more)) (sym (eqb-true j i e)) first
    go rest false e = later (rest (omega (arith, ap one e)))

booked_has : (i : ℕ) {booked : List Item} → WaitBooked i booked → 1 ≤ total (wait_is i) booked
unfolding total
booked_has i first = omega (arith, ap one (eq-eqb i i refl))
booked_has i (later p) = omega (arith, booked_has i p)

-- a number that stands in a list is in it, and one that is in it stands at a place
times_at : (list : List ℕ) (a : ℕ) → a < length list → 1 ≤ times_in list (get_or list a 64)
unfolding times_in
times_at [] a l = absurd (not-suc-le-zero l)
times_at (x ∷ more) zero l = omega (arith, ap one (eq-eqb x x refl))
times_at (x ∷ more) (suc a) l = omega (arith, times_at more a (le_of_suc-le-suc l))

times_found : (list : List ℕ) (i : ℕ) → 1 ≤ times_in list i → (a : ℕ) × (a < length list) × (get_or list a 64 ≡ i)
unfolding times_in
times_found [] i h = absurd (not-suc-le-zero h)
times_found (x ∷ more) i h = go (times_found more i) (eqb x i) refl
  where
    go : (1 ≤ times_in more i → (a : ℕ) × (a < length more) × (get_or more a 64 ≡ i))
        → (b : Bool) → eqb x i ≡ b → (a : ℕ) × (a < length (x ∷ more)) × (get_or (x ∷ more) a 64 ≡ i)
    go rest true e = (0, suc-le-suc zero-le, eqb-true x i e)
    go rest false e = let w = rest (omega (arith, ap one e)) in (suc w.0, suc-le-suc w.1, w.2)

-- the ticks of what is booked are held in 32 bits
ticks_fit : (booked : List Item) → fitting booked ≡ true → (i : ℕ) → i < 64 → total (ticks_in i) booked ≤ 4294967295
unfolding fitting figures_of
ticks_fit booked fits i l =
    let f = figures_of i booked in
    let each = all_at 64 (λ j. totals_fit (figures_of j booked)) fits i l in
    let front = within f.committed && within f.waited && within f.clashes && within f.retries in
    leb-true f.ticks 4294967295 (and_right front (within f.ticks) (and_left (front && within f.ticks) (within f.waits) each))

-- figures that are those of what is booked, of the first n tasks
module _ (figures : List Figures) (booked : List Item) (n : ℕ) (are : (i : ℕ) → i < n → figures_at figures i ≡ figures_of i booked) where
  ticks_are : (i : ℕ) → i < n → (figures_at figures i).ticks ≡ total (ticks_in i) booked
  unfolding figures_of
  ticks_are i l = ap (λ (f : Figures). f.ticks) (are i l)

  waits_are : (i : ℕ) → i < n → (figures_at figures i).waits ≡ total (wait_is i) booked
  unfolding figures_of
  waits_are i l = ap (λ (f : Figures). f.waits) (are i l)

  module _ (list : List ℕ) (is : Ordered figures n list) where
    listed : (a : ℕ) → a < length list → (ltb (get_or list a 64) n && has_wait figures (get_or list a 64)) ≡ true
    listed a l = go (ltb (get_or list a 64) n && has_wait figures (get_or list a 64)) (times_at list a l) (is.named (get_or list a 64))
      where
        go : (b : Bool) → 1 ≤ times_in list (get_or list a 64) → times_in list (get_or list a 64) ≡ one b → b ≡ true
        go true h e = refl
        go false h e = absurd (omega arith)

    below : (a : ℕ) → a < length list → get_or list a 64 < n
    below a l = ltb-true (get_or list a 64) n (and_left (ltb (get_or list a 64) n) (has_wait figures (get_or list a 64)) (listed a l))

    order : (a b : ℕ) → a < b → b < length list → WaitedMore booked (get_or list a 64) (get_or list b 64)
    order a b h l = go (is.order a b h l)
      where
        i : ℕ
        i = get_or list a 64

        j : ℕ
        j = get_or list b 64

        go : ComesBefore figures i j → WaitedMore booked i j
        go (inl m) = inl (omega (arith, ticks_are i (below a (omega arith)), ticks_are j (below b l)))
        go (inr m) = inr (omega (arith, m.0, ticks_are i (below a (omega arith)), ticks_are j (below b l)), m.1)

    most_of : MostOf n booked list
    most_of = record {
      only = λ a l.
          let i = get_or list a 64 in
          (below a l, has_booked i booked (omega (arith, waits_are i (below a l), leb-true 1 (figures_at figures i).waits (and_right (ltb i n) (has_wait figures i) (listed a l)))));
      every = λ i l w.
          times_found list i
          (omega (
            arith,
            is.named i,
            ap one (and_both (ltb i n) (has_wait figures i) (lt-ltb i n l) (le-leb 1 (figures_at figures i).waits (omega (arith, waits_are i l, booked_has i w)))),
          ));
      once = λ a b h l e. distinct (get_or list a 64) (get_or list b 64) e (order a b h l);
      order = order;
    }
      where
        distinct : (i j : ℕ) → i ≡ j → WaitedMore booked i j → ⊥
        distinct i j e (inl m) = omega (arith, ap (λ (x : ℕ). total (ticks_in x) booked) e)
        distinct i j e (inr m) = omega (arith, m.1)

pub most_plain : MostPlain
most_plain u start t row o sessions r n l =
    let are : (i : ℕ) → i < n → figures_at t.figures i ≡ figures_of i (ledger sessions) =
    λ i m. figures_are u start t row o sessions r i (omega arith) in
    most_of t.figures (ledger sessions) n are (most t.figures n)
    (most_is t.figures n l
    (λ i m. omega (arith, ticks_are t.figures (ledger sessions) n are i m, ticks_fit (ledger sessions) (holds r).fits i (omega arith))))
