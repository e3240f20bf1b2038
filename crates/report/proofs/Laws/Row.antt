-- The row of waits. One wait more goes to the place of the wait c before it, which is then no longer one of the last c, and to the place of no later one. So the
-- first places hold the last waits: in their order up to c of them, and from there on turned round, which no count sees.
use Prim.Native.Nat.{ℕ, ◌+◌, ◌-◌, ◌%◌, ◌≤◌, ◌<◌, zero-le}
use mathlib.Core.Path.{◌≡◌, refl, sym, ap, subst, ◌∙◌}
use mathlib.Core.Logic.{◌⊎◌, inl, inr, ◌≢◌}
use mathlib.Core.List.{List, [], ◌∷◌, ◌++◌, append-nil}
use native.Mathlib.Nat.{mod-lt, mod-le, mod-eq_of_lt, mod-eq-sub-mod, mod-add-mod, not-suc-le-zero, sub_self}
use native.Mathlib.Omega.{arith}
use lib.ListN.{length, get_or, set, take, drop, length-append, length-take, length-drop, length-set, take-append-drop, drop_of_length-le, get_or-append}
use lib.Seq.{get_or-append_seam, get_or-append-add, append_snoc, get_or-set_same, get_or-set_other, get_or-take, get_or-drop, ext_get_or}
use borrow.Author.Tests.{eq-eqb, ne_eqb}
use Rattle.objects.proofs.Laws.Below.{below_suc, below_or_from}
use Rattle.rising.specs.Counts.{not_passing}
use Rattle.rising.proofs.Laws.Counts.{count_append}
use Rattle.rising.proofs.Agree.{same_counts}
use Rattle.report.specs.Items.{places_of, put_wait, written}
use Rattle.report.specs.Ledger.{last_of}
use Rattle.report.specs.Sheet.{kept_of}
use Rattle.report.specs.Row.{Placed, RowPlaces, SameNumbers, LastK}

-- ---- places

-- the place of a number that is d further on, d below c: as far on, or where that passes the c places as far on less c
turn : (c n d : ℕ) → 0 < c → d < c → ((n + d) % c ≡ n % c + d) ⊎ ((n + d) % c + c ≡ n % c + d)
turn c n d some l = go (below_or_from (n % c + d) c)
  where
    go : (n % c + d < c) ⊎ (c ≤ n % c + d) → ((n + d) % c ≡ n % c + d) ⊎ ((n + d) % c + c ≡ n % c + d)
    go (inl h) = inl (sym (mod-add-mod n c d) ∙ mod-eq_of_lt h)
    go (inr h) =
        let r : (n + d) % c ≡ n % c + d - c = sym (mod-add-mod n c d) ∙ mod-eq-sub-mod h ∙ mod-eq_of_lt (omega (arith, mod-lt n some)) in
        inr (omega arith)

-- two of c numbers in a row have two places
apart : (c i n : ℕ) → i < n → n < i + c → i % c ≢ n % c
apart c i n l h e = go (turn c i (n - i) (omega arith) (omega arith))
  where
    at : (i + (n - i)) % c ≡ n % c
    at = ap (λ (k : ℕ). k % c) (omega arith)

    go : ((i + (n - i)) % c ≡ i % c + (n - i)) ⊎ ((i + (n - i)) % c + c ≡ i % c + (n - i)) → ⊥
    go (inl r) = omega (arith, at)
    go (inr r) = omega (arith, at)

-- ---- one wait

put_none : (row : List ℕ) (i t : ℕ) → places_of row ≡ 0 → put_wait row i t ≡ row
put_none row i t e = rw (eq-eqb (places_of row) 0 e)

put_some : (row : List ℕ) (i t : ℕ) → 0 < places_of row → put_wait row i t ≡ set row (i % places_of row) t
put_some row i t l = rw (ne_eqb (places_of row) 0 (λ e. omega arith))

module _ (start waits row : List ℕ) (so_far : Placed start waits row) (t : ℕ) where
  -- with no place the row stays
  more_none : places_of start ≡ 0 → Placed start (waits ++ (t ∷ [])) row
  more_none none = record {
    size = so_far.size;
    held = λ i l h. absurd (omega (arith, length-append waits (t ∷ [])));
    rest = λ p h. so_far.rest p (inr (omega arith));
  }

  -- with places it has the wait at its own
  more_some : 0 < places_of start → Placed start (waits ++ (t ∷ [])) (set row (length waits % places_of start) t)
  more_some some = record {
    size = length-set row (length waits % places_of start) t ∙ so_far.size;
    held = λ i l h. at i h (below_suc i (length waits) (omega (arith, length-append waits (t ∷ []))));
    rest = kept;
  }
    where
      inside : length waits % places_of start < length row
      inside = omega (arith, mod-lt (length waits) some, so_far.size)

      at : (i : ℕ) → length (waits ++ (t ∷ [])) ≤ i + places_of start → (i ≡ length waits) ⊎ (i < length waits)
          → get_or (set row (length waits % places_of start) t) (i % places_of start) 0 ≡ get_or (waits ++ (t ∷ [])) i 0
      at i h (inl e) = rw e (get_or-set_same row (length waits % places_of start) t 0 inside ∙ sym (get_or-append_seam waits t [] 0))
      at i h (inr l) =
          get_or-set_other row (length waits % places_of start) (i % places_of start) t 0
          (apart (places_of start) i (length waits) l (omega (arith, length-append waits (t ∷ []))))
          ∙ so_far.held i l (omega (arith, length-append waits (t ∷ []))) ∙ sym (get_or-append waits (t ∷ []) 0 i l)

      kept : (p : ℕ) → (length (waits ++ (t ∷ [])) ≤ p) ⊎ (places_of start ≤ p)
          → get_or (set row (length waits % places_of start) t) p 0 ≡ get_or start p 0
      kept p (inl h) =
          get_or-set_other row (length waits % places_of start) p t 0
          (λ e. omega (arith, length-append waits (t ∷ []), mod-le (length waits) (places_of start)))
          ∙ so_far.rest p (inl (omega (arith, length-append waits (t ∷ []))))
      kept p (inr h) =
          get_or-set_other row (length waits % places_of start) p t 0 (λ e. omega (arith, mod-lt (length waits) some)) ∙ so_far.rest p (inr h)

  -- a wait more goes to its place, where there is one
  more : Placed start (waits ++ (t ∷ [])) (put_wait row (length waits) t)
  more = go (below_or_from 0 (places_of start))
    where
      same : places_of row ≡ places_of start
      same = omega (arith, so_far.size)

      go : (0 < places_of start) ⊎ (places_of start ≤ 0) → Placed start (waits ++ (t ∷ [])) (put_wait row (length waits) t)
      go (inl some) = rw (put_some row (length waits) t (omega (arith, same)), same) (more_some some)
      go (inr none) = rw (put_none row (length waits) t (omega (arith, same))) (more_none (omega arith))

-- ---- waits one after another

-- those that are written so far, and more
placed_more : (start done waits row : List ℕ) → Placed start done row → Placed start (done ++ waits) (written row (length done) waits)
unfolding written
placed_more start done [] row so_far = rw (append-nil done) so_far
placed_more start done (t ∷ waits) row so_far =
    rw (← append_snoc done t waits, ← length-append done (t ∷ []))
    (placed_more start (done ++ (t ∷ [])) waits (put_wait row (length done) t) (more start done row so_far t))

pub row_places : RowPlaces
row_places start waits =
    placed_more start [] waits start
    (record { size = refl; held = λ i l h. absurd (not-suc-le-zero l); rest = λ p h. refl })

-- ---- the last k of a list

last_at : (k : ℕ) (xs : List ℕ) (j : ℕ) → get_or (last_of k xs) j 0 ≡ get_or xs (length xs - k + j) 0
last_at k xs j = get_or-drop (length xs - k) xs j 0

pub last_length : (k : ℕ) (xs : List ℕ) → k ≤ length xs → length (last_of k xs) ≡ k
last_length k xs l = omega (arith, length-drop (length xs - k) xs)

last_all : (xs : List ℕ) → last_of (length xs) xs ≡ xs
last_all xs = ap (λ (n : ℕ). drop n xs) (sub_self (length xs))

last_none : (xs : List ℕ) → last_of 0 xs ≡ []
last_none xs = drop_of_length-le xs {i = length xs - 0} (omega arith)

-- ---- a list turned round

-- a list turned round has the same counts
count_turned : (v p : ℕ) (xs ys : List ℕ) → drop p xs ++ take p xs ≡ ys → not_passing v xs ≡ not_passing v ys
count_turned v p xs ys e =
    omega (
      arith,
      ap (not_passing v) (take-append-drop p xs),
      ap (not_passing v) e,
      count_append v (take p xs) (drop p xs),
      count_append v (drop p xs) (take p xs),
    )

-- a list turned round at place p has the number of place p + j, or past the list's end of that less its length, at place j
turned_at : (p q j : ℕ) (xs : List ℕ) → p < length xs → q < length xs → j < length xs → (q ≡ p + j) ⊎ (q + length xs ≡ p + j)
    → get_or (drop p xs ++ take p xs) j 0 ≡ get_or xs q 0
turned_at p q j xs lp lq lj (inl e) =
    get_or-append (drop p xs) (take p xs) 0 j (omega (arith, length-drop p xs)) ∙ get_or-drop p xs j 0 ∙ ap (λ (k : ℕ). get_or xs k 0) (sym e)
turned_at p q j xs lp lq lj (inr e) =
    let r : j ≡ length (drop p xs) + q = omega (arith, length-drop p xs) in
    ap (λ (k : ℕ). get_or (drop p xs ++ take p xs) k 0) r ∙ get_or-append-add (drop p xs) (take p xs) q 0 ∙ get_or-take p xs q 0 (omega arith)

-- c numbers, of which each of the last c waits stands at its place: they are the last c waits, in their order from the place of the next wait on, and then from
-- place 0 on
module _ (c : ℕ) (waits xs : List ℕ) (some : 0 < c) (enough : c ≤ length waits) (sized : length xs ≡ c)
    (held : (i : ℕ) → i < length waits → length waits ≤ i + c → get_or xs (i % c) 0 ≡ get_or waits i 0) where
  abbrev next : ℕ
  next = length waits % c

  abbrev round : List ℕ
  round = drop next xs ++ take next xs

  round_length : length round ≡ c
  round_length =
      omega (
        arith,
        length-append (drop next xs) (take next xs),
        length-drop next xs,
        length-take next xs,
        mod-lt (length waits) some,
      )

  round_at : (j : ℕ) → j < c → get_or round j 0 ≡ get_or (last_of c waits) j 0
  round_at j l =
      let i = length waits - c + j in
      let n : next ≡ (length waits - c) % c = mod-eq-sub-mod enough in
      turned_at next (i % c) j xs (omega (arith, mod-lt (length waits) some)) (omega (arith, mod-lt i some)) (omega arith)
      (rw (n, sized) (turn c (length waits - c) j some l))
      ∙ held i (omega arith) (omega arith) ∙ sym (last_at c waits j)

  turned : round ≡ last_of c waits
  turned = ext_get_or 0 round (last_of c waits) (round_length ∙ sym (last_length c waits enough)) (λ j l. round_at j (omega (arith, round_length)))

-- ---- the first places hold the last waits

module _ (start waits row : List ℕ) (here : Placed start waits row) where
  -- up to c waits: they stand in their order
  in_order : length waits ≤ places_of start → take (length waits) row ≡ waits
  in_order l = ext_get_or 0 (take (length waits) row) waits size at
    where
      size : length (take (length waits) row) ≡ length waits
      size = omega (arith, length-take (length waits) row, here.size)

      at : (i : ℕ) → i < length (take (length waits) row) → get_or (take (length waits) row) i 0 ≡ get_or waits i 0
      at i h =
          let m : i < length waits = omega (arith, size) in
          let p : i % places_of start ≡ i = mod-eq_of_lt (omega arith) in
          get_or-take (length waits) row i 0 m ∙ ap (λ (k : ℕ). get_or row k 0) (sym p) ∙ here.held i m (omega arith)

  counts_in_order : length waits ≤ places_of start → (v : ℕ) → not_passing v (take (length waits) row) ≡ not_passing v (last_of (length waits) waits)
  counts_in_order l v = ap (not_passing v) (in_order l ∙ sym (last_all waits))

  -- from c waits on: they stand turned round
  counts_turned : 0 < places_of start → places_of start ≤ length waits → (v : ℕ)
      → not_passing v (take (places_of start) row) ≡ not_passing v (last_of (places_of start) waits)
  counts_turned some l v =
      count_turned v (length waits % places_of start) (take (places_of start) row) (last_of (places_of start) waits)
      (turned (places_of start) waits (take (places_of start) row) some l (omega (arith, length-take (places_of start) row, here.size))
      (λ i m h. get_or-take (places_of start) row (i % places_of start) 0 (mod-lt i some) ∙ here.held i m h))

  -- the first k places hold the last k waits
  abbrev Alike : ℕ → Type 0
  Alike k = SameNumbers k (take k row) (last_of k waits)

  alike : (k : ℕ) → k ≤ places_of start → k ≤ length waits → ((v : ℕ) → not_passing v (take k row) ≡ not_passing v (last_of k waits)) → Alike k
  alike k lp lw same =
      let a : length (take k row) ≡ k = omega (arith, length-take k row, here.size) in
      let b : length (last_of k waits) ≡ k = last_length k waits lw in
      record {
        size = a;
        sizes = b;
        counts = same;
        places = λ place. same_counts place (take k row) (last_of k waits) (a ∙ sym b) same;
      }

  alike_kept : Alike (kept_of (length start) (length waits))
  alike_kept = go (below_or_from (length waits) (places_of start)) (below_or_from 0 (places_of start))
    where
      from : (k : ℕ) → kept_of (length start) (length waits) ≡ k → Alike k → Alike (kept_of (length start) (length waits))
      from k e a = subst Alike (sym e) a

      go : (length waits < places_of start) ⊎ (places_of start ≤ length waits) → (0 < places_of start) ⊎ (places_of start ≤ 0)
          → Alike (kept_of (length start) (length waits))
      go (inl l) some = from (length waits) (omega arith) (alike (length waits) (omega arith) (omega arith) (counts_in_order (omega arith)))
      go (inr l) (inl some) = from (places_of start) (omega arith) (alike (places_of start) (omega arith) l (counts_turned some l))
      go (inr l) (inr none) =
          from 0 (omega arith) (alike 0 zero-le zero-le (λ v. ap (not_passing v) (sym (last_none waits))))

pub last_k : LastK
last_k start waits = alike_kept start waits (written start 0 waits) (row_places start waits)
