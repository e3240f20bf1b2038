-- The ranking: in each mode the number says what the wording says, it is strict, and it stays while the job is present. Each holds by arithmetic on rank * 64 + i with i
-- below 64.
use Prim.Native.Nat.{ℕ, ◌+◌, ◌-◌, ◌*◌, ◌≤◌, ◌<◌}
use mathlib.Core.Path.{◌≡◌, ap}
use mathlib.Core.Logic.{◌⊎◌, inl, inr, ◌↔◌}
use native.Mathlib.Omega.{arith}
use Rattle.objects.proofs.Laws.Below.{below_or_from}
use Rattle.rules.specs.Ranking.{job_rank, by_rank, RankingAgrees, StrictAndStays}

-- of two ranks the smaller, and of equal ones the lower number, is the smaller number
module _ (p q i j : ℕ) (hi : i < 64) (hj : j < 64) where
  less_number : (p < q) ⊎ ((p ≡ q) × (i < j)) → p * 64 + i < q * 64 + j
  less_number (inl l) = omega arith
  less_number (inr e) = omega arith

  number_less : p * 64 + i < q * 64 + j → (p < q) ⊎ ((p ≡ q) × (i < j))
  number_less l = go (below_or_from p q)
    where
      go : (p < q) ⊎ (q ≤ p) → (p < q) ⊎ ((p ≡ q) × (i < j))
      go (inl m) = inl m
      go (inr m) = let e : p ≡ q = omega arith in inr (e, omega arith)

-- the rank falls as the priority rises
fixed : (p q i j : ℕ) → p ≤ 65535 → q ≤ 65535 → ((q < p) ⊎ ((p ≡ q) × (i < j))) ↔ ((65535 - p < 65535 - q) ⊎ ((65535 - p ≡ 65535 - q) × (i < j)))
fixed p q i j hp hq = (there, back)
  where
    there : (q < p) ⊎ ((p ≡ q) × (i < j)) → (65535 - p < 65535 - q) ⊎ ((65535 - p ≡ 65535 - q) × (i < j))
    there (inl l) = inl (omega arith)
    there (inr e) = inr (omega arith, e.1)

    back : (65535 - p < 65535 - q) ⊎ ((65535 - p ≡ 65535 - q) × (i < j)) → (q < p) ⊎ ((p ≡ q) × (i < j))
    back (inl l) = inl (omega arith)
    back (inr e) = inr (omega (arith, e.0), e.1)

pub ranking_agrees : RankingAgrees
unfolding by_rank job_rank
ranking_agrees mode t u a b i j rt ru ht hu hi hj = (
  λ zero.
      let p : t.rank ≡ 65535 - t.terms.priority = rw zero at rt in
      let q : u.rank ≡ 65535 - u.terms.priority = rw zero at ru in
      let f = fixed t.terms.priority u.terms.priority i j ht hu in
      rw (p, q)
      ((λ x. less_number _ _ i j hi hj (f.0 x)), (λ l. f.1 (number_less _ _ i j hi hj l))),
  λ one.
      let p : t.rank ≡ a + t.terms.period = rw one at rt in
      let q : u.rank ≡ b + u.terms.period = rw one at ru in
      rw (p, q) (less_number _ _ i j hi hj, number_less _ _ i j hi hj),
)

same_number : (a b i j : ℕ) → i < 64 → j < 64 → a * 64 + i ≡ b * 64 + j → i ≡ j
same_number a b i j hi hj e = let h : a ≡ b = omega arith in omega arith

pub rank_strict_and_stays : StrictAndStays by_rank
unfolding by_rank
rank_strict_and_stays = (
  λ t u i j hi hj e. same_number t.rank u.rank i j hi hj e,
  λ t u i e a r. ap (λ (x : ℕ). x * 64 + i) r,
)
