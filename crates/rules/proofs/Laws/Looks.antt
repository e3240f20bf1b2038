-- The scan as looks: what is admissible, and one induction through the looks of a scan. What every admission keeps holds at the end.
use Prim.Native.Nat.{ℕ, zero, suc, ◌+◌, ◌<◌}
use mathlib.Core.Path.{◌≡◌, refl}
use mathlib.Core.Logic.{◌⊎◌, inl, inr}
use mathlib.Core.Bool.{Bool, true, false, cond, not}
use lib.Dec.{eqb}
use borrow.Author.Tests.{eqb-true, eqb-false, not-true, not-false}
use Rattle.objects.proofs.Laws.Below.{and_left, and_right, and_cases}
use Rattle.rules.specs.declared.Session.{Session}
use Rattle.rules.specs.Ranking.{Ranking}
use Rattle.rules.specs.Tasks.{waiting, sets_at}
use Rattle.rules.specs.Room.{rank_at, room}
use Rattle.rules.specs.Contest.{blocked}
use Rattle.rules.specs.Scan.{next, admissible, Scanned, none, admit, tried, look, scan}
use Rattle.rules.proofs.Laws.Kept.{Kept}
use Rattle.rules.proofs.Laws.Foremost.{Found, next_found}
use Rattle.rules.proofs.Laws.Keeping.{kept_trans, admitted, admitted_kept}
use Rattle.rules.proofs.Laws.Room.{HeldAt}

-- ---- what is admissible

pub admissible_free : (rank : Ranking) (s : Session) (i : ℕ) → admissible rank s i ≡ true → blocked s (sets_at s i) ≡ false
unfolding admissible
admissible_free rank s i e = not-true (blocked s (sets_at s i)) (and_left (not (blocked s (sets_at s i))) (room rank s i) e)

pub admissible_room : (rank : Ranking) (s : Session) (i : ℕ) → admissible rank s i ≡ true → room rank s i ≡ true
unfolding admissible
admissible_room rank s i e = and_right (not (blocked s (sets_at s i))) (room rank s i) e

pub inadmissible_held : (rank : Ranking) (s : Session) (i : ℕ) → admissible rank s i ≡ false → HeldAt rank s i
unfolding admissible
inadmissible_held rank s i e = go (and_cases (not (blocked s (sets_at s i))) (room rank s i) e)
  where
    go : (not (blocked s (sets_at s i)) ≡ false) ⊎ (room rank s i ≡ false) → HeldAt rank s i
    go (inl p) = inl (not-false (blocked s (sets_at s i)) p)
    go (inr p) = inr p

-- ---- the induction

-- what is known of a session before each look, with the looks left and the rank from which they look, gives what is known at the end
module _
    (rank : Ranking)
    (Before : ℕ → ℕ → Scanned → Type 0)
    (After : Scanned → Type 0)
    (spent : (from : ℕ) (x : Scanned) → Before 0 from x → After x)
    (ended : (k from : ℕ) (x : Scanned) → Before (suc k) from x → next rank x.session from ≡ 64 → After x)
    (looked : (k from : ℕ) (x : Scanned) → Before (suc k) from x → (i : ℕ) → next rank x.session from ≡ i → Found rank x.session from i
    → Before k (rank_at rank x.session i + 1) (tried rank x i))
  where
    pub look_ends : (k from : ℕ) (x : Scanned) → Before k from x → After (look rank k from x)
    unfolding look
    look_ends zero from x b = spent from x b
    look_ends (suc k) from x b =
        go (look_ends k (rank_at rank x.session (next rank x.session from) + 1) (tried rank x (next rank x.session from)))
        (eqb (next rank x.session from) 64) refl
      where
        i : ℕ
        i = next rank x.session from

        rest : Scanned
        rest = look rank k (rank_at rank x.session i + 1) (tried rank x i)

        go : (Before k (rank_at rank x.session i + 1) (tried rank x i) → After rest) → (t : Bool) → eqb i 64 ≡ t → After (cond t x rest)
        go later true e = ended k from x b (eqb-true i 64 e)
        go later false e = later (looked k from x b i refl (next_found rank x.session from (eqb-false i 64 e)))

-- what every admission keeps
abbrev pub Lasts : Ranking → (Scanned → Type 0) → Type 0
Lasts rank P =
    (x : Scanned) (i : ℕ) → P x → i < x.session.n → waiting x.session i ≡ true → admissible rank x.session i ≡ true → P (admit x i)

pub tried_lasts : (rank : Ranking) (P : Scanned → Type 0) → Lasts rank P
    → (x : Scanned) (i : ℕ) → P x → i < x.session.n → waiting x.session i ≡ true → P (tried rank x i)
tried_lasts rank P step x i p l w = go (admissible rank x.session i) refl
  where
    go : (b : Bool) → admissible rank x.session i ≡ b → P (cond b (admit x i) x)
    go true e = step x i p l w e
    go false e = p

-- holds at the end where it held at the beginning
pub scan_lasts : (rank : Ranking) (P : Scanned → Type 0) → Lasts rank P
    → (s : Session) → P (record { admitted = none; session = s }) → P (scan rank s)
unfolding scan
scan_lasts rank P step s =
    look_ends rank (λ k from. P) P (λ from x p. p) (λ k from x p e. p)
    (λ k from x p i e found. tried_lasts rank P step x i p found.below found.waits) s.n 0 (record { admitted = none; session = s })

-- a session stays kept
pub admit_kept : (rank : Ranking) (s : Session) → Lasts rank (λ x. Kept s x.session)
admit_kept rank s x i p l w a = kept_trans s x.session (admitted x.session i) p (admitted_kept x.session i l w)
