-- The laws of the scan: what it leaves alone, that executing transactions stay apart and no more than m, and that whoever still waits is held.
use Prim.Native.Nat.{ℕ, suc, ◌+◌, ◌≤◌, ◌<◌}
use mathlib.Core.Path.{◌≡◌, refl, sym, ◌∙◌}
use mathlib.Core.Logic.{◌⊎◌, inl, inr, ◌≢◌}
use mathlib.Core.Bool.{Bool, true, false}
use native.Mathlib.Omega.{arith}
use lib.Dec.{eqb, leb}
use borrow.Author.Tests.{eqb-true, eqb-false, le-leb}
use Rattle.objects.specs.Below.{count}
use Rattle.objects.specs.Objects.{clash}
use Rattle.objects.proofs.Laws.Below.{not_both, and_both, count_le, count_zero}
use Rattle.objects.proofs.Laws.Clash.{clash_sym}
use Rattle.rules.specs.declared.Session.{Session}
use Rattle.rules.specs.Ranking.{Ranking}
use Rattle.rules.specs.Tasks.{waiting, executing, sets_at}
use Rattle.rules.specs.Room.{rank_at}
use Rattle.rules.specs.Scan.{next, admissible, Scanned, none, tried, scan}
use Rattle.rules.proofs.Laws.Kept.{Kept, Apart, Held, ScanKept, ScanApart, ScanCounts, ScanFits, ScanFew, ScanHeld}
use Rattle.rules.proofs.Laws.Foremost.{ahead, Found, next_first}
use Rattle.rules.proofs.Laws.Keeping.{kept_refl, admitted, admitted_other, admitted_counts}
use Rattle.rules.proofs.Laws.Room.{room_fewer, unblocked_apart}
use Rattle.rules.proofs.Laws.Looks.{Lasts, admissible_free, admissible_room, look_ends, tried_lasts, scan_lasts, admit_kept}
use Rattle.rules.proofs.Laws.Passed.{Passed, passed_held, look_passes, tried_holds}

-- ---- what it keeps

pub scan_kept : ScanKept
scan_kept rank s = scan_lasts rank (λ x. Kept s x.session) (admit_kept rank s) s (kept_refl s)

-- ---- executing ones stay apart

admit_apart : (rank : Ranking) (s : Session) (i : ℕ) → Apart s → i < s.n → waiting s i ≡ true → admissible rank s i ≡ true → Apart (admitted s i)
admit_apart rank s i apart l w a j h lj lh d ej eh = go (eqb j i) refl (eqb h i) refl
  where
    before : (j : ℕ) → j ≢ i → executing (admitted s i) j ≡ true → executing s j ≡ true
    before j d e = sym (admitted_other s i l w j d) ∙ e

    -- the new one against another
    against : (j : ℕ) → j < s.n → j ≢ i → executing (admitted s i) j ≡ true → clash (sets_at s i) (sets_at s j) ≡ false
    against j lj d e = unblocked_apart s (sets_at s i) (admissible_free rank s i a) j lj (before j d e)

    go : (b : Bool) → eqb j i ≡ b → (c : Bool) → eqb h i ≡ c → clash (sets_at s j) (sets_at s h) ≡ false
    go true p c q = let same : j ≡ i = eqb-true j i p in rw same (against h lh (λ r. d (same ∙ sym r)) eh)
    go false p true q =
        rw (eqb-true h i q) (clash_sym (sets_at s j) (sets_at s i) ∙ against j lj (eqb-false j i p) ej)
    go false p false q = apart j h lj lh d (before j (eqb-false j i p) ej) (before h (eqb-false h i q) eh)

pub scan_apart : ScanApart
scan_apart rank s = scan_lasts rank (λ x. Apart x.session) (λ x. admit_apart rank x.session) s

-- ---- how many

-- each admission so far is one more that executes, and with the last there were no more than m
pub record Counted (s : Session) (x : Scanned) : Type 0 where
  pub kept : Kept s x.session
  pub counts : count s.n (executing x.session) ≡ count s.n (executing s) + x.admitted.count
  pub bounded : (x.admitted.count ≡ 0) ⊎ (count s.n (executing x.session) ≤ s.m)

pub admit_counted : (rank : Ranking) (s : Session) → Lasts rank (Counted s)
admit_counted rank s x i p l w a = record {
  kept = admit_kept rank s x i p.kept l w a;
  counts = omega (arith, p.counts, more);
  bounded = inr (omega (arith, more, fewer, p.kept.m));
}
  where
    now : Session
    now = x.session

    more : count s.n (executing (admitted now i)) ≡ count s.n (executing now) + 1
    more = rw p.kept.n at (admitted_counts now i l w)

    fewer : count s.n (executing now) < now.m
    fewer = rw p.kept.n at (room_fewer rank now i (admissible_room rank now i a))

scan_counted : (rank : Ranking) (s : Session) → Counted s (scan rank s)
scan_counted rank s =
    scan_lasts rank (Counted s) (admit_counted rank s) s
    (record { kept = kept_refl s; counts = omega arith; bounded = inl refl })

pub scan_counts : ScanCounts
scan_counts rank s = (scan_counted rank s).counts

pub scan_fits : ScanFits
scan_fits rank s h = go (scan_counted rank s).bounded
  where
    after : ℕ
    after = count s.n (executing (scan rank s).session)

    go : ((scan rank s).admitted.count ≡ 0) ⊎ (after ≤ s.m) → after ≤ s.m
    go (inl z) = omega (arith, scan_counts rank s)
    go (inr l) = l

pub scan_few : ScanFew
scan_few rank s = go (scan_counted rank s).bounded
  where
    go : ((scan rank s).admitted.count ≡ 0) ⊎ (count s.n (executing (scan rank s).session) ≤ s.m) → (scan rank s).admitted.count ≤ s.m
    go (inl z) = omega arith
    go (inr l) = omega (arith, scan_counts rank s)

-- ---- those that still wait are held

pub scan_held : ScanHeld
unfolding scan
scan_held rank strict stays s h =
    look_ends rank (λ k from x. Passed rank k from x.session) (λ x. Held rank x.session) spent ended looked s.n 0
    (record { admitted = none; session = s })
    (record { size = h; behind = λ i l w b. absurd (omega arith); left = count_le s.n (ahead rank s 0) })
  where
    spent : (from : ℕ) (x : Scanned) → Passed rank 0 from x.session → Held rank x.session
    spent from x p =
        passed_held rank 0 from x.session p
        (λ i l w a. not_both (ahead rank x.session from i)
        (and_both (waiting x.session i) (leb from (rank_at rank x.session i)) w (le-leb from (rank_at rank x.session i) a))
        (count_zero x.session.n (ahead rank x.session from) (omega (arith, p.left)) i l))

    ended : (k from : ℕ) (x : Scanned) → Passed rank (suc k) from x.session → next rank x.session from ≡ 64 → Held rank x.session
    ended k from x p e =
        passed_held rank (suc k) from x.session p (λ i l w a. (next_first rank x.session from p.size i l w a).0 e)

    looked : (k from : ℕ) (x : Scanned) → Passed rank (suc k) from x.session → (i : ℕ) → next rank x.session from ≡ i
        → Found rank x.session from i → Passed rank k (rank_at rank x.session i + 1) (tried rank x i).session
    looked k from x p i e found =
        look_passes rank strict k from x.session (tried rank x i).session
        (tried_lasts rank (λ y. Kept x.session y.session) (admit_kept rank x.session) x i (kept_refl x.session) found.below found.waits)
        p i e found (tried_holds rank x i found.below found.waits)
