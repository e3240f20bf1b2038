-- A number that is chosen by tests, where every test that fails gives its own: it is 0 only where each test passed. And numbers that are allowed.
use Prim.Native.Nat.{ℕ, ◌+◌, ◌≤◌, ◌<◌}
use mathlib.Core.Path.{◌≡◌, refl}
use mathlib.Core.Logic.{◌≢◌}
use mathlib.Core.Bool.{Bool, true, false, cond, ◌&&◌, and-false}
use lib.Dec.{leb, ltb}
use native.Mathlib.Omega.{arith}
use borrow.Author.Tests.{leb-true, leb-false, ltb-true, ltb-false, le-leb, lt-leb}
use Rattle.objects.proofs.Laws.Below.{and_left, and_right, and_both}
use Rattle.rules.specs.declared.Session.{Session}
use Rattle.rules.specs.Tasks.{allowed, known}
use Rattle.rules.specs.Events.{trying}

-- the test has to hold
pub must : (b : Bool) (rest k : ℕ) → k ≢ 0 → cond b rest k ≡ 0 → (b ≡ true) × (rest ≡ 0)
must true rest k h e = (refl, e)
must false rest k h e = absurd (h e)

-- the test has to fail
pub must_not : (b : Bool) (rest k : ℕ) → k ≢ 0 → cond b k rest ≡ 0 → (b ≡ false) × (rest ≡ 0)
must_not true rest k h e = absurd (h e)
must_not false rest k h e = (refl, e)

pub allowed_zero : (most k : ℕ) → k ≡ 0 → allowed most k ≡ false
allowed_zero most k e = rw e

pub allowed_past : (most k : ℕ) → most < k → allowed most k ≡ false
allowed_past most k h = rw (lt-leb k most h) (and-false (leb 1 k))

pub allowed_is : (most k : ℕ) → k ≢ 0 → k ≤ most → allowed most k ≡ true
allowed_is most k h l = and_both (leb 1 k) (leb k most) (le-leb 1 k (omega arith)) (le-leb k most l)

pub allowed_bounds : (most k : ℕ) → allowed most k ≡ true → (1 ≤ k) × (k ≤ most)
allowed_bounds most k e = (leb-true 1 k (and_left (leb 1 k) (leb k most) e), leb-true k most (and_right (leb 1 k) (leb k most) e))

-- what is known of an event that no number from 1 to 3 refuses
pub record Timely (s : Session) (at i rest : ℕ) : Type 0 where
  pub m_high : s.m ≤ 16
  pub n_high : s.n ≤ 64
  pub below : i < s.n
  pub tick : s.tick ≤ at
  pub accepted : s.accepted + 1 ≤ 1000000
  pub rest_zero : rest ≡ 0

pub timely : (s : Session) (at i rest : ℕ) → trying s at i rest ≡ 0 → Timely s at i rest
timely s at i rest e =
    let p = must (known s i) (cond (ltb at s.tick) 2 (cond (leb 1000000 s.accepted) 3 rest)) 1 (omega arith) e in
    let q = must_not (ltb at s.tick) (cond (leb 1000000 s.accepted) 3 rest) 2 (omega arith) p.1 in
    let r = must_not (leb 1000000 s.accepted) rest 3 (omega arith) q.1 in
    let k = leb-false 1000000 s.accepted r.0 in
    let sizes = allowed 16 s.m && allowed 64 s.n in
    let good = and_left sizes (ltb i s.n) p.0 in
    record {
      m_high = (allowed_bounds 16 s.m (and_left (allowed 16 s.m) (allowed 64 s.n) good)).1;
      n_high = (allowed_bounds 64 s.n (and_right (allowed 16 s.m) (allowed 64 s.n) good)).1;
      below = ltb-true i s.n (and_right sizes (ltb i s.n) p.0);
      tick = ltb-false at s.tick q.0;
      accepted = omega arith;
      rest_zero = r.1;
    }
