-- What an answer says of the session after it, of any session at all: refused, it is the same; accepted, it has one event more. And no answer lists more
-- than m admissions.
use Prim.Native.Nat.{◌+◌, ◌≤◌, zero-le}
use mathlib.Core.Path.{◌≡◌, refl, ◌∙◌}
use native.Mathlib.Nat.{le_trans, le_of_eq}
use native.Mathlib.Omega.{arith}
use Rattle.rules.specs.declared.Answer.{Answer}
use Rattle.rules.specs.Answers.{number}
use Rattle.rules.specs.Reachable.{RefusedSame, AcceptedOne, AdmittedFew}
use Rattle.rules.proofs.Laws.Scan.{scan_kept, scan_few}
use Rattle.rules.proofs.Laws.Steps.{outcome}

pub refused_same : RefusedSame
refused_same rank s e =
    outcome rank s e (λ (a : Answer). 1 ≤ number a.said → a.session ≡ s) (λ k h l. refl) (λ said s' z st l. absurd (omega arith))
    (λ said s' z st l. absurd (omega arith))

pub accepted_one : AcceptedOne
accepted_one rank s e =
    outcome rank s e (λ (a : Answer). number a.said ≡ 0 → (a.session.accepted ≡ s.accepted + 1) × (a.session.tick ≡ e.tick))
    (λ k h z. absurd (h z)) (λ said s' z st l. (st.accepted, st.tick))
    (λ said s' z st l. ((scan_kept rank s').accepted ∙ st.accepted, (scan_kept rank s').tick ∙ st.tick))

pub admitted_few : AdmittedFew
admitted_few rank s e =
    outcome rank s e (λ (a : Answer). a.admitted.count ≤ s.m) (λ k h. zero-le) (λ said s' z st. zero-le)
    (λ said s' z st. le_trans (scan_few rank s') (le_of_eq st.m))
