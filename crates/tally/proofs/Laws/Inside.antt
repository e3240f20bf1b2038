-- What an answer lists lies within the tables, of any session at all: its scan comes only where m and n are allowed, and names no more than m tasks below n.
use Prim.Native.Nat.{ℕ, ◌≤◌, ◌<◌, zero-le}
use mathlib.Core.Path.{◌≡◌}
use mathlib.Core.Logic.{◌≢◌}
use mathlib.Core.Bool.{true, ◌&&◌, cond}
use native.Mathlib.Nat.{lt_of_lt_of_le, le_trans}
use native.Mathlib.Omega.{arith}
use lib.Dec.{leb, ltb}
use borrow.Author.Tests.{ltb-true}
use Rattle.objects.proofs.Laws.Below.{and_left, and_right}
use Rattle.rules.specs.declared.Session.{Session}
use Rattle.rules.specs.declared.Event.{Event}
use Rattle.rules.specs.declared.Said.{Said}
use Rattle.rules.specs.declared.Answer.{Answer}
use Rattle.rules.specs.Answers.{number}
use Rattle.rules.specs.Ranking.{Ranking}
use Rattle.rules.specs.Tasks.{allowed, known}
use Rattle.rules.specs.Events.{trying, arrive_number, release_number, commit_number, finish_number, refused, still, scanning, step}
use Rattle.rules.proofs.Laws.Numbers.{must, allowed_bounds}
use Rattle.rules.proofs.Laws.Scan.{scan_few}
use Rattle.rules.proofs.Laws.Listed.{scan_settled}
use Rattle.rules.proofs.Laws.Steps.{step_cases, arrive_cases, release_cases, commit_cases, finish_cases}
use Rattle.tally.specs.Parts.{Inside}

-- m, n and the task, where the task is known
record Allowed (m n i : ℕ) : Type 0 where
  m_few : m ≤ 16
  n_few : n ≤ 64
  below : i < n

module _ (s : Session) (tick i rest : ℕ) where
  known_allowed : trying s tick i rest ≡ 0 → Allowed s.m s.n i
  known_allowed z = record {
    m_few = (allowed_bounds 16 s.m (and_left (allowed 16 s.m) (allowed 64 s.n) sizes)).1;
    n_few = (allowed_bounds 64 s.n (and_right (allowed 16 s.m) (allowed 64 s.n) sizes)).1;
    below = ltb-true i s.n (and_right (allowed 16 s.m && allowed 64 s.n) (ltb i s.n) is);
  }
    where
      is : known s i ≡ true
      is = (must (known s i) (cond (ltb tick s.tick) 2 (cond (leb 1000000 s.accepted) 3 rest)) 1 (omega arith) z).0

      sizes : (allowed 16 s.m && allowed 64 s.n) ≡ true
      sizes = and_left (allowed 16 s.m && allowed 64 s.n) (ltb i s.n) is

-- the task of an accepted event, and what its answer lists
pub record Within (i : ℕ) (a : Answer) : Type 0 where
  pub task : number a.said ≡ 0 → i < 64
  pub listed : Inside a.admitted

module _ (i : ℕ) where
  refused_within : (s : Session) (k : ℕ) → k ≢ 0 → Within i (refused s k)
  refused_within s k h = record { task = λ z. absurd (h z); listed = (zero-le, λ j l. absurd (omega arith)) }

  still_within : (said : Said) (s : Session) → i < 64 → Within i (still said s)
  still_within said s l = record { task = λ z. l; listed = (zero-le, λ j m. absurd (omega arith)) }

  scan_within : (rank : Ranking) (said : Said) (s : Session) → Allowed s.m s.n i → Within i (scanning rank said s)
  scan_within rank said s p = record {
    task = λ z. lt_of_lt_of_le p.below p.n_few;
    listed = (
      le_trans (scan_few rank s) p.m_few,
      λ j l. lt_of_lt_of_le ((scan_settled rank s p.m_few).entries j l).0 p.n_few,
    );
  }

pub answer_inside : (rank : Ranking) (s : Session) (e : Event) → Within e.task (step rank s e)
unfolding arrive_number release_number commit_number finish_number
answer_inside rank s e =
    step_cases rank s e (Within i)
    (λ kind. arrive_cases (Within i) s (refused_within i s) e.tick i (λ z. still_within i _ _ (small (known_allowed s e.tick i _ z))))
    (λ kind. release_cases (Within i) s (refused_within i s) e.tick i rank e.reads e.writes
    (λ z b. scan_within i rank _ _ (known_allowed s e.tick i _ z)) (λ z b. still_within i _ _ (small (known_allowed s e.tick i _ z))))
    (λ kind. commit_cases (Within i) s (refused_within i s) e.tick i rank (λ z. scan_within i rank _ _ (known_allowed s e.tick i _ z)))
    (λ kind. finish_cases (Within i) s (refused_within i s) e.tick i rank (λ z. scan_within i rank _ _ (known_allowed s e.tick i _ z)))
  where
    i : ℕ
    i = e.task

    small : Allowed s.m s.n i → i < 64
    small p = lt_of_lt_of_le p.below p.n_few
