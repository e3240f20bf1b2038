-- The scan: waiting tasks are looked at once each, highest rank first, and admitted where nothing stands against it.
use Rattle.std.specs.Prelude.{ℕ, zero, suc, ◌+◌, Bool, cond, not, ◌&&◌, eqb, leb, set, replicate}
use Rattle.rules.specs.declared.State.{State}
use Rattle.rules.specs.declared.State.TheVariants.{Executing}
use Rattle.rules.specs.declared.Session.{Session}
use Rattle.rules.specs.declared.Admission.{Admission}
use Rattle.rules.specs.declared.Admissions.{Admissions}
use Rattle.rules.specs.Ranking.{Ranking, foremost}
use Rattle.rules.specs.Tasks.{task_at, state_at, wait_of, waiting, sets_at, in_state, with_task}
use Rattle.rules.specs.Room.{rank_at, room}
use Rattle.rules.specs.Contest.{blocked}

-- the waiting task that is next in rank, of those whose rank is not below from
unfoldable pub next : Ranking → Session → ℕ → ℕ
unfolding foremost
next rank s from = foremost s.n (λ j. waiting s j && leb from (rank_at rank s j)) (rank_at rank s)

-- 'One that clashes with no transaction executing at that moment, and has room at that moment, becomes executing.'
unfoldable pub admissible : Ranking → Session → ℕ → Bool
unfolding blocked room
admissible rank s i = not (blocked s (sets_at s i)) && room rank s i

-- how far a scan has come: the admissions so far, and the session
pub record Scanned : Type 0 where
  pub admitted : Admissions
  pub session : Session

-- what stands in the unused places of a list
abbrev pub no_admission : Admission
no_admission = record { task = 0; clashes = 0; retries = 0 }

-- no admission
abbrev pub none : Admissions
none = record { count = 0; list = replicate 16 no_admission }

-- a task that is admitted out of this state, with its clash count and its retry count
abbrev pub admission : ℕ → State → Admission
admission i state = record { task = i; clashes = (wait_of state).clashes; retries = (wait_of state).retries }

-- 'The answer lists the admitted tasks in that order, each with its retry count', and since request 2 with both counts.
abbrev pub listed : Admissions → Admission → Admissions
listed a new = record { count = a.count + 1; list = set a.list a.count new }

abbrev pub admit : Scanned → ℕ → Scanned
admit x i = record {
  admitted = listed x.admitted (admission i (state_at x.session i));
  session = with_task x.session i (in_state (task_at x.session i) Executing);
}

-- 'Ones admitted earlier in the scan count as executing': task i is tried against the session as the scan has made it
abbrev pub tried : Ranking → Scanned → ℕ → Scanned
tried rank x i = cond (admissible rank x.session i) (admit x i) x

-- 'Waiting tasks are looked at once each, highest rank first': at most k of them, from this rank on
unfoldable pub look : Ranking → ℕ → ℕ → Scanned → Scanned
unfolding next admissible
look rank zero from x = x
look rank (suc k) from x =
    let i = next rank x.session from in
    let rest = look rank k (rank_at rank x.session i + 1) (tried rank x i) in
    cond (eqb i 64) x rest

-- 'Scan.' There are at most n to look at.
unfoldable pub scan : Ranking → Session → Scanned
unfolding look
scan rank s = look rank s.n 0 (record { admitted = none; session = s })
