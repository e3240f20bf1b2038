-- Rank: one number for each task, smaller is higher. Whatever goes by rank takes the ranking as an argument; this page has the rank that a job gets at its arrival, in each mode,
-- the ranking by it, what is asked of any ranking, and the highest ranked of some.
use Rattle.std.specs.Prelude.{ℕ, zero, suc, ◌+◌, ◌-◌, ◌*◌, ◌≤◌, ◌<◌, ◌≡◌, ◌⊎◌, ◌↔◌, Bool, cond, ◌&&◌, ◌||◌, eqb, leb, ltb}
use Rattle.rules.specs.declared.Terms.{Terms}
use Rattle.rules.specs.declared.Task.{Task}

-- A ranking gives a task, with its number, its rank.
abbrev pub Ranking : Type 0
Ranking = Task → ℕ → ℕ

-- ---- the two modes, of a job of task i at terms t that arrived at tick a, and one of task j at terms u that arrived at tick b

-- mode 0: 'priority, larger is higher', 'Of two tasks with equal priority the lower number ranks higher, so the ranking is strict.'
abbrev pub HigherPriority : Terms → ℕ → Terms → ℕ → Type 0
HigherPriority t i u j = (u.priority < t.priority) ⊎ ((t.priority ≡ u.priority) × (i < j))

-- Request 5: 'A job's deadline is its arrival tick plus its period.'
abbrev pub deadline : Terms → ℕ → ℕ
deadline t a = a + t.period

-- mode 1: 'The earlier deadline ranks higher, then the lower task number.'
abbrev pub EarlierDeadline : Terms → ℕ → ℕ → Terms → ℕ → ℕ → Type 0
EarlierDeadline t a i u b j = (deadline t a < deadline u b) ⊎ ((deadline t a ≡ deadline u b) × (i < j))

-- '0 for fixed priority and 1 for deadline'
abbrev pub by_deadline : ℕ → Bool
by_deadline mode = eqb mode 1

-- '14, unknown mode'
abbrev pub known_mode : ℕ → Bool
known_mode mode = leb mode 1

-- ---- the rank of a job

-- what a job ranks by, smaller is higher: it gets it at its arrival, in this mode
unfoldable pub job_rank : ℕ → Terms → ℕ → ℕ
job_rank mode t a = cond (by_deadline mode) (a + t.period) (65535 - t.priority)

-- The ranking, in both modes: by the rank in the job's record, and then by the task's number, as one number.
unfoldable pub by_rank : Ranking
by_rank t i = t.rank * 64 + i

-- a task's record has the rank of a job that arrived at tick a
abbrev pub Ranked : ℕ → Task → ℕ → Type 0
Ranked mode t a = t.rank ≡ job_rank mode t.terms a

-- that the number says the same as the wording, in each mode, of tasks that a session can hold
abbrev pub RankingAgrees : Type 0
RankingAgrees =
    (mode : ℕ) (t u : Task) (a b i j : ℕ) → Ranked mode t a → Ranked mode u b → t.terms.priority ≤ 65535 → u.terms.priority ≤ 65535 → i < 64 → j < 64
    → (mode ≡ 0 → HigherPriority t.terms i u.terms j ↔ (by_rank t i < by_rank u j))
    × (mode ≡ 1 → EarlierDeadline t.terms a i u.terms b j ↔ (by_rank t i < by_rank u j))

-- ---- what is asked of a ranking

-- 'so the ranking is strict': no two tasks have one rank
abbrev pub Strict : Ranking → Type 0
Strict rank = (t u : Task) (i j : ℕ) → i < 64 → j < 64 → rank t i ≡ rank u j → i ≡ j

-- A rank stays while the job is present: it goes by the terms, the last arrival and the rank in the record alone.
abbrev pub Stays : Ranking → Type 0
Stays rank = (t u : Task) (i : ℕ) → t.terms ≡ u.terms → t.arrival ≡ u.arrival → t.rank ≡ u.rank → rank t i ≡ rank u i

-- the ranking by the record is such a one
abbrev pub StrictAndStays : Ranking → Type 0
StrictAndStays rank = Strict rank × Stays rank

-- ---- the highest ranked

-- of the numbers below k that have f, the one with the least r; 64, which is no task, where none has
unfoldable pub foremost : ℕ → (ℕ → Bool) → (ℕ → ℕ) → ℕ
foremost zero f r = 64
foremost (suc k) f r = cond (f k && (eqb (foremost k f r) 64 || ltb (r k) (r (foremost k f r)))) k (foremost k f r)
