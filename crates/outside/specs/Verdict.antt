-- The numbers of the verdicts.
use Rattle.std.specs.Prelude.{ℕ, Result, Ok, Err}
use Rattle.outside.specs.declared.verdict.Verdict.{Verdict}
use Rattle.outside.specs.declared.verdict.Verdict.TheVariants.{Failed, Wrong}

abbrev pub verdict_code : Verdict → ℕ
verdict_code Failed = 1
verdict_code Wrong = 2

-- 0 where all is good
abbrev pub verdict_number : Result (Unit {0}) Verdict → ℕ
verdict_number (Ok done) = 0
verdict_number (Err verdict) = verdict_code verdict
