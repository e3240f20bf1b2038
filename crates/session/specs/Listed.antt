-- The admissions that stand in the machine's list, as the answer has them.
use Rattle.std.specs.Prelude.{ℕ, zero, suc, ◌+◌, ◌*◌, ◌%◌, min, List, get_or, set, replicate}
use Rattle.rules.specs.declared.Admission.{Admission}
use Rattle.rules.specs.declared.Admissions.{Admissions}
use Rattle.rules.specs.Scan.{no_admission}

-- the admission at place k
abbrev pub admission_in : List ℕ → ℕ → Admission
admission_in list k = record {
  task = get_or list (k * 4) 0 % 256;
  clashes = get_or list (k * 4 + 1) 0 % 4294967296;
  retries = get_or list (k * 4 + 2) 0 % 4294967296;
}

-- the first k of them, and no admission at the other places
unfoldable pub first_of : List ℕ → ℕ → List Admission
first_of list zero = replicate 16 no_admission
first_of list (suc k) = set (first_of list k) k (admission_in list k)

-- so many of them
abbrev pub admissions_in : List ℕ → ℕ → Admissions
admissions_in list count = record { count = count; list = first_of list (min count 16) }
