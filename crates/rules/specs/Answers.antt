-- The paper's number and values for each case of what is said: 0 where a value does not apply.
use Rattle.std.specs.Prelude.{ℕ, Bool, true, false}
use Rattle.rules.specs.declared.Said.{Said}
use Rattle.rules.specs.declared.Said.TheVariants.{Ok, Run, Wait, No}

-- it is that of a release that waits
abbrev pub is_wait : Said → Bool
is_wait Ok = false
is_wait Run = false
is_wait (Wait b k j) = true
is_wait (No k) = false

-- the refusal number, '0: accepted'
abbrev pub number : Said → ℕ
number Ok = 0
number Run = 0
number (Wait b k j) = 0
number (No k) = k

-- 'In every answer but that of a release that waits, the contested object, the contested count and any task named with them are 0.'
abbrev pub object : Said → ℕ
object Ok = 0
object Run = 0
object (Wait b k j) = b
object (No k) = 0

abbrev pub contested : Said → ℕ
contested Ok = 0
contested Run = 0
contested (Wait b k j) = k
contested (No k) = 0

-- Request 3: 'the highest ranked executing task it clashes with'
abbrev pub whom : Said → ℕ
whom Ok = 0
whom Run = 0
whom (Wait b k j) = j
whom (No k) = 0
