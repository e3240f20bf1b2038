-- The loop of `number_of`: the word says what it says from the place on, after the value so far.
use Rattle.std.proofs.Common.{◌≡◌, ◌≤◌, drop}
use Rattle.outside.specs.Words.{number_from, number_of}
use Rattle.outside.proofs.words.number_of.Given as goal

abbrev pub invariant-loop-byte : goal.invariant-loop-byte
invariant-loop-byte l = (l.value ≤ 4294967295) × (number_from l.value (drop l.byte-index l.word) ≡ number_of l.word)
