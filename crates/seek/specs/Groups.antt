-- One group of two transactions.
use Rattle.std.specs.Prelude.{ℕ, ◌+◌, List, Bool, get_or}
use Rattle.objects.specs.Objects.{contested_word, group_contested}
use Rattle.machine.specs.Places.{set_place}
use Rattle.seek.specs.declared.clash.Group.{Group}

-- group g of the sets of tasks i and j
abbrev pub group_in : List ℕ → ℕ → ℕ → ℕ → Group
group_in w i j g = record {
  reads = get_or w (set_place i g) 0;
  writes = get_or w (set_place i g + 4) 0;
  other_reads = get_or w (set_place j g) 0;
  other_writes = get_or w (set_place j g + 4) 0;
}

-- the objects of one group on which its two transactions clash
abbrev pub word_in : Group → ℕ
word_in x = contested_word x.reads x.writes x.other_reads x.other_writes

-- there are some
abbrev pub group_clashes : Group → Bool
group_clashes x = group_contested x.reads x.writes x.other_reads x.other_writes
