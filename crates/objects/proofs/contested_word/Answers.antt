-- `objects::contested_word` meets its contract: the machine's operations on the four words give the contested word, bit by bit. Assumes nothing.
use Rattle.objects.proofs.Laws.Clash.{contested_machine}
use Rattle.objects.proofs.contested_word.Goals as goal

pub returns : goal.returns
returns c =
    let a = c.args in
    let f = c.ranges in
    contested_machine a.reads a.writes a.other_reads a.other_writes f.reads.fits f.writes.fits f.other_reads.fits f.other_writes.fits
