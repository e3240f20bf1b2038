-- `manager::events::release` meets its contract: what is changed before the scan leaves m as it was.
use mathlib.Core.Path.{sym}
use Rattle.manager.proofs.Laws.Numbers.{release_passed}
use Rattle.manager.proofs.Laws.Events.{begun_m, sets_m, waits_m}
use Rattle.manager.proofs.events.release.Goals as goal

pub scan-requires : goal.scan-requires
scan-requires c =
    let a = c.args in
    let p = release_passed a.words.now a.tick a.task (sym c.in_default.ensures.is) in
    rw (c.wait.ensures, waits_m _ a.tick _, c.put_sets.ensures, sets_m _ _ a.reads a.writes, c.take_release.ensures, begun_m a.words.now a.tick _) p.m_high
