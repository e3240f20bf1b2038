-- The worked cases hold by computing both sides.
use mathlib.Core.Path.{refl}
use Rattle.rules.specs.Ranking.{by_rank}
use Rattle.rules.specs.Setup.{setup_number, fresh, same_setup}
use Rattle.rules.specs.Events.{after}
use Rattle.rules.specs.Sum.{bound}
use Rattle.rules.specs.Lines.{event_lines}
use Rattle.rules.specs.History.{began, lasted, passed, retried}
use Rattle.rules.specs.Cases.{calls_after, WholeSession, WholeWait, WholeSum, DeferredReleaseScans, FinishScans, OneOfTwoAdmitted, CommittedEmpty, OnlyClashingCommits, RanAndDidNot, HighestOfSeveral, UsedUp, OnePeriodLater, SixBeforeSeven, FirstNumberAnswered, LowestTaskFirst, OneProcessor, LastObjectContested, TwoAdmitted, ModeTried, ModesApart, ByPriority, ByDeadline, PastTheLastTick}

pub whole_session : WholeSession
unfolding by_rank fresh event_lines
whole_session = refl

pub whole_wait : WholeWait
unfolding by_rank fresh calls_after began lasted passed retried
whole_wait = (refl, refl, refl, refl, refl)

pub whole_sum : WholeSum
unfolding fresh bound
whole_sum = refl

pub deferred_release_scans : DeferredReleaseScans
unfolding by_rank fresh event_lines
deferred_release_scans = refl

pub finish_scans : FinishScans
unfolding by_rank fresh event_lines
finish_scans = refl

pub one_of_two_admitted : OneOfTwoAdmitted
unfolding by_rank fresh event_lines
one_of_two_admitted = refl

pub committed_empty : CommittedEmpty
unfolding by_rank fresh after
committed_empty = refl

pub only_clashing_commits : OnlyClashingCommits
unfolding by_rank fresh event_lines
only_clashing_commits = refl

pub ran_and_did_not : RanAndDidNot
unfolding by_rank fresh event_lines
ran_and_did_not = refl

pub highest_of_several : HighestOfSeveral
unfolding by_rank fresh event_lines
highest_of_several = refl

pub used_up : UsedUp
unfolding by_rank fresh event_lines
used_up = refl

pub one_period_later : OnePeriodLater
unfolding by_rank fresh event_lines
one_period_later = refl

pub six_before_seven : SixBeforeSeven
unfolding by_rank fresh event_lines
six_before_seven = refl

pub first_number_answered : FirstNumberAnswered
unfolding by_rank fresh event_lines
first_number_answered = refl

pub one_processor : OneProcessor
unfolding by_rank fresh event_lines
one_processor = refl

pub last_object_contested : LastObjectContested
unfolding by_rank fresh event_lines
last_object_contested = refl

pub two_admitted : TwoAdmitted
unfolding by_rank fresh event_lines
two_admitted = refl

pub lowest_task_first : LowestTaskFirst
unfolding setup_number
lowest_task_first = (refl, refl, refl, refl, refl)

pub mode_tried : ModeTried
unfolding setup_number
mode_tried = (refl, refl, refl, refl)

pub modes_apart : ModesApart
unfolding same_setup
modes_apart = (refl, refl)

pub by_priority : ByPriority
unfolding by_rank fresh event_lines
by_priority = refl

pub by_deadline : ByDeadline
unfolding by_rank fresh event_lines
by_deadline = refl

pub past_the_last_tick : PastTheLastTick
unfolding by_rank fresh event_lines
past_the_last_tick = refl
