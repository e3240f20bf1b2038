-- The worked cases hold by computing both sides.
use mathlib.Core.Path.{refl}
use Rattle.report.specs.Booking.{empty_tally}
use Rattle.report.specs.Ledger.{figures_of, fitting}
use Rattle.report.specs.Sheet.{middle_of, nine_tenths_of, most}
use Rattle.report.specs.Cases.{OfNone, OfThree, OfEleven, OfTheLastThree, MostOfFour, LargestFits, after_session, Twice}

pub of_none : OfNone
unfolding middle_of nine_tenths_of
of_none = ((refl, refl), (refl, refl))

pub of_three : OfThree
unfolding middle_of nine_tenths_of
of_three = (refl, refl)

pub of_eleven : OfEleven
unfolding middle_of nine_tenths_of
of_eleven = (refl, refl)

pub of_the_last_three : OfTheLastThree
unfolding middle_of nine_tenths_of
of_the_last_three = (refl, refl)

pub most_of_four : MostOfFour
unfolding figures_of most
most_of_four = refl

pub largest_fits : LargestFits
unfolding fitting
largest_fits = (refl, refl, refl, refl)

pub session_twice : Twice
unfolding empty_tally after_session
session_twice = refl
