-- What the two rates of the second implementation mean: the terms of the two tariffs. Assumes nothing.
use Rattle.network.specs.Tariffs.{Terms, total_fee, worst_grade}
use Rattle.crosscheck.specs.declared.second.Rate.{Rate}
use Rattle.crosscheck.specs.declared.second.Rate.TheVariants.{Fees, Grades}

abbrev pub terms_of : Rate → Terms
terms_of Fees = total_fee
terms_of Grades = worst_grade
