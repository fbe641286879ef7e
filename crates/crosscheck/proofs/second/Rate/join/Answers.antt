use Rattle.std.proofs.Common.{sym, ap, ◌∙◌}
use Rattle.crosscheck.specs.Rates.{terms_of}
use Rattle.crosscheck.proofs.second.Rate.join.Goals as goal

pub returns-in-Grades : goal.returns-in-Grades
returns-in-Grades c = c.max.ensures ∙ ap (λ rate. (terms_of rate).join c.args.a c.args.b) (sym c.in-Grades.is)
