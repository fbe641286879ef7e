use Rattle.std.proofs.Common.{drop}
use Rattle.crosscheck.specs.Agreement.{priced}
use Rattle.crosscheck.proofs.Following.{Follows}
use Rattle.crosscheck.proofs.second.Graph.walk_figures.Given as goal

abbrev pub invariant-loop-number : goal.invariant-loop-number
invariant-loop-number l = Follows (priced l.self) l.initial.start l.goal l.numbers l.site l.figures (drop l.number-index l.numbers)
