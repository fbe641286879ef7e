use Rattle.std.proofs.Common.{◌≡◌, ◌||◌, drop}
use Rattle.network.specs.Walks.{graph}
use Rattle.reach.specs.Passes.{Tables, passed, changes}
use Rattle.reach.proofs.tables.pass.Given as goal

-- the legs that are left give the tables and the answer
abbrev pub invariant-loop-leg : goal.invariant-loop-leg
invariant-loop-leg g l =
    let priced = graph (g.T.Tariff.terms l.tariff) l.legs in
    let now : Tables = record { costs = l.costs; delays = l.delays } in
    let first : Tables = record { costs = l.initial.costs; delays = l.initial.delays } in
    record {
      tables : passed priced (drop l.leg-index l.legs) now ≡ passed priced l.legs first;
      answer : (l.changed || changes priced (drop l.leg-index l.legs) now) ≡ changes priced l.legs first;
    }
