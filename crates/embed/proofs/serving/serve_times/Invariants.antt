use Rattle.std.proofs.Common.{◌≡◌}
use Rattle.planner.specs.Desks.{granted, room, sites}
use Rattle.embed.proofs.serving.serve_times.Given as goal

abbrev pub invariant-servings : goal.invariant-servings
invariant-servings l = record {
  labels : room l.desk ≡ granted l.request.labels;
  tables : sites l.desk ≡ 1024;
}
