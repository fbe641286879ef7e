use Rattle.std.proofs.Common.{ℕ, length, ap, ◌∙◌}
use Rattle.std.proofs.lemmas.List.{length-replicate}
use Rattle.planner.specs.Serves.{Desk}
use Rattle.planner.specs.Tallies.{whole}
use Rattle.embed.proofs.serving.serve_times.Goals as goal

pub servings-init : goal.servings-init
servings-init c = record {
  labels = c.in_ok-desk.ensures.room;
  tables = ap (λ (d : Desk). length d.costs) (c.in_ok-desk.ensures.made whole) ∙ length-replicate {A = ℕ} 1024 0;
}
