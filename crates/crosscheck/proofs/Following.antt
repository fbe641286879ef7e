-- Leg numbers that are followed from site to site. Assumes nothing.
use Rattle.std.proofs.Common.{◌≡◌, ℕ, ◌+◌, ◌-◌, ◌^◌, min, List}
use Rattle.network.specs.Walks.{Graph, Walk, cost_on, walk_cost, walk_delay}
use Rattle.crosscheck.specs.declared.second.Figures.{Figures}

-- The numbers that are left, followed from a site with these figures, lead where all of them lead, and come to the same.
pub record Follows (g : Graph) (start goal : ℕ) (numbers : List ℕ) (site : ℕ) (f : Figures) (rest : List ℕ) : Type 0 where
  pub leads : Walk g site rest goal → Walk g start numbers goal
  pub costs : cost_on g f.cost rest ≡ walk_cost g numbers
  pub takes : min (f.delay + walk_delay g rest) (2 ^ 64 - 1) ≡ min (walk_delay g numbers) (2 ^ 64 - 1)
