use Rattle.std.proofs.Common.{◌≡◌, arith, rules}
use Rattle.network.specs.Checks.{first_failing, legs_of}
use Rattle.network.specs.Legs.{leg_in_range}
use Rattle.network.proofs.Checking.{refused_by_size, refused_by_legs}
use Rattle.network.proofs.legs.Network.refusal.Goals as goal

pub returns-then-not-sizes_fit : goal.returns-then-not-sizes_fit
returns-then-not-sizes_fit c = Prim.search (rules, refused_by_size c.args.self.now c.args.table.now c.if-not-sizes_fit.ensures)

pub returns : goal.returns
returns c =
    let first : c.first_out_of_range.result ≡ first_failing (leg_in_range c.args.self.now.sites) 0 (legs_of c.args.self.now c.args.table.now) =
    Prim.grind (arith, c.first_out_of_range.ensures, c.legs_in.ensures.legs) in
    Prim.search (rules, refused_by_legs c.args.self.now c.args.table.now c.first_out_of_range.result c.if-not-sizes_fit.ensures first)
