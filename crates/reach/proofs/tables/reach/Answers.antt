use Rattle.std.proofs.Common.{sym, length-take-le, rules}
use Rattle.reach.proofs.Refusing.{reach_accepted}
use Rattle.reach.proofs.Wholes.{parts_long, parts_few, parts_goal, parts_ranges, tables_written, tables_least, tables_lawful}
use Rattle.reach.proofs.tables.reach.Goals as goal

pub slice_bounds-settle-end : goal.slice_bounds-settle-end
slice_bounds-settle-end g c = (reach_accepted _ _ _ _ _ c.in_ok-check.ensures).costs_hold

pub slice_bounds-settle-end-3 : goal.slice_bounds-settle-end-3
slice_bounds-settle-end-3 g c = (reach_accepted _ _ _ _ _ c.in_ok-check.ensures).delays_hold

pub slice_bounds-settle-end-2 : goal.slice_bounds-settle-end-2
slice_bounds-settle-end-2 g c = sym (length-take-le _ _ (reach_accepted _ _ _ _ _ c.in_ok-check.ensures).costs_hold)

pub slice_bounds-settle-end-4 : goal.slice_bounds-settle-end-4
slice_bounds-settle-end-4 g c = sym (length-take-le _ _ (reach_accepted _ _ _ _ _ c.in_ok-check.ensures).delays_hold)

pub settle-requires : goal.settle-requires
settle-requires g c =
    let a = reach_accepted _ _ _ _ _ c.in_ok-check.ensures in
    record { equal_length = parts_long _ _ _ _ _ a; few_sites = parts_few _ _ _ _ _ a; goal_is_site = parts_goal _ _ _ _ _ a; legs_in_range = parts_ranges _ _ _ _ _ a c.legs_in-legs.result.now (search (rules, c.legs_in-legs.ensures.legs)) }

pub returns : goal.returns
returns g c =
    let a = reach_accepted _ _ _ _ _ c.in_ok-check.ensures in
    let s = c.settle in
    let e = c.legs_in-legs.ensures.legs in
    record {
      answer = c.in_ok-check.ensures;
      tables = tables_written _ _ _ _ _ a _ e _ _ _ s.auto.costs s.auto.delays s.ensures;
      estimate_is_least = tables_least _ _ _ _ _ a _ e _ _ _ s.auto.costs s.auto.delays s.ensures;
      estimate_is_lawful = tables_lawful _ _ _ _ _ a _ e _ _ _ s.auto.costs s.auto.delays s.ensures (g.met.T.Tariff.lawful c.args.tariff.now);
    }
