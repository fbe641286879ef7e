use Rattle.reach.proofs.Settling.{turn_starts, turn_keeps, turn_falls, turn_ends}
use Rattle.reach.proofs.tables.settle.Goals as goal

pub passes-init : goal.passes-init
passes-init g c =
    turn_starts _ _ _ c.args.goal (g.met.T.Tariff.lawful c.args.tariff.now) c.requires.few_sites c.requires.legs_in_range c.fill.new.self c.fill.ensures.len c.requires.goal_is_site _ _
    c.requires.equal_length (c.fill.ensures.after (λ y e. e)) (c.fill-2.ensures.after (λ y e. e))

pub passes-smaller : goal.passes-smaller
passes-smaller g c =
    turn_falls _ _ _ c.args.goal (g.met.T.Tariff.lawful c.args.tariff.now) c.requires.few_sites c.requires.legs_in_range c.fill.new.self c.fill.ensures.len _ _ c.passes.invariant
    c.passes-test.ensures.after c.passes-test.ensures.value

pub passes-preserved : goal.passes-preserved
passes-preserved g c =
    turn_keeps _ _ _ c.args.goal (g.met.T.Tariff.lawful c.args.tariff.now) c.requires.few_sites c.requires.legs_in_range c.fill.new.self c.fill.ensures.len _ _ c.passes.invariant
    c.passes-test.ensures.after

pub returns : goal.returns
returns g c =
    turn_ends _ _ _ c.args.goal (g.met.T.Tariff.lawful c.args.tariff.now) c.requires.few_sites c.requires.legs_in_range c.fill.new.self c.fill.ensures.len _ _ c.passes.invariant
    c.passes-test.ensures.after c.passes-test.ensures.value
