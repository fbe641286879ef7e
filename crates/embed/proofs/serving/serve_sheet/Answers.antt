use Rattle.std.proofs.Common.{refl, rules}
use Rattle.embed.proofs.Loading.{ends_at_load, goes_on}
use Rattle.embed.proofs.serving.serve_sheet.Goals as goal

pub returns-in-Err : goal.returns-in-Err
returns-in-Err c = ends_at_load _ _ _ _ c.default-table.result c.new-reader.result c.new-reader.ensures (search rules) c.in-Err.why c.in-Err.ensures.answer _ c.into.ensures refl

pub returns : goal.returns
returns c =
    let load = c.load.ensures in
    goes_on _ _ _ _ c.default-table.result c.new-reader.result c.new-reader.ensures (search rules) _ c.in_default.not-Err load.answer c.default-network.result _ load.network _ load.legs _ c.serve_times.ensures.told c.serve_times.ensures.kept _ c.unwrap_or_else.ensures
