use Rattle.std.proofs.Common.{◌≡◌, ◌++◌, length, min, replicate, take, drop, vec_items, rules, ap, ◌∙◌}
use Rattle.search.specs.Calls.{tracing}
use Rattle.planner.specs.Desks.{legs_by, traced_legs}
use Rattle.planner.proofs.Routes.{cut_to, legs_at_less}
use Rattle.planner.proofs.desk.Desk.route.Goals as goal

pub returns : goal.returns
returns c =
    let d = c.args.self.now in
    let traced_in = tracing c.args.network.now c.args.table.now d.search in
    let zeros : c.in_ok-legs.legs.items ≡ replicate (min c.in-Found.found (length (vec_items d.labels))) 0 = search rules in
    let after = c.trace-traced.new.buffer in
    let before = c.in_ok-legs.legs in
    let legs : c.truncate.new.self.items ≡ legs_by c.trace-traced.result after =
    c.truncate.ensures.items ∙ ap (λ k. take k (take before.len (after ++ drop (length after) before.items))) c.unwrap_or.ensures ∙ cut_to c.trace-traced.result after before.items before.len (search rules) in
    legs
    ∙ ap traced_legs (c.trace-traced.ensures ∙ ap (λ labels. traced_in labels c.deref_mut.result.now) c.deref.ensures.value ∙ ap (λ buffer. traced_in (vec_items d.labels) buffer) (c.deref_mut.ensures.value ∙ zeros))
    ∙ legs_at_less c.args.network.now c.args.table.now d c.in-Found.found c.in-Found.field-1 c.in-Found.is
