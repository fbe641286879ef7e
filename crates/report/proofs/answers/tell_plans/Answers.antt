use Rattle.std.proofs.Common.{◌≡◌, ℕ, ◌++◌, length, replicate, vec_items, ap, ◌∙◌, arith}
use Rattle.std.proofs.lemmas.List.{length-replicate}
use Rattle.sheet.specs.declared.reader.Reader.{Reader}
use Rattle.report.specs.Lines.{plan_line}
use Rattle.planner.specs.Desks.{desk_of}
use Rattle.report.proofs.Listing.{two_pieces}
use Rattle.report.proofs.Telling.{line_is, ends_with_none, ends_refused, leads_on}
use Rattle.report.proofs.answers.tell_plans.Goals as goal

pub returns-in-Ok-None : goal.returns-in-Ok-None
returns-in-Ok-None c =
    let told = c.plans.invariant.told in
    let none = rw c.in-Ok-None.field-0-is at c.in-Ok-None.ensures.served in
    (told.0, told.1, ends_with_none _ _ _ _ _ _ c.plans.reader _ c.plans.invariant.loaded c.plans.invariant.same_sheet told.2 none.0)

pub returns-in-Err : goal.returns-in-Err
returns-in-Err c =
    let told = c.plans.invariant.told in
    let refused = rw c.plans.invariant.same_room at c.in-Err.ensures.served in
    (told.0, told.1, ends_refused _ _ _ _ _ _ c.plans.reader _ c.plans.invariant.loaded c.plans.invariant.same_sheet told.2 c.in-Err.why _ c.line-line.ensures (desk_of c.serve_next.new.desk c.serve_next.new.tally) refused)

pub plans-preserved : goal.plans-preserved
plans-preserved c =
    let told = c.plans.invariant.told in
    let moved = c.in-Ok-Some.ensures.reader in
    let served = rw (c.in-Ok-Some.field-0-is, c.plans.invariant.same_room) at c.in-Ok-Some.ensures.served in
    let labels : length (vec_items c.plans.desk.labels) ≡ c.plans.desk.queue.most = c.plans.desk.entries in
    let labels' : length (vec_items c.serve_next.new.desk.labels) ≡ c.serve_next.new.desk.queue.most = c.serve_next.new.desk.entries in
    let room : c.serve_next.new.desk.queue.most ≡ c.plans.desk.queue.most = c.in-Ok-Some.ensures.same_room in
    let buffer : length {A = ℕ} (replicate (length (vec_items c.serve_next.new.desk.labels)) 0) ≡ length (vec_items c.serve_next.new.desk.labels) = length-replicate _ _ in
    record {
      loaded = ap (λ (y : Reader). y.loaded) moved ∙ c.plans.invariant.loaded;
      same_sheet = ap (λ (y : Reader). y.sheet.now) moved ∙ c.plans.invariant.same_sheet;
      same_room = c.in-Ok-Some.ensures.same_room ∙ c.plans.invariant.same_room;
      told = (
        told.0 ++ plan_line c.in-Ok-Some.plan c.in-Ok-Some.verdict served.2.legs,
        two_pieces (vec_items c.args.text.now) (vec_items c.plans.text) _ told.0 _ told.1 (c.in_ok-push_plan-in-Ok-Some.ensures ∙ ap (λ ys. vec_items c.plans.text ++ ys) (ap (plan_line c.in-Ok-Some.plan c.in-Ok-Some.verdict) (c.deref.ensures.value ∙ c.in_ok-legs-in-Ok-Some.ensures) ∙ line_is _ _ _ _ _ served.2 (replicate (length (vec_items c.serve_next.new.desk.labels)) 0) (omega (arith, labels, labels', room, buffer)))),
        leads_on _ _ _ _ _ _ c.plans.reader _ c.plans.invariant.loaded c.plans.invariant.same_sheet told.2 c.in-Ok-Some.plan c.in-Ok-Some.verdict (desk_of c.serve_next.new.desk c.serve_next.new.tally) served c.serve_next.new.reader moved,
      );
    }
