use Rattle.std.proofs.Common.{◌≡◌, ℕ, ◌-◌, true, List, ◌++◌, length, vec_items}
use Rattle.network.specs.Tariffs.{total_fee}
use Rattle.planner.specs.Serves.{ground}
use Rattle.planner.specs.Desks.{desk_of, room}
use Rattle.report.proofs.Telling.{Leads}
use Rattle.report.proofs.answers.tell_plans.Given as goal

abbrev pub invariant-plans : goal.invariant-plans
invariant-plans l = record {
  loaded : l.reader.loaded ≡ true;
  same_sheet : l.reader.sheet.now ≡ l.initial.reader.sheet.now;
  same_room : room l.desk ≡ room l.initial.desk;
  told : (written : List ℕ) × (vec_items l.text ≡ vec_items l.initial.text ++ written)
      × Leads (ground l.network l.table total_fee (room l.initial.desk)) l.initial.reader.sheet.now l.initial.reader.place l.initial.reader.line (desk_of l.initial.desk l.initial.tally) written l.reader.place l.reader.line (desk_of l.desk l.tally);
}

abbrev pub decreases-plans : goal.decreases-plans
decreases-plans l = length l.reader.sheet.now - l.reader.place
