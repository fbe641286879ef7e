-- What is noted of the searches and tables that were compared. Assumes nothing.
use Rattle.std.specs.Prelude.{◌≡◌, List, OkIff, OnOk, Result, vec_items}
use Rattle.network.specs.declared.estimates.Reached.{Reached}
use Rattle.crosscheck.specs.declared.report.Finding.{Finding}
use Rattle.crosscheck.specs.declared.runs.Means.{Means}
use Rattle.crosscheck.specs.declared.runs.Outcome.{Outcome}
use Rattle.crosscheck.specs.declared.tasks.Difference.{Difference}
use Rattle.crosscheck.specs.declared.tasks.Nearest.{Nearest}
use Rattle.crosscheck.specs.declared.tasks.Task.{Task}
use Rattle.crosscheck.specs.Agreement.{Agrees, TablesAgree}
use Rattle.crosscheck.specs.Counts.{noted}

-- A difference is noted, unless what the search came to agrees.
pub record Told (t : Task) (m : Means) (o : Outcome) (before after : List Finding) : Type 0 where
  pub checked : Result Unit Difference
  pub notes : after ≡ noted before t.seed checked
  pub agrees : OnOk checked (Agrees t m o)

-- What the one search and then the other came to, and then whether they came to the same.
pub record PairTold (t : Task) (m : Means) (one other : Outcome) (before after : List Finding) : Type 0 where
  pub first : List Finding
  pub second : List Finding
  pub one_told : Told t m one before first
  pub other_told : Told t m other first second
  pub checked : Result Unit Difference
  pub notes : after ≡ noted second t.seed checked
  pub same_verdict : OnOk checked (one.verdict ≡ other.verdict)
  pub same_route : OnOk checked (vec_items one.route ≡ vec_items other.route)

-- A difference is noted exactly if a record of reach is not the one that is expected.
pub record TablesTold (t : Task) (n : Nearest) (r : Reached) (before after : List Finding) : Type 0 where
  pub checked : Result Unit Difference
  pub notes : after ≡ noted before t.seed checked
  pub agrees : OkIff checked (TablesAgree n r) tt
