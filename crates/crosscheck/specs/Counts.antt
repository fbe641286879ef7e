-- What a report counts and notes. Assumes nothing.
use Rattle.std.specs.Prelude.{◌≡◌, ℕ, ◌+◌, ◌-◌, ◌^◌, min, nat_lt, List, [], ◌∷◌, ◌++◌, Ok, Err, Result, if◌then◌else◌, vec_items}
use Rattle.network.specs.declared.refusals.Stop.TheVariants.{Outside, LabelsUsed, QueueFull}
use Rattle.search.specs.declared.record.Standing.{Standing}
use Rattle.search.specs.declared.record.Standing.TheVariants as standing
use Rattle.crosscheck.specs.declared.report.ByQueue.{ByQueue}
use Rattle.crosscheck.specs.declared.report.Finding.{Finding}
use Rattle.crosscheck.specs.declared.report.Report.{Report}
use Rattle.crosscheck.specs.declared.report.Shapes.{Shapes}
use Rattle.crosscheck.specs.declared.report.Standings.{Standings}
use Rattle.crosscheck.specs.declared.tasks.Difference.{Difference}

-- One more; the count stays at the largest number of 64 bits once there.
abbrev pub one_more : ℕ → ℕ
one_more n = min (n + 1) (2 ^ 64 - 1)

-- A search is counted by the queue that it runs with.
abbrev pub with_heap : ByQueue → ByQueue
with_heap q = record { heap = one_more q.heap; row = q.row }

abbrev pub with_row : ByQueue → ByQueue
with_row q = record { heap = q.heap; row = one_more q.row }

-- A search is counted by what it came to.
abbrev pub counted : Standings → Standing → Standings
counted c standing.Fresh = c
counted c standing.Open = record { found = c.found; exhausted = c.exhausted; out_of_labels = c.out_of_labels; out_of_entries = c.out_of_entries; «open» = one_more c.«open» }
counted c (standing.Found m) = record { found = one_more c.found; exhausted = c.exhausted; out_of_labels = c.out_of_labels; out_of_entries = c.out_of_entries; «open» = c.«open» }
counted c standing.Exhausted = record { found = c.found; exhausted = one_more c.exhausted; out_of_labels = c.out_of_labels; out_of_entries = c.out_of_entries; «open» = c.«open» }
counted c (standing.Stopped Outside) = c
counted c (standing.Stopped LabelsUsed) = record { found = c.found; exhausted = c.exhausted; out_of_labels = one_more c.out_of_labels; out_of_entries = c.out_of_entries; «open» = c.«open» }
counted c (standing.Stopped QueueFull) = record { found = c.found; exhausted = c.exhausted; out_of_labels = c.out_of_labels; out_of_entries = one_more c.out_of_entries; «open» = c.«open» }

-- A difference is noted with its seed.
abbrev pub noted : List Finding → ℕ → Result Unit Difference → List Finding
noted fs seed (Ok x) = fs
noted fs seed (Err what) = fs ++ (record { seed = seed; what = what } ∷ [])

-- A route is counted that is dearer for the limit.
abbrev pub dearer_by : ℕ → ℕ → Shapes → Shapes
dearer_by cost without s = record { dearer = if nat_lt without cost then one_more s.dearer else s.dearer; loops = s.loops; instant = s.instant; handovers = s.handovers; parallel = s.parallel }

-- Nothing is counted or noted.
pub record Nothing (r : Report) : Type 0 where
  pub no_network : r.networks ≡ 0
  pub no_table : r.tables ≡ 0
  pub no_search : r.searches ≡ 0
  pub no_pair : r.pairs ≡ 0
  pub no_queue : r.by_queue ≡ record { heap = 0; row = 0 }
  pub no_standing : r.standings ≡ record { found = 0; exhausted = 0; out_of_labels = 0; out_of_entries = 0; «open» = 0 }
  pub no_shape : r.shapes ≡ record { dearer = 0; loops = 0; instant = 0; handovers = 0; parallel = 0 }
  pub no_finding : vec_items r.findings ≡ []

-- No count has changed.
pub record SameCounts (r s : Report) : Type 0 where
  pub networks : s.networks ≡ r.networks
  pub tables : s.tables ≡ r.tables
  pub searches : s.searches ≡ r.searches
  pub pairs : s.pairs ≡ r.pairs
  pub by_queue : s.by_queue ≡ r.by_queue
  pub standings : s.standings ≡ r.standings
  pub shapes : s.shapes ≡ r.shapes
