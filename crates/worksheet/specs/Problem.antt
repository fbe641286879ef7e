-- What a search is given, what a walk comes to in it, and how much room is enough for it. Assumes nothing.
use Rattle.std.specs.Prelude.{ℕ, ◌+◌, ◌*◌, ◌≤◌, Bool, List, length, Option, nat_le}
use Rattle.network.specs.declared.estimates.Bound.{Bound}
use Rattle.network.specs.declared.legs.Leg.{Leg}
use Rattle.network.specs.declared.legs.Network.{Network}
use Rattle.network.specs.declared.plans.Plan.{Plan}
use Rattle.network.specs.Checks.{legs_of}
use Rattle.network.specs.Tariffs.{Terms}
use Rattle.network.specs.Walks.{Graph, graph}
use Rattle.worksheet.specs.declared.records.Mark.{Mark}
use Rattle.worksheet.specs.declared.records.Query.{Query}

-- The question that a plan puts.
abbrev pub asked : Plan → Query
asked p = record { start = p.start; goal = p.goal; limit = p.limit }

-- The parts of a worksheet that no call alters: the network with its leg table, what the tariff and the estimate mean, how
-- many label records and least-delay records there are, and the queue's capacity.
pub record Setting : Type 0 where
  pub net : Network
  pub table : List Leg
  pub terms : Terms
  pub at : ℕ → Option Bound
  pub labels : ℕ
  pub records : ℕ
  pub capacity : ℕ

-- What the steps of one search are given: the graph, the estimate, the question, the number of least-delay records, the
-- queue's capacity, and whether the leg table holds all legs.
pub record Problem : Type 0 where
  pub graph : Graph
  pub at : ℕ → Option Bound
  pub sites : ℕ
  pub start : ℕ
  pub goal : ℕ
  pub limit : ℕ
  pub records : ℕ
  pub capacity : ℕ
  pub whole : Bool

-- The leg table holds all legs.
abbrev pub is_whole : Network → List Leg → Bool
is_whole net table = nat_le net.legs (length table)

-- A question put to a worksheet.
abbrev pub problem : Setting → Query → Problem
problem s q = record {
  graph = graph s.terms (legs_of s.net s.table);
  at = s.at;
  sites = s.net.sites;
  start = q.start;
  goal = q.goal;
  limit = q.limit;
  records = s.records;
  capacity = s.capacity;
  whole = is_whole s.net s.table;
}

-- What the empty walk comes to.
abbrev pub nothing : Mark
nothing = record { cost = 0; delay = 0 }

-- What a walk comes to with one leg more: its cost joined with the leg's price, and the leg's delay added.
abbrev pub extend : Graph → Mark → Leg → Mark
extend g m leg = record { cost = g.join m.cost (g.price leg); delay = m.delay + g.delay leg }

-- With m legs and a limit of L, no search needs more than 1 + m × (L + 1) labels, nor more entries than that, and it ends with one
-- step more.
abbrev pub enough : ℕ → ℕ → ℕ
enough legs limit = 1 + legs * (limit + 1)

-- There are n label records, and room in the queue for n entries.
abbrev pub RoomFor : ℕ → ℕ → ℕ → Type 0
RoomFor n labels capacity = (n ≤ labels) × (n ≤ capacity)
