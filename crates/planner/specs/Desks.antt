-- What stands on a desk. Assumes nothing.
use Rattle.std.specs.Prelude.{◌≡◌, ℕ, List, [], length, take, replicate, min, None, Ok, Err, vec_items, Result}
use Rattle.network.specs.declared.legs.Leg.{Leg}
use Rattle.network.specs.declared.legs.Network.{Network}
use Rattle.network.specs.declared.refusals.Refusal.{Refusal}
use Rattle.queue.specs.Bag.{bagged}
use Rattle.search.specs.declared.record.Search.{Search}
use Rattle.worksheet.specs.declared.records.Label.{Label}
use Rattle.search.specs.Record.{fresh}
use Rattle.search.specs.Calls.{worksheet, Traced, tracing, tables_fit}
use Rattle.planner.specs.declared.desk.Desk as own
use Rattle.planner.specs.declared.tally.Tally.{Tally}
use Rattle.planner.specs.Serves.{Desk, desk}

-- What stands on a desk, with a tally beside it.
abbrev pub desk_of : own.Desk → Tally → Desk
desk_of d t = desk (vec_items d.costs) (vec_items d.delays) (worksheet d.search (vec_items d.labels) (vec_items d.least) (bagged (vec_items d.queue.items))) t

-- A desk as it is made: zeros for so many sites, blank label records, an empty queue, and a fresh search record.
abbrev pub blank_label : Label
blank_label = record { mark = record { cost = 0; delay = 0 }; site = 0; from = None }

abbrev pub made : ℕ → ℕ → Tally → Desk
made sites labels t = desk (replicate sites 0) (replicate sites 0) (worksheet fresh (replicate labels blank_label) (replicate sites 0) []) t

-- How many label records a desk gets where so many are asked for: no more than one beyond what a search takes.
abbrev pub granted : ℕ → ℕ
granted asked = min asked 65537

-- That is enough: a search finds its tables fit, with a queue for as many entries, exactly where it would with all that are asked for.
abbrev pub GrantedIsEnough : ℕ → Type 0
GrantedIsEnough asked = (sites records : ℕ) → tables_fit sites (granted asked) records (granted asked) ≡ tables_fit sites asked records asked

-- How many entries it has room for; it has as many label records.
abbrev pub room : own.Desk → ℕ
room d = d.queue.most

-- How many sites it has tables for.
abbrev pub sites : own.Desk → ℕ
sites d = length (vec_items d.costs)

-- The record of its search.
abbrev pub search_at : own.Desk → Search
search_at d = d.search

-- The legs that trace answered: the front of its buffer, and none where it was refused.
abbrev pub legs_by : Result ℕ Refusal → List ℕ → List ℕ
legs_by (Ok n) buffer = take n buffer
legs_by (Err why) buffer = []

abbrev pub traced_legs : Traced → List ℕ
traced_legs t = legs_by t.answer t.buffer

-- The legs that trace finds at the desk, in a buffer of as many records as there are labels.
abbrev pub legs_at : Network → List Leg → own.Desk → List ℕ
legs_at net table d = traced_legs (tracing net table d.search (vec_items d.labels) (replicate (length (vec_items d.labels)) 0))
