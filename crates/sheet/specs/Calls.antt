-- What the calls of a reader come to. Assumes nothing.
use Rattle.std.specs.Prelude.{ℕ, List, [], ◌++◌, length, drop, is_ok, Some, None, Ok, Err, Option, Result}
use Rattle.std.specs.Result.{result_unwrap_or}
use Rattle.network.specs.declared.legs.Leg.{Leg}
use Rattle.network.specs.declared.legs.Network.{Network}
use Rattle.network.specs.declared.refusals.Refusal.{Refusal}
use Rattle.sheet.specs.declared.reader.reading.Ahead.{Ahead}
use Rattle.sheet.specs.declared.reader.Reader.{Reader}
use Rattle.sheet.specs.Text.{Row, lines}
use Rattle.sheet.specs.Words.{Kind, line_kind}
use Rattle.sheet.specs.Sheets.{Load, legs_from, loaded_from, Next, next_from, Placed, placed}

-- The lines from the reader's place on.
abbrev pub rows_left : Reader → List Row
rows_left r = lines (drop r.place r.sheet.now)

abbrev pub line_shown : Result (Option Ahead) Refusal → Result (Option (Placed Kind)) Refusal
line_shown (Err e) = Err e
line_shown (Ok None) = Ok None
line_shown (Ok (Some a)) = Ok (Some (placed a.after (line_kind a.line)))

-- The reader at another place and line.
abbrev pub moved : Reader → ℕ → ℕ → Reader
moved r at line = record r { place = at; line = line }

-- A table with these legs at its front, and its other records as they were.
abbrev pub fronted : List Leg → List Leg → List Leg
fronted ls table = ls ++ drop (length ls) table

-- What reading legs from the reader's place on comes to, with a table of this room.
abbrev pub legs_ahead : ℕ → ℕ → Reader → Load
legs_ahead n room r = legs_from n room r.place r.line [] (rows_left r)

-- What a load comes to. It starts at line 1, wherever the reader stands.
abbrev pub load_of : List Leg → Reader → Load
load_of table r = loaded_from (length table) (lines r.sheet.now)

-- What a load answers, and the network after it.
abbrev pub answered : Result Network Refusal → Result Unit Refusal
answered (Ok net) = Ok tt
answered (Err e) = Err e

abbrev pub answer_of : Load → Result Unit Refusal
answer_of o = answered o.outcome

abbrev pub replaced : Result Network Refusal → Network → Network
replaced = result_unwrap_or

-- The network after a load: refused, it stays as it was.
abbrev pub network_after : Load → Network → Network
network_after o old = replaced o.outcome old

-- The reader after a load.
abbrev pub reader_after : Load → Reader → Reader
reader_after o r = record r { place = o.at; line = o.line; loaded = is_ok o.outcome }

-- What reading a plan comes to, in a network of n sites.
abbrev pub next_of : ℕ → Reader → Next
next_of n r = next_from r.loaded n r.place r.line (rows_left r)
