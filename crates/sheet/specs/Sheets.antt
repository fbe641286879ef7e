-- What loading and reading plans make of a sheet's lines. Assumes nothing.
use Rattle.std.specs.Prelude.{ℕ, ◌+◌, ◌-◌, ◌^◌, min, Bool, ◌&&◌, List, [], ◌∷◌, ◌++◌, length, Some, None, Ok, Err, Option, Result, nat_lt, if◌then◌else◌, ok_or}
use Rattle.network.specs.declared.legs.Leg.{Leg}
use Rattle.network.specs.declared.plans.Plan.{Plan}
use Rattle.network.specs.declared.legs.Network.{Network}
use Rattle.network.specs.declared.refusals.Refusal.{Refusal}
use Rattle.network.specs.declared.refusals.Refusal.TheVariants.{Unended, UnknownWord, OutOfPlace, TableFull}
use Rattle.sheet.specs.Text.{Row, fields}
use Rattle.sheet.specs.Words.{Kind, network, leg, plan, kind_by_word}
use Rattle.sheet.specs.Entries.{leg_entry, plan_entry, network_entry}

-- What there is, or a refusal.
abbrev pub or_refuse : {X : Type 0} → Refusal → Option X → Result X Refusal
or_refuse e o = ok_or o e

-- The kind of a line, or its first refusal: it has no end byte, or its word is none of the three.
abbrev pub row_kind : ℕ → Row → Result Kind Refusal
row_kind line r = if r.ended then or_refuse (UnknownWord line) (kind_by_word r.bytes) else Err (Unended line)

-- Something that a line states, and the place after that line.
pub record Placed (X : Type 0) : Type 0 where
  pub what : X
  pub after : ℕ

abbrev pub placed : {X : Type 0} → ℕ → X → Placed X
placed k x = record { what = x; after = k }

-- The place after an ended line that begins at a place.
abbrev pub past : ℕ → Row → ℕ
past at r = at + length r.bytes + 1

abbrev pub some_placed : {X : Type 0} → ℕ → Result X Refusal → Result (Option (Placed X)) Refusal
some_placed k (Err e) = Err e
some_placed k (Ok x) = Ok (Some (placed k x))

-- The line at a place by its kind, or none where there is no line left.
abbrev pub line_ahead : ℕ → ℕ → List Row → Result (Option (Placed Kind)) Refusal
line_ahead line at [] = Ok None
line_ahead line at (r ∷ rs) = some_placed (past at r) (row_kind line r)

-- What follows where nothing is refused.
abbrev pub and_then : {X Y : Type 0} → Result X Refusal → (X → Result Y Refusal) → Result Y Refusal
and_then (Err e) f = Err e
and_then (Ok x) f = f x

-- Lines, from 1, and plans are counted up to the largest number of 64 bits, which no sheet in memory comes to.
abbrev pub one_more : ℕ → ℕ
one_more k = min (k + 1) (2 ^ 64 - 1)

-- The first line states the number of sites; a line of another kind is out of place.
abbrev pub sites_stated : ℕ → Kind → Result ℕ Refusal
sites_stated line (network t) = network_entry line (fields t)
sites_stated line k = Err (OutOfPlace line)

-- A leg in range is refused where there is no room for it.
abbrev pub with_room : ℕ → Bool → Result Leg Refusal → Result (Option Leg) Refusal
with_room line free (Err e) = Err e
with_room line free (Ok l) = if free then Ok (Some l) else Err (TableFull line)

-- A later line states a leg, if there is room for it, or none where the plans begin; a second network line is out of place.
abbrev pub leg_stated : ℕ → ℕ → Bool → Kind → Result (Option Leg) Refusal
leg_stated n line free (network t) = Err (OutOfPlace line)
leg_stated n line free (leg t) = with_room line free (leg_entry n line (fields t))
leg_stated n line free (plan t) = Ok None

-- A line states a plan, after an accepted load; a line of another kind is out of place.
abbrev pub plan_stated : Bool → ℕ → ℕ → Kind → Result Plan Refusal
plan_stated loaded n line (plan t) = if loaded then plan_entry n line (fields t) else Err (OutOfPlace line)
plan_stated loaded n line k = Err (OutOfPlace line)

-- What a load comes to: the network or the refusal, the legs that it accepted, and the place and line where it then stands.
pub record Load : Type 0 where
  pub outcome : Result Network Refusal
  pub legs : List Leg
  pub at : ℕ
  pub line : ℕ

abbrev pub load : Result Network Refusal → List Leg → ℕ → ℕ → Load
load r ls at line = record { outcome = r; legs = ls; at = at; line = line }

abbrev pub sized : ℕ → List Leg → Network
sized n ls = record { sites = n; legs = length ls }

-- There is room for one more leg in the table, and fewer than 4,096 stand.
abbrev pub has_room : ℕ → ℕ → Bool
has_room room m = nat_lt m room && nat_lt m 4096

-- How reading goes on: with one more leg, at the end of the legs, or by a refusal.
abbrev pub by_leg : Result (Option Leg) Refusal → (Leg → Load) → Load → (Refusal → Load) → Load
by_leg (Err e) go done refused = refused e
by_leg (Ok None) go done refused = done
by_leg (Ok (Some l)) go done refused = go l

-- The legs of the lines that are left, after the legs ls.
unfoldable pub legs_from : ℕ → ℕ → ℕ → ℕ → List Leg → List Row → Load
legs_from n room at line ls [] = load (Ok (sized n ls)) ls at line
legs_from n room at line ls (r ∷ rs) =
    by_leg (and_then (row_kind line r) (leg_stated n line (has_room room (length ls))))
    (λ l. legs_from n room (past at r) (one_more line) (ls ++ l ∷ []) rs)
    (load (Ok (sized n ls)) ls at line)
    (λ e. load (Err e) ls at line)

-- The first line is refused, or the legs follow.
abbrev pub by_sites : Result ℕ Refusal → (ℕ → Load) → Load
by_sites (Err e) go = load (Err e) [] 0 1
by_sites (Ok n) go = go n

-- What a load of these lines comes to, with a table of this room. A sheet with no line is refused as line 1.
unfoldable pub loaded_from : ℕ → List Row → Load
loaded_from room [] = load (Err (OutOfPlace 1)) [] 0 1
loaded_from room (r ∷ rs) = by_sites (and_then (row_kind 1 r) (sites_stated 1)) (λ n. legs_from n room (past 0 r) (one_more 1) [] rs)

-- What reading a plan answers, and the place and line where the reader then stands.
pub record Next : Type 0 where
  pub answer : Result (Option Plan) Refusal
  pub at : ℕ
  pub line : ℕ

abbrev pub next : Result (Option Plan) Refusal → ℕ → ℕ → Next
next r at line = record { answer = r; at = at; line = line }

-- A plan moves the reader on; a refusal leaves it.
abbrev pub by_plan : ℕ → ℕ → ℕ → Result Plan Refusal → Next
by_plan at line after (Err e) = next (Err e) at line
by_plan at line after (Ok p) = next (Ok (Some p)) after (one_more line)

-- At the end of the sheet there is no plan, after an accepted load. A refused reading stays at its line.
abbrev pub next_from : Bool → ℕ → ℕ → ℕ → List Row → Next
next_from loaded n at line [] = next (if loaded then Ok None else Err (OutOfPlace line)) at line
next_from loaded n at line (r ∷ rs) = by_plan at line (past at r) (and_then (row_kind line r) (plan_stated loaded n line))
