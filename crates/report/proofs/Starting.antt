-- A sheet from its first line on: its load, and the text that answers it. Assumes nothing.
use Rattle.std.proofs.Common.{◌≡◌, ℕ, min, List, [], ◌++◌, length, take, replicate, Err, Option, Result, sym, ap, ◌∙◌, subst}
use Rattle.std.proofs.Math.Nat.{min_comm}
use Rattle.std.proofs.lemmas.List.{length-replicate, take_min}
use Rattle.network.specs.declared.legs.Leg.{Leg}
use Rattle.network.specs.declared.legs.Network.{Network}
use Rattle.network.specs.declared.refusals.Refusal.{Refusal}
use Rattle.sheet.specs.declared.reader.Reader.{Reader}
use Rattle.sheet.specs.Start.{fresh}
use Rattle.sheet.specs.Text.{lines}
use Rattle.sheet.specs.Sheets.{Load}
use Rattle.sheet.specs.Calls.{load_of, answer_of, network_after, reader_after, fronted}
use Rattle.sheet.proofs.Opening as opening
use Rattle.network.specs.Tariffs.{total_fee}
use Rattle.network.specs.Walks.{no_leg}
use Rattle.planner.specs.declared.tally.Tally.{Tally}
use Rattle.planner.specs.Serves.{ground, Desk}
use Rattle.planner.specs.Desks.{granted, made}
use Rattle.report.specs.declared.lines.Refused.{Refused}
use Rattle.report.specs.Lines.{header, end_line}
use Rattle.report.specs.declared.answers.Room.{Room}
use Rattle.report.proofs.Carrying.{carries_at, load_carries}
use Rattle.report.specs.Reports.{met, load_of_sheet, table_of_sheet, PlansTold, SheetTold, load_refused, loaded, Reports}

-- A reader as it is made, and a table of blank legs.
module _ (m : Room) (sheet : List ℕ) (tally : Tally) (table : List Leg) (r : Reader) (fresh_is : fresh sheet r) (blank : table ≡ replicate m.legs no_leg) where
  room : length table ≡ m.legs
  room = ap length blank ∙ length-replicate m.legs no_leg

  load_is : load_of table r ≡ load_of_sheet m.legs sheet
  load_is = opening.load_is sheet m.legs table r fresh_is room

  -- The load is refused at the line k.
  pub ends_at_load : (why : Refusal) (r' : Reader) (k : ℕ) → Err why ≡ answer_of (load_of table r) → r' ≡ reader_after (load_of table r) r → k ≡ r'.line → SheetTold m sheet tally [] (met why k)
  ends_at_load why r' k e n l =
      let refused = opening.refused sheet m.legs table r fresh_is room why e in
      let at : k ≡ (load_of_sheet m.legs sheet).line = l ∙ ap (λ (y : Reader). y.line) n ∙ ap (λ (o : Load). o.line) load_is in
      subst (λ i. SheetTold m sheet tally [] (met why i)) (sym at) (load_refused why refused (carries_at (load_of_sheet m.legs sheet).line _ why refused (load_carries m.legs (lines sheet))))

  -- It is accepted, and the plans follow at a desk as it is made.
  pub goes_on : (a : Result Unit Refusal) → ((why : Refusal) → a ≡ Err why → ⊥) → a ≡ answer_of (load_of table r)
      → (old net : Network) → net ≡ network_after (load_of table r) old → (table' : List Leg) → table' ≡ fronted (load_of table r).legs table → (r' : Reader) → r' ≡ reader_after (load_of table r) r
      → (labels : ℕ) → labels ≡ granted m.labels → (d : Desk) → d ≡ made m.sites (granted m.labels) tally
      → (more : List ℕ) (end : Option Refused) → PlansTold (ground net table' total_fee labels) r'.sheet.now r'.place r'.line d more end → SheetTold m sheet tally more end
  goes_on a ok e old net n table' t r' m' labels l d desk_is more end told =
      let outcome = opening.accepted sheet m.legs table r fresh_is room a ok e old net n in
      let legs : table' ≡ table_of_sheet m.legs sheet = opening.legs_loaded sheet m.legs table r fresh_is room table' t ∙ ap (fronted (load_of_sheet m.legs sheet).legs) blank in
      let text : r'.sheet.now ≡ sheet = ap (λ (y : Reader). y.sheet.now) m' ∙ fresh_is.0 in
      let at : r'.place ≡ (load_of_sheet m.legs sheet).at = ap (λ (y : Reader). y.place) m' ∙ ap (λ (o : Load). o.at) load_is in
      let line : r'.line ≡ (load_of_sheet m.legs sheet).line = ap (λ (y : Reader). y.line) m' ∙ ap (λ (o : Load). o.line) load_is in
      loaded net outcome more end (rw (desk_is, legs, text, at, line, l) at told)

-- The first bytes of the input, as many as there are.
pub first_bytes : (input : List ℕ) (n m k : ℕ) → k ≡ min (length input) m → n ≡ k → take n input ≡ take m input
first_bytes input n m k e f = ap (λ i. take i input) (f ∙ e ∙ min_comm (length input) m) ∙ take_min m input

-- The pieces of the text.
pub reports : (m : Room) (sheet : List ℕ) (tally : Tally) (a b c : List ℕ) (end : Option Refused) → a ≡ header → (plans : List ℕ) → b ≡ a ++ plans → SheetTold m sheet tally plans end → c ≡ b ++ end_line end → Reports m sheet tally c end
reports m sheet tally a b c end e plans f told g = record {
  plans = plans;
  told = told;
  lines_are = g ∙ ap (λ (xs : List ℕ). xs ++ end_line end) (f ∙ ap (λ (xs : List ℕ). xs ++ plans) e);
}
