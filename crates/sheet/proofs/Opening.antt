-- What a load by a reader as it is made comes to. Assumes nothing.
use Rattle.std.proofs.Common.{◌≡◌, ℕ, List, length, Ok, Err, Result, sym, refl, ap, ◌∙◌, ap₂}
use Rattle.network.specs.declared.legs.Leg.{Leg}
use Rattle.network.specs.declared.legs.Network.{Network}
use Rattle.network.specs.declared.refusals.Refusal.{Refusal}
use Rattle.sheet.specs.declared.reader.Reader.{Reader}
use Rattle.sheet.specs.Start.{fresh}
use Rattle.sheet.specs.Text.{lines}
use Rattle.sheet.specs.Sheets.{Load, loaded_from}
use Rattle.sheet.specs.Calls.{load_of, answered, answer_of, replaced, network_after, fronted}

-- What the answer of a load tells of its outcome.
refused_outcome : (x : Result Network Refusal) (why : Refusal) → Err why ≡ answered x → x ≡ Err why
refused_outcome (Ok net) why e = cc
refused_outcome (Err r) why e = let same : why ≡ r = cc in ap Err (sym same)

accepted_outcome : (x : Result Network Refusal) (a : Result Unit Refusal) (old : Network) → ((why : Refusal) → a ≡ Err why → ⊥) → a ≡ answered x → x ≡ Ok (replaced x old)
accepted_outcome (Ok net) a old ok e = refl
accepted_outcome (Err r) a old ok e = absurd (ok r e)

-- A reader as it is made, and a table for so many legs.
module _ (sheet : List ℕ) (room : ℕ) (table : List Leg) (r : Reader) (made : fresh sheet r) (fits : length table ≡ room) where
  pub load_is : load_of table r ≡ loaded_from room (lines sheet)
  load_is = ap₂ (λ (n : ℕ) (xs : List ℕ). loaded_from n (lines xs)) fits made.0

  -- The load is refused.
  pub refused : (why : Refusal) → Err why ≡ answer_of (load_of table r) → (loaded_from room (lines sheet)).outcome ≡ Err why
  refused why e = ap (λ (o : Load). o.outcome) (sym load_is) ∙ refused_outcome (load_of table r).outcome why e

  -- It is accepted, and the legs stand at the front of the table.
  pub accepted : (a : Result Unit Refusal) → ((why : Refusal) → a ≡ Err why → ⊥) → a ≡ answer_of (load_of table r)
      → (old net : Network) → net ≡ network_after (load_of table r) old → (loaded_from room (lines sheet)).outcome ≡ Ok net
  accepted a ok e old net n = ap (λ (o : Load). o.outcome) (sym load_is) ∙ accepted_outcome (load_of table r).outcome a old ok e ∙ ap Ok (sym n)

  pub legs_loaded : (table' : List Leg) → table' ≡ fronted (load_of table r).legs table → table' ≡ fronted (loaded_from room (lines sheet)).legs table
  legs_loaded table' t = t ∙ ap (λ (o : Load). fronted o.legs table) load_is
