-- The walk that a label stands for, read off the labels before it. Assumes nothing.
use Rattle.std.specs.Prelude.{ℕ, zero, suc, List, [], ◌∷◌, Some, None, Option}
use Rattle.worksheet.specs.declared.records.Label.{Label}
use Rattle.worksheet.specs.declared.records.Origin.{Origin}
use Rattle.worksheet.specs.Steps.{label_at}

-- The legs from label 0 to a label of this origin, then those of js. Each label before it takes one of the fuel.
abbrev pub traced : List Label → ℕ → Option Origin → List ℕ → List ℕ
traced ls zero o js = js
traced ls (suc fuel) None js = js
traced ls (suc fuel) (Some o) js = traced ls fuel (label_at ls o.parent).from (o.leg ∷ js)

-- The legs from label 0 to label i, first to last. A label comes after its parent, so that i is fuel enough.
abbrev pub trace : List Label → ℕ → List ℕ
trace ls i = traced ls i (label_at ls i).from []
