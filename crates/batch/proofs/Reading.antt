-- What is read are the first bytes of the input, and what is written answers them. Assumes nothing.
use Rattle.std.proofs.Common.{◌≡◌, ℕ, List, [], ◌++◌, take, Option, None, Some, IfSome, ap, ◌∙◌, subst, arith}
use Rattle.std.proofs.lemmas.List.{take-take}
use Rattle.std.specs.Option.{option_map}
use Rattle.std.specs.Io.KnownBytes.{Appends}
use Rattle.planner.specs.Tallies.{whole}
use Rattle.report.specs.declared.lines.Refused.{Refused}
use Rattle.report.specs.Reports.{Reports, batch_room}

pub answered : (known inner : Option (List ℕ)) (limit : ℕ) (before got sheet : List ℕ) → inner ≡ known → limit ≡ 16384 → before ≡ [] → sheet ≡ got
    → IfSome (option_map (take limit) inner) (λ xs. got ≡ before ++ xs)
    → (text written : List ℕ) (end : Option Refused) → Reports batch_room (take 16384 sheet) whole text end → written ≡ text
    → (old new : Option (List ℕ)) → Appends old new written
    → IfSome known (λ bytes. (text' : List ℕ) × (end' : Option Refused) × Reports batch_room (take 16384 bytes) whole text' end' × Appends old new text')
answered None inner limit before got sheet e l b s read text written end told w old new put = tt
answered (Some bytes) inner limit before got sheet e l b s read text written end told w old new put =
    let all : got ≡ take 16384 bytes = rw (e, l, b) at read in
    let first : take 16384 sheet ≡ take 16384 bytes = ap (take 16384) (s ∙ all) ∙ take-take 16384 16384 bytes (omega arith) in
    (text, end, subst (λ (xs : List ℕ). Reports batch_room xs whole text end) first told, subst (Appends old new) w put)
