-- From the load of a sheet to the answer of a request. Assumes nothing.
use Rattle.std.proofs.Common.{◌≡◌, ℕ, List, length, replicate, IfOk, OnErr, MatchResult, Ok, Err, Result, sym, ap, ◌∙◌, subst}
use Rattle.std.proofs.lemmas.List.{length-replicate}
use Rattle.std.specs.declared.alloc.AllocError.{AllocError}
use Rattle.network.specs.declared.legs.Leg.{Leg}
use Rattle.network.specs.declared.legs.Network.{Network}
use Rattle.network.specs.declared.refusals.Refusal.{Refusal}
use Rattle.network.specs.Walks.{no_leg}
use Rattle.sheet.specs.declared.reader.Reader.{Reader}
use Rattle.sheet.specs.Start.{fresh}
use Rattle.sheet.specs.Calls.{load_of, answer_of, network_after, fronted}
use Rattle.sheet.proofs.Opening as opening
use Rattle.report.specs.Reports.{load_of_sheet, table_of_sheet}
use Rattle.embed.specs.declared.serving.Answer.{Answer}
use Rattle.embed.specs.declared.serving.Request.{Request}
use Rattle.embed.specs.Answers.{memory_short, refusal_record}
use Rattle.embed.specs.Requests.{PlanAnswered, Answers, load_refused, wants_memory}
use Rattle.embed.specs.Requests as requests

-- A reader as it is made, and a table for 4,096 blank legs.
module _ (sheet : List ℕ) (q : Request) (before after : List ℕ) (blank : Leg) (r : Reader) (fresh_is : fresh sheet r) (is_blank : blank ≡ no_leg) where
  abbrev table : List Leg
  table = replicate 4096 blank

  room : length table ≡ 4096
  room = length-replicate 4096 blank

  -- The load is refused.
  pub ends_at_load : (why : Refusal) → Err why ≡ answer_of (load_of table r) → (a : Answer) → a ≡ refusal_record why → after ≡ before → Answers sheet q before after a
  ends_at_load why e a is same = subst (λ (x : Answer). Answers sheet q before after x) (sym is) (load_refused why (opening.refused sheet 4096 table r fresh_is room why e) same)

  -- It is accepted, and the request is answered, or memory is short.
  module _ (x : Result Unit Refusal) (ok : (why : Refusal) → x ≡ Err why → ⊥) (e : x ≡ answer_of (load_of table r)) (old net : Network) (n : net ≡ network_after (load_of table r) old) (table' : List Leg) (t : table' ≡ fronted (load_of table r).legs table) where
    outcome : (load_of_sheet 4096 sheet).outcome ≡ Ok net
    outcome = opening.accepted sheet 4096 table r fresh_is room x ok e old net n

    legs : table' ≡ table_of_sheet 4096 sheet
    legs = opening.legs_loaded sheet 4096 table r fresh_is room table' t ∙ ap (λ (l : Leg). fronted (load_of_sheet 4096 sheet).legs (replicate 4096 l)) is_blank

    pub goes_on : (y : Result Answer AllocError) → IfOk y (λ b. PlanAnswered net table' q before after b) → OnErr y (after ≡ before) → (a : Answer) → MatchResult y (λ b. a ≡ b) (λ _. a ≡ memory_short) → Answers sheet q before after a
    goes_on (Ok b) h k a is = subst (λ (z : Answer). Answers sheet q before after z) (sym is) (requests.answered net outcome b (subst (λ (ls : List Leg). PlanAnswered net ls q before after b) legs h))
    goes_on (Err why) h k a is = subst (λ (z : Answer). Answers sheet q before after z) (sym is) (wants_memory net outcome k)
