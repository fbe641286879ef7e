-- The plans of a sheet, told one by one. Assumes nothing.
use Rattle.std.proofs.Common.{◌≡◌, ℕ, ◌≤◌, Bool, true, List, [], ◌++◌, length, drop, Some, None, Ok, Err, Option, Result, sym, refl, ap, ◌∙◌, subst, ap₂, inl, inr, append_assoc}
use Rattle.std.proofs.lemmas.List.{append-nil}
use Rattle.network.specs.declared.plans.Plan.{Plan}
use Rattle.network.specs.declared.refusals.Refusal.{Refusal}
use Rattle.worksheet.specs.declared.records.Mark.{Mark}
use Rattle.sheet.specs.declared.reader.Reader.{Reader}
use Rattle.sheet.specs.Text.{lines}
use Rattle.sheet.specs.Sheets.{Next, next_from}
use Rattle.sheet.specs.Calls.{moved, next_of}
use Rattle.search.specs.declared.record.Standing.{Standing}
use Rattle.search.specs.declared.record.Standing.TheVariants.{Fresh, Open, Found, Exhausted, Stopped}
use Rattle.search.specs.declared.record.Verdict.{Verdict}
use Rattle.search.specs.Record.{search_of}
use Rattle.search.specs.Calls.{tracing}
use Rattle.planner.specs.Serves.{Ground, Desk}
use Rattle.planner.specs.Desks.{traced_legs}
use Rattle.planner.specs.Fulfils.{Fulfils}
use Rattle.planner.proofs.Routes.{route_is}
use Rattle.report.specs.declared.lines.Refused.{Refused}
use Rattle.report.specs.Lines.{standing_line, plan_line}
use Rattle.report.proofs.Carrying.{carries_at, next_carries}
use Rattle.report.specs.Reports.{met, next_at, NextServed, PlansTold, none_left, line_refused, plan_refused, plan_told}

-- A reader of the sheet after an accepted load reads what comes at its place and line.
module _ (n : ℕ) (sheet : List ℕ) (r : Reader) (loaded : r.loaded ≡ true) (is : r.sheet.now ≡ sheet) where
  pub next_is : next_of n r ≡ next_at sheet n r.place r.line
  next_is = ap₂ (λ (b : Bool) (xs : List ℕ). next_from b n r.place r.line (lines (drop r.place xs))) loaded is

  pub answer_is : (x : Result (Option Plan) Refusal) → (next_of n r).answer ≡ x → (next_at sheet n r.place r.line).answer ≡ x
  answer_is x e = ap (λ (y : Next). y.answer) (sym next_is) ∙ e

-- The line of a plan has the legs that trace writes, if any.
same_line : (broker steps : ℕ) (x : Standing) (js ks : List ℕ) → ((m : Mark) → x ≡ Found m → js ≡ ks) → standing_line broker steps js x ≡ standing_line broker steps ks x
same_line broker steps Fresh js ks h = refl
same_line broker steps Open js ks h = refl
same_line broker steps (Found m) js ks h = ap (λ (y : List ℕ). standing_line broker steps y (Found m)) (h m refl)
same_line broker steps Exhausted js ks h = refl
same_line broker steps (Stopped why) js ks h = refl

module _ (g : Ground) (p : Plan) (d : Desk) (v : Verdict) (e : Desk) (kept : Fulfils g p d v e) where
  pub line_is : (b : List ℕ) → length d.sheet.state.labels ≤ length b → plan_line p v (traced_legs (tracing g.net g.table (search_of e.sheet) e.sheet.state.labels b)) ≡ plan_line p v kept.legs
  line_is b h = same_line p.broker v.steps v.standing _ _ (λ m f. route_is g p d v e kept m f b h)

-- Told `written` so far, the text goes on with what is told from another place, line and desk on.
module _ (g : Ground) (sheet : List ℕ) where
  abbrev pub Leads : ℕ → ℕ → Desk → List ℕ → ℕ → ℕ → Desk → Type 0
  Leads at line d written at' line' d' = (more : List ℕ) (end : Option Refused) → PlansTold g sheet at' line' d' more end → PlansTold g sheet at line d (written ++ more) end

  module _ (at line : ℕ) (d : Desk) (written : List ℕ) (r : Reader) (e : Desk) (loaded : r.loaded ≡ true) (is : r.sheet.now ≡ sheet) (leads : Leads at line d written r.place r.line e) where
    whole : (end : Option Refused) → PlansTold g sheet r.place r.line e [] end → PlansTold g sheet at line d written end
    whole end t = subst (λ (xs : List ℕ). PlansTold g sheet at line d xs end) (append-nil written) (leads [] end t)

    pub ends_with_none : (next_of g.net.sites r).answer ≡ Ok None → PlansTold g sheet at line d written None
    ends_with_none f = whole None (none_left r.place r.line e (answer_is g.net.sites sheet r loaded is _ f))

    -- A refusal, of the line or of its plan, is met at the line k.
    pub ends_refused : (why : Refusal) (k : ℕ) → k ≡ r.line → (e' : Desk) → NextServed g (next_of g.net.sites r) e (Err why) e' → PlansTold g sheet at line d written (met why k)
    ends_refused why k l e' s =
        subst (λ i. PlansTold g sheet at line d written (met why i)) (sym l)
        (elim s [
          | inl f ↦ let answered = answer_is g.net.sites sheet r loaded is _ f.0 in
              whole (met why r.line) (line_refused r.place r.line e why answered (carries_at r.line _ why answered (next_carries r.line g.net.sites r.place (lines (drop r.place sheet)))))
          | inr f ↦ whole (met why r.line) (plan_refused r.place r.line e f.0 (answer_is g.net.sites sheet r loaded is _ f.1) why e' f.2)
        ])

    -- One line more.
    pub leads_on : (p : Plan) (v : Verdict) (e' : Desk) (s : NextServed g (next_of g.net.sites r) e (Ok (Some (p, v))) e')
        → (r' : Reader) → r' ≡ moved r (next_of g.net.sites r).at (next_of g.net.sites r).line → Leads at line d (written ++ plan_line p v s.2.legs) r'.place r'.line e'
    leads_on p v e' s r' m more end t =
        let is_next = next_is g.net.sites sheet r loaded is in
        let at_is : r'.place ≡ (next_at sheet g.net.sites r.place r.line).at = ap (λ (y : Reader). y.place) m ∙ ap (λ (y : Next). y.at) is_next in
        let line_is : r'.line ≡ (next_at sheet g.net.sites r.place r.line).line = ap (λ (y : Reader). y.line) m ∙ ap (λ (y : Next). y.line) is_next in
        let then = subst (λ k. PlansTold g sheet k (next_at sheet g.net.sites r.place r.line).line e' more end) at_is (subst (λ k. PlansTold g sheet r'.place k e' more end) line_is t) in
        subst (λ (xs : List ℕ). PlansTold g sheet at line d xs end) (sym (append_assoc written (plan_line p v s.2.legs) more))
        (leads (plan_line p v s.2.legs ++ more) end (plan_told r.place r.line e p (answer_is g.net.sites sheet r loaded is _ s.0) v e' s.1 s.2 more end then))
