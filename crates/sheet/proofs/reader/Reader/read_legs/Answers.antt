use Rattle.std.proofs.Common.{◌≡◌, ◌+◌, ◌<◌, true, false, length, take, set, Some, Ok, Err, sym, refl, ap, ◌∙◌, arith, rules, length-set}
use Rattle.std.proofs.lemmas.Bool.Decides.{nat_tests}
use Rattle.sheet.specs.Sheets.{has_room, leg_stated, legs_from, load, one_more}
use Rattle.sheet.specs.Words.{line_kind}
use Rattle.sheet.specs.Calls.{moved, line_shown, rows_left}
use Rattle.sheet.proofs.Loading.{LegsRead, legs_done, legs_refused, table_end, table_stop, table_bad, table_full, table_go, front_more}
use Rattle.sheet.proofs.reader.Reader.read_legs.Goals as goal
use Rattle.sheet.proofs.reader.Reader.read_legs.Goals.{in-Some+in_ok-leg+in_default-2, in_default}

pub returns-in_err-ahead : goal.returns-in_err-ahead
returns-in_err-ahead c =
    let q : c.from_residual.result ≡ Err c.in_err-ahead.field-0.0 = search rules in
    let d = legs_done _ _ _ _ _ _ c.loop-ahead.invariant _ (legs_refused _ _ _ _ _ _ _ c.in_err-ahead.ensures.shown) in
    record { answer = q ∙ d.0; reader = d.1; legs = d.2 }

pub returns-in_err-leg : goal.returns-in_err-leg
returns-in_err-leg c =
    let x : LegsRead _ _ _ _ _ _ = c.loop-ahead.invariant in
    let q : c.from_residual-in_err-leg.result ≡ Err c.in_err-leg.field-0.0 = search rules in
    let same : c.in-Some.ahead.number ≡ c.loop-ahead.self.line = search rules in
    let d = legs_done _ _ _ _ _ _ x _ (table_bad _ _ _ c.loop-ahead.self c.loop-ahead.table x.within _ _ _ (ap (λ o. line_shown (Ok o)) (sym c.in-Some.is) ∙ c.in_ok-ahead.ensures.shown) same _ c.in_err-leg.ensures) in
    record { answer = q ∙ d.0; reader = d.1; legs = d.2 }

pub loop-ahead-preserved : goal.loop-ahead-preserved
loop-ahead-preserved c =
    let x : LegsRead _ _ _ _ _ _ = c.loop-ahead.invariant in
    let f : true ≡ has_room (length c.args.table.now) c.loop-ahead.count = grind (arith, nat_tests) in
    let same : c.in-Some.ahead.number ≡ c.loop-ahead.self.line = search rules in
    let h : Ok (Some c.in-Some-2.leg) ≡ leg_stated c.args.sites c.in-Some.ahead.number true (line_kind c.in-Some.ahead.line) = ap Ok (sym c.in-Some-2.is) ∙ c.in_ok-leg.ensures in
    let lt : c.loop-ahead.count < length c.loop-ahead.table = grind (arith, nat_tests) in
    let few : c.loop-ahead.count < 4096 = grind (arith, nat_tests) in
    record {
      few = omega arith;
      within = simp length-set (omega arith);
      front = front_more _ _ _ _ lt x.front;
      moves =
          c.go_on.ensures
          ∙ ap (λ s. moved s c.in-Some.ahead.after (one_more c.loop-ahead.self.line)) x.moves
          ∙ sym (ap (λ s. moved c.args.self.now s.place s.line) c.go_on.ensures);
      left =
          ap (λ s. legs_from c.args.sites (length c.args.table.now) s.place s.line (take (c.loop-ahead.count + 1) (set c.loop-ahead.table c.loop-ahead.count c.in-Some-2.leg)) (rows_left s)) c.go_on.ensures
          ∙ table_go _ _ _ c.loop-ahead.self c.loop-ahead.table x.within _ _ _ (ap (λ o. line_shown (Ok o)) (sym c.in-Some.is) ∙ c.in_ok-ahead.ensures.shown) same _ _ lt f h refl
          ∙ x.left;
    }

pub returns-then-count-room : goal.returns-then-count-room
returns-then-count-room c =
    let x : LegsRead _ _ _ _ _ _ = c.loop-ahead.invariant in
    let f : false ≡ has_room (length c.args.table.now) c.loop-ahead.count = grind (arith, nat_tests) in
    let same : c.in-Some.ahead.number ≡ c.loop-ahead.self.line = search rules in
    let d = legs_done _ _ _ _ _ _ x _ (table_full _ _ _ c.loop-ahead.self c.loop-ahead.table x.within _ _ _ (ap (λ o. line_shown (Ok o)) (sym c.in-Some.is) ∙ c.in_ok-ahead.ensures.shown) same _ f (ap Ok (sym c.in-Some-2.is) ∙ c.in_ok-leg.ensures)) in
    record { answer = d.0; reader = d.1; legs = d.2 }

pub returns : goal.returns
returns c =
    let x : LegsRead _ _ _ _ _ _ = c.loop-ahead.invariant in
    let s = c.loop-ahead.self in
    let read : load (Ok (record { sites = c.args.sites; legs = c.loop-ahead.count })) (take c.loop-ahead.count c.loop-ahead.table) s.place s.line ≡ legs_from c.args.sites (length c.args.table.now) s.place s.line (take c.loop-ahead.count c.loop-ahead.table) (rows_left s) = elim c.match-branch-2.branch [
      | in-Some+in_ok-leg+in_default-2 w ↦
          let same : w.in-Some.ahead.number ≡ s.line = search rules in
          table_stop _ _ _ s c.loop-ahead.table x.within _ _ _ (ap (λ o. line_shown (Ok o)) (sym w.in-Some.is) ∙ c.in_ok-ahead.ensures.shown) same (ap Ok (sym w.in_default-2.is) ∙ w.in_ok-leg.ensures)
      | in_default w ↦ table_end _ _ _ s c.loop-ahead.table x.within (ap (λ o. line_shown (Ok o)) (sym w.in_default.is) ∙ c.in_ok-ahead.ensures.shown)
    ] in
    let d = legs_done _ _ _ _ _ _ x _ read in
    record { answer = d.0; reader = d.1; legs = d.2 }
