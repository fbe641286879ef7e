use Rattle.std.proofs.Common.{◌≡◌, true, [], length, None, Some, Ok, Err, refl, ap, ◌∙◌, rules}
use Rattle.network.specs.declared.refusals.Refusal.TheVariants.{OutOfPlace}
use Rattle.sheet.specs.Sheets.{load, sites_stated}
use Rattle.sheet.specs.Words.{line_kind}
use Rattle.sheet.specs.Calls.{legs_ahead, line_shown, moved}
use Rattle.sheet.proofs.Loading.{load_done, load_none, load_refused, load_bad, load_go}
use Rattle.sheet.proofs.reader.Reader.load.Goals as goal

pub returns-in_err-ahead : goal.returns-in_err-ahead
returns-in_err-ahead c =
    let x = c.in_err-ahead.field-0.0 in
    let p : c.from_residual.result ≡ Err x = search rules in
    let d = load_done c.args.self.now _ c.args.network.now c.args.table.now _ (Err x) (load (Err x) [] 0 1) _ (load_refused _ _ _ c.in_err-ahead.ensures.shown) refl refl refl in
    record { answer = p ∙ d.0; network = d.1; legs = d.2; reader = d.3 }

pub returns-in_err-first : goal.returns-in_err-first
returns-in_err-first c =
    let x = OutOfPlace 1 in
    let p : c.from_residual-in_err-first.result ≡ Err x = search rules in
    let e : None ≡ c.in_ok-ahead.field-0 = search rules in
    let d = load_done c.args.self.now _ c.args.network.now c.args.table.now _ (Err x) (load (Err x) [] 0 1) _ (load_none _ _ (ap (λ o. line_shown (Ok o)) e ∙ c.in_ok-ahead.ensures.shown)) refl refl refl in
    record { answer = p ∙ d.0; network = d.1; legs = d.2; reader = d.3 }

pub returns-in_err-sites : goal.returns-in_err-sites
returns-in_err-sites c =
    let x = c.in_err-sites.field-0.0 in
    let p : c.from_residual-in_err-sites.result ≡ Err x = search rules in
    let e : Some c.in_ok-first.first ≡ c.in_ok-ahead.field-0 = search rules in
    let same : c.in_ok-first.first.number ≡ 1 = search rules in
    let bad = load_bad _ c.args.self.now.sheet.now _ _ (ap (λ o. line_shown (Ok o)) e ∙ c.in_ok-ahead.ensures.shown) _ (c.in_err-sites.ensures ∙ ap (λ i. sites_stated i (line_kind c.in_ok-first.first.line)) same) in
    let d = load_done c.args.self.now _ c.args.network.now c.args.table.now _ (Err x) (load (Err x) [] 0 1) _ bad refl refl refl in
    record { answer = p ∙ d.0; network = d.1; legs = d.2; reader = d.3 }

pub returns-in_err-network : goal.returns-in_err-network
returns-in_err-network c =
    let p : c.from_residual-in_err-network.result ≡ Err c.in_err-network.field-0.0 = search rules in
    let h = c.in_err-network.ensures in
    let o = legs_ahead c.in_ok-sites.sites (length c.args.table.now) c.go_on.new.self in
    let e : Some c.in_ok-first.first ≡ c.in_ok-ahead.field-0 = search rules in
    let same : c.in_ok-first.first.number ≡ 1 = search rules in
    let go = load_go _ c.args.self.now.sheet.now _ _ (ap (λ o. line_shown (Ok o)) e ∙ c.in_ok-ahead.ensures.shown) _ (c.in_ok-sites.ensures ∙ ap (λ i. sites_stated i (line_kind c.in_ok-first.first.line)) same) in
    let d = load_done c.args.self.now c.read_legs.new.self c.args.network.now c.args.table.now _ _ _ _ (ap (legs_ahead _ _) c.go_on.ensures ∙ go) h.answer h.legs (h.reader ∙ ap (λ s. moved s o.at o.line) c.go_on.ensures) in
    record { answer = p ∙ d.0; network = d.1; legs = d.2; reader = d.3 }

pub returns : goal.returns
returns c =
    let h = c.in_ok-network.ensures in
    let o = legs_ahead c.in_ok-sites.sites (length c.args.table.now) c.go_on.new.self in
    let e : Some c.in_ok-first.first ≡ c.in_ok-ahead.field-0 = search rules in
    let same : c.in_ok-first.first.number ≡ 1 = search rules in
    let go = load_go _ c.args.self.now.sheet.now _ _ (ap (λ o. line_shown (Ok o)) e ∙ c.in_ok-ahead.ensures.shown) _ (c.in_ok-sites.ensures ∙ ap (λ i. sites_stated i (line_kind c.in_ok-first.first.line)) same) in
    let s = c.read_legs.new.self in
    let d = load_done c.args.self.now (record { sheet = s.sheet; place = s.place; line = s.line; loaded = true }) c.args.network.now c.args.table.now _ _ _ _ (ap (legs_ahead _ _) c.go_on.ensures ∙ go) h.answer h.legs (ap (λ s. record { sheet = s.sheet; place = s.place; line = s.line; loaded = true }) (h.reader ∙ ap (λ s. moved s o.at o.line) c.go_on.ensures)) in
    record { answer = d.0; network = d.1; legs = d.2; reader = d.3 }
