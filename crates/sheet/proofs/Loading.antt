-- The ways through a line before the plans. Assumes nothing.
use Rattle.std.proofs.Common.{◌≡◌, ℕ, ◌+◌, ◌<◌, ◌≤◌, Bool, true, false, cond, List, [], ◌∷◌, ◌++◌, length, take, drop, set, is_ok, Some, None, Ok, Err, Option, Result, sym, refl, ap, ◌∙◌, add_assoc, arith}
use Rattle.std.proofs.lemmas.List.{drop-drop, take_more_set, drop-set-lt, length-take-le, drop_at, take-append-drop}
use Rattle.network.specs.declared.legs.Leg.{Leg}
use Rattle.network.specs.declared.legs.Network.{Network}
use Rattle.network.specs.declared.plans.Plan.{Plan}
use Rattle.sheet.specs.declared.reader.Reader.{Reader}
use Rattle.sheet.specs.Calls.{answered, answer_of, replaced, network_after, reader_after, moved, fronted, legs_ahead, rows_left}
use Rattle.sheet.specs.Entries.{leg_entry}
use Rattle.network.specs.declared.refusals.Refusal.{Refusal}
use Rattle.network.specs.declared.refusals.Refusal.TheVariants.{Unended, UnknownWord, OutOfPlace, TableFull}
use Rattle.sheet.specs.Text.{Row, lines, fields}
use Rattle.sheet.specs.Words.{Kind, kind_by_word, network, leg, plan}
use Rattle.sheet.specs.Sheets.{placed, line_ahead, row_kind, past, some_placed, or_refuse, and_then, one_more, leg_stated, with_room, has_room, by_leg, legs_from, load, Load, sized, by_sites, loaded_from, sites_stated, Next, next_from, by_plan, plan_stated}
use Rattle.sheet.proofs.Lining.{lines_rest}

-- what the answer on the line ahead says of the lines that are left
pub none_left : (line at : ℕ) (rows : List Row) → Ok None ≡ line_ahead line at rows → rows ≡ []
none_left line at [] e = refl
none_left line at (r ∷ rs) e = absurd (none_kind (row_kind line r) e)
  where
    none_kind : (k : Result Kind Refusal) → Ok None ≡ some_placed (past at r) k → ⊥
    none_kind k e = grind arith

-- a first line that is refused
pub refused_line : (line at : ℕ) (rows : List Row) (x : Refusal) → Err x ≡ line_ahead line at rows → (r : Row) × (rs : List Row) × (rows ≡ r ∷ rs) × (row_kind line r ≡ Err x)
refused_line line at [] x e = cc
refused_line line at (r ∷ rs) x e = (r, rs, refl, at_kind (row_kind line r) e)
  where
    at_kind : (k : Result Kind Refusal) → Err x ≡ some_placed (past at r) k → k ≡ Err x
    at_kind k e = grind arith

-- a first line of a known kind
pub kind_line : (line at : ℕ) (rows : List Row) (t : Kind) (k : ℕ) → Ok (Some (placed k t)) ≡ line_ahead line at rows → (r : Row) × (rs : List Row) × (rows ≡ r ∷ rs) × (row_kind line r ≡ Ok t) × (k ≡ past at r)
kind_line line at [] t k e = cc
kind_line line at (r ∷ rs) t k e = let b = at_kind (row_kind line r) e in (r, rs, refl, b.0, b.1)
  where
    at_kind : (o : Result Kind Refusal) → Ok (Some (placed k t)) ≡ some_placed (past at r) o → (o ≡ Ok t) × (k ≡ past at r)
    at_kind (Err x) e = cc
    at_kind (Ok u) e = let p : placed k t ≡ placed (past at r) u = cc in (ap (λ x. Ok x.what) (sym p), ap (λ x. x.after) p)

-- a line of a known kind has its end byte
pub ended_line : (line : ℕ) (r : Row) (t : Kind) → row_kind line r ≡ Ok t → r.ended ≡ true
ended_line line r t e = by_end r.ended e
  where
    by_end : (b : Bool) → cond b (or_refuse (UnknownWord line) (kind_by_word r.bytes)) (Err (Unended line)) ≡ Ok t → b ≡ true
    by_end b e = grind arith

-- the lines after a line of a known kind
pub rows_after : (line at : ℕ) (sheet : List ℕ) (r : Row) (rs : List Row) (t : Kind) (k : ℕ) → lines (drop at sheet) ≡ r ∷ rs → row_kind line r ≡ Ok t → k ≡ past at r → rs ≡ lines (drop k sheet)
rows_after line at sheet r rs t k e h p =
    lines_rest (drop at sheet) r rs e (ended_line line r t h)
    ∙ ap lines (drop-drop (length r.bytes + 1) at sheet ∙ ap (λ n. drop n sheet) (sym (add_assoc at (length r.bytes) 1) ∙ sym p))

module _ (n room at line : ℕ) (ls : List Leg) where
  pub legs_end : (rows : List Row) → Ok None ≡ line_ahead line at rows → load (Ok (sized n ls)) ls at line ≡ legs_from n room at line ls rows
  unfolding legs_from
  legs_end rows e = sym (ap (legs_from n room at line ls) (none_left line at rows e))

  pub legs_refused : (rows : List Row) (x : Refusal) → Err x ≡ line_ahead line at rows → load (Err x) ls at line ≡ legs_from n room at line ls rows
  unfolding legs_from
  legs_refused rows x e =
      let b = refused_line line at rows x e in
      sym (ap (legs_from n room at line ls) b.2
      ∙ ap (λ o. by_leg (and_then o (leg_stated n line (has_room room (length ls)))) (λ l. legs_from n room (past at b.0) (one_more line) (ls ++ l ∷ []) b.1) (load (Ok (sized n ls)) ls at line) (λ y. load (Err y) ls at line)) b.3)

  module _ (rows : List Row) (t : Kind) (k : ℕ) (e : Ok (Some (placed k t)) ≡ line_ahead line at rows) where
    legs_by_kind : (r : Row) × (rs : List Row) × (rows ≡ r ∷ rs) × (row_kind line r ≡ Ok t) × (k ≡ past at r) × (legs_from n room at line ls rows ≡ by_leg (leg_stated n line (has_room room (length ls)) t) (λ l. legs_from n room (past at r) (one_more line) (ls ++ l ∷ []) rs) (load (Ok (sized n ls)) ls at line) (λ y. load (Err y) ls at line))
    unfolding legs_from
    legs_by_kind =
        let b = kind_line line at rows t k e in (
          b.0,
          b.1,
          b.2,
          b.3,
          b.4,
          ap (legs_from n room at line ls) b.2
              ∙ ap (λ o. by_leg (and_then o (leg_stated n line (has_room room (length ls)))) (λ l. legs_from n room (past at b.0) (one_more line) (ls ++ l ∷ []) b.1) (load (Ok (sized n ls)) ls at line) (λ y. load (Err y) ls at line)) b.3,
        )

    pub legs_stop : Ok None ≡ leg_stated n line (has_room room (length ls)) t → load (Ok (sized n ls)) ls at line ≡ legs_from n room at line ls rows
    legs_stop h =
        let b = legs_by_kind in
        sym (b.5 ∙ ap (λ o. by_leg o (λ l. legs_from n room (past at b.0) (one_more line) (ls ++ l ∷ []) b.1) (load (Ok (sized n ls)) ls at line) (λ y. load (Err y) ls at line)) (sym h))

    pub legs_bad : (x : Refusal) → Err x ≡ leg_stated n line (has_room room (length ls)) t → load (Err x) ls at line ≡ legs_from n room at line ls rows
    legs_bad x h =
        let b = legs_by_kind in
        sym (b.5 ∙ ap (λ o. by_leg o (λ l. legs_from n room (past at b.0) (one_more line) (ls ++ l ∷ []) b.1) (load (Ok (sized n ls)) ls at line) (λ y. load (Err y) ls at line)) (sym h))

    pub legs_go : (sheet : List ℕ) (l : Leg) → rows ≡ lines (drop at sheet) → Ok (Some l) ≡ leg_stated n line (has_room room (length ls)) t → legs_from n room k (one_more line) (ls ++ l ∷ []) (lines (drop k sheet)) ≡ legs_from n room at line ls rows
    legs_go sheet l s h =
        let b = legs_by_kind in
        sym (b.5
        ∙ ap (λ o. by_leg o (λ l. legs_from n room (past at b.0) (one_more line) (ls ++ l ∷ []) b.1) (load (Ok (sized n ls)) ls at line) (λ y. load (Err y) ls at line)) (sym h)
        ∙ ap (λ p. legs_from n room p (one_more line) (ls ++ l ∷ []) b.1) (sym b.4)
        ∙ ap (legs_from n room k (one_more line) (ls ++ l ∷ [])) (rows_after line at sheet b.0 b.1 t k (sym s ∙ b.2) b.3 b.4))

-- m legs are read into the front of a table for n sites
module _ (n : ℕ) (reader₀ reader : Reader) (table₀ table : List Leg) (m : ℕ) where
  pub record LegsRead : Type 0 where
    pub few : m ≤ 4096
    pub within : m ≤ length table
    pub front : table ≡ take m table ++ drop m table₀
    pub moves : reader ≡ moved reader₀ reader.place reader.line
    pub left : legs_from n (length table₀) reader.place reader.line (take m table) (rows_left reader) ≡ legs_ahead n (length table₀) reader₀

  -- where a reading of legs ends
  pub legs_done : LegsRead → (r : Result Network Refusal) → load r (take m table) reader.place reader.line ≡ legs_from n (length table₀) reader.place reader.line (take m table) (rows_left reader)
      → let o = legs_ahead n (length table₀) reader₀ in (r ≡ o.outcome) × (reader ≡ moved reader₀ o.at o.line) × (table ≡ fronted o.legs table₀)
  legs_done x r e =
      let o = e ∙ x.left in (
        ap (λ (y : Load). y.outcome) o,
        x.moves ∙ ap (λ (y : Load). moved reader₀ y.at y.line) o,
        x.front ∙ ap (λ k. take m table ++ drop k table₀) (sym (length-take-le m table x.within)) ∙ ap (λ (y : Load). fronted y.legs table₀) o,
      )

-- what a line states where there is room for one more leg, and where there is none
abbrev roomed : ℕ → Bool → Result (Option Leg) Refusal → Result (Option Leg) Refusal
roomed line free (Ok (Some l)) = cond free (Ok (Some l)) (Err (TableFull line))
roomed line free (Ok None) = Ok None
roomed line free (Err x) = Err x

stated_room : (n line : ℕ) (b : Bool) (t : Kind) → roomed line b (leg_stated n line true t) ≡ leg_stated n line b t
stated_room n line b (network t) = refl
stated_room n line b (plan t) = refl
stated_room n line b (leg t) = by_entry (leg_entry n line (fields t))
  where
    by_entry : (r : Result Leg Refusal) → roomed line b (with_room line true r) ≡ with_room line b r
    by_entry (Err x) = refl
    by_entry (Ok l) = refl

-- the same ways, over the table that the legs go into
module _ (n room m : ℕ) (reader : Reader) (table : List Leg) (le : m ≤ length table) where
  count : length (take m table) ≡ m
  count = length-take-le m table le

  abbrev rest : Load
  rest = legs_from n room reader.place reader.line (take m table) (rows_left reader)

  pub table_end : Ok None ≡ line_ahead reader.line reader.place (rows_left reader) → load (Ok (record { sites = n; legs = m })) (take m table) reader.place reader.line ≡ rest
  table_end e =
      ap (λ k. load (Ok (record { sites = n; legs = k })) (take m table) reader.place reader.line) (sym count)
      ∙ legs_end n room reader.place reader.line (take m table) (rows_left reader) e

  module _ (t : Kind) (k number : ℕ) (e : Ok (Some (placed k t)) ≡ line_ahead reader.line reader.place (rows_left reader)) (same : number ≡ reader.line) where
    by_room : (b : Bool) (o : Result (Option Leg) Refusal) → b ≡ has_room room m → o ≡ leg_stated n number true t → roomed reader.line b o ≡ leg_stated n reader.line (has_room room (length (take m table))) t
    by_room b o f h =
        ap (roomed reader.line b) (h ∙ ap (λ i. leg_stated n i true t) same)
        ∙ stated_room n reader.line b t
        ∙ ap (λ x. leg_stated n reader.line x t) (f ∙ ap (has_room room) (sym count))

    pub table_stop : Ok None ≡ leg_stated n number true t → load (Ok (record { sites = n; legs = m })) (take m table) reader.place reader.line ≡ rest
    table_stop h =
        ap (λ k. load (Ok (record { sites = n; legs = k })) (take m table) reader.place reader.line) (sym count)
        ∙ legs_stop n room reader.place reader.line (take m table) (rows_left reader) t k e (by_room (has_room room m) (Ok None) refl h)

    pub table_bad : (x : Refusal) → Err x ≡ leg_stated n number true t → load (Err x) (take m table) reader.place reader.line ≡ rest
    table_bad x h = legs_bad n room reader.place reader.line (take m table) (rows_left reader) t k e x (by_room (has_room room m) (Err x) refl h)

    pub table_full : (l : Leg) → false ≡ has_room room m → Ok (Some l) ≡ leg_stated n number true t → load (Err (TableFull number)) (take m table) reader.place reader.line ≡ rest
    table_full l f h =
        ap (λ i. load (Err (TableFull i)) (take m table) reader.place reader.line) same
        ∙ legs_bad n room reader.place reader.line (take m table) (rows_left reader) t k e (TableFull reader.line) (by_room false (Ok (Some l)) f h)

    pub table_go : (l : Leg) (line' : ℕ) → m < length table → true ≡ has_room room m → Ok (Some l) ≡ leg_stated n number true t → line' ≡ one_more reader.line → legs_from n room k line' (take (m + 1) (set table m l)) (lines (drop k reader.sheet.now)) ≡ rest
    table_go l line' lt f h s =
        ap (λ ls. legs_from n room k line' ls (lines (drop k reader.sheet.now))) (take_more_set table m l lt)
        ∙ ap (λ x. legs_from n room k x (take m table ++ l ∷ []) (lines (drop k reader.sheet.now))) s
        ∙ legs_go n room reader.place reader.line (take m table) (rows_left reader) t k e reader.sheet.now l refl (by_room true (Ok (Some l)) f h)

-- one more leg at the table's front
pub front_more : (table table₀ : List Leg) (m : ℕ) (l : Leg) → m < length table → table ≡ take m table ++ drop m table₀ → set table m l ≡ take (m + 1) (set table m l) ++ drop (m + 1) table₀
front_more table table₀ m l lt t =
    let le : m ≤ length table = omega arith in
    let d : drop m table ≡ drop m table₀ = ap (drop m) t ∙ drop_at (take m table) (drop m table₀) m (length-take-le m table le) in
    let d' : drop (m + 1) table ≡ drop (m + 1) table₀ = sym (drop-drop 1 m table) ∙ ap (drop 1) d ∙ drop-drop 1 m table₀ in
    let lt' : m < m + 1 = omega arith in
    sym (take-append-drop (m + 1) (set table m l)) ∙ ap (λ xs. take (m + 1) (set table m l) ++ xs) (drop-set-lt (m + 1) table m l lt' ∙ d')

-- the ways through the first line
module _ (room : ℕ) where
  pub load_none : (rows : List Row) → Ok None ≡ line_ahead 1 0 rows → load (Err (OutOfPlace 1)) [] 0 1 ≡ loaded_from room rows
  unfolding loaded_from
  load_none rows e = sym (ap (loaded_from room) (none_left 1 0 rows e))

  pub load_refused : (rows : List Row) (x : Refusal) → Err x ≡ line_ahead 1 0 rows → load (Err x) [] 0 1 ≡ loaded_from room rows
  unfolding loaded_from
  load_refused rows x e =
      let b = refused_line 1 0 rows x e in
      sym (ap (loaded_from room) b.2 ∙ ap (λ o. by_sites (and_then o (sites_stated 1)) (λ n. legs_from n room (past 0 b.0) (one_more 1) [] b.1)) b.3)

  module _ (sheet : List ℕ) (t : Kind) (k : ℕ) (e : Ok (Some (placed k t)) ≡ line_ahead 1 0 (lines sheet)) where
    pub load_bad : (x : Refusal) → Err x ≡ sites_stated 1 t → load (Err x) [] 0 1 ≡ loaded_from room (lines sheet)
    unfolding loaded_from
    load_bad x h =
        let b = kind_line 1 0 (lines sheet) t k e in
        sym (ap (loaded_from room) b.2
        ∙ ap (λ o. by_sites (and_then o (sites_stated 1)) (λ n. legs_from n room (past 0 b.0) (one_more 1) [] b.1)) b.3
        ∙ ap (λ o. by_sites o (λ n. legs_from n room (past 0 b.0) (one_more 1) [] b.1)) (sym h))

    pub load_go : (n : ℕ) → Ok n ≡ sites_stated 1 t → legs_from n room k 2 [] (lines (drop k sheet)) ≡ loaded_from room (lines sheet)
    unfolding loaded_from
    load_go n h =
        let b = kind_line 1 0 (lines sheet) t k e in
        sym (ap (loaded_from room) b.2
        ∙ ap (λ o. by_sites (and_then o (sites_stated 1)) (λ n. legs_from n room (past 0 b.0) (one_more 1) [] b.1)) b.3
        ∙ ap (λ o. by_sites o (λ n. legs_from n room (past 0 b.0) (one_more 1) [] b.1)) (sym h)
        ∙ ap (λ p. legs_from n room p 2 [] b.1) (sym b.4)
        ∙ ap (legs_from n room k 2 []) (rows_after 1 0 sheet b.0 b.1 t k b.2 b.3 b.4))

-- the ways through a plan line
module _ (loaded : Bool) (n at line : ℕ) (rows : List Row) where
  pub next_stated : (t : Kind) (k : ℕ) (o : Result Plan Refusal) → Ok (Some (placed k t)) ≡ line_ahead line at rows → o ≡ plan_stated loaded n line t → by_plan at line k o ≡ next_from loaded n at line rows
  next_stated t k o e h =
      let b = kind_line line at rows t k e in
      sym (ap (next_from loaded n at line) b.2
      ∙ ap (λ o. by_plan at line (past at b.0) (and_then o (plan_stated loaded n line))) b.3
      ∙ ap (λ p. by_plan at line p (plan_stated loaded n line t)) (sym b.4)
      ∙ ap (by_plan at line k) (sym h))

-- where a load ends, once its legs are read or a line was refused
pub load_done : (reader₀ reader : Reader) (network₀ : Network) (table₀ table : List Leg) (r : Result Network Refusal) (p o : Load) → p ≡ o
    → r ≡ p.outcome → table ≡ fronted p.legs table₀ → reader ≡ record { sheet = reader₀.sheet; place = p.at; line = p.line; loaded = is_ok r }
    → (answered r ≡ answer_of o) × (replaced r network₀ ≡ network_after o network₀) × (table ≡ fronted o.legs table₀) × (reader ≡ reader_after o reader₀)
load_done reader₀ reader network₀ table₀ table r p o e a t h = (
  ap answered a ∙ ap answer_of e,
  ap (λ x. replaced x network₀) a ∙ ap (λ x. network_after x network₀) e,
  t ∙ ap (λ x. fronted x.legs table₀) e,
  h ∙ ap (λ x. record { sheet = reader₀.sheet; place = p.at; line = p.line; loaded = is_ok x }) a ∙ ap (λ x. reader_after x reader₀) e,
)

-- where a next ends
pub next_done : (reader₀ reader : Reader) (r : Result (Option Plan) Refusal) (p o : Next) → p ≡ o → r ≡ p.answer → reader ≡ moved reader₀ p.at p.line → (r ≡ o.answer) × (reader ≡ moved reader₀ o.at o.line)
next_done reader₀ reader r p o e a h = (a ∙ ap (λ x. x.answer) e, h ∙ ap (λ x. moved reader₀ x.at x.line) e)
