-- The line at a reader's place. Assumes nothing.
use Rattle.std.proofs.Common.{◌≡◌, ℕ, ◌+◌, ◌-◌, ◌<◌, ◌≤◌, eqb, List, length, take, drop, Some, None, Ok, Err, Option, sym, ap, ◌∙◌, arith, length-drop}
use Rattle.std.proofs.lemmas.Bool.Decides.{nat_tests}
use Rattle.std.proofs.lemmas.List.{take_rest, drop_all}
use Rattle.std.specs.List.{position}
use Rattle.network.specs.declared.refusals.Refusal.TheVariants.{Unended, UnknownWord}
use Rattle.sheet.specs.Text.{lines, upto}
use Rattle.sheet.specs.Words.{Kind, kind_by_word}
use Rattle.sheet.specs.Sheets.{line_ahead, some_placed, or_refuse}
use Rattle.sheet.proofs.Cutting.{from, upto_place, upto_take}
use Rattle.sheet.proofs.Lining.{lines_ended, lines_unended}

-- a text with an end byte, and one without
abbrev end_place : List ℕ → Option ℕ
end_place t = position (λ c. eqb c 10) t

ended : (t : List ℕ) (end : ℕ) → Some end ≡ end_place t → (end ≡ length (upto 10 t)) × (end < length t)
ended t end e =
    let k = upto_place 10 t in
    (grind (arith, nat_tests), grind (arith, nat_tests))

unended : (t : List ℕ) → None ≡ end_place t → length t ≤ length (upto 10 t)
unended t e =
    let k = upto_place 10 t in grind (arith, nat_tests)

module _ (line at : ℕ) (sheet : List ℕ) where
  pub ahead_end : length sheet ≤ at → Ok None ≡ line_ahead line at (lines (drop at sheet))
  unfolding lines
  ahead_end le = sym (ap (λ t. line_ahead line at (lines t)) (drop_all at sheet le))

  pub ahead_unended : at < length sheet → None ≡ end_place (from at sheet) → Err (Unended line) ≡ line_ahead line at (lines (drop at sheet))
  ahead_unended lt e =
      let t = from at sheet in
      let s : t ≡ drop at sheet = take_rest sheet at in
      let n : length t ≡ length sheet - at = ap length s ∙ length-drop at sheet in
      sym (ap (λ x. line_ahead line at (lines x)) (sym s) ∙ ap (line_ahead line at) (lines_unended t (omega arith) (unended t e)))

  pub ahead_ended : (end : ℕ) (o : Option Kind) → Some end ≡ end_place (from at sheet) → o ≡ kind_by_word (take end (from at sheet)) → some_placed (at + end + 1) (or_refuse (UnknownWord line) o) ≡ line_ahead line at (lines (drop at sheet))
  ahead_ended end o e k =
      let t = from at sheet in
      let s : t ≡ drop at sheet = take_rest sheet at in
      let h = ended t end e in
      let b : take end t ≡ upto 10 t = ap (λ n. take n t) h.0 ∙ upto_take 10 t in
      ap (λ x. some_placed (at + end + 1) (or_refuse (UnknownWord line) x)) (k ∙ ap kind_by_word b)
      ∙ ap (λ n. some_placed (at + n + 1) (or_refuse (UnknownWord line) (kind_by_word (upto 10 t)))) h.0
      ∙ sym (ap (λ x. line_ahead line at (lines x)) (sym s) ∙ ap (line_ahead line at) (lines_ended t (omega (arith, h.0, h.1))))
