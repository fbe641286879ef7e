use Rattle.std.proofs.Common.{◌≡◌, ◌+◌, ◌-◌, [], ◌∷◌, ◌++◌, length, take, drop, set, codes, sym, ap, ◌∙◌, subst, arith}
use borrow.Rule.Slice.PartMut.{put_mid}
use Rattle.sheet.specs.Writing.{laid, leg_numbers, listed, leg_text}
use Rattle.sheet.specs.Theorems.{WrittenLegReadsBack}
use Rattle.sheet.proofs.Laying.{lay_leg, written_ok, text_length}
use Rattle.sheet.proofs.Returning.{write_back}
use Rattle.sheet.proofs.writing.write_leg.Goals as goal

pub returns : goal.returns
returns c =
    let l = c.args.leg.now in
    let b = c.args.buffer.now in
    let r = sym c.if-not-is_in_range.ensures in
    let e = ap (λ ns. length (listed ns)) c.numbers-numbers.ensures in
    let b' = c.copy_from_slice.new.self ++ drop 3 b in
    let w : set (put_mid 3 (length b' - 3) b' c.put_listed.new.buffer) (3 + c.listed_len-end.result) 10 ≡ laid (leg_text l) 0 b =
    lay_leg c.numbers-numbers.result b _ _ _ (omega (arith, c.listed_len-end.ensures.value)) (ap (λ t. t ++ drop 3 b) c.copy_from_slice.ensures.after) c.put_listed.ensures (omega (arith, c.listed_len-end.ensures.value))
    ∙ ap (λ ns. laid (codes "leg" ++ (listed ns ++ (10 ∷ []))) 0 b) c.numbers-numbers.ensures in
    record {
      answer = written_ok l (length b) _ r (omega (arith, c.listed_len-end.ensures.value)) (omega (arith, c.listed_len-end.ensures.value));
      after = w;
      reads_back = λ n h.
          let k : 3 + c.listed_len-end.result + 1 ≡ n = cc in
          let t = text_length (leg_numbers l) in
          subst (λ x. WrittenLegReadsBack (take n x) l) (sym w) (write_back l n b r (omega (arith, c.listed_len-end.ensures.value)));
    }
