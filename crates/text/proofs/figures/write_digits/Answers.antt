use Rattle.std.proofs.Common.{◌≡◌, ◌+◌, ◌-◌, ◌%◌, length, ap, ◌∙◌, append-nil, append_assoc, arith}
use Rattle.std.proofs.lemmas.Fmt.{decimal_digit, decimal_step}
use Rattle.std.proofs.lemmas.List.{drop-set, drop_all, length-set, set_split}
use Rattle.text.proofs.Digits.{digits_more}
use Rattle.text.proofs.figures.write_digits.Goals as goal

pub loop-rest-init : goal.loop-rest-init
loop-rest-init c = record {
  within = omega arith;
  end = c.requires;
  written = rw (drop_all (length c.args.target.now) c.args.target.now (omega arith), append-nil);
}

pub loop-rest-preserved : goal.loop-rest-preserved
loop-rest-preserved c =
    let l = c.loop-rest in
    let more = digits_more l.rest c.loop-rest-test.true l.auto.rest-fits.fits in
    let e : l.end - 1 + 1 ≡ l.end = omega arith in
    record {
      within = omega (arith, length-set l.target (l.end - 1) (48 + l.rest % 10));
      end = omega arith;
      written = rw (drop-set l.target (l.end - 1) _ (omega arith), e)
          (rw (decimal_step l.rest c.loop-rest-test.true l.auto.rest-fits.fits, append_assoc) at l.invariant.written);
    }

pub bounds-target-0 : goal.bounds-target-0
bounds-target-0 c = let one = ap length (decimal_digit c.loop-rest.rest (omega arith)) in omega arith

pub returns : goal.returns
returns c =
    let l = c.loop-rest in
    let digit = decimal_digit l.rest c.loop-rest-test.false in
    let one : l.end ≡ 1 = omega (arith, ap length digit) in
    set_split l.target 0 (48 + l.rest) (omega arith) ∙ (rw (one, digit) at l.invariant.written)
