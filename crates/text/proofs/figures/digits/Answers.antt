use Rattle.std.proofs.Common.{length, ap, sym, arith}
use Rattle.std.proofs.lemmas.Fmt.{decimal_digit}
use Rattle.text.proofs.Digits.{count_digits}
use Rattle.text.proofs.figures.digits.Goals as goal

pub returns-in-None : goal.returns-in-None
returns-in-None c = rw c.in-None.ensures.none (sym (ap length (decimal_digit 0 (omega arith))))

pub returns-in-Some : goal.returns-in-Some
returns-in-Some c =
    let power = c.in-Some in
    sym (count_digits power.power c.args.size power.ensures.power_le power.ensures.next_power_gt c.ranges.size.fits)
