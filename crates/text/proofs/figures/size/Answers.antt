use Rattle.std.proofs.Common.{◌<◌, length, inl, inr, arith, rules}
use Rattle.std.proofs.lemmas.Bool.Decides.{nat_tests}
use Rattle.text.proofs.Sizes.{some, short, digit, no_zero, value_on, value_small, whole}
use Rattle.text.proofs.figures.size.Goals.{then-is_empty-via-then-is_empty}
use Rattle.text.proofs.figures.size.Goals.{then-is_empty-via-else-is_empty+then-bytes-gt12}
use Rattle.text.proofs.figures.size.Goals as goal

pub returns-then-is_empty : goal.returns-then-is_empty
returns-then-is_empty c size small e =
    let least = some c.args.bytes.now size small e in
    let most = short c.args.bytes.now size small e in
    elim c.then-is_empty.branch [
      | then-is_empty-via-then-is_empty w ↦ search (rules, nat_tests)
      | then-is_empty-via-else-is_empty+then-bytes-gt12 w ↦ omega arith
    ]

pub returns-then-bytes-gt1 : goal.returns-then-bytes-gt1
returns-then-bytes-gt1 c size small e = omega (arith, no_zero c.args.bytes.now size small e c.if-bytes-eq48.true)

pub returns-then-not-is_ascii_digit : goal.returns-then-not-is_ascii_digit
returns-then-not-is_ascii_digit c size small e =
    let d = digit c.args.bytes.now size small e c.loop-byte.byte-index c.loop-byte-test.true in
    omega (arith, c.if-not-is_ascii_digit.ensures.cases)

pub overflow_mul-size : goal.overflow_mul-size
overflow_mul-size c =
    let l = c.loop-byte in
    let small = value_small c.args.bytes.now l.byte-index l.size (omega arith) (omega arith) l.invariant in
    search (rules, small)

pub overflow_add-size : goal.overflow_add-size
overflow_add-size c =
    let l = c.loop-byte in
    let small = value_small c.args.bytes.now l.byte-index l.size (omega arith) (omega arith) l.invariant in
    search (rules, small)

pub loop-byte-preserved : goal.loop-byte-preserved
loop-byte-preserved c =
    let l = c.loop-byte in
    value_on c.args.bytes.now l.byte-index l.size c.from.result c.loop-byte-test.true
    c.if-not-is_ascii_digit.ensures.cases c.from.ensures l.invariant

pub returns : goal.returns
returns c =
    let l = c.loop-byte in
    let some : 0 < length c.args.bytes.now = grind (arith, nat_tests) in
    whole c.args.bytes.now l.byte-index l.size (omega arith) (omega arith) some
    (λ zero. elim c.else-bytes-eq48.either [ inl alone ↦ omega arith | inr other ↦ absurd (other zero) ]) l.invariant
