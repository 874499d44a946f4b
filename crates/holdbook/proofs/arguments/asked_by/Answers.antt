use Rattle.std.proofs.Common.{◌≡◌, true, Some, codes, get_or, string_bytes, sym, ◌∙◌, ap, rules}
use Rattle.holdbook.specs.Arguments.{is_option}
use Rattle.holdbook.proofs.Options.{option_here}
use Rattle.holdbook.proofs.arguments.asked_by.Goals as goal

pub returns-then-eq : goal.returns-then-eq
returns-then-eq c =
    let arguments = c.args.arguments.now in
    let place = c.loop-argument.argument-index in
    let help : c.as_str.result.now ≡ codes "--help" = search rules in
    let text : string_bytes (get_or arguments place c.argument-item.result) ≡ codes "--help" =
    sym (ap string_bytes c.argument-item.is) ∙ (sym c.as_str.ensures.value ∙ help) in
    let option : is_option (string_bytes (get_or arguments place c.argument-item.result)) ≡ true = ap is_option text in
    sym c.loop-argument.invariant ∙ (option_here arguments place c.argument-item.result c.loop-argument-test.true option ∙ ap Some text)
