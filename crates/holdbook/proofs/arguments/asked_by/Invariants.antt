use Rattle.std.proofs.Common.{◌≡◌, drop}
use Rattle.holdbook.specs.Arguments.{first_option}
use Rattle.holdbook.proofs.arguments.asked_by.Given as goal

abbrev pub invariant-loop-argument : goal.invariant-loop-argument
invariant-loop-argument l = first_option (drop l.argument-index l.arguments) ≡ first_option l.arguments
