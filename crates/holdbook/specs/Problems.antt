-- What is told of what keeps the program from its work. Assumes nothing.
use Rattle.std.specs.Prelude.{ℕ, List, ◌++◌, Option, Some, None, codes}
use denote.Ref.{Bor}
use Rattle.session.specs.declared.serving.Failure.{Failure}
use Rattle.session.specs.declared.serving.Failure.TheVariants as failure
use Rattle.holdbook.specs.declared.problem.Problem.{Problem}
use Rattle.holdbook.specs.declared.problem.Problem.TheVariants as problem

-- an input that cannot be read is told by its name
abbrev pub problem_of : Bor (List ℕ) → Failure → Problem
problem_of name (failure.Reading error) = problem.Input name error
problem_of name (failure.Writing error) = problem.Output error

-- an option that there is not; what else is told ends in the system's own words, which are not known
abbrev pub problem_text : Problem → Option (List ℕ)
problem_text (problem.Option option) = Some (codes "unknown option '" ++ (option.now ++ codes "'\ntry 'holdbook --help'"))
problem_text (problem.Input name error) = None
problem_text (problem.Output error) = None
problem_text (problem.Arguments error) = None
