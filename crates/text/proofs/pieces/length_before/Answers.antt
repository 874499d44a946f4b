use Rattle.std.proofs.Common.{◌==◌, length, rules, tests, ◌∙◌, ap}
use Rattle.std.specs.Option.{unwrap_or}
use Rattle.std.proofs.lemmas.Iterator.{YieldsList-from_slice}
use Rattle.std.proofs.lemmas.Iterator.Search.{position_from_yields_List}
use Rattle.text.proofs.Ends.{found_or_all}
use Rattle.text.proofs.pieces.length_before.Goals as goal

pub returns-clause-count : goal.returns-clause-count
returns-clause-count c =
    let bytes = c.args.bytes.now in
    let found = position_from_yields_List (λ byte. byte == c.args.stop) _ _ c.position.result c.position.ensures.ran
    (YieldsList-from_slice bytes cc) (λ x b q k. search (rules, tests)) in
    c.unwrap_or.ensures
    ∙ (ap (λ place. unwrap_or place (length bytes)) found ∙ found_or_all bytes (λ byte. byte == c.args.stop))
