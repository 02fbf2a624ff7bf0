use Rattle.std.proofs.Common.{rules}
use Rattle.std.proofs.lemmas.Iterator.{YieldsList-from_slice}
use Rattle.std.proofs.lemmas.Iterator.Consumers.{YieldsList-at, YieldsList-from_copied}
use Rattle.std.proofs.lemmas.Iterator.Search.{find_from_yields_List}
use borrow.Author.Tests.{tests}
use Rattle.command_line.specs.Paths.{is_quoted}
use Rattle.command_line.proofs.Finds.{found_text}
use Rattle.command_line.proofs.checks.first_quoted.Goals as goal

pub returns : goal.returns
returns c =
    let road = YieldsList-from_copied (YieldsList-at c.copied.ensures.source (YieldsList-from_slice c.args.paths.now c.iter.ensures.rest)) in
    found_text is_quoted c.args.paths.now c.find.result (find_from_yields_List (λ path. is_quoted path.now) _ _ _ c.find.ensures.ran road (λ x b q k. search (rules, tests)))
