use Rattle.std.proofs.Common.{rules, nat_lt}
use Rattle.std.proofs.lemmas.Iterator.{YieldsList-from_slice}
use Rattle.std.proofs.lemmas.Iterator.Search.{any_from_yields_List}
use borrow.Author.Tests.{tests}
use Rattle.command_line.proofs.checks.is_control.Goals as goal

pub returns : goal.returns
returns c = any_from_yields_List (λ byte. nat_lt byte 32) _ _ _ c.any.ensures.ran (YieldsList-from_slice c.args.path.now (cc)) (λ x b q k. search (rules, tests))
