use Rattle.std.proofs.Common.{ap, ◌∙◌, sym}
use Rattle.std.specs.Option.{is_some}
use Rattle.rebalance.proofs.Finding.{due_in_found}
use Rattle.rebalance.proofs.search.Search.is_due_in.Goals as goal

pub returns : goal.returns
returns c =
    let s = c.args.self.now in
    c.is_some.ensures ∙ ap is_some c.first_in.ensures.found ∙ sym (due_in_found c.args.stage s.disks.now s.catalog.now s.shares (c.args.at, c.args.extents.now))
