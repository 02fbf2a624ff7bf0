use Rattle.std.proofs.Common.{List, ap, ◌∙◌}
use Rattle.asm_formats.specs.Status.{Entry}
use Rattle.rebalance.specs.Sums.{sums_at}
use Rattle.rebalance.proofs.Sharing.{sums_placed}
use Rattle.rebalance.proofs.shares.Shares.of.Goals as goal

pub returns-clause-value : goal.returns-clause-value
returns-clause-value c = c.sums.ensures ∙ ap (λ (es : List Entry). sums_at c.args.units.now es) c.entries.ensures.entries

pub returns-clause-placement : goal.returns-clause-placement
returns-clause-placement c = λ s items are.
    sums_placed s items c.args.units.now c.args.status.now.entries c.sums.result are (c.sums.ensures ∙ ap (λ (es : List Entry). sums_at c.args.units.now es) c.entries.ensures.entries)
