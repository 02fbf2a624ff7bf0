use Rattle.std.proofs.Common.{sym, ap, ◌∙◌}
use Rattle.asm_group.specs.Shape.{Shape}
use Rattle.rebalance.proofs.next.tables_said.Goals as goal

pub returns : goal.returns
returns c = c.said_by_tables-2.ensures c.args.catalog.now.shape (sym (ap (λ (s : Shape). s.kind) c.said_by_tables.view_is ∙ ap (λ (s : Shape). s.kind) c.shape.ensures.shape))
