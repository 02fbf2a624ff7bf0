use Rattle.std.proofs.Common.{sym, ap, ◌∙◌}
use Rattle.std.specs.Ordering.{is_lt}
use Rattle.asm_base.proofs.Lists.{last_below}
use Rattle.item_table.specs.Tables.{is_key_before}
use Rattle.item_table.proofs.table.KeyTable.ends_before.Goals as goal

pub returns-in-Some-clause-ends : goal.returns-in-Some-clause-ends
returns-in-Some-clause-ends g c =
    rw (← c.self.view_is) (c.is_lt.ensures ∙ ap is_lt c.cmp.ensures ∙ sym (last_below (is_key_before g.K.Ord.cmp) c.self.inside.map.entries (c.in-Some.last.now, c.in-Some.field-0-1.now) c.args.key c.in-Some.ensures.last))
