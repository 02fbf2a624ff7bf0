use Rattle.std.proofs.Common.{sym, ap, ◌∙◌}
use Rattle.std.specs.Ordering.{is_lt}
use Rattle.asm_base.proofs.Lists.{last_below}
use Rattle.asm_base.specs.Chunks.{is_chunk_before}
use Rattle.extent_map.proofs.table.ExtentMap.ends_before.Goals as goal

pub returns-in-Some : goal.returns-in-Some
returns-in-Some c =
    rw (← c.self.view_is) (c.is_lt.ensures ∙ ap is_lt c.cmp.ensures ∙ sym (last_below is_chunk_before c.self.inside.map.entries (c.in-Some.last.now, c.in-Some.field-0-1.now) c.args.at c.in-Some.ensures.last))
