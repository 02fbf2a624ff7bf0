use Rattle.std.proofs.Common.{subst}
use Rattle.asm_formats.specs.Status.{Entry, entry_fields}
use Rattle.asm_base.specs.Cursors.{PutsField}
use Rattle.asm_base.proofs.FieldLaws.{then_puts}
use Rattle.status_table.proofs.writing.put_entry.Goals as goal

pub returns-clause-puts : goal.returns-clause-puts
unfolding entry_fields
returns-clause-puts c =
    subst (λ (e : Entry). PutsField c.args.to.now c.put_set.new.to (entry_fields e)) c.entry.view_is
    (then_puts c.put_u8.ensures.puts (then_puts c.put_u64.ensures.puts (then_puts c.put_mode.ensures.puts (then_puts c.put_u8-2.ensures.puts (then_puts c.put_flag.ensures.puts
    (then_puts c.put_u32.ensures.puts (then_puts c.put_u64-2.ensures.puts (then_puts c.put_u64-3.ensures.puts c.put_set.ensures.puts))))))))
