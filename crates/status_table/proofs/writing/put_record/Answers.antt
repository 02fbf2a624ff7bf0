use Rattle.std.proofs.Common.{subst}
use Rattle.asm_formats.specs.Status.{Status}
use Rattle.asm_base.specs.Cursors.{PutsField}
use Rattle.asm_base.proofs.FieldLaws.{then_puts}
use Rattle.status_table.specs.declared.reading.Version.TheVariants.{Two}
use Rattle.status_table.specs.Readings.{status_fields}
use Rattle.status_table.proofs.Laws.{with_own_entries}
use Rattle.status_table.proofs.writing.put_record.Goals as goal

pub returns-clause-puts : goal.returns-clause-puts
unfolding status_fields
returns-clause-puts c =
    subst (λ (r : Status). PutsField c.args.to.now c.put_entries.new.to (status_fields Two r)) (with_own_entries c.status.view_is c.entries.ensures.entries)
    (then_puts c.put_bytes.ensures.puts (then_puts c.put_u64.ensures.puts (then_puts c.put_u64-2.ensures.puts (then_puts c.put_u64-3.ensures.puts (then_puts c.put_flag.ensures.puts
    (then_puts c.put_u64-4.ensures.puts (then_puts c.put_set.ensures.puts (then_puts c.put_set-2.ensures.puts (then_puts c.put_set-3.ensures.puts c.put_entries.ensures.puts)))))))))
