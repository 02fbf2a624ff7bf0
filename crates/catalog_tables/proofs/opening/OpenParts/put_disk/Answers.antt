use Rattle.std.proofs.Common.{Some, sym, ◌∙◌}
use Rattle.catalog_tables.proofs.SetLaws.{disk_taken}
use Rattle.catalog_tables.specs.Changing.{tables_of}
use Rattle.catalog_tables.proofs.opening.OpenParts.put_disk.Goals as goal

pub returns-clause-put : goal.returns-clause-put
returns-clause-put c = disk_taken c.taken.result c.in_ok-put_record.field-0 (tables_of c.args.self.now) c.put_record.new.self c.args.key (Some c.args.value.now) (sym c.is_mine.ensures ∙ c.if-not-is_mine.false) c.taken.ensures c.in_ok-put_record.ensures.put
