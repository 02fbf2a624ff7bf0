use Rattle.std.proofs.Common.{Some}
use Rattle.catalog_tables.proofs.SetLaws.{head_taken}
use Rattle.catalog_tables.specs.Changing.{tables_of}
use Rattle.catalog_tables.proofs.opening.OpenParts.put_head.Goals as goal

pub returns-clause-put : goal.returns-clause-put
returns-clause-put c = head_taken c.taken.result c.in_ok-put_record.field-0 (tables_of c.args.self.now) c.put_record.new.self c.args.key (Some c.args.value.now) c.requires.kind c.requires.head c.taken.ensures c.in_ok-put_record.ensures.put
