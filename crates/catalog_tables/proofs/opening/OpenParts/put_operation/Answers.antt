use Rattle.std.proofs.Common.{Some}
use Rattle.catalog_tables.proofs.SetLaws.{operation_taken}
use Rattle.catalog_tables.specs.Changing.{tables_of}
use Rattle.catalog_tables.proofs.opening.OpenParts.put_operation.Goals as goal

pub returns-clause-put : goal.returns-clause-put
returns-clause-put c = operation_taken c.taken.result c.put_record.result (tables_of c.args.self.now) c.put_record.new.self c.args.key (Some c.args.value.now) c.requires.kind c.taken.ensures c.put_record.ensures.put
