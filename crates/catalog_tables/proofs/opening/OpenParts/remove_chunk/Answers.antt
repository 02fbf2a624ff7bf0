use Rattle.std.proofs.Common.{None}
use Rattle.catalog_tables.proofs.SetLaws.{extents_set}
use Rattle.catalog_tables.specs.Changing.{tables_of}
use Rattle.catalog_tables.proofs.opening.OpenParts.remove_chunk.Goals as goal

pub returns-clause-gone : goal.returns-clause-gone
returns-clause-gone c = extents_set (tables_of c.args.self.now) c.remove_record.new.self c.args.file c.args.chunk None c.remove_record.ensures.gone
