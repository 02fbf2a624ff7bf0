use Rattle.catalog_tables.proofs.FaultLaws.{chunk_fault_is, fault_numbered}
use Rattle.catalog_tables.proofs.parts.Parts.fault.Goals as goal

pub chunk_key-requires : goal.chunk_key-requires
chunk_key-requires c = fault_numbered c.args.self.now c.in-Some.at c.requires.tables c.in-Some.ensures.some

pub returns-in-Some-clause-some : goal.returns-in-Some-clause-some
returns-in-Some-clause-some c = chunk_fault_is c.args.shape.now c.args.entries.now c.args.self.now c.in-Some.at c.chunk_key.result c.in-Some.ensures.some c.chunk_key.ensures

pub returns-in-Some-name_fault-clause-some : goal.returns-in-Some-name_fault-clause-some
returns-in-Some-name_fault-clause-some c = c.in-Some-name_fault.ensures.some c.args.shape.now c.args.entries.now
