use Rattle.std.proofs.Common.{sym}
use Rattle.catalog_tables.proofs.FaultLaws.{on_quorum_is, short_is, unknown_is}
use Rattle.catalog_tables.proofs.parts.Parts.size_fault.Goals as goal

pub returns-in-Some-clause-some : goal.returns-in-Some-clause-some
returns-in-Some-clause-some c = short_is c.args.shape.now c.args.entries.now c.args.self.now c.in-Some.file c.file_key.result c.in-Some.ensures.some c.file_key.ensures

pub returns-in-Some-unknown_disk-clause-some : goal.returns-in-Some-unknown_disk-clause-some
returns-in-Some-unknown_disk-clause-some c =
    unknown_is c.args.shape.now c.args.entries.now c.args.self.now c.in-Some-unknown_disk.number c.disk_key.result (sym c.in-Some-unknown_disk.ensures) c.disk_key.ensures

pub returns-in-Some-on_quorum-clause-some : goal.returns-in-Some-on_quorum-clause-some
returns-in-Some-on_quorum-clause-some c =
    on_quorum_is c.args.shape.now c.args.entries.now c.args.self.now c.in-Some-on_quorum.at c.chunk_key.result (sym c.in-Some-on_quorum.ensures) c.chunk_key.ensures
