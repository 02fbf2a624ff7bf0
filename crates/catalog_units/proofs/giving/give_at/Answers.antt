use Rattle.std.proofs.Common.{sym}
use Rattle.catalog_units.proofs.ChunkUnits.{out_given, out_there}
use Rattle.catalog_units.proofs.giving.give_at.Goals as goal

pub give_chunk-requires-clause-taken : goal.give_chunk-requires-clause-taken
give_chunk-requires-clause-taken c = out_there c.args.step c.args.units.now (c.args.file, c.args.chunk) c.in-Some.homes.now c.args.extents.now c.requires.table.0 (sym c.in-Some.ensures) c.requires.kept

pub returns-in-Some : goal.returns-in-Some
returns-in-Some c = out_given c.args.step c.args.units.now c.give_chunk.new.units (c.args.file, c.args.chunk) c.in-Some.homes.now c.args.extents.now c.requires.table.0 (sym c.in-Some.ensures) c.give_chunk.ensures
