use Rattle.std.proofs.Common.{sym}
use Rattle.catalog_units.proofs.ChunkUnits.{put_is}
use Rattle.catalog_units.proofs.giving.mark_at.Goals as goal

pub returns-in-Some : goal.returns-in-Some
returns-in-Some c = put_is c.args.step c.args.units.now c.place_chunk.new.units (c.args.file, c.args.chunk) c.in-Some.homes.now c.args.extents.now c.place_chunk.result c.requires.table.0 (sym c.in-Some.ensures) c.place_chunk.ensures
