use Rattle.catalog_tables.proofs.ReadableLaws.{stale_read}
use Rattle.catalog_tables.proofs.reading.read_others.Goals as goal

pub unreachable-requires-in_default-3 : goal.unreachable-requires-in_default-3
unreachable-requires-in_default-3 c = stale_read c.args.content.now c.in_ok-stale.field-0 c.requires.readable c.in_ok-stale.ensures.only c.in_default-3.is
