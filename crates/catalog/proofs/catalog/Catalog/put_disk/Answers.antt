use Rattle.std.proofs.Common.{inr, refl}
use Rattle.catalog.proofs.catalog.Catalog.put_disk.Goals as goal

pub returns-then-lacks_block-clause-refused : goal.returns-then-lacks_block-clause-refused
returns-then-lacks_block-clause-refused c = inr (refl, c.if-lacks_block.ensures.lacks c.args.info.now)
