use Rattle.std.proofs.Common.{inl, refl}
use Rattle.refusal_lines.specs.Refusals.{meaning_of}
use Rattle.disk_joining.proofs.Unfit.{blocks_few}
use Rattle.disk_joining.proofs.looking.check_blocks.Goals as goal

pub returns-then-free-need-clause-refused : goal.returns-then-free-need-clause-refused
unfolding meaning_of
returns-then-free-need-clause-refused c = inl (blocks_few c.args.m.now.catalog c.catalog.result.now _ _ c.free_blocks-free.result c.catalog.ensures refl c.free_blocks-free.ensures c.if-free-need.true)
