use Rattle.std.proofs.Common.{length}
use Rattle.page_map.proofs.change.+gone_blocks.Given as goal

abbrev pub decreases-gone_blocks : goal.decreases-gone_blocks
decreases-gone_blocks l = length l.gone.now
