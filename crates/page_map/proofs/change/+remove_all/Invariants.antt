use Rattle.std.proofs.Common.{length}
use Rattle.page_map.proofs.change.+remove_all.Given as goal

abbrev pub decreases-remove_all : goal.decreases-remove_all
decreases-remove_all l = length l.gone.now
