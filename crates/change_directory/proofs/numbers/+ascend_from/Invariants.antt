use Rattle.std.proofs.Common.{length}
use Rattle.change_directory.proofs.numbers.+ascend_from.Given as goal

abbrev pub decreases-ascend_from : goal.decreases-ascend_from
decreases-ascend_from l = length l.pages.now
