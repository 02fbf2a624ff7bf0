use Rattle.std.proofs.Common.{length}
use Rattle.page_map.proofs.change.+new_keys.Given as goal

abbrev pub decreases-new_keys : goal.decreases-new_keys
decreases-new_keys l = length l.put.now
