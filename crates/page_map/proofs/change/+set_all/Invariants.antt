use Rattle.std.proofs.Common.{vec_len}
use Rattle.page_map.proofs.change.+set_all.Given as goal

abbrev pub decreases-set_all : goal.decreases-set_all
decreases-set_all l = vec_len l.values.now
