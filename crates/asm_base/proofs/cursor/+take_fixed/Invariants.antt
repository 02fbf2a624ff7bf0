use Rattle.std.proofs.Common.{length}
use Rattle.asm_base.proofs.cursor.+take_fixed.Given as goal

abbrev pub decreases-take_fixed : goal.decreases-take_fixed
decreases-take_fixed l = length l.field.now
