use Rattle.std.proofs.Common.{length, ap, arith}
use Rattle.group_recovery.proofs.Looks.{left_few}
use Rattle.group_recovery.proofs.found.found_of.Goals as goal

pub invariant_of-result : goal.invariant_of-result
invariant_of-result c = omega (arith, c.requires.few, left_few c.args.unread.now c.args.headed.items, ap length c.leave_out.ensures)
