use Rattle.std.proofs.Common.{arith}
use Rattle.mounted_groups.proofs.Choosing.{all_more, all_of_taken}
use Rattle.new_groups.proofs.preparing.next_id.Goals as goal

pub loop-id-preserved : goal.loop-id-preserved
loop-id-preserved c = record {
  floor = omega (arith, c.loop-id.invariant.floor, c.max-next.ensures);
  above = λ below. all_more c.args.ids.now c.loop-id.id-index c.loop-id.next c.max-next.result c.loop-id-test.true (c.loop-id.invariant.above (omega (arith, below, c.max-next.ensures))) (omega (arith, c.max-next.ensures)) (omega (arith, below, c.max-next.ensures, c.saturating_add.ensures));
}

pub returns-clause-above : goal.returns-clause-above
returns-clause-above c = λ below. all_of_taken c.args.ids.now c.loop-id.id-index c.loop-id.next c.loop-id-test.false (c.loop-id.invariant.above below)
