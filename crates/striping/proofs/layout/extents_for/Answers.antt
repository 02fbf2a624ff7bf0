use Rattle.std.proofs.Common.{arith}
use Rattle.asm_placement.proofs.Places.{coarse_count, fine_count, few_extents}
use Rattle.striping.proofs.layout.extents_for.Goals as goal

pub overflow_add-result : goal.overflow_add-result
overflow_add-result c = omega (arith, few_extents c.args.layout.au c.args.layout.step _ c.in_order-last.result.0 c.in_order-last.result.1 c.requires c.in_order-last.ensures)

pub overflow_mul-result : goal.overflow_mul-result
overflow_mul-result c = omega (arith, few_extents c.args.layout.au c.args.layout.step _ c.in_order-last.result.0 c.in_order-last.result.1 c.requires c.in_order-last.ensures)

pub returns-in-Coarse : goal.returns-in-Coarse
returns-in-Coarse c = rw c.in-Coarse.is (record { has = coarse_count c.args.layout.au c.args.layout.step c.args.size c.in_order-last.result.0 c.in_order-last.result.1 (omega arith) c.in_order-last.ensures })

pub returns-in-Fine : goal.returns-in-Fine
returns-in-Fine c = rw c.in-Fine.is (record { has = fine_count c.args.layout.au c.args.layout.step c.args.size c.in_order-last.result.0 c.in_order-last.result.1 (omega arith) c.in_order-last.ensures })
