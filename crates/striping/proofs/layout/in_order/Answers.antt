use Rattle.asm_placement.proofs.Starts.{in_first, in_third_left}
use Rattle.asm_placement.proofs.Units.{layout_unit}
use Rattle.striping.proofs.layout.in_order.Goals as goal

pub returns-then-offset-first : goal.returns-then-offset-first
returns-then-offset-first c =
    in_first c.args.layout.au c.args.layout.step c.args.offset (layout_unit c.args.layout.au c.args.layout.step c.requires).some c.if-offset-first.true

pub returns : goal.returns
returns c =
    in_third_left c.args.layout.au c.args.layout.step c.args.offset (layout_unit c.args.layout.au c.args.layout.step c.requires).some c.if-offset-first.false c.if-offset-first-2.false
