use Rattle.group_contents.proofs.Steps.{writes_more}
use Rattle.group_contents.proofs.resizing.grow_by.Goals as goal

pub returns-else-filling-gt0-clause-cause : goal.returns-else-filling-gt0-clause-cause
returns-else-filling-gt0-clause-cause g c =
    writes_more c.args.m.now c.args.filling.now.extents c.stretch.new.m (g.B.Bay.state c.args.bay.now) (g.B.Bay.state c.stretch.new.bay) c.stretch.result c.stretch.ensures.cause
