use Rattle.file_extents.proofs.Chains.{or_shut_goes}
use Rattle.file_extents.proofs.filling.end_part.Goals as goal

pub returns-clause-goes : goal.returns-clause-goes
returns-clause-goes g c =
    or_shut_goes c.args.m.now c.next_part-answer.new.m c.or_shut.new.m (g.B.Bay.state c.args.bay.now) (g.B.Bay.state c.next_part-answer.new.bay) c.next_part-answer.result c.or_shut.result
    c.next_part-answer.ensures.goes c.or_shut.ensures
