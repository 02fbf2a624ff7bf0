use Rattle.file_extents.specs.group_engine.Mounts.{MountedGroup}
use Rattle.file_extents.proofs.Chains.{or_shut_goes}
use Rattle.group_contents.specs.Sizes.{SetsSize}
use Rattle.group_contents.proofs.Steps.{or_shut_ok}
use Rattle.group_contents.proofs.resizing.size_or_shut.Goals as goal

pub returns-clause-goes : goal.returns-clause-goes
returns-clause-goes g c =
    or_shut_goes c.args.m.now c.set_size-answer.new.m c.or_shut.new.m (g.B.Bay.state c.args.bay.now) (g.B.Bay.state c.set_size-answer.new.bay) c.set_size-answer.result
    c.or_shut.result c.set_size-answer.ensures.goes c.or_shut.ensures

pub returns-clause-sized : goal.returns-clause-sized
returns-clause-sized g c =
    or_shut_ok (λ (v : MountedGroup). SetsSize c.args.m.now c.args.file c.args.size v) c.set_size-answer.new.m c.or_shut.new.m c.set_size-answer.result c.or_shut.result
    c.set_size-answer.ensures.sized c.or_shut.ensures
