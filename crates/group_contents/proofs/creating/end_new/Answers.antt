use Rattle.file_extents.specs.group_engine.Mounts.{MountedGroup}
use Rattle.file_extents.proofs.Chains.{or_shut_goes}
use Rattle.group_contents.specs.Creating.{NamesFile}
use Rattle.group_contents.proofs.Steps.{or_shut_ok}
use Rattle.group_contents.proofs.creating.end_new.Goals as goal

pub returns-clause-goes : goal.returns-clause-goes
returns-clause-goes g c =
    or_shut_goes c.args.m.now c.name_new-answer.new.m c.or_shut.new.m (g.B.Bay.state c.args.bay.now) (g.B.Bay.state c.name_new-answer.new.bay) c.name_new-answer.result
    c.or_shut.result c.name_new-answer.ensures.goes c.or_shut.ensures

pub returns-clause-named : goal.returns-clause-named
returns-clause-named g c =
    or_shut_ok (λ (v : MountedGroup). NamesFile c.args.m.now c.args.new.now c.args.filling.now.extents.file v) c.name_new-answer.new.m c.or_shut.new.m c.name_new-answer.result
    c.or_shut.result c.name_new-answer.ensures.named c.or_shut.ensures
