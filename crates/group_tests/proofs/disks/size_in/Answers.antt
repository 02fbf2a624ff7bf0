use Rattle.bay.proofs.OneCall.{keeps_size}
use Rattle.group_tests.proofs.Taking.{attached_takes}
use Rattle.group_tests.proofs.disks.size_in.Goals as goal

pub returns-in-Ok-clause-takes : goal.returns-in-Ok-clause-takes
returns-in-Ok-clause-takes g c =
    attached_takes c.args.m.now (g.B.Bay.state c.args.bay.now) (g.B.Bay.state c.attach.new.self) c.args.slot c.attach.ensures.others (keeps_size c.attach.ensures) c.attach.ensures.runs
    c.requires.takes

pub returns-in-Err-clause-takes : goal.returns-in-Err-clause-takes
returns-in-Err-clause-takes g c =
    attached_takes c.args.m.now (g.B.Bay.state c.args.bay.now) (g.B.Bay.state c.attach.new.self) c.args.slot c.attach.ensures.others (keeps_size c.attach.ensures) c.attach.ensures.runs
    c.requires.takes
