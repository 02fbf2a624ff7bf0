use Rattle.group_tests.proofs.Taking.{looked_takes}
use Rattle.group_tests.proofs.disks.byte_at.Goals as goal

pub returns-in-Ok : goal.returns-in-Ok
returns-in-Ok g c = record {
  takes = looked_takes c.args.m.now {s = g.B.Bay.state c.args.bay.now} {t = g.B.Bay.state c.read.new.self} c.read.ensures.attached c.read.ensures.runs c.requires.takes;
}

pub returns-in-Err : goal.returns-in-Err
returns-in-Err g c = record {
  takes = looked_takes c.args.m.now {s = g.B.Bay.state c.args.bay.now} {t = g.B.Bay.state c.read.new.self} c.read.ensures.attached c.read.ensures.runs c.requires.takes;
}
