use Rattle.bay_mem.specs.MemState.{state_of}
use Rattle.group_tests.proofs.Taking.{quiet_takes}
use Rattle.group_tests.proofs.playing.is_right.Goals as goal

pub returns-in-Fails : goal.returns-in-Fails
returns-in-Fails c = record {
  takes = quiet_takes c.args.m.now (state_of c.args.bay.now) (state_of c.befalls.new.bay) c.befalls.ensures.quiet c.befalls.ensures.attached c.requires.takes;
}
