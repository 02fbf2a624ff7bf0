-- What is known of disks under rules: what is known of those in memory, but for what they hold.
use Rattle.bay.specs.State.{BayState}
use Rattle.bay_mem.specs.MemState as mem
use Rattle.program_tests.specs.Untold.{untold_state}
use Rattle.program_tests.specs.declared.ruled_bay.RuledBay.{RuledBay}

abbrev pub ruled_bay_state : RuledBay → BayState
ruled_bay_state bay = untold_state (mem.state_of bay.disks)
