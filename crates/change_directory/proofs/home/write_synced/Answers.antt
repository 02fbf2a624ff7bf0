use Rattle.std.proofs.Common.{rules, arith}
use Rattle.bay.proofs.OneCall.{afforded, call_of_parts}
use Rattle.change_directory.proofs.Keeping.{homed_as_held}
use Rattle.change_directory.proofs.Works.{settled}
use Rattle.change_directory.proofs.home.write_synced.Goals as goal

pub returns : goal.returns
returns g c =
    let sync = call_of_parts 1 0 c.sync.ensures.attached (omega arith) (omega arith) c.sync.ensures.runs c.sync.ensures.done c.sync.ensures.cause in
    afforded (search rules) (settled (g.met.B.Bay.sound c.sync.new.self) (homed_as_held c.args.copy c.args.pages.now) c.in_ok-write_home.ensures sync)
