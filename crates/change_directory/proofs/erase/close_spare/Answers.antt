use Rattle.std.proofs.Common.{rules}
use Rattle.bay.proofs.OneCall.{wider}
use Rattle.change_directory.proofs.Usable.{short_sector, some_sector}
use Rattle.change_directory.proofs.Losing.{same_safely, spare_shuts}
use Rattle.change_directory.proofs.erase.close_spare.Goals as goal

pub returns-in_err-spare : goal.returns-in_err-spare
returns-in_err-spare g c =
    let calls = wider (same_safely c.args.copy c.requires.least (short_sector _ c.requires.sector_size) (some_sector _ c.requires.sector_size)) c.spare_slot.ensures.reads.calls in search rules

pub returns-in_err-close_gate : goal.returns-in_err-close_gate
returns-in_err-close_gate g c =
    let shut = spare_shuts c.args.copy c.requires.least (short_sector _ c.requires.sector_size) (some_sector _ c.requires.sector_size) _ _ c.log_place.ensures
    (g.met.B.Bay.sound c.spare_slot.new.bay) c.in_ok-spare.ensures c.close_gate.ensures.call in
    let calls = shut.calls in search rules

pub returns : goal.returns
returns g c =
    let shut = spare_shuts c.args.copy c.requires.least (short_sector _ c.requires.sector_size) (some_sector _ c.requires.sector_size) _ _ c.log_place.ensures
    (g.met.B.Bay.sound c.spare_slot.new.bay) c.in_ok-spare.ensures c.in_ok-close_gate.ensures.call in
    record { calls = shut.calls; done = shut.done; cause = tt }
