use Rattle.std.proofs.Common.{sym, subst, IsTrue}
use Rattle.asm_formats.specs.Status.{Status, is_status}
use Rattle.file_extents.specs.group_engine.NextRecords.{KeepsDisks}
use Rattle.file_extents.proofs.group_engine.Endings.{goes_on}
use Rattle.file_extents.proofs.group_engine.NextRecords.{same_disks_are_next}
use Rattle.file_extents.proofs.Chains.{given_mounted, given_up, takes_on}
use Rattle.resync.proofs.Marks.{mode_disks}
use Rattle.resync.proofs.slice.put_online.Goals as goal

pub set_status-requires : goal.set_status-requires
set_status-requires g c =
    let m = c.set_flight.new.self in
    let keeps = given_up c.args.m.now m (g.B.Bay.state c.args.bay.now) c.requires.takes c.set_flight.ensures in
    let takes = takes_on keeps in
    record {
      whole = λ is. (takes is).0;
      ready = λ is. (takes is).1;
      next = λ is.
          let whole = (takes is).0 in
          same_disks_are_next m c.with_mode-next.result whole
          (c.with_mode-next.ensures.kept (subst (λ (r : Status). IsTrue (is_status r)) (sym c.status.ensures) whole.status))
          (subst (λ (r : Status). KeepsDisks r c.with_mode-next.result) c.status.ensures (mode_disks _ _ _ c.status.result.now c.with_mode-next.result c.with_mode-next.ensures.value));
    }

pub returns : goal.returns
returns g c =
    let keeps = given_up c.args.m.now c.set_flight.new.self (g.B.Bay.state c.args.bay.now) c.requires.takes c.set_flight.ensures in
    record {
      goes = goes_on c.set_status.result keeps (given_mounted c.args.m.now c.set_flight.new.self c.requires.mounted c.set_flight.ensures)
          (record { keeps = c.set_status.ensures.keeps; mounted = c.set_status.ensures.mounted; cause = c.set_status.ensures.cause });
    }
