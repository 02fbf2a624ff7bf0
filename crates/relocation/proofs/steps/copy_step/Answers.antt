use Rattle.std.proofs.Common.{Some, sym, subst}
use Rattle.refusal_lines.specs.declared.refusal.Refusal.{Refusal}
use Rattle.resync.proofs.group_engine.Members.{keeps_lets, lets_join}
use Rattle.resync.proofs.file_extents.Chains.{takes_on}
use Rattle.relocation.specs.Slices.{SliceCause}
use Rattle.relocation.proofs.Chains.{copy_slices, flight_disks, flight_lets, flight_mounted, goes_more, lets_takes, slice_on}
use Rattle.relocation.proofs.steps.copy_step.Goals as goal

pub copy_next-requires-clause-mounted : goal.copy_next-requires-clause-mounted
copy_next-requires-clause-mounted g c = flight_mounted c.args.m.now c.set_flight.new.self (Some c.args.flight) c.set_flight.ensures c.requires.mounted

pub copy_next-requires-clause-takes : goal.copy_next-requires-clause-takes
copy_next-requires-clause-takes g c = lets_takes (flight_lets c.args.m.now c.set_flight.new.self (Some c.args.flight) c.set_flight.ensures (g.B.Bay.state c.args.bay.now) c.requires.takes)

pub advance-requires-clause-mounted : goal.advance-requires-clause-mounted
advance-requires-clause-mounted g c = flight_mounted c.args.m.now c.set_flight.new.self (Some c.args.flight) c.set_flight.ensures c.requires.mounted

pub advance-requires-clause-takes : goal.advance-requires-clause-takes
advance-requires-clause-takes g c = takes_on c.copy_next.ensures.keeps

pub returns-in-Ok : goal.returns-in-Ok
returns-in-Ok g c =
    let m = c.set_flight.new.self in
    let lets = flight_lets c.args.m.now m (Some c.args.flight) c.set_flight.ensures (g.B.Bay.state c.args.bay.now) c.requires.takes in
    goes_more c.advance.result (lets_join lets (keeps_lets c.copy_next.ensures.keeps)) (flight_mounted c.args.m.now m (Some c.args.flight) c.set_flight.ensures c.requires.mounted) c.advance.ensures

pub returns-in-Err : goal.returns-in-Err
returns-in-Err g c =
    let m = c.set_flight.new.self in
    let new = c.stopped.new.m in
    let s = g.B.Bay.state c.args.bay.now in
    let t = g.B.Bay.state c.copy_next.new.bay in
    let keeps = c.copy_next.ensures.keeps in
    let lets = flight_lets c.args.m.now m (Some c.args.flight) c.set_flight.ensures s c.requires.takes in
    let mounted = flight_mounted c.args.m.now m (Some c.args.flight) c.set_flight.ensures c.requires.mounted in
    let group = c.stopped.ensures.group in
    record {
      lets = lets_join (lets_join lets (keeps_lets keeps)) (flight_lets m new new.flight group t (takes_on keeps));
      mounted = tt;
      cause = subst (λ (e : Refusal). SliceCause c.args.m.now new s t e) (sym c.stopped.ensures.refusal)
          (slice_on lets mounted new t _ (copy_slices m (lets.whole mounted) new (flight_disks m new new.flight group) s t c.in-Err.error c.in-Err.ensures.cause));
    }
