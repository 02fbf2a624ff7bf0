use Rattle.std.proofs.Common.{arith, length, rules}
use Rattle.std.proofs.lemmas.Grind.{common_steps}
use Rattle.mounted_groups.specs.Mounting.{not_cleared}
use Rattle.mounted_groups.proofs.BroughtMounts.{on_later, on_through}
use Rattle.mounted_groups.proofs.Clears.{lost_by}
use Rattle.mounted_groups.proofs.LeftBehind.{left_mounted, members_over}
use Rattle.mounted_groups.proofs.LeftMounted.{lost_refused}
use Rattle.mounted_groups.proofs.Staying.{stays_keeps, stays_trans}
use Rattle.mounted_groups.proofs.TakenDisks.{taken_found}
use Rattle.mounted_groups.proofs.Takeovers.{cleared_spares, recovered, still_mounted}
use Rattle.mounted_groups.proofs.mount.mount_group.Goals as goal

pub finish-requires-clause-mounted : goal.finish-requires-clause-mounted
finish-requires-clause-mounted g c = c.in_ok-taken.ensures.mounted.mounted

pub finish-requires-clause-takes : goal.finish-requires-clause-takes
finish-requires-clause-takes g c = λ mounted. (c.in_ok-taken.ensures.mounted.whole, c.in_ok-taken.ensures.mounted.ready)

pub returns-in-Ok : goal.returns-in-Ok
returns-in-Ok g c =
    let name = c.args.name.now in
    let n = length c.args.paths.now in
    let held = c.args.held.now in
    let option = c.args.option in
    let group = c.in_ok-taken.taken.group in
    let new = c.finish.new.m in
    let at = c.take_over.new.bay in
    let s = g.B.Bay.state c.args.bay.now in
    let u = g.B.Bay.state at in
    let t = g.B.Bay.state c.finish.new.bay in
    let first = c.in_ok-taken.ensures in
    let brings = c.finish.ensures.brings in
    let keeps = brings.works.keeps in
    record {
      mounted = still_mounted name n held group new s u t keeps first.mounted c.in-Ok.ensures.brings.works.mounted;
      taken = recovered g.B.Bay.state name n held option c.args.now group new c.in_ok-taken.taken.named s at t first.taken keeps
          c.take_over.ensures.spares.faults c.in-Ok.ensures.brings.brought;
      ended = first_of (search rules, grind (arith, common_steps));
      cause = tt;
      attached = stays_trans c.take_over.ensures.attached (stays_keeps keeps.attached);
      spares = cleared_spares name n held group new s u t keeps first.mounted first.inside c.take_over.ensures.spares;
      refused = tt;
      mounts = record {
        group = group;
        at = at;
        one = first.mounts;
        since = keeps;
        moments = λ k is. on_through group new n k u t is brings.moments;
        members = members_over g.B.Bay.state name n held option group new s at t (g.met.B.Bay.sound at) (g.met.B.Bay.sound c.finish.new.bay) first.mounts first.inside keeps brings.moments;
        now = λ k is. on_later group new n k u t is (brings.mounts c.in-Ok.ensures.brings.works.mounted) brings.turns keeps.same;
      };
    }

pub returns-in-Err : goal.returns-in-Err
returns-in-Err g c =
    let name = c.args.name.now in
    let n = length c.args.paths.now in
    let held = c.args.held.now in
    let option = c.args.option in
    let group = c.in_ok-taken.taken.group in
    let new = c.finish.new.m in
    let at = c.take_over.new.bay in
    let s = g.B.Bay.state c.args.bay.now in
    let u = g.B.Bay.state at in
    let t = g.B.Bay.state c.finish.new.bay in
    let first = c.in_ok-taken.ensures in
    let keeps = c.finish.ensures.brings.works.keeps in
    record {
      mounted = tt;
      taken = tt;
      ended = tt;
      cause = not_cleared first.taken.was
          (lost_by first.taken.was.quorum group new s u t c.in-Err.refusal c.refusal_of_commit.result
          (taken_found g.B.Bay.state name n held option c.args.now group c.in_ok-taken.taken.named s u first.taken)
          keeps c.take_over.ensures.spares.faults c.in-Err.ensures.brings.works.cause c.refusal_of_commit.ensures);
      attached = stays_trans c.take_over.ensures.attached (stays_keeps keeps.attached);
      spares = cleared_spares name n held group new s u t keeps first.mounted first.inside c.take_over.ensures.spares;
      refused = lost_refused name n held option g.B.Bay.state s t new c.in-Err.refusal c.refusal_of_commit.result c.refusal_of_commit.ensures
          (left_mounted g.B.Bay.state name n held option group new s at t (g.met.B.Bay.sound at) (g.met.B.Bay.sound c.finish.new.bay) first.mounts first.inside keeps c.finish.ensures.brings.moments);
      mounts = tt;
    }
