use Rattle.std.proofs.Common.{Some, set, sym, subst}
use Rattle.status_register.specs.Registered.{Registered}
use Rattle.group_engine.specs.Members.{HasPlace}
use Rattle.group_engine.specs.Mounts.{MountedGroup, Takes}
use Rattle.group_engine.proofs.Members.{attached_takes}
use Rattle.group_engine.proofs.Seen.{seen}
use Rattle.group_engine.proofs.mounted.Mounted.attach.Goals as goal

pub returns-clause-takes : goal.returns-clause-takes
returns-clause-takes g c =
    let s = g.B.Bay.state c.args.bay.now in
    let was = seen c.self.inside in
    let x = c.args.member in
    let size = c.args.size in
    let place : HasPlace was x = subst (λ (v : MountedGroup). HasPlace v x) (sym c.self.view_is) c.requires.place in
    subst (λ (v : MountedGroup). Takes v s → Takes (record was { register = c.attach.new.self; disks = set was.disks x.number (Some (record { slot = x.slot; size = size })) }) s) c.self.view_is
    (subst (λ (r : Registered). Takes was s → Takes (record was { register = r; disks = set was.disks x.number (Some (record { slot = x.slot; size = size })) }) s) (sym c.attach.ensures)
    (attached_takes was x size s place c.requires.image c.member-place.ensures.all c.self.invariant.places))
