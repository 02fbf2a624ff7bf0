use Rattle.std.proofs.Common.{◌≡◌, ◌∙◌, ap, sym, subst}
use Rattle.file_extents.specs.group_engine.Members.{HasImage, with_attached_disk}
use Rattle.file_extents.specs.group_engine.Mounts.{MountedGroup, Takes}
use Rattle.status_register.specs.declared.member.Member.{Member}
use Rattle.disk_joining.specs.Attaching.{member_of_image}
use Rattle.disk_joining.specs.Taking.{TakesIn}
use Rattle.disk_joining.proofs.Attached.{attach_taken, has_image}
use Rattle.disk_joining.proofs.attaching.attach_image.Goals as goal

pub attach-requires-clause-image : goal.attach-requires-clause-image
attach-requires-clause-image g c =
    let is = c.if-may_attach.ensures in
    subst (λ (x : Member). HasImage x c.args.image.size (g.B.Bay.state c.args.bay.now)) (sym c.member_of-member.ensures)
    (has_image c.args.held.now c.args.m.now (g.B.Bay.state c.args.bay.now) c.args.image is (c.requires.takes is.mounted).0 c.requires.attached)

pub returns-then-may_attach-clause-taken : goal.returns-then-may_attach-clause-taken
returns-then-may_attach-clause-taken g c =
    let s = g.B.Bay.state c.args.bay.now in
    let m = c.args.m.now in
    let size = c.args.image.size in
    let eq : c.attach.new.self ≡ with_attached_disk m (member_of_image m c.args.image) size = c.attach.ensures.group ∙ ap (λ (x : Member). with_attached_disk m x size) c.member_of-member.ensures in
    subst (λ (n : MountedGroup). TakesIn c.args.held.now m n s s) (sym eq)
    (attach_taken c.args.held.now m s c.args.image c.if-may_attach.ensures c.requires.apart (subst (λ (n : MountedGroup). Takes n s) eq (c.attach.ensures.takes c.requires.takes)))

pub returns-then-may_attach-clause-value : goal.returns-then-may_attach-clause-value
returns-then-may_attach-clause-value g c = ap (λ (n : MountedGroup). n.register.value) c.attach.ensures.group
