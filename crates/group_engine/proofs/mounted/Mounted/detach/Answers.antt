use Rattle.std.proofs.Common.{◌≡◌, None, set, sym, subst}
use Rattle.asm_formats.specs.Status.{entry_of}
use Rattle.status_register.specs.Registered.{Registered}
use Rattle.group_engine.specs.Mounts.{MountedGroup, Takes}
use Rattle.group_engine.proofs.Members.{detached_takes}
use Rattle.group_engine.proofs.Seen.{seen}
use Rattle.group_engine.proofs.mounted.Mounted.detach.Goals as goal

pub returns-clause-takes : goal.returns-clause-takes
returns-clause-takes g c =
    let s = g.B.Bay.state c.args.bay.now in
    let was = seen c.self.inside in
    let d = c.args.disk in
    let gone : entry_of was.register.value.entries d ≡ None = subst (λ (v : MountedGroup). entry_of v.register.value.entries d ≡ None) (sym c.self.view_is) c.requires.gone in
    subst (λ (v : MountedGroup). Takes v s → Takes (record was { register = c.detach.new.self; disks = set was.disks d None }) s) c.self.view_is
    (subst (λ (r : Registered). Takes was s → Takes (record was { register = r; disks = set was.disks d None }) s) (sym c.detach.ensures)
    (detached_takes was d s gone))
