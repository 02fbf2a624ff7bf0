use Rattle.std.proofs.Common.{◌≡◌, ◌∙◌, None, ap}
use Rattle.asm_formats.specs.Status.{Status, entry_of}
use Rattle.group_engine.specs.Mounts.{IsMounted, MountedGroup, Takes}
use Rattle.group_engine.proofs.TakingOut.{leaves_done, leaves_refused}
use Rattle.group_engine.proofs.mounted.Mounted.end_entry.Goals as goal

pub detach-requires : goal.detach-requires
detach-requires g c =
    record { small = c.requires.small; gone = ap (λ (r : Status). entry_of r.entries c.args.disk) c.in-Ok.ensures.recorded ∙ c.requires.gone }

pub end_disk-requires : goal.end_disk-requires
end_disk-requires g c =
    let was : Takes c.set_status.new.self (g.B.Bay.state c.set_status.new.bay) = λ m. (c.set_status.ensures.keeps.whole m, c.set_status.ensures.keeps.ready m) in
    let takes = c.detach.ensures.takes was in
    let mounted : IsMounted c.detach.new.self = ap (λ (v : MountedGroup). v.access) c.detach.ensures.group ∙ c.in-Ok.ensures.mounted in
    record { mounted = mounted; whole = (takes mounted).0; ready = (takes mounted).1 }

pub returns-in-Ok : goal.returns-in-Ok
returns-in-Ok g c =
    let s = g.B.Bay.state c.args.bay.now in
    let t = g.B.Bay.state c.set_status.new.bay in
    let u = g.B.Bay.state c.end_disk.new.bay in
    let d = c.args.disk in
    let gone : entry_of c.set_status.new.self.register.value.entries d ≡ None = ap (λ (r : Status). entry_of r.entries d) c.in-Ok.ensures.recorded ∙ c.requires.gone in
    leaves_done c.args.self.now c.set_status.new.self c.end_disk.new.self s t u d c.set_status.ensures.keeps c.in-Ok.ensures.mounted gone c.detach.new.self c.detach.ensures.group c.end_disk.result c.end_disk.ensures

pub returns-in-Err : goal.returns-in-Err
returns-in-Err g c = leaves_refused c.args.self.now c.set_status.new.self (g.B.Bay.state c.args.bay.now) (g.B.Bay.state c.set_status.new.bay) c.args.disk c.in-Err.refusal (c.requires.takes c.requires.mounted).0 c.set_status.ensures.keeps c.in-Err.ensures.cause
