use Rattle.std.proofs.Common.{sym, subst}
use Rattle.group_engine.specs.Mounts.{IsMounted, MountedGroup}
use Rattle.group_engine.specs.Own.{KeepsGroup}
use Rattle.group_engine.proofs.Causes.{gives_up}
use Rattle.group_engine.proofs.TakingOut.{leaves_on, leaves_without}
use Rattle.group_engine.proofs.mounted.Mounted.take_out.Goals as goal

pub end_entry-requires-clause-takes : goal.end_entry-requires-clause-takes
end_entry-requires-clause-takes g c =
    let s = g.B.Bay.state c.args.bay.now in
    let keeps : KeepsGroup c.args.self.now c.set_flight.new.self s s = subst (λ (v : MountedGroup). KeepsGroup c.args.self.now v s s) (sym c.set_flight.ensures) (gives_up c.args.self.now s c.requires.takes) in
    λ mounted. (keeps.whole mounted, keeps.ready mounted)

pub returns : goal.returns
returns g c =
    let s = g.B.Bay.state c.args.bay.now in
    let keeps : KeepsGroup c.args.self.now c.set_flight.new.self s s = subst (λ (v : MountedGroup). KeepsGroup c.args.self.now v s s) (sym c.set_flight.ensures) (gives_up c.args.self.now s c.requires.takes) in
    leaves_on c.args.self.now c.set_flight.new.self c.end_entry.new.self s s (g.B.Bay.state c.end_entry.new.bay) c.args.disk c.end_entry.result keeps
    (subst (λ (v : MountedGroup). IsMounted v) (sym c.set_flight.ensures) c.requires.mounted) c.end_entry.ensures

pub returns-then-not-may_get : goal.returns-then-not-may_get
returns-then-not-may_get g c =
    let s = g.B.Bay.state c.args.bay.now in
    leaves_without c.args.self.now c.set_flight.new.self s s c.args.disk
    (subst (λ (v : MountedGroup). KeepsGroup c.args.self.now v s s) (sym c.set_flight.ensures) (gives_up c.args.self.now s c.requires.takes))

pub returns-then-disk-ge64 : goal.returns-then-disk-ge64
returns-then-disk-ge64 g c =
    let s = g.B.Bay.state c.args.bay.now in
    leaves_without c.args.self.now c.set_flight.new.self s s c.args.disk
    (subst (λ (v : MountedGroup). KeepsGroup c.args.self.now v s s) (sym c.set_flight.ensures) (gives_up c.args.self.now s c.requires.takes))
