use Rattle.std.proofs.Common.{◌∙◌, ℕ, Ok, Err, sym, ap, subst}
use Rattle.asm_formats.specs.Status.{Status}
use Rattle.directory_store.specs.Stores as stores
use Rattle.group_engine.specs.Forgetting.{KeepsNamed}
use Rattle.group_engine.proofs.Commits.{keeps_over_row}
use Rattle.bay.specs.State.{IsSound}
use Rattle.rebalance.specs.catalog_tables.Placing.{HasUnits}
use Rattle.refusal_lines.specs.declared.refusal.Refusal.TheVariants as cause
use Rattle.status_register.specs.Holders.{HoldSlots, SlotsDiffer}
use Rattle.group_engine.specs.Mounts.{IsMounted, IsReady, IsWhole, MountedGroup}
use Rattle.group_engine.specs.Statuses.{IsNextOf, WritesStatus}
use Rattle.group_engine.proofs.Records.{record_parts}
use Rattle.group_engine.proofs.Seen.{seen}
use Rattle.group_engine.proofs.StatusEnds.{ends_lost, ends_without, ends_written}
use Rattle.group_engine.proofs.mounted.Mounted.write_status.Goals as goal

pub ready_disks-requires-clause-entries : goal.ready_disks-requires-clause-entries
ready_disks-requires-clause-entries g c = (record_parts c.args.next.now c.requires.next.status).entries

pub ready_disks-requires-clause-units : goal.ready_disks-requires-clause-units
ready_disks-requires-clause-units g c =
    let next = c.args.next.now in
    let ms = c.requires.next.units in
    (ms.0, subst (λ (v : MountedGroup). HasUnits v.catalog.shape next.entries v.catalog.tables ms.0) (sym c.self.view_is) ms.1)

pub returns-then-is_err : goal.returns-then-is_err
returns-then-is_err g c =
    let s = g.B.Bay.state c.args.bay.now in
    let was = seen c.self.inside in
    let next = c.args.next.now in
    let e = c.ready_disks.ensures in
    subst (λ (v : MountedGroup). WritesStatus v next (Err cause.NoMemory) (record was { catalog = c.ready_disks.new.self }) s s) c.self.view_is
    (ends_without was (subst (λ (v : MountedGroup). IsMounted v) (sym c.self.view_is) c.requires.mounted) (subst (λ (v : MountedGroup). IsWhole v) (sym c.self.view_is) c.requires.whole) next s (subst (λ (v : MountedGroup). IsReady v s) (sym c.self.view_is) c.requires.ready)
    c.ready_disks.new.self (record { tables = e.tables; units = e.units; shape = e.shape }))

pub write-requires-clause-slots : goal.write-requires-clause-slots
write-requires-clause-slots g c = subst (λ (v : MountedGroup). HoldSlots (g.B.Bay.state c.args.bay.now) v.register.members) (sym c.self.view_is) c.requires.ready.register.slots

pub write-requires-clause-apart : goal.write-requires-clause-apart
write-requires-clause-apart g c = subst (λ (v : MountedGroup). SlotsDiffer v.register.members) (sym c.self.view_is) c.requires.ready.register.apart

pub forget_others-requires-clause-kept : goal.forget_others-requires-clause-kept
forget_others-requires-clause-kept g c =
    let s = g.B.Bay.state c.args.bay.now in
    let t = g.B.Bay.state c.write.new.bay in
    let was = seen c.self.inside in
    let next = c.args.next.now in
    keeps_over_row was was.store next s t c.write.result c.write.new.self c.write.ensures (subst (λ (v : MountedGroup). stores.Keeps v.store s) (sym c.self.view_is) c.requires.ready.store)

pub returns-in-Ok : goal.returns-in-Ok
returns-in-Ok g c =
    let s = g.B.Bay.state c.args.bay.now in
    let t = g.B.Bay.state c.write.new.bay in
    let was = seen c.self.inside in
    let next = c.args.next.now in
    let sound : IsSound s = g.met.B.Bay.sound c.args.bay.now in
    let d = c.ready_disks.ensures in
    subst (λ (v : MountedGroup). WritesStatus v next (Ok tt) (record was { catalog = c.apply_disks.new.self; store = c.forget_others.new.store; register = c.write.new.self }) s t) c.self.view_is
    (ends_written was (subst (λ (v : MountedGroup). IsMounted v) (sym c.self.view_is) c.requires.mounted) (subst (λ (v : MountedGroup). IsWhole v) (sym c.self.view_is) c.requires.whole) next s (subst (λ (v : MountedGroup). IsReady v s) (sym c.self.view_is) c.requires.ready) c.apply_disks.new.self
    (subst (λ (v : MountedGroup). IsNextOf v next) (sym c.self.view_is) c.requires.next) t sound c.write.result c.write.new.self c.write.ensures (c.apply_disks.ensures.tables ∙ d.tables) (c.apply_disks.ensures.shape ∙ d.shape)
    (λ same. c.apply_disks.ensures.kept (d.same was.register.value.entries (subst (λ (v : MountedGroup). IsWhole v) (sym c.self.view_is) c.requires.whole).units same).1 ∙ d.units)
    c.in-Ok.field-0 c.in-Ok.is c.apply_disks.ensures.units c.forget_others.new.store
    (subst (λ (named : ℕ). KeepsNamed was.store c.forget_others.new.store was.disks named 64) (ap (λ (r : Status). r.directories) c.next.view_is) c.forget_others.ensures.named) c.forget_others.ensures.kept)

pub returns-in-Err : goal.returns-in-Err
returns-in-Err g c =
    let s = g.B.Bay.state c.args.bay.now in
    let t = g.B.Bay.state c.write.new.bay in
    let was = seen c.self.inside in
    let next = c.args.next.now in
    let sound : IsSound s = g.met.B.Bay.sound c.args.bay.now in
    let d = c.ready_disks.ensures in
    subst (λ (v : MountedGroup). WritesStatus v next (Err c.dismount.result) c.dismount.new.self s t) c.self.view_is
    (ends_lost was (subst (λ (v : MountedGroup). IsMounted v) (sym c.self.view_is) c.requires.mounted) (subst (λ (v : MountedGroup). IsWhole v) (sym c.self.view_is) c.requires.whole) next s (subst (λ (v : MountedGroup). IsReady v s) (sym c.self.view_is) c.requires.ready) c.ready_disks.new.self
    (subst (λ (v : MountedGroup). IsNextOf v next) (sym c.self.view_is) c.requires.next) t sound c.write.result c.write.new.self c.write.ensures d.tables d.shape (λ same. d.units)
    c.in-Err.dead c.dismount.result c.dismount.new.self c.in-Err.is c.dismount.ensures)

pub invariant_of-self-in-Ok : goal.invariant_of-self-in-Ok
invariant_of-self-in-Ok g c = record { places = c.self.invariant.places; search = c.start-self-inside.ensures c.apply_disks.new.self c.write.new.self.value }
