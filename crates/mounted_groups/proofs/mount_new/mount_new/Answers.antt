use Rattle.std.proofs.Common.{sym, ap, subst, refl}
use Rattle.std.specs.Prelude.{IsTrue}
use Rattle.refusal_lines.specs.Refusals.{meaning_of}
use Rattle.asm_formats.specs.Status.{Status, is_status}
use Rattle.group_recovery.specs.catalog_tables.Faults.{IsCatalogOf}
use Rattle.mounted_groups.specs.Planned.{Plan}
use Rattle.mounted_groups.proofs.FirstBodies.{status_ok}
use Rattle.mounted_groups.proofs.FirstMount.{first_mounted, first_slots, first_whole, is_register, stands}
use Rattle.mounted_groups.proofs.mount_new.mount_new.Goals as goal

pub returns-in_default-clause-err : goal.returns-in_default-clause-err
unfolding meaning_of
returns-in_default-clause-err g c = refl

pub standing-register-requires-clause-status : goal.standing-register-requires-clause-status
standing-register-requires-clause-status g c = subst (λ (r : Status). IsTrue (is_status r)) (sym c.first_status-status.ensures) (status_ok c.args.group c.requires.plan)

pub standing-register-requires-clause-slots : goal.standing-register-requires-clause-slots
standing-register-requires-clause-slots g c = first_slots c.args.disk.slot c.args.group c.args.store (g.B.Bay.state c.args.bay.now) c.requires.store

pub new-requires : goal.new-requires
new-requires g c =
    first_whole c.args.disk.slot c.args.group c.args.disk.size _ c.args.store c.in-Ok.catalog (g.B.Bay.state c.args.bay.now) c.requires.plan c.requires.store
    (subst (λ (r : Status). IsCatalogOf c.args.store.table.records r.entries c.in-Ok.catalog) c.first_status-status.ensures c.in-Ok.ensures.catalog) c.in-Ok.ensures.shape
    c.standing-register.result c.first_attached-disks.result
    (is_register c.args.disk.slot c.args.group _ c.standing-register.result c.first_status-status.ensures c.standing-register.ensures.register) c.first_attached-disks.ensures
    (stands c.args.disk.slot c.args.group _ c.standing-register.result c.first_status-status.ensures c.standing-register.ensures.reaches)

pub returns-clause-mounted : goal.returns-clause-mounted
returns-clause-mounted g c =
    first_mounted c.args.disk.slot c.args.group c.args.disk.size _ c.args.store c.in-Ok.catalog (g.B.Bay.state c.args.bay.now) c.requires.plan c.requires.store
    (subst (λ (r : Status). IsCatalogOf c.args.store.table.records r.entries c.in-Ok.catalog) c.first_status-status.ensures c.in-Ok.ensures.catalog) c.in-Ok.ensures.shape
    c.standing-register.result c.first_attached-disks.result
    (is_register c.args.disk.slot c.args.group _ c.standing-register.result c.first_status-status.ensures c.standing-register.ensures.register) c.first_attached-disks.ensures
    (stands c.args.disk.slot c.args.group _ c.standing-register.result c.first_status-status.ensures c.standing-register.ensures.reaches)
    c.new.result c.new.ensures (ap (λ (p : Plan). p.name) c.group.view_is) c.requires.attached c.standing-register.ensures.ready c.standing-register.ensures.history
