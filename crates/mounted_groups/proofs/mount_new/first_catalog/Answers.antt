use Rattle.std.proofs.Common.{sym, ap, subst, refl}
use Rattle.std.specs.Prelude.{IsTrue}
use Rattle.std.specs.List.{list_all}
use Rattle.asm_group.specs.Shape.{is_shape}
use Rattle.asm_formats.specs.Status.{Status, is_entry}
use Rattle.mounted_groups.proofs.FirstBodies.{entries_ok}
use Rattle.mounted_groups.proofs.FirstCatalog.{no_damage}
use Rattle.mounted_groups.proofs.mount_new.first_catalog.Goals as goal

pub from_store-requires-clause-shape : goal.from_store-requires-clause-shape
unfolding is_shape
from_store-requires-clause-shape c = refl

pub from_store-requires-clause-entries : goal.from_store-requires-clause-entries
from_store-requires-clause-entries c = subst (λ (r : Status). IsTrue (list_all is_entry r.entries)) (sym c.requires.status) (entries_ok c.args.group.now c.requires.plan)

pub unreachable-requires : goal.unreachable-requires
unreachable-requires c =
    no_damage c.args.group.now c.requires.plan c.args.store.now.table c.content-content.result.now c.args.status.now.entries _ c.in-Err-Damaged.field-0 c.in-Err-Damaged.field-0-0 c.requires.records
    c.content-content.ensures c.iter.ensures.ordered (ap (λ (r : Status). r.entries) c.requires.status) refl c.in-Err-Damaged.field-0-is c.in-Err-Damaged.ensures.fault
