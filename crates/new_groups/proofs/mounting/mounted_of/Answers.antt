use Rattle.std.proofs.Common.{List, Option, sym, ap, subst, ◌∙◌}
use Rattle.asm_formats.specs.Among.{IsAmong}
use Rattle.mounted_groups.specs.Mounting.{by_number}
use Rattle.mounted_groups.specs.group_engine.Making.{group_of_parts}
use Rattle.mounted_groups.specs.group_engine.Mounts.{IsWhole}
use Rattle.mounted_groups.specs.group_engine.declared.attached.Attached.{Attached}
use Rattle.mounted_groups.specs.group_recovery.declared.finding.Headed.{Headed}
use Rattle.new_groups.specs.Drafts.{disk_list}
use Rattle.new_groups.proofs.Formed.{parts_whole}
use Rattle.new_groups.proofs.DiskLists.{numbers_small}
use Rattle.new_groups.proofs.mounting.mounted_of.Goals as goal

pub by_number-disks-requires : goal.by_number-disks-requires
by_number-disks-requires g c = λ h among. numbers_small c.args.draft c.requires.agrees h (subst (λ (l : List Headed). IsAmong l h) c.deref.ensures.value among)

pub new-requires : goal.new-requires
new-requires g c =
    parts_whole c.args.draft c.requires.agrees c.args.formed c.args.catalog c.by_number-disks.result (g.B.Bay.state c.args.bay.now) c.requires.parts c.requires.disks c.requires.catalog c.requires.shape c.requires.reached
    (c.by_number-disks.ensures ∙ ap (λ (l : List Headed). by_number (disk_list l)) c.deref.ensures.value)

pub returns-clause-made : goal.returns-clause-made
returns-clause-made g c =
    c.new.ensures ∙ ap (λ (l : List (Option Attached)). group_of_parts c.args.draft.name c.args.catalog c.args.formed.store c.args.formed.register l) (c.by_number-disks.ensures ∙ ap (λ (l : List Headed). by_number (disk_list l)) c.deref.ensures.value)

pub returns-clause-whole : goal.returns-clause-whole
returns-clause-whole g c =
    subst IsWhole (sym c.new.ensures)
    (parts_whole c.args.draft c.requires.agrees c.args.formed c.args.catalog c.by_number-disks.result (g.B.Bay.state c.args.bay.now) c.requires.parts c.requires.disks c.requires.catalog c.requires.shape c.requires.reached
    (c.by_number-disks.ensures ∙ ap (λ (l : List Headed). by_number (disk_list l)) c.deref.ensures.value))
