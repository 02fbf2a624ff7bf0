use Rattle.std.proofs.Common.{List, Option, sym, ap, subst, ◌∙◌}
use Rattle.group_engine.specs.Making.{group_of_parts}
use Rattle.group_engine.specs.Mounts.{IsWhole}
use Rattle.group_engine.specs.declared.attached.Attached.{Attached}
use Rattle.mounted_groups.specs.Mounting.{HaveDiskNumbers, by_number}
use Rattle.mounted_groups.proofs.mount.mounted_of.Goals as goal

pub by_number-disks-requires : goal.by_number-disks-requires
by_number-disks-requires c = subst HaveDiskNumbers (sym c.deref.ensures.value) c.requires.small

pub new-requires : goal.new-requires
new-requires c =
    subst (λ (l : List (Option Attached)). IsWhole (group_of_parts c.args.parts.name c.args.parts.catalog c.args.parts.store c.args.parts.register l)) (sym (c.by_number-disks.ensures ∙ ap by_number c.deref.ensures.value)) c.requires.whole

pub returns : goal.returns
returns c =
    c.new.ensures ∙ ap (λ (l : List (Option Attached)). group_of_parts c.args.parts.name c.args.parts.catalog c.args.parts.store c.args.parts.register l) (c.by_number-disks.ensures ∙ ap by_number c.deref.ensures.value)
