-- A mounted group's fields as contracts see them.
use Rattle.group_engine.specs.Mounts.{MountedGroup}
use Rattle.group_engine.specs.declared.mounted.Mounted.TheInside.{Inside}

abbrev pub seen : Inside → MountedGroup
seen m = record { name = m.name; catalog = m.catalog; store = m.store; register = m.register; disks = m.disks; flight = m.flight; access = m.access }
