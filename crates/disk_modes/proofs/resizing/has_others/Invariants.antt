use Rattle.std.proofs.Common.{◌≡◌, drop}
use Rattle.std.specs.List.{list_any}
use Rattle.disk_modes.specs.Sizes.{is_other}
use Rattle.disk_modes.proofs.resizing.has_others.Given as goal

abbrev pub invariant-loop-entry : goal.invariant-loop-entry
invariant-loop-entry l =
    list_any (is_other l.m.catalog.shape l.m.disks l.asked) (drop l.entry-index l.entries) ≡ list_any (is_other l.m.catalog.shape l.m.disks l.asked) l.entries
