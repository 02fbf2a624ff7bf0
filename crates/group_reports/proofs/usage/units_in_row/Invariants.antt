use Rattle.std.proofs.Common.{◌≡◌, ◌≤◌, ◌+◌, ◌*◌, drop}
use Rattle.asm_placement.specs.Placed.{placed_extents}
use Rattle.group_reports.specs.Extents.{units_of_file}
use Rattle.group_reports.proofs.usage.units_in_row.Given as goal

abbrev pub invariant-loop-homes : goal.invariant-loop-homes
invariant-loop-homes l = record {
  sum : l.units + units_of_file l.file (placed_extents l.step l.file l.index (drop l.homes-index l.extents)) ≡ units_of_file l.file (placed_extents l.step l.file l.first l.extents);
  index : l.index ≡ l.first + l.homes-index;
  few : l.units ≤ 48 * l.homes-index;
}
