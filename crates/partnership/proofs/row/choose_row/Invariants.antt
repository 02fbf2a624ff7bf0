use Rattle.std.proofs.Common.{◌≡◌, length, take}
use Rattle.partnership.specs.Rows.{IsRow}
use Rattle.partnership.proofs.row.choose_row.Given as goal

abbrev pub invariant-loop-place : goal.invariant-loop-place
invariant-loop-place l = record {
  places : length l.row ≡ length l.fn.row;
  row : IsRow (record { entries = l.disks; copies = l.copies; step = l.step }) l.first l.fn.units (take l.place l.row) l.units;
}
