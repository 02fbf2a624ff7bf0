use Rattle.std.proofs.Common.{◌≡◌, ◌+◌, ◌*◌}
use Rattle.disk_modes.specs.Ends.{HasEnds}
use Rattle.disk_modes.proofs.Ends.{IsEndBefore}
use Rattle.disk_modes.proofs.sizes.end_behind.Given as goal

abbrev pub invariant-loop-homes : goal.invariant-loop-homes
invariant-loop-homes l = record {
  ends : HasEnds (IsEndBefore l.catalog.shape.step (l.fn.at, l.extents) l.homes-index) l.fn.ends l.ends;
  number : l.index ≡ l.fn.at.1 * 256 + l.homes-index;
}
