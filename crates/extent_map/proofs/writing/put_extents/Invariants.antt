use Rattle.std.proofs.Common.{◌≡◌, ◌+◌, ◌*◌, take}
use Rattle.std.specs.List.{flat_map}
use Rattle.asm_formats.specs.Values.{home_fields}
use Rattle.asm_base.specs.Cursors.{PutsField}
use Rattle.extent_map.proofs.writing.put_extents.Given as goal

abbrev pub invariant-loop-extent : goal.invariant-loop-extent
invariant-loop-extent l = record {
  put : PutsField l.fn.to l.to (flat_map (flat_map home_fields) (take l.extent-index l.homes));
  at : l.to.at ≡ l.fn.to.at + 15 * l.extent-index;
}
