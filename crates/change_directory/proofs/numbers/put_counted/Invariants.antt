use Rattle.std.proofs.Common.{◌≡◌, ◌+◌, ◌*◌, ◌++◌, length, take, w32}
use Rattle.std.specs.List.{flat_map}
use Rattle.asm_formats.specs.Bytes.{number_bytes}
use Rattle.asm_base.specs.Cursors.{PutsField}
use Rattle.change_directory.proofs.numbers.put_counted.Given as goal

abbrev pub invariant-loop-page : goal.invariant-loop-page
invariant-loop-page l = record {
  put : PutsField l.fn.to l.to (number_bytes w32 (length l.pages) ++ flat_map (number_bytes w32) (take l.page-index l.pages));
  at : l.to.at ≡ l.fn.to.at + 4 + 4 * l.page-index;
}
