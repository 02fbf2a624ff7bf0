use Rattle.std.proofs.Common.{◌≡◌, ◌-◌, ◌*◌, ◌++◌, drop, vec_len, w32}
use Rattle.asm_formats.specs.Bytes.{number_at, values_at}
use Rattle.change_directory.proofs.numbers.numbers_at.Given as goal

abbrev pub invariant-loop-i : goal.invariant-loop-i
invariant-loop-i l = record {
  read : l.numbers.items ++ (values_at (number_at w32) (l.count - l.i) (drop (4 * l.i) l.bytes)).0 ≡ (values_at (number_at w32) l.count l.bytes).0;
  len : vec_len l.numbers ≡ l.i;
}
