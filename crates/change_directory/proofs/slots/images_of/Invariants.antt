use Rattle.std.proofs.Common.{◌≡◌, map, take, vec_len}
use Rattle.std.specs.Prelude.{zip}
use Rattle.asm_base.specs.Blocks.{image_of_page}
use Rattle.change_directory.specs.Slots.{blocks_of}
use Rattle.change_directory.proofs.slots.images_of.Given as goal

abbrev pub invariant-loop-i : goal.invariant-loop-i
invariant-loop-i l = record {
  images : map image_of_page l.images.items ≡ zip (take l.i l.pages) (blocks_of l.i l.bytes);
  len : vec_len l.images ≡ l.i;
}
