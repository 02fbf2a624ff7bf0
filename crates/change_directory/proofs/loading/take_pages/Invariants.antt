use Rattle.std.proofs.Common.{◌+◌}
use Rattle.change_directory.specs.Slots.{AreTaken, GoesUpTo, all_slots, blocks_of}
use Rattle.change_directory.proofs.loading.take_pages.Given as goal

abbrev pub invariant-loop-i : goal.invariant-loop-i
invariant-loop-i l = record {
  taken : AreTaken (all_slots l.logs) l.first (blocks_of l.i l.bytes) l.fn.pages l.pages;
  up_to : GoesUpTo (all_slots l.logs) l.first (l.first + l.i) l.fn.pages l.pages;
}
