use Rattle.std.proofs.Common.{◌≡◌, true, length, map, take}
use Rattle.std.specs.List.{list_all}
use Rattle.asm_formats.specs.Status.{is_entry}
use Rattle.group_recovery.specs.NextRecord.{entry_when_mounted}
use Rattle.group_recovery.proofs.record.all_moded.Given as goal

abbrev pub invariant-loop-i : goal.invariant-loop-i
invariant-loop-i l = record {
  made : take l.i l.after ≡ map (entry_when_mounted l.quorate l.marked l.now) (take l.i l.entries);
  size : length l.after ≡ 64;
  kept : list_all is_entry l.entries ≡ true → list_all is_entry (take l.i l.after) ≡ true;
}
