use Rattle.std.proofs.Common.{◌≡◌, ◌++◌, take}
use Rattle.report_commands.proofs.places.put_names.Given as goal

abbrev pub invariant-loop-name : goal.invariant-loop-name
invariant-loop-name l = l.place ≡ l.initial.place ++ take l.name-index l.names
