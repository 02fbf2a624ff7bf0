use Rattle.std.proofs.Common.{◌≡◌, map}
use Rattle.session.specs.Entries.{entry_view}
use Rattle.report_commands.proofs.GroupNames.{name_among}
use Rattle.report_commands.proofs.listing.name_in.Given as goal

abbrev pub invariant-loop-key : goal.invariant-loop-key
invariant-loop-key l = name_among (map entry_view l.key-iterator) l.text ≡ name_among l.session.entries l.text
