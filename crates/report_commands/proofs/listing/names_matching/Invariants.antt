use Rattle.report_commands.proofs.GroupNames.{AreNamesSoFar}
use Rattle.report_commands.proofs.listing.names_matching.Given as goal

abbrev pub invariant-loop-key : goal.invariant-loop-key
invariant-loop-key l = AreNamesSoFar l.pattern l.session.entries l.key-iterator l.names.items
