use Rattle.std.proofs.Common.{length}
use Rattle.directory_page.proofs.text.+precedes.Given as goal

abbrev pub decreases-precedes : goal.decreases-precedes
decreases-precedes l = length l.a.now
