use Rattle.std.proofs.Common.{length}
use Rattle.extent_copies.proofs.new_files.+named.Given as goal

abbrev pub decreases-named : goal.decreases-named
decreases-named l = length l.templates.now
