use Rattle.std.proofs.Common.{length}
use Rattle.file_extents.proofs.appending.+are_marks.Given as goal

abbrev pub decreases-are_marks : goal.decreases-are_marks
decreases-are_marks l = length l.row.now
