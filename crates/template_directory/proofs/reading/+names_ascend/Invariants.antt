use Rattle.std.proofs.Common.{length}
use Rattle.template_directory.proofs.reading.+names_ascend.Given as goal

abbrev pub decreases-names_ascend : goal.decreases-names_ascend
decreases-names_ascend l = length l.templates.now
