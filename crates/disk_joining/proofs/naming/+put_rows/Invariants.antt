use Rattle.std.proofs.Common.{length}
use Rattle.disk_joining.proofs.naming.+put_rows.Given as goal

abbrev pub decreases-put_rows : goal.decreases-put_rows
decreases-put_rows l = length l.entries.now
