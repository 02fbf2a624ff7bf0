use Rattle.std.proofs.Common.{◌≡◌, [], vec_len}
use Rattle.group_reports.specs.Files.{placed_among}
use Rattle.group_reports.specs.Keyed.{keyed_paths}
use Rattle.group_reports.proofs.searching.placed.Given as goal

abbrev pub invariant-loop-path : goal.invariant-loop-path
invariant-loop-path l = placed_among (keyed_paths l.places.entries) l.paths.items ≡ placed_among [] l.fn.paths.items

abbrev pub decreases-loop-path : goal.decreases-loop-path
decreases-loop-path l = vec_len l.paths
