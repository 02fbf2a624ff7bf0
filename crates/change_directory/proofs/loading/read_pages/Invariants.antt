use Rattle.std.proofs.Common.{◌*◌}
use Rattle.std.specs.Prelude.{min}
use Rattle.change_directory.specs.Works.{OnlyReads}
use Rattle.change_directory.specs.LoadCalls.{TakesPiece, piece_of_pages}
use Rattle.change_directory.proofs.loading.read_pages.Given as goal

abbrev pub invariant-loop-piece : goal.invariant-loop-piece
invariant-loop-piece g l = record {
  reads : OnlyReads l.copy.slot l.piece (g.B.Bay.state l.fn.bay) (g.B.Bay.state l.bay);
  takes : TakesPiece (piece_of_pages l.copy l.logs 0 (min (l.piece * 64) l.copy.dir_blocks)) l.fn.pages l.pages (g.B.Bay.state l.fn.bay) (g.B.Bay.state l.bay);
}
