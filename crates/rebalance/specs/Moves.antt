-- The moves of the code, as those of the placement.
use Rattle.asm_placement.specs.Rebalancing as r
use Rattle.rebalance.specs.declared.moves.Move.{Move}
use Rattle.rebalance.specs.declared.moves.Move.TheVariants as code
use Rattle.rebalance.specs.declared.moves.Next.{Next}
use Rattle.rebalance.specs.declared.moves.Next.TheVariants as ending

abbrev pub move_meant : Move → r.Move
move_meant (code.Recopy x copy) = r.recopy x.file x.index copy
move_meant (code.Fill x copy to) = r.fill x.file x.index copy to
move_meant (code.Shift x copy to) = r.shift x.file x.index copy to
move_meant (code.Directory to) = r.directory to
move_meant (code.Status to) = r.tables to

abbrev pub next_meant : Next → r.Next
next_meant (ending.Move m) = r.move (move_meant m)
next_meant ending.Done = r.done
next_meant (ending.NoSpace x) = r.lacks_space x.file x.index
next_meant (ending.Lost x) = r.lost_extent x.file x.index
