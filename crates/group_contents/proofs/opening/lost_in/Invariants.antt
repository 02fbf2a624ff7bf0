use Rattle.group_contents.proofs.opening.lost_in.Given as goal

abbrev pub decreases-loop-left : goal.decreases-loop-left
decreases-loop-left l = l.left
