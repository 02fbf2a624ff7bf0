use Rattle.new_groups.proofs.checking.+have_disks.Given as goal

abbrev pub decreases-have_disks : goal.decreases-have_disks
decreases-have_disks l = l.below
