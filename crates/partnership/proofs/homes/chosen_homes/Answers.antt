use Rattle.std.proofs.Common.{sym, ◌∙◌}
use Rattle.partnership.specs.Candidates.{candidates}
use Rattle.partnership.proofs.Choices.{three_homes}
use Rattle.partnership.proofs.homes.chosen_homes.Goals as goal

pub returns : goal.returns
returns c =
    three_homes (candidates c.args.room.now.n c.args.disks.now c.args.room.now.maps) c.args.copies c.in_ok-first.first c.second_disk-second.result c.third_disk-third.result _ _ _
    (sym c.first_disk.ensures ∙ c.in_ok-first.was) c.second_disk-second.ensures c.third_disk-third.ensures c.home.ensures c.home_of.ensures c.home_of-2.ensures
