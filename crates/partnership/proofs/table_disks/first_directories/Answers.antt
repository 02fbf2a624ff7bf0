use Rattle.std.proofs.Common.{ap, ◌∙◌}
use Rattle.std.specs.Prelude.{fold}
use Rattle.partnership.specs.declared.choice.Choice.{Choice}
use Rattle.partnership.specs.Rounds.{none_of, with_disk, round}
use Rattle.partnership.proofs.TableSets.{directories_are}
use Rattle.partnership.proofs.table_disks.first_directories.Goals as goal

pub returns : goal.returns
returns c =
    directories_are c.args.kind c.args.disks.now c.as_slice.result.now c.with_round.result (c.as_slice.ensures ∙ c.of-regular.ensures)
    (c.with_round.ensures ∙ ap (λ (taken : Choice). fold with_disk taken (round 0 c.as_slice.result.now)) (c.none_of.ensures ∙ ap none_of c.copy_count.ensures))
