use Rattle.std.proofs.Common.{inl}
use Rattle.refusal_lines.specs.Refusals.{meaning_of}
use Rattle.new_groups.proofs.Refused.{groups_few}
use Rattle.new_groups.proofs.preparing.check_groups.Goals as goal

pub returns-then-have-need-clause-refused : goal.returns-then-have-need-clause-refused
unfolding meaning_of
returns-then-have-need-clause-refused c =
    inl (groups_few c.args.kind c.args.disks.now c.needed_groups-need.result c.regular_groups-have.result c.needed_groups-need.ensures c.regular_groups-have.ensures.count c.if-have-need.true)
