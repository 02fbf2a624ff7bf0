use Rattle.catalog_units.proofs.GivingLaws.{all_given, first_taken, second_taken, third_taken}
use Rattle.catalog_units.proofs.giving.give_three.Goals as goal

pub give_any-requires-clause-taken : goal.give_any-requires-clause-taken
give_any-requires-clause-taken c = third_taken c.args.file c.args.index c.args.len c.args.first c.args.second c.args.third c.args.units.now c.requires.taken

pub give_any-requires-2-clause-taken : goal.give_any-requires-2-clause-taken
give_any-requires-2-clause-taken c = second_taken c.args.file c.args.index c.args.len c.args.first c.args.second c.args.third c.args.units.now c.give_any.new.units c.requires.taken c.give_any.ensures

pub give_any-requires-3-clause-taken : goal.give_any-requires-3-clause-taken
give_any-requires-3-clause-taken c = first_taken c.args.file c.args.index c.args.len c.args.first c.args.second c.args.third c.args.units.now c.give_any.new.units c.give_any-2.new.units c.requires.taken c.give_any.ensures c.give_any-2.ensures

pub returns : goal.returns
returns c = all_given c.args.file c.args.index c.args.len c.args.first c.args.second c.args.third c.args.units.now c.give_any.new.units c.give_any-2.new.units c.give_any-3.new.units c.give_any.ensures c.give_any-2.ensures c.give_any-3.ensures
