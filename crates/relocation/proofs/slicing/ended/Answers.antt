use Rattle.relocation.proofs.Chains.{letting_slices}
use Rattle.relocation.proofs.Shortfalls.{cause_stays}
use Rattle.relocation.proofs.slicing.ended.Goals as goal

pub returns-in-Ok-clause-lets : goal.returns-in-Ok-clause-lets
returns-in-Ok-clause-lets g c = c.end_with.ensures.ends.lets

pub returns-in-Ok-clause-ends : goal.returns-in-Ok-clause-ends
returns-in-Ok-clause-ends g c =
    let now = c.end_with.ensures.ends.lets.whole c.in-Ok.ensures.ends.mounted in
    cause_stays c.tables_have_items.ensures.there c.items_say_tables.ensures c.args.m.now c.end_with.new.m (c.requires.takes c.requires.mounted).0.are_tables now.are_tables c.args.end c.in-Ok.ensures.kept
    c.requires.why

pub returns-in-Err-clause-lets : goal.returns-in-Err-clause-lets
returns-in-Err-clause-lets g c = c.end_with.ensures.ends.lets

pub returns-in-Err-clause-cause : goal.returns-in-Err-clause-cause
returns-in-Err-clause-cause g c =
    letting_slices c.args.m.now c.end_with.new.m (g.B.Bay.state c.args.bay.now) (g.B.Bay.state c.end_with.new.bay) c.in-Err.refusal c.in-Err.ensures.ends.cause
