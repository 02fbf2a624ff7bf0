use Rattle.catalog.proofs.ApplyingLaws.{behind_now, brought}
use Rattle.catalog.proofs.spare.brought_up.Goals as goal

pub changed-requires-clause-tables : goal.changed-requires-clause-tables
changed-requires-clause-tables c = (behind_now c.args.spare c.in-Behind.behind c.args.parts.now c.in-Behind.change c.in-Behind.is c.requires.spare).0

pub changed-requires-clause-after : goal.changed-requires-clause-after
changed-requires-clause-after c = (c.args.parts.now, (behind_now c.args.spare c.in-Behind.behind c.args.parts.now c.in-Behind.change c.in-Behind.is c.requires.spare).1)

pub returns-in-Behind : goal.returns-in-Behind
returns-in-Behind c =
    brought c.in-Behind.behind c.args.parts.now c.in-Behind.change.put c.in-Behind.change.gone c.changed.result
    (behind_now c.args.spare c.in-Behind.behind c.args.parts.now c.in-Behind.change c.in-Behind.is c.requires.spare).1 c.changed.ensures
