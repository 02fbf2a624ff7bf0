use Rattle.std.proofs.Common.{◌∙◌}
use Rattle.std.proofs.lemmas.Result.{on_ok_weaker}
use Rattle.template_directory.proofs.Places.{at_most_here, has_here, inside_here, insert_here, place_here, set_here}
use Rattle.template_directory.proofs.table.put_in.Goals as goal

pub set_at-requires : goal.set_at-requires
set_at-requires c =
    inside_here c.args.template.name c.args.templates.now.items c.requires (place_here c.place-index.ensures.place c.name.ensures c.deref.ensures.value)
    (has_here c.has.ensures c.name-2.ensures c.deref-2.ensures.value c.if-has.true)

pub insert_at-requires : goal.insert_at-requires
insert_at-requires c = at_most_here c.place-index.ensures.bound c.deref.ensures.value

pub returns-then-has-clause-ok : goal.returns-then-has-clause-ok
returns-then-has-clause-ok c =
    c.set_at.ensures
    ∙ set_here c.args.template c.args.templates.now.items c.place-index.result c.requires (place_here c.place-index.ensures.place c.name.ensures c.deref.ensures.value)
    (has_here c.has.ensures c.name-2.ensures c.deref-2.ensures.value c.if-has.true)

pub returns-clause-ok : goal.returns-clause-ok
returns-clause-ok c =
    on_ok_weaker c.insert_at.result
    (λ put. put ∙ insert_here c.args.template c.args.templates.now.items c.place-index.result c.requires (place_here c.place-index.ensures.place c.name.ensures c.deref.ensures.value)
    (has_here c.has.ensures c.name-2.ensures c.deref-2.ensures.value c.if-has.false))
    c.insert_at.ensures.ok
