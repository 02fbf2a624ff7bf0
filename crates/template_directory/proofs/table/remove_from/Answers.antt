use Rattle.std.proofs.Common.{refl, ◌∙◌}
use Rattle.template_directory.proofs.Places.{has_here, inside_here, place_here, remove_here, without_here}
use Rattle.template_directory.proofs.table.remove_from.Goals as goal

pub returns-then-not-has-clause-after : goal.returns-then-not-has-clause-after
returns-then-not-has-clause-after c = without_here c.args.name.now c.args.templates.now.items (has_here c.has.ensures refl c.deref.ensures.value c.if-not-has.true)

pub remove_at-requires : goal.remove_at-requires
remove_at-requires c =
    inside_here c.args.name.now c.args.templates.now.items c.requires (place_here c.place-index.ensures.place refl c.deref-2.ensures.value) (has_here c.has.ensures refl c.deref.ensures.value c.if-not-has.false)

pub returns-clause-after : goal.returns-clause-after
returns-clause-after c =
    c.remove_at.ensures
    ∙ remove_here c.args.name.now c.args.templates.now.items c.place-index.result c.requires (place_here c.place-index.ensures.place refl c.deref-2.ensures.value) (has_here c.has.ensures refl c.deref.ensures.value c.if-not-has.false)
