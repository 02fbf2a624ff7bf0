use Rattle.std.proofs.Common.{ap, sym, ◌∙◌}
use Rattle.asm_world.specs.Causes.{is_mounted_as}
use Rattle.session.proofs.Grouped.{mounted_found, none_found}
use Rattle.session.proofs.session.Session.has_mounted.Goals as goal

pub returns-in-Some-clause-mounted : goal.returns-in-Some-clause-mounted
returns-in-Some-clause-mounted c = rw (← c.self.view_is) (c.is_mounted.ensures ∙ sym (mounted_found c.args.name.now c.self.inside.groups.entries c.in-Some.entry.now (sym c.in-Some.ensures.value)))

pub returns-in-None-clause-mounted : goal.returns-in-None-clause-mounted
returns-in-None-clause-mounted c = rw (← c.self.view_is) (sym (ap is_mounted_as (none_found c.args.name.now c.self.inside.groups.entries (sym c.in-None.ensures.value))))

pub returns-in-Some-clause-alike : goal.returns-in-Some-clause-alike
returns-in-Some-clause-alike c = c.shows_names.ensures.alike

pub returns-in-None-clause-alike : goal.returns-in-None-clause-alike
returns-in-None-clause-alike c = c.shows_names.ensures.alike
