use Rattle.std.proofs.Common.{refl, sym, ap, ◌∙◌}
use Rattle.std.specs.Prelude.{is_none}
use Rattle.refusal_lines.specs.Refusals.{meaning_of}
use Rattle.refusal_lines.specs.declared.refusal.Refusal.TheVariants.{NoGroup}
use Rattle.group_contents.specs.group_engine.Making.{dismounted_by}
use Rattle.group_contents.specs.group_engine.declared.access.Access.{Access}
use Rattle.session.proofs.Grouped.{entry_on, group_found, mounted_found, paired}
use Rattle.session.proofs.Outs.{absent_out, shut_out}
use Rattle.session.proofs.session.Session.mounted.Goals as goal

pub returns-in_default-clause-cause : goal.returns-in_default-clause-cause
unfolding meaning_of
returns-in_default-clause-cause c = rw (← c.self.view_is) (absent_out c.args.name.now c.self.inside.groups.entries NoGroup (sym c.in_default.ensures.value) refl)

pub returns-in-Ok-clause-found : goal.returns-in-Ok-clause-found
returns-in-Ok-clause-found c = rw (← c.self.view_is) (record {
  named = group_found c.args.name.now c.self.inside.groups.entries c.in-Some.entry.now (sym c.in-Some.ensures.value);
  mounted = c.in-Ok.ensures.ok;
  on = entry_on c.args.name.now c.self.inside.groups.entries c.in-Some.entry.now (sym c.in-Some.ensures.value) c.in-Ok.ensures.ok;
  paired = paired c.self.inside.groups.entries;
})

pub returns-in-Ok-clause-entered : goal.returns-in-Ok-clause-entered
returns-in-Ok-clause-entered c = rw (← c.self.view_is)
    (mounted_found c.args.name.now c.self.inside.groups.entries c.in-Some.entry.now (sym c.in-Some.ensures.value) ∙ ap (λ (a : Access). is_none (dismounted_by a)) c.in-Ok.ensures.ok)

pub returns-in-Err-clause-cause : goal.returns-in-Err-clause-cause
returns-in-Err-clause-cause c = rw (← c.self.view_is)
    (shut_out c.args.name.now c.self.inside.groups.entries c.in-Some.entry.now c.in-Err.refusal _ (sym c.in-Some.ensures.value) c.in-Err.ensures.cause c.spelt.ensures)
