use Rattle.std.proofs.Common.{inl, refl, subst}
use Rattle.group_engine.specs.catalog_tables.Tables.{Catalogued}
use Rattle.group_files.specs.Edits.{IsTemplateRefusal}
use Rattle.template_directory.specs.Meant.{template_edit_meant}
use Rattle.group_files.proofs.Edits.{none_run}
use Rattle.group_files.proofs.templates.edit_template.Goals as goal

pub returns-in-Err-clause-edits : goal.returns-in-Err-clause-edits
returns-in-Err-clause-edits g c = inl (record {
  refusal = c.in-Err.refusal;
  answer_is = refl;
  cause = subst (λ (k : Catalogued). IsTemplateRefusal k (template_edit_meant c.args.edit.now) c.in-Err.refusal) c.catalog.ensures c.in-Err.ensures.refused;
  group = refl;
  calls = refl;
  runs = none_run _;
})
