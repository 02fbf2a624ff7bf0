use Rattle.std.proofs.Common.{inl, refl, subst}
use Rattle.group_engine.specs.catalog.FilePlans.{IsAttributeRefusal}
use Rattle.group_engine.specs.catalog_tables.Tables.{Catalogued}
use Rattle.group_files.proofs.Edits.{none_run}
use Rattle.group_files.proofs.attributes.edit_attribute.Goals as goal

pub returns-in-Err-clause-edits : goal.returns-in-Err-clause-edits
returns-in-Err-clause-edits g c = inl (record {
  refusal = c.in-Err.refusal;
  answer_is = refl;
  cause = subst (λ (k : Catalogued). IsAttributeRefusal k c.args.name.now c.args.value.now c.in-Err.refusal) c.catalog.ensures c.in-Err.ensures.refused;
  group = refl;
  calls = refl;
  runs = none_run _;
})
