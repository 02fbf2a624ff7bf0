use Rattle.std.proofs.Common.{inl, inr, subst}
use Rattle.catalog_tables.specs.Rules.{KeepsRules}
use Rattle.catalog_tables.specs.Tables.{Catalogued}
use Rattle.file_commands.proofs.files.span_of.Goals as goal

pub returns-in-Err-clause-cause : goal.returns-in-Err-clause-cause
returns-in-Err-clause-cause c = (subst (λ (k : Catalogued). KeepsRules k.shape k.tables) c.catalog.ensures c.shape-group.ensures.rules.rules, inl c.in-Err.ensures.cause)

pub returns-in-Err-check_span-clause-cause : goal.returns-in-Err-check_span-clause-cause
returns-in-Err-check_span-clause-cause c =
    (subst (λ (k : Catalogued). KeepsRules k.shape k.tables) c.catalog.ensures c.shape-group.ensures.rules.rules, inr (c.in-Ok.file, c.in-Ok.ensures.opened, c.in-Err-check_span.ensures.cause))
