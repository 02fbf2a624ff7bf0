use Rattle.std.proofs.Common.{[], ◌∷◌, ap, ◌∙◌}
use Rattle.asm_base.specs.Records.{DirectoryRecord}
use Rattle.catalog.proofs.TemplatePlans.{set_planned}
use Rattle.catalog.proofs.catalog.Catalog.set_templates.Goals as goal

pub returns : goal.returns
returns c =
    set_planned c.args.self.now c.in_ok-change.change.put c.in_ok-change.change.gone c.keeps_rules.ensures c.args.templates.now c.requires
    (c.in_ok-change.ensures.put ∙ ap (λ (e : DirectoryRecord). e ∷ []) c.in_ok-entry.ensures) c.in_ok-change.ensures.gone
