use Rattle.std.proofs.Common.{[], ◌∷◌, ap, ◌∙◌}
use Rattle.asm_base.specs.Records.{DirectoryRecord}
use Rattle.catalog.proofs.AttributePlans.{settings_planned}
use Rattle.catalog.proofs.catalog.Catalog.set_settings.Goals as goal

pub returns : goal.returns
returns c = settings_planned c.args.self.now c.in_ok-change.change.put c.in_ok-change.change.gone c.keeps_rules.ensures c.args.settings.now c.requires (c.in_ok-change.ensures.put ∙ ap (λ (e : DirectoryRecord). e ∷ []) c.in_ok-entry.ensures) c.in_ok-change.ensures.gone
