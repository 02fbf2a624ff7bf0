use Rattle.std.proofs.Common.{[], ◌∷◌, ap, ◌∙◌}
use Rattle.asm_base.specs.Records.{DirectoryRecord}
use Rattle.catalog.proofs.PlanLaws.{begun_planned}
use Rattle.catalog.proofs.catalog.Catalog.set_pending.Goals as goal

pub returns : goal.returns
returns c =
    begun_planned c.args.self.now c.in_ok-change.change.put c.in_ok-change.change.gone c.keeps_rules.ensures c.args.op c.fits.ensures
    (c.in_ok-change.ensures.put ∙ ap (λ (e : DirectoryRecord). e ∷ []) c.in_ok-entry.ensures) c.in_ok-change.ensures.gone
