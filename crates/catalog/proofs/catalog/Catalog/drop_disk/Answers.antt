use Rattle.std.proofs.Common.{[], ◌∷◌, ap, ◌∙◌}
use Rattle.asm_formats.specs.Items.{Key}
use Rattle.catalog.proofs.DiskPlans.{gone_planned}
use Rattle.catalog.proofs.catalog.Catalog.drop_disk.Goals as goal

pub returns : goal.returns
returns c =
    gone_planned c.args.self.now c.in_ok-change.change.put c.in_ok-change.change.gone c.keeps_rules.ensures c.args.number c.in_ok-change.ensures.put
    (c.in_ok-change.ensures.gone ∙ ap (λ (k : Key). k ∷ []) c.disk_key.ensures)
