use Rattle.std.proofs.Common.{◌≡◌, None, subst}
use Rattle.record_laws.specs.catalog_tables.Rules.{first_wrong, is_on_disks}
use Rattle.record_laws.specs.catalog_tables.Tables.{Catalogued}
use Rattle.group_pieces.proofs.Homes.{homes_apart}
use Rattle.group_pieces.proofs.usable.extent_of.Goals as goal

pub returns-clause-apart : goal.returns-clause-apart
returns-clause-apart c = homes_apart c.args.m.now.catalog.tables c.args.x.file c.args.x.index
    (subst (λ (k : Catalogued). first_wrong is_on_disks k.tables.extents ≡ None) c.catalog-catalog.ensures c.shape-shape.ensures.rules.rules.apart)
