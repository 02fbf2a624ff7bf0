use Rattle.std.proofs.Common.{◌≡◌, subst}
use Rattle.plan_records.specs.staleness_directory.Marks.{marks_from}
use Rattle.plan_records.specs.catalog_tables.MarkedExtents.{first_marked}
use Rattle.plan_records.specs.catalog_tables.Tables.{Catalogued}
use Rattle.catalog.proofs.catalog.Catalog.first_marked.Goals as goal

pub returns : goal.returns
returns c = subst (λ (x : Catalogued). c.first_marked.result ≡ first_marked x.tables c.args.disk (marks_from x.tables.stale c.args.first)) c.self.view_is c.first_marked.ensures
