use Rattle.std.proofs.Common.{rules}
use Rattle.catalog_laws.specs.extent_map.Extents.{chunks_from}
use Rattle.rebalance.proofs.Finding.{says_found, says_none}
use Rattle.rebalance.proofs.search.Search.first_said.Goals as goal

pub returns-in_err-found : goal.returns-in_err-found
returns-in_err-found c =
    let s = c.args.self.now in
    record { said = says_none c.args.stage s.disks.now s.catalog.now s.shares (chunks_from s.catalog.now.tables.extents c.args.first) c.first_from.result c.from_residual.result (cc) (cc) c.first_from.ensures.found }

pub returns : goal.returns
returns c =
    let s = c.args.self.now in
    record { said = says_found c.args.stage s.disks.now s.catalog.now s.shares (chunks_from s.catalog.now.tables.extents c.args.first) c.first_from.result c.in_ok-found.found c.first_said.result (cc) c.first_from.ensures.found (search rules) }
