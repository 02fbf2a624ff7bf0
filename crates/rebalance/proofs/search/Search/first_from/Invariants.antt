use Rattle.std.proofs.Common.{◌≡◌}
use Rattle.catalog_laws.specs.extent_map.Extents.{chunks_from}
use Rattle.rebalance.specs.Finding.{found_from}
use Rattle.rebalance.proofs.search.Search.first_from.Given as goal

abbrev pub invariant-loop-at : goal.invariant-loop-at
invariant-loop-at l =
    found_from l.asked l.self.disks.now l.self.catalog.now l.self.shares l.at-iterator
    ≡ found_from l.asked l.self.disks.now l.self.catalog.now l.self.shares (chunks_from l.self.catalog.now.tables.extents l.fn.first)
