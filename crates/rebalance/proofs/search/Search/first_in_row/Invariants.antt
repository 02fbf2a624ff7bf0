use Rattle.std.proofs.Common.{◌≡◌, ◌+◌, drop}
use Rattle.rebalance.specs.Finding.{found_of_extents, is_as_asked}
use Rattle.rebalance.proofs.search.Search.first_in_row.Given as goal

abbrev pub invariant-loop-homes : goal.invariant-loop-homes
invariant-loop-homes l = record {
  after : found_of_extents (is_as_asked l.asked l.self.disks.now l.self.catalog.now.units l.self.shares) l.self.catalog.now.shape l.self.catalog.now.tables l.file l.copies l.index (drop l.homes-index l.extents)
      ≡ found_of_extents (is_as_asked l.asked l.self.disks.now l.self.catalog.now.units l.self.shares) l.self.catalog.now.shape l.self.catalog.now.tables l.file l.copies l.first l.extents;
  index : l.index ≡ l.first + l.homes-index;
}
