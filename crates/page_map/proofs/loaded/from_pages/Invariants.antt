use Rattle.std.proofs.Common.{◌≡◌, take}
use Rattle.page_map.specs.Loaded.{HoldsTable}
use Rattle.page_map.proofs.loaded.from_pages.Given as goal

abbrev pub invariant-loop-page : goal.invariant-loop-page
invariant-loop-page l = record { holds : HoldsTable (take l.page-index l.blocks) l.map; units : l.map.free.units ≡ l.pages }
