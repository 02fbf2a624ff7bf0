use Rattle.page_map.specs.Listing.{ListsBut}
use Rattle.page_map.specs.Tables.{IsPageTable}
use Rattle.page_map.proofs.all_pages.put_all.Given as goal

abbrev pub invariant-loop-key : goal.invariant-loop-key
invariant-loop-key l = record { lists : ListsBut l.map l.key-iterator l.pages.entries; table : IsPageTable l.map }
