-- The work that is left falls with the next move.
use Rattle.std.proofs.Common.{◌≡◌, List, sym, ◌∙◌}
use Rattle.asm_formats.specs.Status.{Status}
use Rattle.asm_formats.specs.Items.{Item}
use Rattle.asm_placement.specs.Work.{AreGroupRecords}
use Rattle.asm_placement.proofs.Falling.{work_falls}
use Rattle.catalog_laws.specs.catalog_tables.Faults.{IsCatalog}
use Rattle.catalog_laws.specs.catalog_tables.Items.{AreItemsOf}
use Rattle.catalog_laws.specs.catalog_tables.Tables.{Catalogued}
use Rattle.catalog_laws.proofs.ItemLists.{items_say}
use Rattle.catalog_laws.proofs.RegularHomes.{copies_are_regular}
use Rattle.rebalance.specs.declared.moves.Next.{Next as CodeNext}
use Rattle.rebalance.specs.Falling.{Falls}
use Rattle.rebalance.specs.Moves.{next_meant}
use Rattle.rebalance.specs.Searching.{IsStatusOf, next_in}
use Rattle.rebalance.proofs.Searching.{next_is}

-- the items of a catalog are records of a group
pub records_are : (c : Catalogued) (r : Status) (items : List Item) → IsCatalog c → IsStatusOf c r → AreItemsOf c.tables items → AreGroupRecords r items
records_are c r items cat of is =
    let say = items_say c.tables items cat.rules.tables is in
    record { status = of.status; allowed = say.allowed; keys = say.keys; regular = copies_are_regular r.entries c.tables items cat.rules.tables is of.regular }

pub next_falls : (c : Catalogued) (r : Status) (n : CodeNext) → IsCatalog c → IsStatusOf c r → next_meant n ≡ next_in c r → Falls c r (next_meant n)
next_falls c r n cat of found = λ m items e is. work_falls c.shape r items m (records_are c r items cat of is) (sym (next_is c r n cat of found items is) ∙ e)
