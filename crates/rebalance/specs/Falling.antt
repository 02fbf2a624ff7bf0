-- That the work which a rebalance has left falls with each move.
use Rattle.std.specs.Prelude.{◌≡◌, ◌^◌, ◌<◌, List}
use Rattle.asm_formats.specs.Status.{Status}
use Rattle.asm_formats.specs.Items.{Item}
use Rattle.asm_placement.specs.Moves.{items_after, record_after}
use Rattle.asm_placement.specs.Rebalancing.{Move, Next, directory, fill, move, next, recopy, shift, tables}
use Rattle.asm_placement.specs.Work.{IsLess, work}
use Rattle.catalog_laws.specs.catalog.ExtentPlans.{MayMark, MayMove, with_marks_changed, with_move}
use Rattle.catalog_laws.specs.catalog_tables.Faults.{IsCatalog}
use Rattle.catalog_laws.specs.catalog_tables.Items.{AreItemsOf}
use Rattle.catalog_laws.specs.catalog_tables.Rules.{AreOnRegular}
use Rattle.catalog_laws.specs.catalog_tables.Tables.{Catalogued, Tables}
use Rattle.rebalance.specs.Searching.{IsStatusOf}

-- Where the next is a move, the work that is left once it is committed is less.
abbrev pub Falls : Catalogued → Status → Next → Type 0
Falls c r n = (m : Move) (items : List Item) → n ≡ move m → AreItemsOf c.tables items → IsLess (work c.shape (record_after m r) (items_after m items)) (work c.shape r items)

-- ---- in the words of plans

-- the tables that the plan of a move leads to: directory copies and status tables aren't in them
abbrev pub tables_after_move : Move → Tables → Tables
tables_after_move (recopy f i copy) t = with_marks_changed t f i 0 (2 ^ copy)
tables_after_move (fill f i copy h) t = with_move t f i copy h
tables_after_move (shift f i copy h) t = with_move t f i copy h
tables_after_move (directory d) t = t
tables_after_move (tables to) t = t

-- what the plan of a move asks of the catalog
abbrev pub MayBePlanned : Catalogued → Move → Type 0
MayBePlanned c (recopy f i copy) = MayMark c.tables f i 0 × (copy < 3)
MayBePlanned c (fill f i copy h) = MayMove c f i copy h
MayBePlanned c (shift f i copy h) = MayMove c f i copy h
MayBePlanned c (directory d) = Unit {0}
MayBePlanned c (tables to) = Unit {0}

-- The next move may be planned.
abbrev pub NextMayBePlanned : Type 0
NextMayBePlanned = (c : Catalogued) (r : Status) (m : Move) (items : List Item) → IsCatalog c → IsStatusOf c r → AreItemsOf c.tables items → next c.shape r items ≡ move m → MayBePlanned c m

-- By the tables that its plan leads to no home lies on a quorum disk either.
abbrev pub PlannedMovesAreRegular : Type 0
PlannedMovesAreRegular = (c : Catalogued) (r : Status) (m : Move) (items : List Item) → IsCatalog c → IsStatusOf c r → AreItemsOf c.tables items → next c.shape r items ≡ move m → AreOnRegular r.entries (tables_after_move m c.tables)

-- The work that is left by the items of the tables that the plan of the next move leads to is less.
abbrev pub PlannedWorkFalls : Type 0
PlannedWorkFalls =
    (c : Catalogued) (r : Status) (m : Move) (items later : List Item) → IsCatalog c → IsStatusOf c r → AreItemsOf c.tables items → next c.shape r items ≡ move m
    → AreItemsOf (tables_after_move m c.tables) later → IsLess (work c.shape (record_after m r) later) (work c.shape r items)
