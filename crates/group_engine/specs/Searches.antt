-- What a mounted group knows of the search for the next move of its rebalance.
use Rattle.std.specs.Prelude.{◌≡◌, Bool, List, Option, length}
use Rattle.std.specs.Bool.{OnTrue}
use Rattle.asm_formats.specs.Items.{Item, Key}
use Rattle.asm_formats.specs.Status.{Status}
use Rattle.asm_base.specs.Records.{DirectoryRecord}
use Rattle.asm_placement.specs.Rebalancing.{next}
use Rattle.rebalance.specs.catalog_tables.Items.{AreItemsOf}
use Rattle.rebalance.specs.catalog.Plans.{IsPlan}
use Rattle.rebalance.specs.catalog_tables.Rules.{AreOnRegular}
use Rattle.rebalance.specs.catalog_tables.Tables.{Catalogued, Tables}
use Rattle.asm_base.specs.Chunks.{Chunk}
use Rattle.rebalance.specs.Cursors.{IsCursor, IsSameBut, SearchPlaces}
use Rattle.rebalance.specs.Falling.{Falls}
use Rattle.rebalance.specs.Moves.{next_meant}
use Rattle.rebalance.specs.declared.moves.Next.{Next}
use Rattle.group_engine.specs.declared.attached.Attached.{Attached}

-- where the search goes on, and whether no home is known to lie on a disk of a quorum failure group
pub record SearchState : Type 0 where
  pub cursor : SearchPlaces
  pub is_regular : Bool

-- It is so of the group with these tables and this record.
pub record IsSearchOf (c : Catalogued) (r : Status) (s : SearchState) : Type 0 where
  pub cursor : IsCursor c r s.cursor
  pub regular : OnTrue s.is_regular (AreOnRegular r.entries c.tables)

-- It was so before a change of one chunk, by which the entries of the record stay.
pub record WasSearchOf (at : Chunk) (c : Catalogued) (r : Status) (s : SearchState) : Type 0 where
  pub old : Catalogued
  pub status : Status
  pub search : IsSearchOf old status s
  pub shape : c.shape ≡ old.shape
  pub entries : r.entries ≡ status.entries
  pub same : IsSameBut at old.tables c.tables

-- The plan's change leads to tables in which all chunks but one are as they were.
pub record IsPlanIn (at : Chunk) (c : Catalogued) (put : List DirectoryRecord) (gone : List Key) : Type 0 where
  pub tables : Tables
  pub plan : IsPlan c put gone tables
  pub same : IsSameBut at c.tables tables

-- What is hidden of a mounted group: its disks have 64 places, and what is known of the search is so of its tables and its record.
pub record AreHiddenParts (disks : List (Option Attached)) (c : Catalogued) (r : Status) (s : SearchState) : Type 0 where
  pub places : length disks ≡ 64
  pub search : IsSearchOf c r s

-- What is given is the next move by the tables and the record, and if it is one it leaves less work.
pub record IsNextMove (c : Catalogued) (r : Status) (n : Next) : Type 0 where
  pub is_next : (items : List Item) → AreItemsOf c.tables items → next_meant n ≡ next c.shape r items
  pub falls : Falls c r (next_meant n)
