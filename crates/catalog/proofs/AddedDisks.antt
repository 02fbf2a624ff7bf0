-- Plans of the records of new disks.
use Rattle.std.proofs.Common.{◌≡◌, ◌<◌, ◌≤◌, ◌+◌, ℕ, true, false, cond, Bool, List, [], ◌∷◌, ◌++◌, length, map, Option, Some, None, refl, sym, ap, subst, ◌∙◌, arith, inl, inr, ◌⊎◌}
use Rattle.std.specs.Prelude.{◌&&◌, not}
use Rattle.std.specs.List.{All, AllByRecursion}
use Rattle.std.specs.Option.{is_some}
use Rattle.std.proofs.lemmas.Bool.{and_parts, cases_lt}
use Rattle.std.proofs.lemmas.List.{length-map}
use Rattle.std.proofs.lemmas.List.Elements.{recursion_from_All}
use Rattle.asm_formats.specs.Items.{DiskInfo, Key, disk_item, is_item}
use Rattle.asm_formats.specs.Values.{value}
use Rattle.asm_base.specs.Records.{DirectoryRecord}
use Rattle.refusal_lines.specs.declared.refusal.Refusal.TheVariants as cause
use Rattle.plan_records.specs.page_map.Changes.{last_put}
use Rattle.plan_records.specs.disk_directory.Disks.{Disk, IsDiskTable, info_at, record_of_disk, with_info}
use Rattle.plan_records.specs.catalog_tables.Faults.{IsCatalog, disk_key}
use Rattle.catalog.specs.Plans.{IsAddRefusal, IsPlan, MayAdd, are_new, with_records}
use Rattle.plan_records.specs.catalog_tables.Rules.{blocks_used}
use Rattle.plan_records.specs.catalog_tables.Tables.{Catalogued, Tables, records_of}
use Rattle.plan_records.proofs.disk_directory.DiskLaws.{put_keeps_table}
use Rattle.catalog.proofs.DiskPlans.{disk_rules, put_at, with_disks}
use Rattle.plan_records.proofs.catalog_tables.NewRecords.{at_most}
use Rattle.plan_records.proofs.catalog_tables.NumberedLists.{new_longer}
use Rattle.plan_records.proofs.catalog_tables.SetLaws.{disks_set}
use Rattle.plan_records.proofs.catalog_tables.TableItems.{each_of, map_among}

abbrev AreItems : List Disk → Type 0
AreItems added = AllByRecursion (λ (x : Disk). is_item (disk_item x.0 x.1) ≡ true) added

not_there : (o : Option DiskInfo) → not (is_some o) ≡ true → o ≡ None
not_there None e = refl
not_there (Some i) e = absurd cc

table_with : (disks added : List Disk) → AreItems added → IsDiskTable disks → IsDiskTable (with_records disks added)
table_with disks [] items is = is
table_with disks (x ∷ added) items is = table_with (with_info disks x.0 x.1) added items.1 (put_keeps_table disks x.0 x.1 items.0 is)

-- each of them is one more
longer : (disks added : List Disk) → AreItems added → IsDiskTable disks → are_new disks added ≡ true → length (with_records disks added) ≡ length disks + length added
longer disks [] items is new = omega arith
longer disks (x ∷ added) items is new =
    let p = and_parts (not (is_some (info_at disks x.0))) (are_new (with_info disks x.0 x.1) added) new in
    let one = new_longer x.0 x.1 disks is.0 (not_there (info_at disks x.0) p.0) in
    let rest = longer (with_info disks x.0 x.1) added items.1 (put_keeps_table disks x.0 x.1 items.0 is) p.1 in
    omega (arith, one, rest)

records_put : (added : List Disk) (t : Tables) (k : Key) → records_of (record t { disks = with_records t.disks added }) k ≡ last_put (map record_of_disk added) k (records_of t k)
records_put [] t k = refl
records_put (x ∷ added) t k =
    records_put added (record t { disks = with_info t.disks x.0 x.1 }) k
    ∙ ap (λ (o : Option (List ℕ)). last_put (map record_of_disk added) k o) (disks_set t (with_info t.disks x.0 x.1) (disk_key x.0) (Some (value (disk_item x.0 x.1))) refl refl (put_at t.disks x.0 x.1) k)

pub added_planned : (c : Catalogued) (added : List Disk) (first put : List DirectoryRecord) (gone : List Key) → IsCatalog c → MayAdd c.tables added → length added + blocks_used c.tables + 2 ≤ c.shape.dir_blocks
    → first ≡ [] → put ≡ first ++ map record_of_disk added → gone ≡ [] → IsPlan c put gone (record c.tables { disks = with_records c.tables.disks added })
added_planned c added first put gone is may room none p g =
    let items : AreItems added = recursion_from_All (λ (x : Disk). is_item (disk_item x.0 x.1) ≡ true) added may.items in
    let new = with_records c.tables.disks added in
    let table = table_with c.tables.disks added items is.rules.tables.disks in
    let size = longer c.tables.disks added items is.rules.tables.disks may.new in
    let written : put ≡ map record_of_disk added = p ∙ ap (λ (es : List DirectoryRecord). es ++ map record_of_disk added) none in
    rw (written, g) (record {
      after = record { tables = with_disks c.tables new is.rules.tables table; records = λ k. records_put added c.tables k };
      rules = disk_rules c.shape c.tables new is.rules table (omega (arith, size, room));
      units = λ es has. (c.units, has);
      few = omega (arith, length-map added record_of_disk, may.few);
      items = λ e among.
          let x = map_among record_of_disk added e among in
          (disk_item x.0.0 x.0.1, record { is = each_of (λ (y : Disk). is_item (disk_item y.0 y.1) ≡ true) added x.0 items x.1; key = ap (λ (y : DirectoryRecord). y.0) (sym x.2); value = ap (λ (y : DirectoryRecord). y.1) (sym x.2) });
      room = (let few = at_most c.tables (map record_of_disk added) in omega (arith, few, length-map added record_of_disk, room));
    })

-- ---- whether blocks are wanting

pub lacks_one_each : (c : Catalogued) (added : List Disk) (need free : ℕ) → need ≡ length added → free + blocks_used c.tables + 2 ≡ c.shape.dir_blocks → free < need → IsAddRefusal c added (cause.DirectoryFull need free)
lacks_one_each c added need free need_is free_is few = inr (need, free, refl, record { need_is = need_is; free_is = free_is; few = few })

pub has_one_each : (c : Catalogued) (added : List Disk) (need free : ℕ) → need ≡ length added → free + blocks_used c.tables + 2 ≡ c.shape.dir_blocks → (free < need → ⊥) → length added + blocks_used c.tables + 2 ≤ c.shape.dir_blocks
has_one_each c added need free need_is free_is enough = elim (cases_lt free need) [
  | inl few ↦ absurd (enough few)
  | inr some ↦ omega (arith, need_is, free_is, some)
]
