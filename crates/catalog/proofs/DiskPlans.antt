-- Plans of a disk's record.
use Rattle.std.proofs.Common.{◌≡◌, ◌<◌, ◌≤◌, ◌+◌, ℕ, zero, suc, true, cond, List, [], ◌∷◌, Option, Some, None, refl, sym, subst, ◌∙◌, arith, inl, inr}
use Rattle.std.specs.Ordering.{nat_cmp}
use Rattle.std.specs.BTreeMap.{is_at}
use Rattle.std.specs.FinMap.{nat_cmp-IsAntisymmetric}
use Rattle.std.proofs.lemmas.Option.{none-some}
use Rattle.asm_group.specs.Shape.{Shape}
use Rattle.asm_formats.specs.Items.{DiskInfo, Key, disk_item, is_item}
use Rattle.asm_formats.specs.Values.{value}
use Rattle.asm_base.specs.Records.{DirectoryRecord}
use Rattle.asm_base.specs.Tables.{item_record}
use Rattle.plan_records.proofs.extent_map.Lookups.{put_here, put_other}
use Rattle.plan_records.specs.disk_directory.Disks.{Disk, IsDiskTable, info_at, disk_value_at, with_info, without_disk}
use Rattle.plan_records.specs.catalog_tables.Faults.{IsCatalog, disk_key}
use Rattle.catalog.specs.Plans.{IsPlan, LacksBlock}
use Rattle.plan_records.specs.catalog_tables.Rules.{KeepsRules, blocks_used}
use Rattle.plan_records.specs.catalog_tables.Tables.{AreTables, Catalogued, Tables}
use Rattle.plan_records.proofs.disk_directory.DiskLaws.{put_keeps_table, record_gone, removed_keeps_table}
use Rattle.plan_records.proofs.catalog_tables.NewRecords.{no_disk, nothing_room, one_room}
use Rattle.plan_records.proofs.catalog_tables.NumberedLists.{either, gone_at, gone_few, new_longer, not_at, number_is, number_itself, there_as_long}
use Rattle.catalog.proofs.PlanLaws.{after_gone, after_put}
use Rattle.plan_records.proofs.catalog_tables.SetLaws.{disks_set}
use Rattle.catalog.proofs.PutItems.{plan_is}

-- ---- what stands at each number then

pub put_at : (disks : List Disk) (d : ℕ) (info : DiskInfo) (n : ℕ) → disk_value_at (with_info disks d info) n ≡ cond (is_at (nat_cmp d) n) (Some (value (disk_item d info))) (disk_value_at disks n)
put_at disks d info n = elim (either (is_at (nat_cmp d) n)) [
  | inl hit ↦
      let here : info_at (with_info disks d info) d ≡ Some info = put_here nat_cmp nat_cmp-IsAntisymmetric d info (number_itself d) disks in
      rw hit (subst (λ (m : ℕ). disk_value_at (with_info disks d info) m ≡ Some (value (disk_item d info))) (number_is d n hit) (rw here refl))
  | inr miss ↦
      let there : info_at (with_info disks d info) n ≡ info_at disks n = put_other nat_cmp nat_cmp-IsAntisymmetric d info n (not_at d n d (number_itself d) miss) disks in
      rw (miss, there) refl
]

-- ---- plans

pub with_disks : (t : Tables) (new : List Disk) → AreTables t → IsDiskTable new → AreTables (record t { disks = new })
with_disks t new a is = record { files = a.files; extents = a.extents; nodes = a.nodes; templates = a.templates; stale = a.stale; operations = a.operations; disks = is }

pub disk_rules : (s : Shape) (t : Tables) (new : List Disk) → KeepsRules s t → IsDiskTable new → blocks_used (record t { disks = new }) + 2 ≤ s.dir_blocks → KeepsRules s (record t { disks = new })
disk_rules s t new r is room = record {
  tables = with_disks t new r.tables is;
  marked = r.marked;
  chunks = r.chunks;
  owned = r.owned;
  redundancy = r.redundancy;
  apart = r.apart;
  stale = r.stale;
  nodes = r.nodes;
  names = r.names;
  extents = r.extents;
  room = room;
}

put_room : (c : Catalogued) (d : ℕ) (info : DiskInfo) → IsCatalog c → (info_at c.tables.disks d ≡ None → blocks_used c.tables + 2 < c.shape.dir_blocks) → blocks_used (record c.tables { disks = with_info c.tables.disks d info }) + 2 ≤ c.shape.dir_blocks
put_room c d info is room = by (info_at c.tables.disks d) refl where
  by : (o : Option DiskInfo) → info_at c.tables.disks d ≡ o → blocks_used (record c.tables { disks = with_info c.tables.disks d info }) + 2 ≤ c.shape.dir_blocks
  by None e =
      let longer = new_longer d info c.tables.disks is.rules.tables.disks.0 e in
      omega (arith, longer, room e)
  by (Some x) e =
      let same = there_as_long d info x c.tables.disks is.rules.tables.disks.0 e in
      omega (arith, same, is.rules.room)

module _ (c : Catalogued) (put : List DirectoryRecord) (gone : List Key) (is : IsCatalog c) where
  abbrev old : List Disk
  old = c.tables.disks

  pub put_planned : (d : ℕ) (info : DiskInfo) → is_item (disk_item d info) ≡ true → (info_at old d ≡ None → blocks_used c.tables + 2 < c.shape.dir_blocks)
      → put ≡ item_record (disk_item d info) ∷ [] → gone ≡ [] → IsPlan c put gone (record c.tables { disks = with_info old d info })
  put_planned d info ok room p g =
      let new = with_info old d info in
      let table = put_keeps_table old d info ok is.rules.tables.disks in
      let sets = disks_set c.tables new (disk_key d) (Some (value (disk_item d info))) refl refl (put_at old d info) in
      rw (p, g) (plan_is c _ _ _
      (after_put c.tables (record c.tables { disks = new }) (item_record (disk_item d info)) (with_disks c.tables new is.rules.tables table) sets)
      (disk_rules c.shape c.tables new is.rules table (put_room c d info is room))
      (λ es has. (c.units, has))
      (omega arith) refl
      (one_room c (item_record (disk_item d info)) is (λ lacks. room (no_disk c.tables d lacks))))

  pub gone_planned : (d : ℕ) → put ≡ [] → gone ≡ disk_key d ∷ [] → IsPlan c put gone (record c.tables { disks = without_disk old d })
  gone_planned d p g =
      let new = without_disk old d in
      let table = removed_keeps_table old d is.rules.tables.disks in
      let sets = disks_set c.tables new (disk_key d) None refl refl (record_gone old new d (λ n. gone_at d n old is.rules.tables.disks.0)) in
      let few = gone_few (is_at (nat_cmp d)) old in
      rw (p, g) (plan_is c _ _ _
      (after_gone c.tables (record c.tables { disks = new }) (disk_key d) (with_disks c.tables new is.rules.tables table) sets)
      (disk_rules c.shape c.tables new is.rules table (omega (arith, few, is.rules.room)))
      (λ es has. (c.units, has))
      (omega arith) refl (nothing_room c is))

-- ---- whether a block is wanting

pub lacks : (c : Catalogued) (d free : ℕ) → info_at c.tables.disks d ≡ None → free + blocks_used c.tables + 2 ≡ c.shape.dir_blocks → free ≡ 0 → (i : DiskInfo) → LacksBlock c d (Some i)
lacks c d free none room nothing i = record { put = (i, refl); new = none; full = omega (arith, room, nothing) }

pub has_one : (c : Catalogued) (d : ℕ) (info : DiskInfo) → info_at c.tables.disks d ≡ Some info → info_at c.tables.disks d ≡ None → blocks_used c.tables + 2 < c.shape.dir_blocks
has_one c d info some none = absurd (none-some info (sym none ∙ some))

pub has_room : (c : Catalogued) (free : ℕ) → free + blocks_used c.tables + 2 ≡ c.shape.dir_blocks → (free ≡ 0 → ⊥) → blocks_used c.tables + 2 < c.shape.dir_blocks
has_room c free room some = omega (arith, room, positive free some) where
  positive : (n : ℕ) → (n ≡ 0 → ⊥) → 0 < n
  positive zero apart = absurd (apart refl)
  positive (suc n) apart = omega arith
