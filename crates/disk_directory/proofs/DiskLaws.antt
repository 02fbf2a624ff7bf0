-- The table of disks is read from its records.
use Rattle.std.proofs.Common.{◌≡◌, ℕ, ◌^◌, ◌<◌, true, ltb, eqb, cond, List, [], map, Option, Some, None, refl, sym, ap, ◌∙◌, ◌&&◌}
use Rattle.std.specs.Prelude.{IfSome}
use Rattle.std.specs.Option.{option_map}
use Rattle.std.specs.BTreeMap.{is_at}
use Rattle.std.specs.Cmp.{nat_cmp_total}
use Rattle.std.specs.FinMap.{nat_cmp-IsAntisymmetric}
use Rattle.std.specs.Ordering.{nat_cmp}
use Rattle.std.proofs.lemmas.Bool.{and_parts, eqb-true, ltb-true, lt-ltb}
use Rattle.asm_formats.specs.asm_group.Names.{is_name}
use Rattle.asm_formats.specs.Items.{DiskInfo, Key, disk_item, is_item}
use Rattle.asm_formats.specs.Values.{decoded_item}
use Rattle.asm_base.specs.Records.{DirectoryRecord, all_of, of_kinds, read_from}
use Rattle.asm_base.specs.Tables.{entry_of_record}
use Rattle.asm_base.proofs.ItemTables.{entry_is_read}
use Rattle.record_values.specs.Values.{disk_reading}
use Rattle.record_values.proofs.Disks.{disk_decoded}
use Rattle.item_table.proofs.Laws as tables
use Rattle.disk_directory.specs.DiskEntries.{disk_entries}
use Rattle.disk_directory.specs.Disks.{Disk, IsDiskTable, add_record, disk_of_item, info_at, is_key_of_disk, item_of_disk, record_of_disk, disk_value_at, with_info, without_disk}

-- the disk of a record of its kind is read from its value
pub info_is_read : (k : Key) (bytes : List ℕ) → is_key_of_disk k ≡ true → entry_of_record disk_of_item (k, bytes) ≡ option_map (λ d. (k.a, d)) (all_of disk_reading bytes)
info_is_read k bytes mine =
    let p = and_parts (eqb k.kind 2) _ mine in
    let q = and_parts (eqb k.b 0) (ltb k.a 64) p.1 in
    let same : record { kind = 2; a = k.a; b = 0 } ≡ k = λ i. record { kind = sym (eqb-true k.kind 2 p.0) i; a = k.a; b = sym (eqb-true k.b 0 q.0) i } in
    entry_is_read disk_entries.0 (disk_item k.a) (λ d. (k.a, d)) (λ d. refl) (k, bytes) (all_of disk_reading bytes) (disk_decoded k.a bytes (ltb-true k.a 64 q.1) ∙ ap (λ (j : Key). decoded_item j bytes) same)

-- a table with another record of a disk, or without it
pub put_keeps_table : (disks : List Disk) (n : ℕ) (d : DiskInfo) → is_item (disk_item n d) ≡ true → IsDiskTable disks → IsDiskTable (with_info disks n d)
put_keeps_table disks n d ok t = tables.put_keeps_table nat_cmp_total nat_cmp-IsAntisymmetric item_of_disk disks n d ok t

pub removed_keeps_table : (disks : List Disk) (n : ℕ) → IsDiskTable disks → IsDiskTable (without_disk disks n)
removed_keeps_table disks n t = tables.remove_keeps_table nat_cmp_total item_of_disk disks n t

pub record_gone : (old new : List Disk) (n : ℕ) → ((d : ℕ) → info_at new d ≡ cond (is_at (nat_cmp n) d) None (info_at old d))
    → (d : ℕ) → disk_value_at new d ≡ cond (is_at (nat_cmp n) d) None (disk_value_at old d)
record_gone old new n all d = tables.record_gone nat_cmp item_of_disk old new n all d

pub table_found : (records : List DirectoryRecord) (read : Option (List Disk)) → read ≡ read_from is_key_of_disk (add_record nat_cmp disk_of_item) [] records → IfSome read (λ t. IsDiskTable t × (of_kinds is_key_of_disk records ≡ map record_of_disk t))
table_found records read e = tables.table_found disk_entries.0 is_key_of_disk nat_cmp records read e

pub table_again : (records : List DirectoryRecord) (read : Option (List Disk)) (t : List Disk) → read ≡ read_from is_key_of_disk (add_record nat_cmp disk_of_item) [] records → IsDiskTable t → of_kinds is_key_of_disk records ≡ map record_of_disk t → read ≡ Some t
table_again records read t e fits same = tables.table_again disk_entries.0 is_key_of_disk nat_cmp records read t e fits same

pub is_allowed_item : (d birth : ℕ) (name failgroup : List ℕ) → birth < 2 ^ 64 → is_item (disk_item d (record { birth = birth; name = name; failgroup = failgroup })) ≡ (ltb d 64 && (is_name name && is_name failgroup))
unfolding is_item
is_allowed_item d birth name failgroup fits = rw (lt-ltb birth (2 ^ 64) fits) refl
