-- The table of files is read from its records, and what a file's record may be is told by tests.
use Rattle.std.proofs.Common.{◌≡◌, ℕ, ◌^◌, ◌<◌, ◌≤◌, Bool, true, false, leb, ltb, eqb, List, [], length, map, Option, Some, refl, sym, ap, subst, ◌∙◌}
use Rattle.std.specs.Prelude.{◌&&◌}
use Rattle.std.specs.Option.{option_map}
use Rattle.std.specs.Prelude.{IfSome}
use Rattle.std.specs.Cmp.{nat_cmp_total}
use Rattle.std.specs.FinMap.{nat_cmp-IsAntisymmetric}
use Rattle.std.specs.Ordering.{nat_cmp}
use Rattle.std.proofs.lemmas.Bool.{and_parts, eqb-true, le-leb, leb-true, lt-ltb, true≢false}
use Rattle.asm_formats.specs.asm_group.Names.{is_part}
use Rattle.asm_formats.specs.Items.{FileHead, Key, file_item, is_item, is_redundancy}
use Rattle.asm_formats.specs.Values.{decoded_item}
use Rattle.asm_base.specs.Records.{DirectoryRecord, all_of, of_kinds, read_from}
use Rattle.asm_base.specs.Tables.{entry_of_record}
use Rattle.asm_base.proofs.NameLaws.{part_is, part_is_short, part_of}
use Rattle.asm_base.proofs.ItemTables.{entry_is_read}
use Rattle.record_values.specs.Values.{file_reading}
use Rattle.record_values.proofs.Files.{file_decoded, file_fits}
use Rattle.item_table.proofs.Laws as tables
use Rattle.file_directory.specs.Files.{NumberedFile, IsFileTable, add_record, file_of_item, is_key_of_file, item_of_file_head, record_of_file, with_head, without_head}
use Rattle.file_directory.specs.Entries.{file_entries}

-- ---- what a file's record may be

-- a part that has at most 30 bytes
part_shorter : (name : List ℕ) → is_part 255 name ≡ true → leb (length name) 30 ≡ is_part 30 name
part_shorter name e = by_len (leb (length name) 30) refl where
  by_len : (b : Bool) → leb (length name) 30 ≡ b → leb (length name) 30 ≡ is_part 30 name
  by_len true le =
      let p = part_of 255 name e in
      le ∙ sym (part_is 30 name (record { made = p.made; some = p.some; few = leb-true (length name) 30 le; no_point = p.no_point }))
  by_len false more = more ∙ sym (longer (is_part 30 name) refl) where
    longer : (b : Bool) → is_part 30 name ≡ b → is_part 30 name ≡ false
    longer true part = absurd (true≢false (sym (le-leb (length name) 30 (part_is_short 30 name part)) ∙ more))
    longer false part = part

-- the type's name of an allowed head fits its field
pub name_fits : (f : ℕ) (h : FileHead) → is_item (file_item f h) ≡ true → length h.type_name ≤ 30
name_fits f h ok = part_is_short 30 h.type_name (file_fits f h ok).type_name

-- ---- the table

-- the file of a record of its kinds is read from its value
pub file_is_read : (k : Key) (bytes : List ℕ) → k.a < 2 ^ 32 → is_key_of_file k ≡ true → entry_of_record file_of_item (k, bytes) ≡ option_map (λ h. (k.a, h)) (all_of file_reading bytes)
file_is_read k bytes lt mine =
    let p = and_parts (eqb k.kind 1) (eqb k.b 0) mine in
    let same : record { kind = 1; a = k.a; b = 0 } ≡ k = λ i. record { kind = sym (eqb-true k.kind 1 p.0) i; a = k.a; b = sym (eqb-true k.b 0 p.1) i } in
    entry_is_read file_entries.0 (file_item k.a) (λ h. (k.a, h)) (λ h. refl) (k, bytes) (all_of file_reading bytes) (file_decoded k.a bytes lt ∙ ap (λ (j : Key). decoded_item j bytes) same)

-- a table with another head of a file, or without it
pub put_keeps_table : (files : List NumberedFile) (f : ℕ) (h : FileHead) → is_item (file_item f h) ≡ true → IsFileTable files → IsFileTable (with_head files f h)
put_keeps_table files f h ok t = tables.put_keeps_table nat_cmp_total nat_cmp-IsAntisymmetric item_of_file_head files f h ok t

pub remove_keeps_table : (files : List NumberedFile) (f : ℕ) → IsFileTable files → IsFileTable (without_head files f)
remove_keeps_table files f t = tables.remove_keeps_table nat_cmp_total item_of_file_head files f t

pub table_found : (records : List DirectoryRecord) (read : Option (List NumberedFile)) → read ≡ read_from is_key_of_file (add_record nat_cmp file_of_item) [] records → IfSome read (λ t. IsFileTable t × (of_kinds is_key_of_file records ≡ map record_of_file t))
table_found records read e = tables.table_found file_entries.0 is_key_of_file nat_cmp records read e

pub table_again : (records : List DirectoryRecord) (read : Option (List NumberedFile)) (t : List NumberedFile) → read ≡ read_from is_key_of_file (add_record nat_cmp file_of_item) [] records → IsFileTable t → of_kinds is_key_of_file records ≡ map record_of_file t → read ≡ Some t
table_again records read t e fits same = tables.table_again file_entries.0 is_key_of_file nat_cmp records read t e fits same

-- ---- the test of a head

-- what is tested, where the numbers are those of their types
abbrev passes : FileHead → Bool
passes h = is_redundancy h.copies && (leb (length h.type_name) 30 && ltb 0 h.system)

pub record Numbered (h : FileHead) : Type 0 where
  pub size : h.size < 2 ^ 64
  pub incarnation : h.incarnation < 2 ^ 64
  pub system : h.system < 2 ^ 32
  pub alias : h.alias < 2 ^ 32

by_tests : (f : ℕ) (h : FileHead) → f < 2 ^ 32 → Numbered h → is_part 255 h.type_name ≡ true → passes h ≡ is_item (file_item f h)
unfolding is_item
by_tests f h lt n part =
    rw (lt-ltb f (2 ^ 32) lt, lt-ltb h.size (2 ^ 64) n.size, lt-ltb h.incarnation (2 ^ 64) n.incarnation, lt-ltb h.system (2 ^ 32) n.system, lt-ltb h.alias (2 ^ 32) n.alias, part_shorter h.type_name part)
    (ap (λ (s : Bool). is_redundancy h.copies && (is_part 30 h.type_name && s)) (alone (ltb 0 h.system))) where
      alone : (b : Bool) → b ≡ (b && true)
      alone true = refl
      alone false = refl

pub tests_are_all : (f : ℕ) {v h : FileHead} → v ≡ h → f < 2 ^ 32 → Numbered v → is_part 255 v.type_name ≡ true → (is_redundancy h.copies && (leb (length h.type_name) 30 && ltb 0 h.system)) ≡ is_item (file_item f h)
tests_are_all f {v} {h} same lt n part = subst (λ (x : FileHead). passes x ≡ is_item (file_item f x)) same (by_tests f v lt n part)

pub part_of_view : {v h : FileHead} → v ≡ h → is_part 255 h.type_name ≡ true → is_part 255 v.type_name ≡ true
part_of_view {v} {h} same part = subst (λ (x : FileHead). is_part 255 x.type_name ≡ true) (sym same) part
