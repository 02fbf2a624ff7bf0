-- Rows one after the other.
use Rattle.std.proofs.Common.{◌≡◌, ℕ, ◌+◌, ◌<◌, List, [], ◌∷◌, ◌++◌, length, get_or, map, take, refl, sym, ap, ◌∙◌, Option, Some, None, append_assoc}
use Rattle.std.specs.Prelude.{filter_map}
use Rattle.std.specs.Option.{option_to_list}
use Rattle.std.proofs.lemmas.List.{take_more}
use Rattle.asm_formats.specs.Status.{Entry}
use Rattle.asm_group.specs.Names.{Bytes}
use Rattle.asmcmd.specs.Texts as texts
use Rattle.asmcmd.specs.declared.rows.DiskRow.{DiskRow}
use Rattle.asmcmd.specs.declared.rows.LsRow.{LsRow}
use Rattle.catalog_laws.specs.catalog_tables.Tables.{Catalogued, Tables}
use Rattle.group_reports.specs.Disks.{row_of_disk, disk_rows}
use Rattle.group_reports.specs.Listing.{row_at, rows_of_nodes}

-- ---- lsdsk

all_same : (c : Catalogued) (es : List Entry) → map (λ (e : Entry). texts.disk_row (row_of_disk c e)) es ≡ map texts.disk_row (disk_rows c es)
all_same c [] = refl
all_same c (e ∷ es) = ap (λ (rows : List DiskRow). texts.disk_row (row_of_disk c e) ∷ rows) (all_same c es)

pub disks_same : (c : Catalogued) (es : List Entry) (rows : List DiskRow) → rows ≡ map (λ (e : Entry). texts.disk_row (row_of_disk c e)) es → rows ≡ map texts.disk_row (disk_rows c es)
disks_same c es rows is = is ∙ all_same c es

-- ---- ls

one_first : (t : Tables) (group pattern : Bytes) (n : ℕ) (ns : List ℕ) → rows_of_nodes t group pattern (n ∷ ns) ≡ option_to_list (row_at t group pattern n) ++ rows_of_nodes t group pattern ns
one_first t group pattern n ns = by (row_at t group pattern n) refl
  where
    by : (o : Option LsRow) → row_at t group pattern n ≡ o → rows_of_nodes t group pattern (n ∷ ns) ≡ option_to_list o ++ rows_of_nodes t group pattern ns
    by None is = rw is refl
    by (Some row) is = rw is refl

last_row : (t : Tables) (group pattern : Bytes) (ns : List ℕ) (n : ℕ) → rows_of_nodes t group pattern (ns ++ n ∷ []) ≡ rows_of_nodes t group pattern ns ++ option_to_list (row_at t group pattern n)
last_row t group pattern [] n = by (row_at t group pattern n) refl
  where
    by : (o : Option LsRow) → row_at t group pattern n ≡ o → rows_of_nodes t group pattern (n ∷ []) ≡ option_to_list o
    by None is = rw is refl
    by (Some row) is = rw is refl
last_row t group pattern (m ∷ ns) n =
    one_first t group pattern m (ns ++ n ∷ [])
    ∙ (ap (λ (rs : List LsRow). option_to_list (row_at t group pattern m) ++ rs) (last_row t group pattern ns n)
    ∙ (sym (append_assoc (option_to_list (row_at t group pattern m)) (rows_of_nodes t group pattern ns) (option_to_list (row_at t group pattern n)))
    ∙ ap (λ (rs : List LsRow). rs ++ option_to_list (row_at t group pattern n)) (sym (one_first t group pattern m ns))))

pub rows_more : (t : Tables) (group pattern : Bytes) (numbers : List ℕ) (i n : ℕ) (rows new : List LsRow) (row : Option LsRow) → rows ≡ rows_of_nodes t group pattern (take i numbers) → i < length numbers → n ≡ get_or numbers i 0
    → row ≡ row_at t group pattern n → new ≡ rows ++ option_to_list row → new ≡ rows_of_nodes t group pattern (take (i + 1) numbers)
rows_more t group pattern numbers i n rows new row so_far within at is put =
    put ∙ (ap (λ (rs : List LsRow). rs ++ option_to_list row) so_far
    ∙ (ap (λ (o : Option LsRow). rows_of_nodes t group pattern (take i numbers) ++ option_to_list o) is
    ∙ (sym (last_row t group pattern (take i numbers) n)
    ∙ ap (λ (ns : List ℕ). rows_of_nodes t group pattern ns) (ap (λ (m : ℕ). take i numbers ++ m ∷ []) at ∙ sym (take_more numbers i 0 within)))))
