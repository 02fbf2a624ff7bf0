-- The files of the group are those of the heads.
use Rattle.std.proofs.Common.{◌≡◌, ℕ, ◌<◌, ◌^◌, Bool, true, false, cond, List, [], ◌∷◌, map, Option, Some, None, refl, sym, ap, subst, ◌∙◌}
use Rattle.std.specs.Prelude.{◌&&◌, nat_lt}
use Rattle.std.specs.FinMap as maps
use Rattle.std.specs.Ordering.{nat_cmp}
use Rattle.std.specs.BTreeMap.{is_at}
use Rattle.std.specs.Option.{option_map}
use Rattle.std.proofs.lemmas.Bool.{and_parts, ltb-true}
use Rattle.std.proofs.lemmas.Cmp.{nat_cmp_total}
use Rattle.asm_group.specs.Names.{is_part}
use Rattle.asm_group.specs.Group.{Cell, File}
use Rattle.asm_formats.specs.Among.{IsAmong}
use Rattle.asm_formats.specs.Items.{FileHead, Item, is_item, is_redundancy, file_item}
use Rattle.asm_placement.specs.Tables.{head_of}
use Rattle.asm_images.specs.Describing.{SameFile}
use Rattle.catalog_laws.specs.file_directory.Files as heads
use Rattle.catalog_laws.specs.file_directory.Files.{head_at}
use Rattle.catalog_laws.specs.catalog_tables.Tables.{AreTables, Tables}
use Rattle.catalog_laws.specs.catalog_tables.Items.{AreItemsOf}
use Rattle.catalog_laws.proofs.catalog_tables.NumberedLists.{number_is}
use Rattle.catalog_laws.proofs.catalog_tables.TableItems.{each_of, found_is, numbers_exact}
use Rattle.catalog_laws.proofs.ItemLaws.{heads_are}
use Rattle.group_of.specs.Groups.{HasCells, file_of_head, files_by_number}

abbrev pub file_at : (ℕ → List Cell) → ℕ → Option FileHead → Option File
file_at cells f head = option_map (λ (h : FileHead). file_of_head h (cells f)) head

listed : (cells : ℕ → List Cell) (files : List heads.NumberedFile) (f : ℕ) → maps.find nat_cmp f (map (λ (x : heads.NumberedFile). (x.0, file_of_head x.1 (cells x.0))) files) ≡ file_at cells f (head_at files f)
listed cells [] f = refl
listed cells (x ∷ files) f = by (is_at (nat_cmp f) x.0) refl (listed cells files f) where
  by : (b : Bool) → is_at (nat_cmp f) x.0 ≡ b → maps.find nat_cmp f (map (λ (y : heads.NumberedFile). (y.0, file_of_head y.1 (cells y.0))) files) ≡ file_at cells f (head_at files f)
      → cond b (Some (file_of_head x.1 (cells x.0))) (maps.find nat_cmp f (map (λ (y : heads.NumberedFile). (y.0, file_of_head y.1 (cells y.0))) files)) ≡ file_at cells f (cond b (Some x.1) (head_at files f))
  by true here rest = ap (λ (n : ℕ). Some (file_of_head x.1 (cells n))) (sym (number_is f x.0 here))
  by false other rest = rest

-- a file of the group by its head
pub files_are : (cells : ℕ → List Cell) (files : List heads.NumberedFile) (f : ℕ) → maps.get (files_by_number cells files) f ≡ file_at cells f (head_at files f)
files_are cells files f = maps.get-from_entries nat_cmp_total (map (λ (x : heads.NumberedFile). (x.0, file_of_head x.1 (cells x.0))) files) f ∙ listed cells files f

pub record IsHead (head : FileHead) : Type 0 where
  pub copies : is_redundancy head.copies ≡ true
  pub system : 0 < head.system

head_parts : (f : ℕ) (head : FileHead) → is_item (file_item f head) ≡ true → IsHead head
unfolding is_item
head_parts f head e =
    let a = and_parts (nat_lt f (2 ^ 32)) (is_redundancy head.copies && (is_part 30 head.type_name && (nat_lt head.size (2 ^ 64) && (nat_lt head.incarnation (2 ^ 64) && (nat_lt 0 head.system && (nat_lt head.system (2 ^ 32) && nat_lt head.alias (2 ^ 32))))))) e in
    let b = and_parts (is_redundancy head.copies) (is_part 30 head.type_name && (nat_lt head.size (2 ^ 64) && (nat_lt head.incarnation (2 ^ 64) && (nat_lt 0 head.system && (nat_lt head.system (2 ^ 32) && nat_lt head.alias (2 ^ 32)))))) a.1 in
    let c = and_parts (is_part 30 head.type_name) (nat_lt head.size (2 ^ 64) && (nat_lt head.incarnation (2 ^ 64) && (nat_lt 0 head.system && (nat_lt head.system (2 ^ 32) && nat_lt head.alias (2 ^ 32))))) b.1 in
    let d = and_parts (nat_lt head.size (2 ^ 64)) (nat_lt head.incarnation (2 ^ 64) && (nat_lt 0 head.system && (nat_lt head.system (2 ^ 32) && nat_lt head.alias (2 ^ 32)))) c.1 in
    let g = and_parts (nat_lt head.incarnation (2 ^ 64)) (nat_lt 0 head.system && (nat_lt head.system (2 ^ 32) && nat_lt head.alias (2 ^ 32))) d.1 in
    let h = and_parts (nat_lt 0 head.system) (nat_lt head.system (2 ^ 32) && nat_lt head.alias (2 ^ 32)) g.1 in
    record { copies = b.0; system = ltb-true 0 head.system h.0 }

pub head_among : (files : List heads.NumberedFile) (f : ℕ) (head : FileHead) → head_at files f ≡ Some head → IsAmong files (f, head)
head_among files f head e = found_is nat_cmp nat_cmp_total numbers_exact f files head e

pub head_is : (t : Tables) (f : ℕ) (head : FileHead) → AreTables t → head_at t.files f ≡ Some head → IsHead head
head_is t f head a e = head_parts f head (each_of (λ (x : heads.NumberedFile). is_item (heads.item_of_file_head x) ≡ true) t.files (f, head) a.files.1 (head_among t.files f head e))

same_file : (t : Tables) (cells : ℕ → List Cell) (f : ℕ) → AreTables t → HasCells t cells → (o : Option FileHead) → head_at t.files f ≡ o → SameFile o (file_at cells f o)
same_file t cells f a has None e = tt
same_file t cells f a has (Some head) e = ((head_is t f head a e).system, (refl, refl, refl, refl, sym (has f head e)))

pub same_files : (t : Tables) (items : List Item) (cells : ℕ → List Cell) → AreTables t → AreItemsOf t items → HasCells t cells → (f : ℕ) → SameFile (head_of items f) (maps.get (files_by_number cells t.files) f)
same_files t items cells a is has f =
    subst (λ (o : Option FileHead). SameFile o (maps.get (files_by_number cells t.files) f)) (sym (heads_are t items a is f))
    (subst (λ (o : Option File). SameFile (head_at t.files f) o) (sym (files_are cells t.files f)) (same_file t cells f a has (head_at t.files f) refl))
