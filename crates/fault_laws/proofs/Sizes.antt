-- Each extent that a file has by its size has all its copies, where the items describe a group.
use Rattle.std.proofs.Common.{◌≡◌, ℕ, ◌<◌, Bool, true, false, cond, get_or, List, [], length, Option, Some, None, refl, sym, ap, subst, ◌∙◌, arith, inl, inr}
use Rattle.std.specs.Prelude.{◌&&◌, ◌||◌, ◌/◌, ◌%◌, not, nat_lt}
use Rattle.std.specs.FinMap as maps
use Rattle.std.specs.List.{AllByRecursion}
use Rattle.std.specs.Option.{is_some, option_and_then, unwrap_or}
use Rattle.std.proofs.lemmas.Bool.{and_from, and_parts, cases_lt, le-ltb, leb-true}
use Rattle.asm_group.specs.Group.{File, Group}
use Rattle.asm_group.specs.declared.Stripe.{Stripe}
use Rattle.asm_formats.specs.Among.{IsAmong}
use Rattle.asm_formats.specs.Items.{FileHead, Homes, Item, chunk_len, is_redundancy}
use Rattle.asm_formats.specs.Status.{Status}
use Rattle.asm_placement.specs.Layout as layout
use Rattle.asm_images.specs.Describing.{DescribesGroup, IsHeadOf, SameFile}
use Rattle.file_directory.specs.Files as heads
use Rattle.file_directory.specs.Files.{head_at}
use Rattle.extent_map.specs.Extents.{chunk_at, has_home}
use Rattle.catalog_tables.specs.Tables.{AreTables, Tables}
use Rattle.catalog_tables.specs.Rules.{HasExtents, has_copies, is_copied}
use Rattle.catalog_tables.specs.Items.{AreItemsOf}
use Rattle.group_of.proofs.Extents.{home_by}
use Rattle.group_of.proofs.HeadedFiles.{head_is}
use Rattle.fault_laws.proofs.Chunks.{same_file}
use Rattle.fault_laws.proofs.Lists.{all_among}
use Rattle.fault_laws.proofs.Names.{file_found}

or_true : (b : Bool) → (b || true) ≡ true
or_true true = refl
or_true false = refl

copied : (n k : ℕ) (hs : Homes) → (k < n → is_some (get_or hs k None) ≡ true) → is_copied n hs k ≡ true
copied n k hs there = elim (cases_lt k n) [
  | inl lt ↦ rw (there lt) (or_true (not (nat_lt k n)))
  | inr le ↦ rw (le-ltb k n le) refl
]

-- an extent each copy of which is there has all its copies
all_there : (n : ℕ) (o : Option (List Homes)) (p : ℕ) → 0 < n → ((copy : ℕ) → copy < n → is_some (get_or (get_or (unwrap_or o []) p []) copy None) ≡ true)
    → has_copies n (option_and_then (λ chunk. cond (has_home (get_or chunk p [])) (Some (get_or chunk p [])) None) o) ≡ true
all_there n None p some each = none (each 0 some) where
  none : false ≡ true → has_copies n None ≡ true
  none e = e
all_there n (Some chunk) p some each =
    let hs = get_or chunk p [] in
    let first : has_home hs ≡ true = ap (λ (b : Bool). b || (is_some (get_or hs 1 None) || is_some (get_or hs 2 None))) (each 0 some) in
    ap (λ (b : Bool). has_copies n (cond b (Some hs) None)) first
    ∙ and_from (is_copied n hs 0) (is_copied n hs 1 && is_copied n hs 2) (copied n 0 hs (each 0))
    (and_from (is_copied n hs 1) (is_copied n hs 2) (copied n 1 hs (each 1)) (copied n 2 hs (each 2)))

some_copies : (n : ℕ) → is_redundancy n ≡ true → 0 < n
some_copies n e = leb-true 1 n (and_parts _ _ e).0

module _ (r : Status) (items : List Item) (t : Tables) (g : Group) (a : AreTables t) (is : AreItemsOf t items) (d : DescribesGroup r items g) where
  of_file : (x : heads.NumberedFile) → IsAmong t.files x → (file : File) → maps.get g.files x.0 ≡ Some file → IsHeadOf x.1 file → HasExtents t g.shape x
  of_file x h file at same i due =
      let head = head_is t x.0 x.1 a (file_found r items t g a is d x h) in
      let here : layout.has_extent_by_size file.stripe g.shape.au g.shape.step (length file.cells) i ≡ true =
      ap (λ (s : Stripe). layout.has_extent_by_size s g.shape.au g.shape.step (length file.cells) i) (sym same.1)
      ∙ ap (λ (n : ℕ). layout.has_extent_by_size x.1.stripe g.shape.au g.shape.step n i) (sym same.4) ∙ due in
      all_there x.1.copies (chunk_at t.extents (x.0, i / chunk_len)) (i % chunk_len) (some_copies x.1.copies head.copies)
      (λ copy lt. ap is_some (sym (home_by t items a is x.0 i copy)) ∙ d.extents x.0 i copy file at here (subst (λ (n : ℕ). copy < n) same.0 lt))

  of_head : (x : heads.NumberedFile) → IsAmong t.files x → HasExtents t g.shape x
  of_head x h = by (maps.get g.files x.0) refl (subst (λ (o : Option FileHead). SameFile o (maps.get g.files x.0)) found (same_file r items t g a is d x.0)) where
    found : head_at t.files x.0 ≡ Some x.1
    found = file_found r items t g a is d x h

    by : (p : Option File) → maps.get g.files x.0 ≡ p → SameFile (Some x.1) p → HasExtents t g.shape x
    by None at same = absurd (omega (arith, same, (head_is t x.0 x.1 a found).system))
    by (Some file) at same = of_file x h file at same.1

  pub extents : AllByRecursion (HasExtents t g.shape) t.files
  extents = all_among (HasExtents t g.shape) t.files of_head
