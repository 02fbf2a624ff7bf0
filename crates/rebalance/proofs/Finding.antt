-- What the walk through the extents finds: something is due where an extent is found for it, and what is said is what the extent that is found says.
use Rattle.std.proofs.Common.{◌≡◌, ℕ, suc, ◌*◌, ◌^◌, Bool, true, false, cond, ◌&&◌, ◌||◌, List, [], ◌∷◌, refl, sym, ap, ◌∙◌, Option, Some, None}
use Rattle.std.specs.Prelude.{find, nat_lt}
use Rattle.std.specs.Option.{is_some, option_and_then, option_map, option_or}
use Rattle.asm_group.specs.Shape.{Shape}
use Rattle.asm_formats.specs.Status.{Entry}
use Rattle.asm_formats.specs.Items.{FileHead, Homes}
use Rattle.asm_placement.specs.Rebalancing.{Next, option_when}
use Rattle.catalog_laws.specs.extent_map.Extents.{Chunked, has_home}
use Rattle.asm_base.specs.Chunks.{Chunk}
use Rattle.catalog_laws.specs.file_directory.Files.{head_at}
use Rattle.catalog_laws.specs.catalog_tables.Tables.{Catalogued, Tables}
use Rattle.extent_copies.specs.declared.extent.Extent.{Extent}
use Rattle.rebalance.specs.declared.moves.Next.{Next as CodeNext}
use Rattle.rebalance.specs.declared.search.Asked.TheVariants as asked
use Rattle.rebalance.specs.declared.search.Found.{Found}
use Rattle.rebalance.specs.declared.stages.Stage.{Stage}
use Rattle.rebalance.specs.Due.{any_of_chunk, any_of_extents, any_with, first_due_of, is_due, is_due_in, passes_there}
use Rattle.rebalance.specs.Finding.{found_from, found_in_chunk, found_of_chunk, found_of_chunks, found_of_extents}
use Rattle.rebalance.specs.Moves.{next_meant}
use Rattle.rebalance.specs.Searching.{extent_in_tables, extent_says, first_of_chunk, first_of_chunks, first_of_extents, says_of, with_copies}
use Rattle.rebalance.specs.Sums.{Sums}

-- ---- what is due

module _ (test : Extent → Bool) (s : Shape) (t : Tables) where
  row_due : (f n i : ℕ) (xs : List Homes) → any_of_extents test s t f n i xs ≡ is_some (found_of_extents test s t f n i xs)
  row_due f n i [] = refl
  row_due f n i (hs ∷ more) = by (passes_there test s t f n i hs) (row_due f n (suc i) more) where
    by : (b : Bool) → any_of_extents test s t f n (suc i) more ≡ is_some (found_of_extents test s t f n (suc i) more)
        → (b || any_of_extents test s t f n (suc i) more) ≡ is_some (option_or (cond b (Some (extent_in_tables s t f n i hs)) None) (found_of_extents test s t f n (suc i) more))
    by true rest = refl
    by false rest = rest

  with_due : (f i : ℕ) (xs : List Homes) (o : Option ℕ) → any_with (λ n. any_of_extents test s t f n i xs) o ≡ is_some (with_copies (λ n. found_of_extents test s t f n i xs) o)
  with_due f i xs None = refl
  with_due f i xs (Some n) = row_due f n i xs

  chunk_due : (x : Chunked) → any_of_chunk test s t x ≡ is_some (found_of_chunk test s t x)
  chunk_due x = with_due x.0.0 (x.0.1 * 256) x.1 (option_map (λ (h : FileHead). h.copies) (head_at t.files x.0.0))

  chunks_due : (xs : List Chunked) → option_map (λ (x : Chunked). x.0) (find (any_of_chunk test s t) xs) ≡ option_map (λ (f : Found). f.at) (found_of_chunks test s t xs)
  chunks_due [] = refl
  chunks_due (x ∷ xs) = by (any_of_chunk test s t x) (found_of_chunk test s t x) (chunk_due x) (chunks_due xs) where
    by : (b : Bool) (o : Option Extent) → b ≡ is_some o
        → option_map (λ (y : Chunked). y.0) (find (any_of_chunk test s t) xs) ≡ option_map (λ (f : Found). f.at) (found_of_chunks test s t xs)
        → option_map (λ (y : Chunked). y.0) (cond b (Some x) (find (any_of_chunk test s t) xs)) ≡ option_map (λ (f : Found). f.at) (option_or (option_map (λ (e : Extent). record { at = x.0; extent = e }) o) (found_of_chunks test s t xs))
    by true (Some e) same rest = refl
    by false None same rest = rest
    by true None same rest = absurd cc
    by false (Some e) same rest = absurd cc

-- ---- what is said

module _ (says : Extent → Option Next) (s : Shape) (t : Tables) where
  abbrev test : Extent → Bool
  test x = is_some (says x)

  -- what is said is what the extent says that is found, and it is something
  abbrev Says : Option Next → Option Extent → Type 0
  Says o None = o ≡ None
  Says o (Some e) = (says e ≡ o) × (is_some o ≡ true)

  row_says : (f n i : ℕ) (xs : List Homes) → Says (first_of_extents says s t f n i xs) (found_of_extents test s t f n i xs)
  row_says f n i [] = refl
  row_says f n i (hs ∷ more) = by (has_home hs && nat_lt i (2 ^ 32)) (says (extent_in_tables s t f n i hs)) refl (row_says f n (suc i) more) where
    by : (b : Bool) (o : Option Next) → says (extent_in_tables s t f n i hs) ≡ o → Says (first_of_extents says s t f n (suc i) more) (found_of_extents test s t f n (suc i) more)
        → Says (option_or (option_when b o) (first_of_extents says s t f n (suc i) more)) (option_or (cond (b && is_some o) (Some (extent_in_tables s t f n i hs)) None) (found_of_extents test s t f n (suc i) more))
    by false o is rest = rest
    by true None is rest = rest
    by true (Some next) is rest = (is, refl)

  with_says : (f i : ℕ) (xs : List Homes) (o : Option ℕ) → Says (with_copies (λ n. first_of_extents says s t f n i xs) o) (with_copies (λ n. found_of_extents test s t f n i xs) o)
  with_says f i xs None = refl
  with_says f i xs (Some n) = row_says f n i xs

  chunk_says : (x : Chunked) → Says (first_of_chunk says s t x) (found_of_chunk test s t x)
  chunk_says x = with_says x.0.0 (x.0.1 * 256) x.1 (option_map (λ (h : FileHead). h.copies) (head_at t.files x.0.0))

  chunks_say : (xs : List Chunked) → first_of_chunks says s t xs ≡ option_and_then (λ (f : Found). says f.extent) (found_of_chunks test s t xs)
  chunks_say [] = refl
  chunks_say (x ∷ xs) = by (first_of_chunk says s t x) (found_of_chunk test s t x) (chunk_says x) (chunks_say xs) where
    by : (o : Option Next) (e : Option Extent) → Says o e → first_of_chunks says s t xs ≡ option_and_then (λ (f : Found). says f.extent) (found_of_chunks test s t xs)
        → option_or o (first_of_chunks says s t xs) ≡ option_and_then (λ (f : Found). says f.extent) (option_or (option_map (λ (d : Extent). record { at = x.0; extent = d }) e) (found_of_chunks test s t xs))
    by None None h rest = rest
    by (Some next) None h rest = absurd cc
    by None (Some e) h rest = let never : false ≡ true = h.1 in absurd cc
    by (Some next) (Some e) h rest = sym h.0

pub said_some : (next : Option CodeNext) (o : Option Next) → option_map next_meant next ≡ o → is_some next ≡ is_some o
said_some None o is = ap is_some is
said_some (Some next) o is = ap is_some is

-- ---- in a group

module _ (at : Stage) (es : List Entry) (c : Catalogued) (t : Sums) where
  pub due_in_found : (x : Chunked) → is_due_in at es c t x ≡ is_some (found_in_chunk (asked.Due at) es c t x)
  due_in_found x = chunk_due (is_due at es c.units t) c.shape c.tables x

  due_is : (xs : List Chunked) → first_due_of at es c t xs ≡ option_map (λ (f : Found). f.at) (found_from (asked.Due at) es c t xs)
  due_is xs = chunks_due (is_due at es c.units t) c.shape c.tables xs

  pub due_none : (xs : List Chunked) (o : Option Found) (result : Option Chunk) → o ≡ None → result ≡ None → o ≡ found_from (asked.Due at) es c t xs → result ≡ first_due_of at es c t xs
  due_none xs o result none is found = is ∙ ap (option_map (λ (f : Found). f.at)) (sym none ∙ found) ∙ sym (due_is xs)

  pub due_found : (xs : List Chunked) (o : Option Found) (f : Found) → o ≡ Some f → o ≡ found_from (asked.Due at) es c t xs → Some f.at ≡ first_due_of at es c t xs
  due_found xs o f some found = ap (option_map (λ (g : Found). g.at)) (sym some ∙ found) ∙ sym (due_is xs)

  said_is : (xs : List Chunked) → says_of at es c t xs ≡ option_and_then (λ (f : Found). extent_says at es c.units t f.extent) (found_from (asked.Says at) es c t xs)
  said_is xs = chunks_say (extent_says at es c.units t) c.shape c.tables xs

  pub says_none : (xs : List Chunked) (o : Option Found) (result : Option CodeNext) → o ≡ None → result ≡ None → o ≡ found_from (asked.Says at) es c t xs → option_map next_meant result ≡ says_of at es c t xs
  says_none xs o result none is found =
      ap (option_map next_meant) is ∙ ap (option_and_then (λ (f : Found). extent_says at es c.units t f.extent)) (sym none ∙ found) ∙ sym (said_is xs)

  pub says_found : (xs : List Chunked) (o : Option Found) (f : Found) (result : Option CodeNext) → o ≡ Some f → o ≡ found_from (asked.Says at) es c t xs
      → option_map next_meant result ≡ extent_says at es c.units t f.extent → option_map next_meant result ≡ says_of at es c t xs
  says_found xs o f result some found is =
      is ∙ ap (option_and_then (λ (g : Found). extent_says at es c.units t g.extent)) (sym some ∙ found) ∙ sym (said_is xs)
