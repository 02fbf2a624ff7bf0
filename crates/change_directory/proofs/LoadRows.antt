-- The rows that a load gives: pages that aren't zeros, and due pages with their blocks.
use Rattle.std.proofs.Common.{◌≡◌, ◌⊎◌, inl, inr, ⊎_elim, ℕ, zero, suc, ◌+◌, ◌<◌, ◌≤◌, Bool, true, false, cond, List, [], ◌∷◌, ◌++◌, length, map, find, replicate, refl, sym, ap, ◌∙◌, Option, Some, None, arith, ◌==◌}
use Rattle.std.specs.Prelude.{zip, nat_le, nat_lt, ◌&&◌}
use Rattle.std.specs.List.{flat_map, range_with_len, list_all, position_from}
use Rattle.std.specs.Option.{option_map, option_or, option_to_list, unwrap_or}
use Rattle.std.proofs.lemmas.Bool.{cases_eq, cases_lt, eq-eqb, ne_eqb, le-leb, lt-ltb, le-ltb, and_from, false≢true}
use Rattle.std.proofs.lemmas.Option.{same_Some, none-some}
use Rattle.asm_base.specs.declared.block.Block.{Block}
use Rattle.asm_group.specs.Names.{Bytes}
use Rattle.asm_formats.specs.Among.{IsAmong}
use Rattle.asm_formats.specs.Bytes.{block_size, block, is_open}
use Rattle.asm_formats.specs.Regions.{first_log, second_log}
use Rattle.asm_formats.specs.Content.{is_empty_page}
use Rattle.asm_formats.specs.Status.{ascends_from}
use Rattle.asm_formats.specs.Logs.{PageImage, LogHead, blocks_from, decoded_log_head, image_in, logged_image, images_at, log_at}
use Rattle.asm_formats.proofs.Codec.{bytes_same}
use Rattle.asm_base.specs.Blocks.{image_of_page}
use Rattle.change_directory.specs.Loads.{OpenSlot, commit_of, counted_block, due_page, image_block, newest_slots, open_slots}
use Rattle.change_directory.specs.Slots.{logs_of}

-- ---- images among others

pub map_among : {A B : Type 0} (f : A → B) (xs : List A) (y : B) → IsAmong (map f xs) y → (x : A) × IsAmong xs x × (y ≡ f x)
map_among f [] y h = absurd h
map_among f (x ∷ xs) y (inl e) = (x, inl refl, e)
map_among f (x ∷ xs) y (inr h) = let there = map_among f xs y h in (there.0, inr there.1, there.2)

abbrev found : Bool → PageImage → List PageImage → ℕ → Option Bytes
found b i images p = option_map (λ (j : PageImage). j.1) (cond b (Some i) (find (λ (j : PageImage). j.0 == p) images))

-- a page with an image has one
pub has_image : (images : List PageImage) (p : ℕ) (i : PageImage) → IsAmong images i → i.0 ≡ p → logged_image images p ≡ None → ⊥
has_image [] p i h same none = h
has_image (j ∷ images) p i h same none = go (j.0 == p) refl none (λ there n. has_image images p i there same n) h
  where
    go : (b : Bool) → (j.0 == p) ≡ b → found b j images p ≡ None → (IsAmong images i → logged_image images p ≡ None → ⊥) → (i ≡ j) ⊎ IsAmong images i → ⊥
    go true e n rest k = none-some j.1 (sym n)
    go false e n rest (inl here) = none-some j.1 (sym n ∙ ap (λ (b : Bool). found b j images p) (sym e ∙ eq-eqb j.0 p (ap (λ (r : PageImage). r.0) (sym here) ∙ same)))
    go false e n rest (inr there) = rest there n

-- ---- pages that aren't zeros

module _ (f : ℕ → Bytes) where
  abbrev row_of : Bool → ℕ → List PageImage
  row_of b p = cond b [] ((p, f p) ∷ [])

  abbrev row : ℕ → List PageImage
  row p = row_of (is_empty_page (f p)) p

  abbrev rows : ℕ → ℕ → List PageImage
  rows a n = flat_map row (range_with_len a n)

  past : (a n p : ℕ) → p < a → logged_image (rows a n) p ≡ None
  past a zero p lt = refl
  past a (suc n) p lt = go (is_empty_page (f a)) (past (a + 1) n p (omega (arith, lt)))
    where
      go : (b : Bool) → logged_image (rows (a + 1) n) p ≡ None → logged_image (row_of b a ++ rows (a + 1) n) p ≡ None
      go true rest = rest
      go false rest = ap (λ (b : Bool). found b (a, f a) (rows (a + 1) n) p) (ne_eqb a p (λ e. omega (arith, lt, e))) ∙ rest

  -- each page is its image among these, or zeros
  pub shown_row : (a n p : ℕ) → a ≤ p → p < a + n → unwrap_or (logged_image (rows a n) p) (replicate block_size 0) ≡ f p
  shown_row a zero p low high = absurd (omega (arith, low, high))
  shown_row a (suc n) p low high = go (is_empty_page (f a)) refl (λ differ. shown_row (a + 1) n p (omega (arith, low, differ)) (omega (arith, high))) (cases_eq a p)
    where
      go : (b : Bool) → is_empty_page (f a) ≡ b → ((a ≡ p → ⊥) → unwrap_or (logged_image (rows (a + 1) n) p) (replicate block_size 0) ≡ f p) → (a ≡ p) ⊎ (a ≡ p → ⊥)
          → unwrap_or (logged_image (row_of b a ++ rows (a + 1) n) p) (replicate block_size 0) ≡ f p
      go true e rest (inl here) =
          ap (λ (o : Option Bytes). unwrap_or o (replicate block_size 0)) (past (a + 1) n p (omega (arith, here))) ∙ sym (bytes_same (f a) (replicate block_size 0) e) ∙ ap f here
      go false e rest (inl here) = ap (λ (b : Bool). unwrap_or (found b (a, f a) (rows (a + 1) n) p) (replicate block_size 0)) (eq-eqb a p here) ∙ ap f here
      go true e rest (inr differ) = rest differ
      go false e rest (inr differ) = ap (λ (b : Bool). unwrap_or (found b (a, f a) (rows (a + 1) n) p) (replicate block_size 0)) (ne_eqb a p differ) ∙ rest differ

  pub rows_ascend : (m a n : ℕ) → m ≤ a → ascends_from m (map (λ (i : PageImage). i.0) (rows a n)) ≡ true
  rows_ascend m a zero le = refl
  rows_ascend m a (suc n) le = go (is_empty_page (f a)) (rows_ascend m (a + 1) n (omega (arith, le))) (rows_ascend (a + 1) (a + 1) n (omega arith))
    where
      go : (b : Bool) → ascends_from m (map (λ (i : PageImage). i.0) (rows (a + 1) n)) ≡ true → ascends_from (a + 1) (map (λ (i : PageImage). i.0) (rows (a + 1) n)) ≡ true
          → ascends_from m (map (λ (i : PageImage). i.0) (row_of b a ++ rows (a + 1) n)) ≡ true
      go true rest above = rest
      go false rest above = and_from (nat_le m a) (ascends_from (a + 1) (map (λ (i : PageImage). i.0) (rows (a + 1) n))) (le-leb m a le) above

  pub all_rows : (t : PageImage → Bool) (a n : ℕ) → ((p : ℕ) → a ≤ p → p < a + n → is_empty_page (f p) ≡ false → t (p, f p) ≡ true) → list_all t (rows a n) ≡ true
  all_rows t a zero each = refl
  all_rows t a (suc n) each = go (is_empty_page (f a)) refl (all_rows t (a + 1) n (λ p low high e. each p (omega (arith, low)) (omega (arith, high)) e))
    where
      go : (b : Bool) → is_empty_page (f a) ≡ b → list_all t (rows (a + 1) n) ≡ true → list_all t (row_of b a ++ rows (a + 1) n) ≡ true
      go true e rest = rest
      go false e rest = and_from (t (a, f a)) (list_all t (rows (a + 1) n)) (each a (omega arith) (omega arith) e) rest

pub all_by_images : (t : PageImage → Bool) (pages : List (ℕ × Block)) → list_all (λ (p : ℕ × Block). t (p.0, p.1.bytes)) pages ≡ list_all t (map image_of_page pages)
all_by_images t [] = refl
all_by_images t (p ∷ pages) = ap (λ (b : Bool). t (p.0, p.1.bytes) && b) (all_by_images t pages)

-- ---- due pages

module _ (slots : List OpenSlot) where
  abbrev due_of : Option ℕ → ℕ → List (ℕ × ℕ)
  due_of o p = option_to_list (option_map (λ b. (p, b)) o)

  abbrev dues : ℕ → ℕ → List (ℕ × ℕ)
  dues a n = flat_map (due_page slots) (range_with_len a n)

  pub dues_ascend : (m a n : ℕ) → m ≤ a → ascends_from m (map (λ (d : ℕ × ℕ). d.0) (dues a n)) ≡ true
  dues_ascend m a zero le = refl
  dues_ascend m a (suc n) le = go (counted_block slots a) (dues_ascend m (a + 1) n (omega (arith, le))) (dues_ascend (a + 1) (a + 1) n (omega arith))
    where
      go : (o : Option ℕ) → ascends_from m (map (λ (d : ℕ × ℕ). d.0) (dues (a + 1) n)) ≡ true → ascends_from (a + 1) (map (λ (d : ℕ × ℕ). d.0) (dues (a + 1) n)) ≡ true
          → ascends_from m (map (λ (d : ℕ × ℕ). d.0) (due_of o a ++ dues (a + 1) n)) ≡ true
      go None rest above = rest
      go (Some b) rest above = and_from (nat_le m a) (ascends_from (a + 1) (map (λ (d : ℕ × ℕ). d.0) (dues (a + 1) n))) (le-leb m a le) above

  -- a due page has the block of its image
  pub due_is : (a n p b : ℕ) → IsAmong (dues a n) (p, b) → (p < a + n) × (counted_block slots p ≡ Some b)
  due_is a zero p b h = absurd h
  due_is a (suc n) p b h = go (counted_block slots a) refl (λ k. let there = due_is (a + 1) n p b k in (omega (arith, there.0), there.1)) h
    where
      go : (o : Option ℕ) → counted_block slots a ≡ o → (IsAmong (dues (a + 1) n) (p, b) → (p < a + suc n) × (counted_block slots p ≡ Some b))
          → IsAmong (due_of o a ++ dues (a + 1) n) (p, b) → (p < a + suc n) × (counted_block slots p ≡ Some b)
      go None e rest k = rest k
      go (Some c) e rest (inl here) =
          let at : p ≡ a = ap (λ (d : ℕ × ℕ). d.0) here in
          let is : b ≡ c = ap (λ (d : ℕ × ℕ). d.1) here in
          (omega (arith, at), ap (counted_block slots) at ∙ e ∙ ap Some (sym is))
      go (Some c) e rest (inr there) = rest there

  -- and each page with one is due
  pub is_due : (a n p b : ℕ) → a ≤ p → p < a + n → counted_block slots p ≡ Some b → IsAmong (dues a n) (p, b)
  is_due a zero p b low high is = absurd (omega (arith, low, high))
  is_due a (suc n) p b low high is = go (counted_block slots a) refl (λ differ. is_due (a + 1) n p b (omega (arith, low, differ)) (omega (arith, high)) is) (cases_eq a p)
    where
      go : (o : Option ℕ) → counted_block slots a ≡ o → ((a ≡ p → ⊥) → IsAmong (dues (a + 1) n) (p, b)) → (a ≡ p) ⊎ (a ≡ p → ⊥) → IsAmong (due_of o a ++ dues (a + 1) n) (p, b)
      go None e rest (inl here) = absurd (none-some b (sym e ∙ ap (counted_block slots) here ∙ is))
      go None e rest (inr differ) = rest differ
      go (Some c) e rest (inl here) =
          let same : b ≡ c = same_Some b c (sym is ∙ ap (counted_block slots) (sym here) ∙ e) in
          inl (λ i. (sym here i, same i))
      go (Some c) e rest (inr differ) = inr (rest differ)

-- ---- the blocks of images

module _ (d : ℕ) (bytes : Bytes) (page : ℕ) where
  abbrev is_it : PageImage → Bool
  is_it i = i.0 == page

  in_row : (k : ℕ) (ps : List ℕ)
      → option_map (block bytes) (position_from is_it k (zip ps (blocks_from bytes k (length ps)))) ≡ logged_image (zip ps (blocks_from bytes k (length ps))) page
  in_row k [] = refl
  in_row k (p ∷ ps) = go (p == page) (in_row (k + 1) ps)
    where
      others : List PageImage
      others = zip ps (blocks_from bytes (k + 1) (length ps))

      go : (b : Bool) → option_map (block bytes) (position_from is_it (k + 1) others) ≡ logged_image others page
          → option_map (block bytes) (cond b (Some k) (position_from is_it (k + 1) others)) ≡ found b (p, block bytes k) others page
      go true e = refl
      go false e = e

  in_head : (k : ℕ) (o : Option LogHead) → option_map (block bytes) (position_from is_it (k + 2) (images_at bytes (k + 2) o)) ≡ logged_image (images_at bytes (k + 2) o) page
  in_head k None = refl
  in_head k (Some h) = in_row (k + 2) h.pages

  in_slot : (k : ℕ) → option_map (block bytes) (image_block (record { gate = k; log = log_at d bytes k }) page) ≡ logged_image (log_at d bytes k).images page
  unfolding log_at
  in_slot k = in_head k (decoded_log_head d (block bytes (k + 1)))

  abbrev IsPlaced : List OpenSlot → Type 0
  IsPlaced slots = option_map (block bytes) (counted_block slots page) ≡ image_in (logs_of slots) page

  map_or : (x y : Option ℕ) → option_map (block bytes) (option_or x y) ≡ option_or (option_map (block bytes) x) (option_map (block bytes) y)
  map_or None y = refl
  map_or (Some b) y = refl

  more : (s : OpenSlot) → option_map (block bytes) (image_block s page) ≡ logged_image s.log.images page → (slots : List OpenSlot) → IsPlaced slots → IsPlaced (s ∷ slots)
  more s here slots others = map_or (image_block s page) (counted_block slots page) ∙ (λ i. option_or (here i) (others i))

  in_order : (a b : Bool) (s t : OpenSlot) → option_map (block bytes) (image_block s page) ≡ logged_image s.log.images page → option_map (block bytes) (image_block t page) ≡ logged_image t.log.images page
      → IsPlaced (newest_slots (cond a (s ∷ []) [] ++ cond b (t ∷ []) []))
  in_order false false s t first second = refl
  in_order true false s t first second = more s first [] refl
  in_order false true s t first second = more t second [] refl
  in_order true true s t first second = go (nat_lt s.log.commit t.log.commit)
    where
      go : (c : Bool) → IsPlaced (cond c (t ∷ s ∷ []) (s ∷ t ∷ []))
      go true = more t second (s ∷ []) (more s first [] refl)
      go false = more s first (t ∷ []) (more t second [] refl)

  -- the image that counts of a page stands in its block
  pub image_stands : option_map (block bytes) (counted_block (open_slots d bytes) page) ≡ image_in (logs_of (open_slots d bytes)) page
  unfolding open_slots
  image_stands =
      in_order (is_open bytes (first_log d)) (is_open bytes (second_log d)) (record { gate = first_log d; log = log_at d bytes (first_log d) }) (record { gate = second_log d; log = log_at d bytes (second_log d) })
      (in_slot (first_log d)) (in_slot (second_log d))

-- ---- the numbers of the open log slots

module _ (d : ℕ) (bytes : Bytes) where
  abbrev IsMost : Bool → Bool → OpenSlot → OpenSlot → Type 0
  IsMost a b s t =
      (a ≡ true → s.log.commit ≤ commit_of (newest_slots (cond a (s ∷ []) [] ++ cond b (t ∷ []) [])))
      × (b ≡ true → t.log.commit ≤ commit_of (newest_slots (cond a (s ∷ []) [] ++ cond b (t ∷ []) [])))

  most_of : (a b : Bool) (s t : OpenSlot) → IsMost a b s t
  most_of false false s t = (λ opened. absurd (false≢true opened), λ opened. absurd (false≢true opened))
  most_of true false s t = (λ opened. omega arith, λ opened. absurd (false≢true opened))
  most_of false true s t = (λ opened. absurd (false≢true opened), λ opened. omega arith)
  most_of true true s t = ⊎_elim
      (λ (below : s.log.commit < t.log.commit).
      let e : t.log.commit ≡ commit_of (cond (nat_lt s.log.commit t.log.commit) (t ∷ s ∷ []) (s ∷ t ∷ [])) = ap (λ (c : Bool). commit_of (cond c (t ∷ s ∷ []) (s ∷ t ∷ []))) (sym (lt-ltb s.log.commit t.log.commit below)) in
      (λ opened. omega (arith, e, below), λ opened. omega (arith, e)))
      (λ (above : t.log.commit ≤ s.log.commit).
      let e : s.log.commit ≡ commit_of (cond (nat_lt s.log.commit t.log.commit) (t ∷ s ∷ []) (s ∷ t ∷ [])) = ap (λ (c : Bool). commit_of (cond c (t ∷ s ∷ []) (s ∷ t ∷ []))) (sym (le-ltb s.log.commit t.log.commit above)) in
      (λ opened. omega (arith, e), λ opened. omega (arith, e, above)))
      (cases_lt s.log.commit t.log.commit)

  pub most_open : (is_open bytes (first_log d) ≡ true → (log_at d bytes (first_log d)).commit ≤ commit_of (open_slots d bytes))
      × (is_open bytes (second_log d) ≡ true → (log_at d bytes (second_log d)).commit ≤ commit_of (open_slots d bytes))
  unfolding open_slots
  most_open =
      most_of (is_open bytes (first_log d)) (is_open bytes (second_log d)) (record { gate = first_log d; log = log_at d bytes (first_log d) }) (record { gate = second_log d; log = log_at d bytes (second_log d) })
