-- Pages that are taken up one behind the other.
use Rattle.std.proofs.Common.{◌≡◌, ℕ, zero, suc, ◌+◌, ◌-◌, ◌*◌, ◌<◌, Bool, true, false, cond, List, [], ◌∷◌, ◌++◌, length, map, take, drop, find, Option, Some, None, refl, sym, ap, subst, ◌∙◌, append_assoc, arith}
use Rattle.std.specs.Prelude.{◌&&◌, not}
use Rattle.std.specs.List.{flat_map, range_with_len}
use Rattle.std.specs.Option.{is_some, option_map, option_to_list, unwrap_or}
use Rattle.std.proofs.lemmas.List.{append-nil}
use Rattle.asm_group.specs.Names.{Bytes}
use Rattle.asm_formats.specs.Bytes.{block}
use Rattle.asm_formats.specs.Regions.{page_home}
use Rattle.asm_formats.specs.Content.{is_page}
use Rattle.asm_formats.specs.Logs.{Log, PageImage, blocks_from, image_in, open_logs}
use Rattle.asm_formats.specs.Pages.{page_at}
use Rattle.asm_formats.specs.Damage.{is_bad_page}
use Rattle.change_directory.specs.declared.loading.Pages.{Pages}
use Rattle.asm_base.specs.Blocks.{image_of_page}
use Rattle.change_directory.specs.Loads.{OpenSlot, counted_block, due_page, filled_page}
use Rattle.change_directory.specs.Slots.{AreTaken, TakesUpPages, all_filled, all_due, blocks_of, damaged_page, first_bad, counted_page, page_unless_empty, is_bad, logs_of}
use Rattle.change_directory.proofs.BlockRows.{cut_add, cut_len, cut_more}

-- ---- some pages, and then others

module _ (slots : List OpenSlot) where
  pub filled_more : (p : ℕ) (xs ys : List Bytes) → all_filled slots p (xs ++ ys) ≡ all_filled slots p xs ++ all_filled slots (p + length xs) ys
  unfolding all_filled
  filled_more p [] ys = let here : p ≡ p + 0 = omega arith in ap (λ (n : ℕ). all_filled slots n ys) here
  filled_more p (x ∷ xs) ys =
      let far : p + 1 + length xs ≡ p + suc (length xs) = omega arith in
      ap (λ (l : List PageImage). page_unless_empty p (counted_page slots p x) ++ l) (filled_more (p + 1) xs ys ∙ ap (λ (n : ℕ). all_filled slots (p + 1) xs ++ all_filled slots n ys) far)
      ∙ sym (append_assoc (page_unless_empty p (counted_page slots p x)) (all_filled slots (p + 1) xs) (all_filled slots (p + suc (length xs)) ys))

  pub due_more : (p : ℕ) (xs ys : List Bytes) → all_due slots p (xs ++ ys) ≡ all_due slots p xs ++ all_due slots (p + length xs) ys
  unfolding all_due
  due_more p [] ys = let here : p ≡ p + 0 = omega arith in ap (λ (n : ℕ). all_due slots n ys) here
  due_more p (x ∷ xs) ys =
      let far : p + 1 + length xs ≡ p + suc (length xs) = omega arith in
      ap (λ (l : List (ℕ × ℕ)). due_page slots p ++ l) (due_more (p + 1) xs ys ∙ ap (λ (n : ℕ). all_due slots (p + 1) xs ++ all_due slots n ys) far)
      ∙ sym (append_assoc (due_page slots p) (all_due slots (p + 1) xs) (all_due slots (p + suc (length xs)) ys))

  either : Option ℕ → Option ℕ → Option ℕ
  either None o = o
  either (Some n) o = Some n

  bad_more : (p : ℕ) (xs ys : List Bytes) → first_bad slots p (xs ++ ys) ≡ either (first_bad slots p xs) (first_bad slots (p + length xs) ys)
  unfolding first_bad either
  bad_more p [] ys = let here : p ≡ p + 0 = omega arith in ap (λ (n : ℕ). first_bad slots n ys) here
  bad_more p (x ∷ xs) ys =
      let far : p + 1 + length xs ≡ p + suc (length xs) = omega arith in
      go (is_bad slots p x) (bad_more (p + 1) xs ys ∙ ap (λ (n : ℕ). either (first_bad slots (p + 1) xs) (first_bad slots n ys)) far) where
        go : (b : Bool) → first_bad slots (p + 1) (xs ++ ys) ≡ either (first_bad slots (p + 1) xs) (first_bad slots (p + suc (length xs)) ys)
            → cond b (Some p) (first_bad slots (p + 1) (xs ++ ys)) ≡ either (cond b (Some p) (first_bad slots (p + 1) xs)) (first_bad slots (p + suc (length xs)) ys)
        go true e = refl
        go false e = e

  pub still_bad : (p : ℕ) (xs ys : List Bytes) → first_bad slots p xs ≡ None → first_bad slots p (xs ++ ys) ≡ first_bad slots (p + length xs) ys
  unfolding either
  still_bad p xs ys none = bad_more p xs ys ∙ ap (λ (o : Option ℕ). either o (first_bad slots (p + length xs) ys)) none

  pub found_bad : (p n : ℕ) (xs ys : List Bytes) → first_bad slots p xs ≡ Some n → first_bad slots p (xs ++ ys) ≡ Some n
  unfolding either
  found_bad p n xs ys some = bad_more p xs ys ∙ ap (λ (o : Option ℕ). either o (first_bad slots (p + length xs) ys)) some

  pub taken_more : (p n : ℕ) (xs ys : List Bytes) (a b c : Pages) → p + length xs ≡ n → AreTaken slots p xs a b → AreTaken slots n ys b c → AreTaken slots p (xs ++ ys) a c
  taken_more p n xs ys a b c at one two = record {
    takes = record {
      number = two.takes.number ∙ one.takes.number;
      blocks_are =
          two.takes.blocks_are ∙ ap (λ (l : List PageImage). l ++ all_filled slots n ys) one.takes.blocks_are
          ∙ append_assoc (map image_of_page a.blocks.items) (all_filled slots p xs) (all_filled slots n ys)
          ∙ ap (λ (m : ℕ). map image_of_page a.blocks.items ++ (all_filled slots p xs ++ all_filled slots m ys)) (sym at)
          ∙ ap (λ (l : List PageImage). map image_of_page a.blocks.items ++ l) (sym (filled_more p xs ys));
      due_are =
          two.takes.due_are ∙ ap (λ (l : List (ℕ × ℕ)). l ++ all_due slots n ys) one.takes.due_are
          ∙ append_assoc a.due.items (all_due slots p xs) (all_due slots n ys)
          ∙ ap (λ (m : ℕ). a.due.items ++ (all_due slots p xs ++ all_due slots m ys)) (sym at)
          ∙ ap (λ (l : List (ℕ × ℕ)). a.due.items ++ l) (sym (due_more p xs ys));
    };
    sound = still_bad p xs ys one.sound ∙ ap (λ (m : ℕ). first_bad slots m ys) at ∙ two.sound;
  }

  -- nothing is taken up by no pages
  pub taken_none : (p : ℕ) (a : Pages) → AreTaken slots p [] a a
  unfolding all_filled all_due first_bad
  taken_none p a = record { takes = record { number = refl; blocks_are = sym (append-nil (map image_of_page a.blocks.items)); due_are = sym (append-nil a.due.items) }; sound = refl }

  -- damage among the pages of the front is that of all
  pub damage_front : (p block : ℕ) (xs ys : List Bytes) → damaged_page slots p xs ≡ Some block → damaged_page slots p (xs ++ ys) ≡ Some block
  damage_front p block xs ys damage = go (first_bad slots p xs) refl damage where
    go : (o : Option ℕ) → first_bad slots p xs ≡ o → option_map page_home o ≡ Some block → damaged_page slots p (xs ++ ys) ≡ Some block
    go None e d = absurd cc
    go (Some n) e d = ap (option_map page_home) (found_bad p n xs ys e) ∙ d

  -- and damage behind a front without any
  pub damage_behind : (p n block : ℕ) (xs ys : List Bytes) → p + length xs ≡ n → first_bad slots p xs ≡ None → damaged_page slots n ys ≡ Some block → damaged_page slots p (xs ++ ys) ≡ Some block
  damage_behind p n block xs ys at none damage = ap (option_map page_home) (still_bad p xs ys none ∙ ap (λ (m : ℕ). first_bad slots m ys) at) ∙ damage

  -- ---- one page

  pub taken_image : (page block : ℕ) (home image : Bytes) (a b : Pages) → counted_block slots page ≡ Some block → image_in (logs_of slots) page ≡ Some image
      → TakesUpPages (page_unless_empty page image) ((page, block) ∷ []) a b → AreTaken slots page (home ∷ []) a b
  unfolding all_filled all_due first_bad
  taken_image page block home image a b counted there takes =
      let one : page_unless_empty page image ≡ page_unless_empty page (counted_page slots page home) ++ [] =
      sym (append-nil (page_unless_empty page image)) ∙ ap (λ (o : Option Bytes). page_unless_empty page (unwrap_or o home) ++ []) (sym there) in
      let due : (page, block) ∷ [] ≡ due_page slots page ++ [] = ap (λ (o : Option ℕ). option_to_list (option_map (λ (n : ℕ). (page, n)) o) ++ []) (sym counted) in
      record {
        takes = record {
          number = takes.number;
          blocks_are = takes.blocks_are ∙ ap (λ (l : List PageImage). map image_of_page a.blocks.items ++ l) one;
          due_are = takes.due_are ∙ ap (λ (l : List (ℕ × ℕ)). a.due.items ++ l) due;
        };
        sound = ap (λ (o : Option Bytes). cond (not (is_some o) && not (is_page home)) (Some page) None) there;
      }

  pub taken_home : (page : ℕ) (home : Bytes) (a b : Pages) → counted_block slots page ≡ None → image_in (logs_of slots) page ≡ None → is_page home ≡ true
      → TakesUpPages (page_unless_empty page home) [] a b → AreTaken slots page (home ∷ []) a b
  unfolding all_filled all_due first_bad
  taken_home page home a b counted there ok takes =
      let one : page_unless_empty page home ≡ page_unless_empty page (counted_page slots page home) ++ [] =
      sym (append-nil (page_unless_empty page home)) ∙ ap (λ (o : Option Bytes). page_unless_empty page (unwrap_or o home) ++ []) (sym there) in
      let due : [] ≡ due_page slots page ++ [] = ap (λ (o : Option ℕ). option_to_list (option_map (λ (n : ℕ). (page, n)) o) ++ []) (sym counted) in
      record {
        takes = record {
          number = takes.number;
          blocks_are = takes.blocks_are ∙ ap (λ (l : List PageImage). map image_of_page a.blocks.items ++ l) one;
          due_are = takes.due_are ∙ ap (λ (l : List (ℕ × ℕ)). a.due.items ++ l) due;
        };
        sound = λ i. cond (not (is_some (there i)) && not (ok i)) (Some page) None;
      }

  pub bad_home : (page : ℕ) (home : Bytes) → image_in (logs_of slots) page ≡ None → is_page home ≡ false → damaged_page slots page (home ∷ []) ≡ Some (page_home page)
  unfolding first_bad
  bad_home page home there bad = λ i. option_map page_home (cond (not (is_some (there i)) && not (bad i)) (Some page) None)

  -- ---- pages of some bytes

  pub taken_start : (p : ℕ) (bytes : Bytes) (a : Pages) → AreTaken slots p (blocks_of 0 bytes) a a
  unfolding blocks_of
  taken_start p bytes a = taken_none p a

  pub taken_next : (p i : ℕ) (bytes home : Bytes) (a b c : Pages) → home ≡ take 4096 (drop (i * 4096) bytes) → AreTaken slots p (blocks_of i bytes) a b → AreTaken slots (p + i) (home ∷ []) b c → AreTaken slots p (blocks_of (i + 1) bytes) a c
  taken_next p i bytes home a b c is one two =
      let more : blocks_of (i + 1) bytes ≡ blocks_of i bytes ++ home ∷ [] = cut_more i bytes ∙ ap (λ (x : Bytes). blocks_of i bytes ++ x ∷ []) (sym is) in
      subst (λ (l : List Bytes). AreTaken slots p l a c) (sym more) (taken_more p (p + i) (blocks_of i bytes) (home ∷ []) a b c (ap (λ (n : ℕ). p + n) (cut_len i bytes)) one two)

  pub damage_next : (p i n block : ℕ) (bytes home : Bytes) (a b : Pages) → i < n → home ≡ take 4096 (drop (i * 4096) bytes) → AreTaken slots p (blocks_of i bytes) a b → damaged_page slots (p + i) (home ∷ []) ≡ Some block → damaged_page slots p (blocks_of n bytes) ≡ Some block
  damage_next p i n block bytes home a b lt is one damage =
      let rest : List Bytes = blocks_of (n - (i + 1)) (drop ((i + 1) * 4096) bytes) in
      let all : i + 1 + (n - (i + 1)) ≡ n = omega arith in
      let more : blocks_of (i + 1) bytes ≡ blocks_of i bytes ++ home ∷ [] = cut_more i bytes ∙ ap (λ (x : Bytes). blocks_of i bytes ++ x ∷ []) (sym is) in
      let split : blocks_of n bytes ≡ (blocks_of i bytes ++ home ∷ []) ++ rest =
      ap (λ (m : ℕ). blocks_of m bytes) (sym all) ∙ cut_add (i + 1) (n - (i + 1)) bytes ∙ ap (λ (l : List Bytes). l ++ rest) more in
      let front = damage_behind p (p + i) block (blocks_of i bytes) (home ∷ []) (ap (λ (m : ℕ). p + m) (cut_len i bytes)) one.sound damage in
      subst (λ (l : List Bytes). damaged_page slots p l ≡ Some block) (sym split) (damage_front p block (blocks_of i bytes ++ home ∷ []) rest front)

-- ---- all pages of a disk

module _ (dir_blocks : ℕ) (bytes : Bytes) (slots : List OpenSlot) (are : logs_of slots ≡ open_logs dir_blocks bytes) where
  counted_is : (p : ℕ) → counted_page slots p (block bytes (10 + p)) ≡ page_at dir_blocks bytes p
  unfolding page_at
  counted_is p = ap (λ (ls : List Log). unwrap_or (image_in ls p) (block bytes (10 + p))) are

  pub filled_all : (p n : ℕ) → all_filled slots p (blocks_from bytes (10 + p) n) ≡ flat_map (filled_page dir_blocks bytes) (range_with_len p n)
  unfolding all_filled
  filled_all p zero = refl
  filled_all p (suc n) =
      let next : 10 + p + 1 ≡ 10 + (p + 1) = omega arith in
      (λ i. page_unless_empty p (counted_is p i) ++ all_filled slots (p + 1) (blocks_from bytes (next i) n)) ∙ ap (λ (l : List PageImage). filled_page dir_blocks bytes p ++ l) (filled_all (p + 1) n)

  pub due_all : (p k n : ℕ) → all_due slots p (blocks_from bytes k n) ≡ flat_map (due_page slots) (range_with_len p n)
  unfolding all_due
  due_all p k zero = refl
  due_all p k (suc n) = ap (λ (l : List (ℕ × ℕ)). due_page slots p ++ l) (due_all (p + 1) (k + 1) n)

  bad_is : (p : ℕ) → is_bad slots p (block bytes (10 + p)) ≡ is_bad_page dir_blocks bytes p
  bad_is p = ap (λ (ls : List Log). not (is_some (image_in ls p)) && not (is_page (block bytes (10 + p)))) are

  pub bad_all : (p n : ℕ) → first_bad slots p (blocks_from bytes (10 + p) n) ≡ find (is_bad_page dir_blocks bytes) (range_with_len p n)
  unfolding first_bad
  bad_all p zero = refl
  bad_all p (suc n) =
      let next : 10 + p + 1 ≡ 10 + (p + 1) = omega arith in
      (λ i. cond (bad_is p i) (Some p) (first_bad slots (p + 1) (blocks_from bytes (next i) n)))
      ∙ ap (λ (o : Option ℕ). cond (is_bad_page dir_blocks bytes p) (Some p) o) (bad_all (p + 1) n)
