-- Pages that are taken up stand in order.
use Rattle.std.proofs.Common.{◌≡◌, ℕ, ◌+◌, ◌<◌, ◌≤◌, Bool, true, false, cond, List, [], ◌∷◌, ◌++◌, map, find, Option, Some, None, refl, sym, ap, subst, ◌∙◌, arith, ◌==◌}
use Rattle.std.specs.Prelude.{nat_le, nat_lt, ◌&&◌, not, IsTrue}
use Rattle.std.specs.List.{list_all}
use Rattle.std.specs.Option.{is_some, option_map, option_or, option_to_list, unwrap_or}
use Rattle.std.proofs.lemmas.Bool.{and_from, and_parts, le-leb, lt-ltb, ltb-true, false≢true}
use Rattle.std.proofs.lemmas.Option.{same_Some, none-some}
use Rattle.std.proofs.lemmas.List.{append-nil, map-append}
use Rattle.std.proofs.lemmas.List.Folds.{list_all-append, list_all-map}
use Rattle.asm_base.specs.declared.block.Block.{Block}
use Rattle.asm_group.specs.Names.{Bytes}
use Rattle.asm_formats.specs.Status.{ascends_from}
use Rattle.asm_formats.specs.Content.{is_empty_page, is_page}
use Rattle.asm_formats.specs.Logs.{PageImage, image_in, logged_image}
use Rattle.change_directory.specs.declared.loading.Pages.{Pages}
use Rattle.change_directory.specs.declared.open_log.OpenLog.{OpenLog}
use Rattle.asm_base.specs.Blocks.{image_of_page}
use Rattle.change_directory.specs.Loads.{AreInOrder, OpenSlot, are_numbers, counted_block, due_page, newest_slots}
use Rattle.change_directory.specs.Slots.{AreTaken, AreUpTo, GoesUpTo, IsSoundRead, all_due, all_filled, are_sound, bad_image, counted_page, damage_of, page_unless_empty, first_bad, is_bad, logs_of, slots_of_log}
use Rattle.change_directory.proofs.Afterwards.{same_numbers}
use Rattle.change_directory.proofs.LoadRows.{all_by_images}

-- ---- numbers that ascend

-- one more at the end
ascend_more : (least n : ℕ) (ns : List ℕ) → least ≤ n → ascends_from least ns ≡ true → list_all (λ k. nat_lt k n) ns ≡ true → ascends_from least (ns ++ n ∷ []) ≡ true
ascend_more least n [] le up below = and_from (nat_le least n) true (le-leb least n le) refl
ascend_more least n (k ∷ ns) le up below =
    let u = and_parts (nat_le least k) (ascends_from (k + 1) ns) up in
    let b = and_parts (nat_lt k n) (list_all (λ j. nat_lt j n) ns) below in
    let lt : k < n = ltb-true k n b.0 in
    and_from (nat_le least k) (ascends_from (k + 1) (ns ++ n ∷ [])) u.0 (ascend_more (k + 1) n ns (omega (arith, lt)) u.1 b.1)

below_more : (n : ℕ) (ns : List ℕ) → list_all (λ k. nat_lt k n) ns ≡ true → list_all (λ k. nat_lt k (n + 1)) ns ≡ true
below_more n [] below = refl
below_more n (k ∷ ns) below =
    let b = and_parts (nat_lt k n) (list_all (λ j. nat_lt j n) ns) below in
    let lt : k < n = ltb-true k n b.0 in
    and_from (nat_lt k (n + 1)) (list_all (λ j. nat_lt j (n + 1)) ns) (lt-ltb k (n + 1) (omega (arith, lt))) (below_more n ns b.1)

all_more : {A : Type 0} (t : A → Bool) (xs : List A) (x : A) → list_all t xs ≡ true → t x ≡ true → list_all t (xs ++ x ∷ []) ≡ true
all_more t xs x all one = list_all-append t xs (x ∷ []) ∙ and_from (list_all t xs) (t x && true) all (and_from (t x) true one refl)

numbers_stay : (n : ℕ) (ns : List ℕ) → are_numbers n ns ≡ true → are_numbers (n + 1) ns ≡ true
numbers_stay n ns are =
    let p = and_parts (ascends_from 0 ns) (list_all (λ k. nat_lt k n) ns) are in
    and_from (ascends_from 0 ns) (list_all (λ k. nat_lt k (n + 1)) ns) p.0 (below_more n ns p.1)

numbers_more : (n : ℕ) (ns : List ℕ) → are_numbers n ns ≡ true → are_numbers (n + 1) (ns ++ n ∷ []) ≡ true
numbers_more n ns are =
    let p = and_parts (ascends_from 0 ns) (list_all (λ k. nat_lt k n) ns) are in
    and_from (ascends_from 0 (ns ++ n ∷ [])) (list_all (λ k. nat_lt k (n + 1)) (ns ++ n ∷ [])) (ascend_more 0 n ns (omega arith) p.0 p.1)
    (all_more (λ k. nat_lt k (n + 1)) ns n (below_more n ns p.1) (lt-ltb n (n + 1) (omega arith)))

-- ---- images that are pages

abbrev found : Bool → PageImage → List PageImage → ℕ → Option Bytes
found b i images p = option_map (λ (j : PageImage). j.1) (cond b (Some i) (find (λ (j : PageImage). j.0 == p) images))

image_is_page : (images : List PageImage) (page : ℕ) (image : Bytes) → list_all (λ (i : PageImage). is_page i.1) images ≡ true → logged_image images page ≡ Some image → is_page image ≡ true
image_is_page [] page image all some = absurd (none-some image some)
image_is_page (i ∷ images) page image all some =
    let p = and_parts (is_page i.1) (list_all (λ (j : PageImage). is_page j.1) images) all in
    go (i.0 == page) p.0 (image_is_page images page image p.1) some where
      go : (b : Bool) → is_page i.1 ≡ true → (logged_image images page ≡ Some image → is_page image ≡ true) → found b i images page ≡ Some image → is_page image ≡ true
      go true here rest e = ap is_page (sym (same_Some i.1 image e)) ∙ here
      go false here rest e = rest e

counted_is_page : (slots : List OpenSlot) (page : ℕ) (image : Bytes) → are_sound slots ≡ true → image_in (logs_of slots) page ≡ Some image → is_page image ≡ true
counted_is_page [] page image sound some = absurd (none-some image some)
counted_is_page (slot ∷ slots) page image sound some =
    let p = and_parts (list_all (λ (i : PageImage). is_page i.1) slot.log.images) (are_sound slots) sound in
    go (logged_image slot.log.images page) (image_is_page slot.log.images page image p.0) (counted_is_page slots page image p.1) some where
      go : (o : Option Bytes) → (o ≡ Some image → is_page image ≡ true) → (image_in (logs_of slots) page ≡ Some image → is_page image ≡ true)
          → option_or o (image_in (logs_of slots) page) ≡ Some image → is_page image ≡ true
      go None here rest e = rest e
      go (Some i) here rest e = here e

-- a page that counts is one
page_is_page : (slots : List OpenSlot) (page : ℕ) (home : Bytes) → are_sound slots ≡ true → is_bad slots page home ≡ false → is_page (counted_page slots page home) ≡ true
page_is_page slots page home sound ok = go (image_in (logs_of slots) page) refl ok where
  go : (o : Option Bytes) → image_in (logs_of slots) page ≡ o → (not (is_some o) && not (is_page home)) ≡ false → is_page (unwrap_or o home) ≡ true
  go (Some image) is e = counted_is_page slots page image sound is
  go None is e = not_not (is_page home) e where
    not_not : (b : Bool) → not b ≡ false → b ≡ true
    not_not true e = refl
    not_not false e = sym e

-- ---- one page more

module _ (slots : List OpenSlot) (page : ℕ) where
  abbrev numbers : List PageImage → List ℕ
  numbers images = map (λ (i : PageImage). i.0) images

  abbrev due_numbers : List (ℕ × ℕ) → List ℕ
  due_numbers dues = map (λ (d : ℕ × ℕ). d.0) dues

  numbers_one : (e : Bool) (images : List PageImage) (bytes : Bytes) → are_numbers page (numbers images) ≡ true → are_numbers (page + 1) (numbers (images ++ cond e [] ((page, bytes) ∷ []))) ≡ true
  numbers_one true images bytes are = ap (λ (l : List PageImage). are_numbers (page + 1) (numbers l)) (append-nil images) ∙ numbers_stay page (numbers images) are
  numbers_one false images bytes are =
      ap (are_numbers (page + 1)) (map-append (λ (i : PageImage). i.0) images ((page, bytes) ∷ [])) ∙ numbers_more page (numbers images) are

  dues_one : (o : Option ℕ) (dues : List (ℕ × ℕ)) → are_numbers page (due_numbers dues) ≡ true → are_numbers (page + 1) (due_numbers (dues ++ option_to_list (option_map (λ b. (page, b)) o))) ≡ true
  dues_one None dues are = ap (λ (l : List (ℕ × ℕ)). are_numbers (page + 1) (due_numbers l)) (append-nil dues) ∙ numbers_stay page (due_numbers dues) are
  dues_one (Some b) dues are = ap (are_numbers (page + 1)) (map-append (λ (d : ℕ × ℕ). d.0) dues ((page, b) ∷ [])) ∙ numbers_more page (due_numbers dues) are

  all_one : (t : PageImage → Bool) (e : Bool) (images : List PageImage) (bytes : Bytes) → list_all t images ≡ true → (e ≡ false → t (page, bytes) ≡ true) → list_all t (images ++ cond e [] ((page, bytes) ∷ [])) ≡ true
  all_one t true images bytes all one = ap (list_all t) (append-nil images) ∙ all
  all_one t false images bytes all one = all_more t images (page, bytes) all (one refl)

  not_bad : (home : Bytes) → first_bad slots page (home ∷ []) ≡ None → is_bad slots page home ≡ false
  unfolding first_bad
  not_bad home none = go (is_bad slots page home) none where
    go : (b : Bool) → cond b (Some page) None ≡ None → b ≡ false
    go false e = refl
    go true e = absurd (none-some page (sym e))

  pub page_goes_up : (home : Bytes) (a b : Pages) → AreTaken slots page (home ∷ []) a b → GoesUpTo slots page (page + 1) a b
  unfolding all_filled all_due
  page_goes_up home a b taken up =
      record {
        numbers = ap (λ (l : List PageImage). are_numbers (page + 1) (numbers l)) blocks_are ∙ numbers_one empty old c up.numbers;
        filled = ap (list_all (λ (i : PageImage). not (is_empty_page i.1))) blocks_are ∙ all_one (λ (i : PageImage). not (is_empty_page i.1)) empty old c up.filled (λ e. ap not e);
        decode = λ sound. ap (list_all (λ (i : PageImage). is_page i.1)) blocks_are
            ∙ all_one (λ (i : PageImage). is_page i.1) empty old c (up.decode sound) (λ e. page_is_page slots page home sound (not_bad home taken.sound));
        due = ap (λ (l : List (ℕ × ℕ)). are_numbers (page + 1) (due_numbers l)) due_are ∙ dues_one (counted_block slots page) a.due.items up.due;
      } where
        old : List PageImage
        old = map image_of_page a.blocks.items

        c : Bytes
        c = counted_page slots page home

        empty : Bool
        empty = is_empty_page c

        blocks_are : map image_of_page b.blocks.items ≡ old ++ page_unless_empty page c
        blocks_are = taken.takes.blocks_are ∙ ap (λ (l : List PageImage). old ++ l) (append-nil (page_unless_empty page c))

        due_are : b.due.items ≡ a.due.items ++ due_page slots page
        due_are = taken.takes.due_are ∙ ap (λ (l : List (ℕ × ℕ)). a.due.items ++ l) (append-nil (due_page slots page))

-- behind others
pub page_goes_on : (slots : List OpenSlot) (first i : ℕ) (home : Bytes) (a b c : Pages) → AreTaken slots (first + i) (home ∷ []) b c → GoesUpTo slots first (first + i) a b → GoesUpTo slots first (first + (i + 1)) a c
page_goes_on slots first i home a b c taken front up =
    let next : first + i + 1 ≡ first + (i + 1) = omega arith in
    subst (λ (n : ℕ). AreUpTo slots n c) next (page_goes_up slots (first + i) home b c taken (front up))

-- nothing is taken up at first
pub goes_nowhere : (slots : List OpenSlot) (first : ℕ) (a : Pages) → GoesUpTo slots first (first + 0) a a
goes_nowhere slots first a up =
    let here : first ≡ first + 0 = omega arith in
    subst (λ (n : ℕ). AreUpTo slots n a) here up

-- ---- all pages

pub goes_as : (slots : List OpenSlot) (a : Pages) (n : ℕ) → 0 ≡ n → GoesUpTo slots 0 n a a
goes_as slots a n is up = subst (λ (m : ℕ). AreUpTo slots m a) is up

pub goes_to : (slots : List OpenSlot) (m n : ℕ) (a b : Pages) → m ≡ n → GoesUpTo slots 0 m a b → GoesUpTo slots 0 n a b
goes_to slots m n a b is goes up = subst (λ (k : ℕ). AreUpTo slots k b) is (goes up)

-- a piece more
pub goes_up_more : (slots : List OpenSlot) (so_far first n count : ℕ) (a b c : Pages) → so_far ≡ first → first + count ≡ n → GoesUpTo slots 0 so_far a b → GoesUpTo slots first (first + count) b c → GoesUpTo slots 0 n a c
goes_up_more slots so_far first n count a b c is at front piece up =
    subst (λ (k : ℕ). AreUpTo slots k c) at (piece (subst (λ (k : ℕ). AreUpTo slots k b) is (front up)))

-- there are none at first
pub none_are_up : (slots : List OpenSlot) (n : ℕ) (pages : Pages) → pages.blocks.items ≡ [] → pages.due.items ≡ [] → AreUpTo slots n pages
none_are_up slots n pages blocks due = record {
  numbers = ap (λ (l : List (ℕ × Block)). are_numbers n (map (λ (i : PageImage). i.0) (map image_of_page l))) blocks;
  filled = ap (λ (l : List (ℕ × Block)). list_all (λ (i : PageImage). not (is_empty_page i.1)) (map image_of_page l)) blocks;
  decode = λ sound. ap (λ (l : List (ℕ × Block)). list_all (λ (i : PageImage). is_page i.1) (map image_of_page l)) blocks;
  due = ap (λ (l : List (ℕ × ℕ)). are_numbers n (map (λ (d : ℕ × ℕ). d.0) l)) due;
}

-- of sound slots they are what a load gives
pub up_in_order : (slots : List OpenSlot) (n : ℕ) (pages : Pages) → are_sound slots ≡ true → AreUpTo slots n pages → AreInOrder n pages
up_in_order slots n pages sound up =
    let p = and_parts _ _ (ap (are_numbers n) (sym (same_numbers pages.blocks.items)) ∙ up.numbers) in
    record {
      ascend = and_from (ascends_from 0 (map (λ (q : ℕ × Block). q.0) pages.blocks.items)) (list_all (λ (q : ℕ × Block). nat_lt q.0 n) pages.blocks.items) p.0
          (sym (list_all-map (λ k. nat_lt k n) (λ (q : ℕ × Block). q.0) pages.blocks.items) ∙ p.1);
      decode = all_by_images (λ (i : PageImage). is_page i.1) pages.blocks.items ∙ up.decode sound;
      filled = all_by_images (λ (i : PageImage). not (is_empty_page i.1)) pages.blocks.items ∙ up.filled;
      due = up.due;
    }

-- ---- sound slots

no_bad : (at : ℕ) (images : List PageImage) → bad_image at images ≡ None → list_all (λ (i : PageImage). is_page i.1) images ≡ true
unfolding bad_image
no_bad at [] none = refl
no_bad at (i ∷ images) none = go (is_page i.1) (no_bad (at + 1) images) none where
  go : (b : Bool) → (bad_image (at + 1) images ≡ None → list_all (λ (j : PageImage). is_page j.1) images ≡ true) → cond b (bad_image (at + 1) images) (Some at) ≡ None
      → (b && list_all (λ (j : PageImage). is_page j.1) images) ≡ true
  go true rest e = rest e
  go false rest e = absurd (none-some at (sym e))

-- the images of a slot that was read
pub rest_is_sound : (at : ℕ) (images : List (ℕ × Block)) (damage : Option ℕ) → damage ≡ bad_image at (map image_of_page images) → damage ≡ None
    → IsTrue (list_all (λ (i : PageImage). is_page i.1) (map image_of_page images) && true)
rest_is_sound at images damage is none = and_from (list_all (λ (i : PageImage). is_page i.1) (map image_of_page images)) true (no_bad at (map image_of_page images) (sym is ∙ none)) refl

two_sound : (x y : Bool) → (x && (y && true)) ≡ true → (y && (x && true)) ≡ true
two_sound true true e = refl
two_sound true false e = e
two_sound false y e = absurd (false≢true e)

in_order_sound : (slots : List OpenSlot) → are_sound slots ≡ true → are_sound (newest_slots slots) ≡ true
in_order_sound [] sound = sound
in_order_sound (a ∷ []) sound = sound
in_order_sound (a ∷ b ∷ []) sound = go (nat_lt a.log.commit b.log.commit) where
  go : (c : Bool) → are_sound (cond c (b ∷ a ∷ []) (a ∷ b ∷ [])) ≡ true
  go false = sound
  go true = two_sound (list_all (λ (i : PageImage). is_page i.1) a.log.images) (list_all (λ (i : PageImage). is_page i.1) b.log.images) sound
in_order_sound (a ∷ b ∷ c ∷ slots) sound = sound

no_damage : (first second : Option ℕ) → option_or first second ≡ None → (first ≡ None) × (second ≡ None)
no_damage None second e = (refl, e)
no_damage (Some a) second e = absurd (none-some a (sym e))

pub slots_are_sound : (first second : Option OpenLog) (slots : List OpenSlot) → slots ≡ newest_slots (slots_of_log first ++ slots_of_log second) → IsSoundRead first → IsSoundRead second
    → option_or (damage_of first) (damage_of second) ≡ None → are_sound slots ≡ true
slots_are_sound first second slots order one two none =
    let d = no_damage (damage_of first) (damage_of second) none in
    let both : are_sound (slots_of_log first ++ slots_of_log second) ≡ true =
    list_all-append (λ (s : OpenSlot). list_all (λ (i : PageImage). is_page i.1) s.log.images) (slots_of_log first) (slots_of_log second) ∙ and_from (are_sound (slots_of_log first)) (are_sound (slots_of_log second)) (one d.0) (two d.1) in
    ap are_sound order ∙ in_order_sound (slots_of_log first ++ slots_of_log second) both
