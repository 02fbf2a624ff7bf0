-- A copy decodes exactly where no block of it is damaged and no two pages hold one key.
use Rattle.std.proofs.Common.{◌≡◌, ◌⊎◌, inl, inr, ⊎_elim, ℕ, zero, suc, ◌+◌, ◌<◌, ◌≤◌, Bool, true, false, not, cond, ◌&&◌, ◌||◌, List, [], ◌∷◌, ◌++◌, length, map, refl, sym, ap, ◌∙◌, Option, Some, None, arith, ◌==◌}
use Rattle.std.specs.Prelude.{zip, find, nat_lt}
use Rattle.std.specs.List.{range_with_len, list_all}
use Rattle.std.specs.Option.{is_some, option_map, option_or, unwrap_or}
use Rattle.std.proofs.lemmas.Bool.{cond-true, cond-false, cond_both, and_parts, and_from, cases_eq, false≢true}
use Rattle.std.proofs.lemmas.Option.{same_Some, none-some}
use Rattle.asm_group.specs.Names.{Bytes}
use Rattle.asm_formats.specs.Among.{IsAmong}
use Rattle.asm_formats.specs.Bytes.{block, is_open}
use Rattle.asm_formats.specs.Regions.{page_home, first_log, second_log, has_region}
use Rattle.asm_formats.specs.Header.{Header}
use Rattle.asm_formats.specs.Claim.{decoded_claim}
use Rattle.asm_formats.specs.Status.{decoded_status}
use Rattle.asm_formats.specs.Items.{Item}
use Rattle.asm_formats.specs.Content.{is_page, records_in}
use Rattle.asm_formats.specs.Logs.{LogHead, PageImage, Log, decoded_log_head, blocks_from, images_at, log_at, log_decodes, in_log, newest_first, open_logs, slot_decodes, logs_decode, logged_image, image_in}
use Rattle.asm_formats.specs.Pages.{home_page, page_at, pages_of, content_by, copy_content, decodes_in}
use Rattle.asm_formats.specs.PageLaws.{HaveOwnKeys}
use Rattle.asm_formats.specs.Metadata.{metadata, in_slot, header_of, content_of}
use Rattle.asm_formats.specs.Damage.{is_spoiled, body_damage, is_bad_page, head_damage, log_damage, directory_damage, IsBodyDamage}
use Rattle.asm_formats.proofs.Among.{all_split, all_join, among_map}
use Rattle.asm_formats.proofs.SameLogs.{closed_logs}
use Rattle.asm_formats.proofs.RecordLists.{records_of, have_records}

-- ---- claims and status records

whole_slot : {A : Type 0} (decoded : Bytes → Option A) (bytes : Bytes) (k : ℕ) → is_spoiled decoded bytes k ≡ false → list_all is_some (in_slot decoded bytes k) ≡ true
whole_slot {A} decoded bytes k = go (is_open bytes k) (decoded (block bytes (k + 1)))
  where
    go : (o : Bool) (x : Option A) → (o && not (is_some x)) ≡ false → list_all is_some (cond o (x ∷ []) []) ≡ true
    go false x e = refl
    go true None e = absurd (false≢true (sym e))
    go true (Some a) e = refl

sound_slot : {A : Type 0} (decoded : Bytes → Option A) (bytes : Bytes) (k : ℕ) → list_all is_some (in_slot decoded bytes k) ≡ true → is_spoiled decoded bytes k ≡ false
sound_slot {A} decoded bytes k = go (is_open bytes k) (decoded (block bytes (k + 1)))
  where
    go : (o : Bool) (x : Option A) → list_all is_some (cond o (x ∷ []) []) ≡ true → (o && not (is_some x)) ≡ false
    go false x e = refl
    go true None e = absurd (false≢true e)
    go true (Some a) e = refl

-- the first of four that is spoiled
abbrev first_of_four : Bool → Bool → Bool → Bool → Option ℕ
first_of_four a b c d = option_map (λ k. k + 1) (option_or (cond a (Some 2) (cond b (Some 4) None)) (cond c (Some 6) (cond d (Some 8) None)))

four_none : (a b c d : Bool) → first_of_four a b c d ≡ None → (a ≡ false) × (b ≡ false) × (c ≡ false) × (d ≡ false)
four_none true b c d e = absurd (none-some 3 (sym e))
four_none false true c d e = absurd (none-some 5 (sym e))
four_none false false true d e = absurd (none-some 7 (sym e))
four_none false false false true e = absurd (none-some 9 (sym e))
four_none false false false false e = (refl, refl, refl, refl)

none_damaged : (bytes : Bytes) → body_damage bytes ≡ None → (list_all is_some (metadata bytes).claims ≡ true) × (list_all is_some (metadata bytes).statuses ≡ true)
unfolding metadata body_damage
none_damaged bytes e =
    let p = four_none (is_spoiled decoded_claim bytes 2) (is_spoiled decoded_claim bytes 4) (is_spoiled decoded_status bytes 6) (is_spoiled decoded_status bytes 8) e in (
      all_join is_some (in_slot decoded_claim bytes 2) (in_slot decoded_claim bytes 4) (whole_slot decoded_claim bytes 2 p.0) (whole_slot decoded_claim bytes 4 p.1),
      all_join is_some (in_slot decoded_status bytes 6) (in_slot decoded_status bytes 8) (whole_slot decoded_status bytes 6 p.2) (whole_slot decoded_status bytes 8 p.3),
    )

all_whole : (bytes : Bytes) → list_all is_some (metadata bytes).claims ≡ true → list_all is_some (metadata bytes).statuses ≡ true → body_damage bytes ≡ None
unfolding metadata body_damage
all_whole bytes claims statuses =
    let p = all_split is_some (in_slot decoded_claim bytes 2) (in_slot decoded_claim bytes 4) claims in
    let q = all_split is_some (in_slot decoded_status bytes 6) (in_slot decoded_status bytes 8) statuses in
    let a = sound_slot decoded_claim bytes 2 p.0 in
    let b = sound_slot decoded_claim bytes 4 p.1 in
    let c = sound_slot decoded_status bytes 6 q.0 in
    let d = sound_slot decoded_status bytes 8 q.1 in
    λ i. first_of_four (a i) (b i) (c i) (d i)

pub body_damage_is_exact : IsBodyDamage
body_damage_is_exact = record { none = none_damaged; some = all_whole }

-- ---- searches

find_none : {A : Type 0} (t : A → Bool) (xs : List A) → find t xs ≡ None → (x : A) → IsAmong xs x → t x ≡ false
find_none t [] e x h = absurd h
find_none {A} t (y ∷ xs) e x h = go (t y) refl e (λ found l. find_none t xs found x l) h
  where
    go : (b : Bool) → t y ≡ b → cond b (Some y) (find t xs) ≡ None → (find t xs ≡ None → IsAmong xs x → t x ≡ false) → (x ≡ y) ⊎ IsAmong xs x → t x ≡ false
    go true is found rest k = absurd (none-some y (sym found))
    go false is found rest k = ⊎_elim (λ here. ap t here ∙ is) (λ l. rest found l) k

none_found : {A : Type 0} (t : A → Bool) (xs : List A) → ((x : A) → IsAmong xs x → t x ≡ false) → find t xs ≡ None
none_found t [] each = refl
none_found t (y ∷ xs) each = cond-false (t y) (Some y) (find t xs) (each y (inl refl)) ∙ none_found t xs (λ x h. each x (inr h))

-- none fails exactly where all pass
none_fails : {A : Type 0} (t : A → Bool) (xs : List A) → find (λ x. not (t x)) xs ≡ None → list_all t xs ≡ true
none_fails t [] e = refl
none_fails {A} t (y ∷ xs) e = go (t y) e (λ f. none_fails t xs f)
  where
    go : (b : Bool) → cond (not b) (Some y) (find (λ x. not (t x)) xs) ≡ None → (find (λ x. not (t x)) xs ≡ None → list_all t xs ≡ true) → (b && list_all t xs) ≡ true
    go true found rest = rest found
    go false found rest = absurd (none-some y (sym found))

all_pass : {A : Type 0} (t : A → Bool) (xs : List A) → list_all t xs ≡ true → find (λ x. not (t x)) xs ≡ None
all_pass t [] e = refl
all_pass t (y ∷ xs) e =
    let p = and_parts (t y) (list_all t xs) e in
    cond-false (not (t y)) (Some y) (find (λ x. not (t x)) xs) (ap not p.0) ∙ all_pass t xs p.1

among_range : (k n j : ℕ) → IsAmong (range_with_len k n) j → (k ≤ j) × (j < k + n)
among_range k zero j h = absurd h
among_range k (suc n) j (inl e) = (omega (arith, e), omega (arith, e))
among_range k (suc n) j (inr h) = let p = among_range (k + 1) n j h in (omega (arith, p.0), omega (arith, p.1))

range_among : (k n j : ℕ) → k ≤ j → j < k + n → IsAmong (range_with_len k n) j
range_among k zero j low high = absurd (omega (arith, low, high))
range_among k (suc n) j low high = ⊎_elim (λ e. inl e) (λ lt. inr (range_among (k + 1) n j (omega (arith, lt)) (omega (arith, high)))) (first j k low)
  where
    first : (j k : ℕ) → k ≤ j → (j ≡ k) ⊎ (k < j)
    first j k le = ⊎_elim (λ e. inl e) (λ differ. inr (omega (arith, le, differ))) (cases_eq j k)

-- what holds of each value of a function holds of the list of them
from_range : (f : ℕ → Bytes) (ks : List ℕ) (page : Bytes) → IsAmong (map f ks) page → ((k : ℕ) → IsAmong ks k → is_page (f k) ≡ true) → is_page page ≡ true
from_range f [] page h each = absurd h
from_range f (k ∷ ks) page (inl e) each = ap is_page e ∙ each k (inl refl)
from_range f (k ∷ ks) page (inr h) each = from_range f ks page h (λ j m. each j (inr m))

-- ---- a log slot

images_in_blocks : (bytes : Bytes) (k : ℕ) (ps : List ℕ)
    → list_all (λ (i : PageImage). is_page i.1) (zip ps (blocks_from bytes k (length ps))) ≡ list_all (λ b. is_page (block bytes b)) (range_with_len k (length ps))
images_in_blocks bytes k [] = refl
images_in_blocks bytes k (p ∷ ps) = ap (λ (rest : Bool). is_page (block bytes k) && rest) (images_in_blocks bytes (k + 1) ps)

module _ (d : ℕ) (bytes : Bytes) (k : ℕ) where
  abbrev decoding : Option LogHead → Bool
  decoding x = is_some x && list_all (λ (i : PageImage). is_page i.1) (images_at bytes (k + 2) x)

  log_whole : log_damage d bytes k ≡ None → slot_decodes d bytes k ≡ true
  unfolding log_decodes log_at
  log_whole = go (is_open bytes k) (decoded_log_head d (block bytes (k + 1)))
    where
      go : (o : Bool) (x : Option LogHead) → cond o (head_damage bytes k x) None ≡ None → cond o (decoding x) true ≡ true
      go false x e = refl
      go true None e = absurd (none-some (k + 1) (sym e))
      go true (Some h) e = images_in_blocks bytes (k + 2) h.pages ∙ none_fails (λ b. is_page (block bytes b)) (range_with_len (k + 2) (length h.pages)) e

  log_sound : slot_decodes d bytes k ≡ true → log_damage d bytes k ≡ None
  unfolding log_decodes log_at
  log_sound = go (is_open bytes k) (decoded_log_head d (block bytes (k + 1)))
    where
      go : (o : Bool) (x : Option LogHead) → cond o (decoding x) true ≡ true → cond o (head_damage bytes k x) None ≡ None
      go false x e = refl
      go true None e = absurd (false≢true e)
      go true (Some h) e = all_pass (λ b. is_page (block bytes b)) (range_with_len (k + 2) (length h.pages)) (sym (images_in_blocks bytes (k + 2) h.pages) ∙ e)

  -- its images are pages
  log_images : slot_decodes d bytes k ≡ true → list_all (λ (l : Log). list_all (λ (i : PageImage). is_page i.1) l.images) (in_log d bytes k) ≡ true
  unfolding log_decodes
  log_images = go (is_open bytes k)
    where
      go : (o : Bool) → cond o (log_decodes d bytes k) true ≡ true → list_all (λ (l : Log). list_all (λ (i : PageImage). is_page i.1) l.images) (cond o (log_at d bytes k ∷ []) []) ≡ true
      go false e = refl
      go true e = and_from (list_all (λ (i : PageImage). is_page i.1) (log_at d bytes k).images) true (and_parts (is_some (decoded_log_head d (block bytes (k + 1)))) _ e).1 refl

-- ---- images

abbrev are_pages : Log → Bool
are_pages l = list_all (λ (i : PageImage). is_page i.1) l.images

image_is_page : (images : List PageImage) (page : ℕ) (image : Bytes) → list_all (λ (i : PageImage). is_page i.1) images ≡ true → logged_image images page ≡ Some image → is_page image ≡ true
image_is_page [] page image ok e = absurd (none-some image e)
image_is_page (i ∷ images) page image ok e =
    let p = and_parts (is_page i.1) (list_all (λ (i : PageImage). is_page i.1) images) ok in
    go (i.0 == page) p.0 (λ f. image_is_page images page image p.1 f) e
  where
    go : (b : Bool) → is_page i.1 ≡ true → (logged_image images page ≡ Some image → is_page image ≡ true)
        → option_map (λ (j : PageImage). j.1) (cond b (Some i) (find (λ (j : PageImage). j.0 == page) images)) ≡ Some image → is_page image ≡ true
    go true here rest found = ap is_page (sym (same_Some i.1 image found)) ∙ here
    go false here rest found = rest found

logged_is_page : (logs : List Log) (page : ℕ) (image : Bytes) → list_all are_pages logs ≡ true → image_in logs page ≡ Some image → is_page image ≡ true
logged_is_page [] page image ok e = absurd (none-some image e)
logged_is_page (log ∷ older) page image ok e =
    let p = and_parts (are_pages log) (list_all are_pages older) ok in
    go (logged_image log.images page) refl p.0 (λ f. logged_is_page older page image p.1 f) e
  where
    go : (o : Option Bytes) → logged_image log.images page ≡ o → are_pages log ≡ true → (image_in older page ≡ Some image → is_page image ≡ true) → option_or o (image_in older page) ≡ Some image → is_page image ≡ true
    go None is here rest found = rest found
    go (Some x) is here rest found = image_is_page log.images page image here (is ∙ found)

module _ (d : ℕ) (bytes : Bytes) where
  abbrev a : ℕ
  a = first_log d

  abbrev b : ℕ
  b = second_log d

  -- the images of the open logs are pages
  open_pages : slot_decodes d bytes a ≡ true → slot_decodes d bytes b ≡ true → list_all are_pages (open_logs d bytes) ≡ true
  unfolding open_logs
  open_pages first second = go (is_open bytes a) (is_open bytes b) (log_images d bytes a first) (log_images d bytes b second)
    where
      x : Log
      x = log_at d bytes a

      y : Log
      y = log_at d bytes b

      go : (o p : Bool) → list_all are_pages (cond o (x ∷ []) []) ≡ true → list_all are_pages (cond p (y ∷ []) []) ≡ true → list_all are_pages (newest_first (cond o (x ∷ []) [] ++ cond p (y ∷ []) [])) ≡ true
      go false false e f = refl
      go true false e f = e
      go false true e f = f
      go true true e f =
          let of_x = (and_parts (are_pages x) true e).0 in
          let of_y = (and_parts (are_pages y) true f).0 in
          cond_both (nat_lt x.commit y.commit) (y ∷ x ∷ []) (x ∷ y ∷ []) (λ (l : List Log). list_all are_pages l ≡ true)
          (λ lt. and_from (are_pages y) (are_pages x && true) of_y e) (λ le. and_from (are_pages x) (are_pages y && true) of_x f)

  -- without an open log slot both are closed
  both_shut : open_logs d bytes ≡ [] → (is_open bytes a || is_open bytes b) ≡ false
  unfolding open_logs
  both_shut = go (is_open bytes a) (is_open bytes b)
    where
      x : Log
      x = log_at d bytes a

      y : Log
      y = log_at d bytes b

      two : (c : Bool) → length (cond c (y ∷ x ∷ []) (x ∷ y ∷ [])) ≡ 2
      two true = refl
      two false = refl

      go : (o p : Bool) → newest_first (cond o (x ∷ []) [] ++ cond p (y ∷ []) []) ≡ [] → (o || p) ≡ false
      go true true e = absurd (omega (arith, two (nat_lt x.commit y.commit), ap (λ (l : List Log). length l) e))
      go true false e = absurd (omega (arith, ap (λ (l : List Log). length l) e))
      go false true e = absurd (omega (arith, ap (λ (l : List Log). length l) e))
      go false false e = refl

  shut_parts : (is_open bytes a || is_open bytes b) ≡ false → (is_open bytes a ≡ false) × (is_open bytes b ≡ false)
  shut_parts = go (is_open bytes a) (is_open bytes b)
    where
      go : (o p : Bool) → (o || p) ≡ false → (o ≡ false) × (p ≡ false)
      go true p e = absurd (false≢true (sym e))
      go false p e = (refl, e)

  decode_parts : logs_decode d bytes ≡ true → (slot_decodes d bytes a ≡ true) × (slot_decodes d bytes b ≡ true)
  unfolding logs_decode
  decode_parts e = and_parts (slot_decodes d bytes a) (slot_decodes d bytes b) e

  decode_both : slot_decodes d bytes a ≡ true → slot_decodes d bytes b ≡ true → logs_decode d bytes ≡ true
  unfolding logs_decode
  decode_both e f = and_from (slot_decodes d bytes a) (slot_decodes d bytes b) e f

  -- a page that counts, by its image or by its home
  counts : (page : ℕ) (o : Option Bytes) → image_in (open_logs d bytes) page ≡ o → page_at d bytes page ≡ unwrap_or o (home_page bytes page)
  unfolding page_at
  counts page o e = ap (λ (p : Option Bytes). unwrap_or p (home_page bytes page)) e

  -- the search of the pages
  abbrev bad_page : Option ℕ
  bad_page = find (is_bad_page d bytes) (range_with_len 0 d)

  abbrev all_damage : Option ℕ
  all_damage = option_or (option_map page_home bad_page) (option_or (log_damage d bytes a) (log_damage d bytes b))

  damage_parts : (x y z : Option ℕ) → option_or (option_map page_home x) (option_or y z) ≡ None → (x ≡ None) × (y ≡ None) × (z ≡ None)
  damage_parts (Some p) y z e = absurd (none-some (page_home p) (sym e))
  damage_parts None (Some p) z e = absurd (none-some p (sym e))
  damage_parts None None z e = (refl, refl, e)

  -- ---- what decodes is whole

  not_bad : ((page : ℕ) → page < d → is_page (page_at d bytes page) ≡ true) → bad_page ≡ None
  not_bad good = none_found (is_bad_page d bytes) (range_with_len 0 d) (λ page h. go page (image_in (open_logs d bytes) page) refl (good page (omega (arith, (among_range 0 d page h).1))))
    where
      go : (page : ℕ) (o : Option Bytes) → image_in (open_logs d bytes) page ≡ o → is_page (page_at d bytes page) ≡ true → is_bad_page d bytes page ≡ false
      go page None e ok = ap (λ (x : Option Bytes). not (is_some x) && not (is_page (home_page bytes page))) e ∙ ap not (ap is_page (sym (counts page None e)) ∙ ok)
      go page (Some image) e ok = ap (λ (x : Option Bytes). not (is_some x) && not (is_page (home_page bytes page))) e

  decoded_none : logs_decode d bytes ≡ true → ((page : ℕ) → page < d → is_page (page_at d bytes page) ≡ true) → all_damage ≡ None
  decoded_none logs good =
      let p = decode_parts logs in
      let x = not_bad good in
      let y = log_sound d bytes a p.0 in
      let z = log_sound d bytes b p.1 in
      λ i. option_or (option_map page_home (x i)) (option_or (y i) (z i))

  -- pages of a copy with records
  good_pages : (items : List Item) → records_in (pages_of d bytes) ≡ Some items → (page : ℕ) → page < d → is_page (page_at d bytes page) ≡ true
  good_pages items e page lt = (records_of (pages_of d bytes) items e).decode (page_at d bytes page) (among_map (page_at d bytes) (range_with_len 0 d) page (range_among 0 d page (omega arith) (omega arith)))

  open_good : (logs : List Log) → open_logs d bytes ≡ logs → (is_open bytes a || is_open bytes b) ≡ true → decodes_in (content_by d bytes logs) ≡ true → all_damage ≡ None
  open_good [] e opened ok = absurd (false≢true (sym (both_shut e) ∙ opened))
  open_good (log ∷ older) e opened ok = go (logs_decode d bytes) (records_in (pages_of d bytes)) refl refl ok
    where
      go : (x : Bool) (o : Option (List Item)) → logs_decode d bytes ≡ x → records_in (pages_of d bytes) ≡ o → is_some (cond x o None) ≡ true → all_damage ≡ None
      go false o l r k = absurd (false≢true k)
      go true None l r k = absurd (false≢true k)
      go true (Some items) l r k = decoded_none l (good_pages items r)

  copy_damage : decodes_in (copy_content d bytes) ≡ true → directory_damage d bytes ≡ None
  unfolding copy_content directory_damage
  copy_damage = go (has_region d (length bytes)) (is_open bytes a || is_open bytes b) refl
    where
      go : (r o : Bool) → (is_open bytes a || is_open bytes b) ≡ o → decodes_in (cond r (content_by d bytes (open_logs d bytes)) None) ≡ true → cond (r && o) all_damage None ≡ None
      go false o e k = refl
      go true false e k = refl
      go true true e k = open_good (open_logs d bytes) refl e k

  -- ---- what is whole decodes

  pub whole_pages : all_damage ≡ None → (logs_decode d bytes ≡ true) × ((page : ℕ) → page < d → is_page (page_at d bytes page) ≡ true)
  whole_pages e =
      let p = damage_parts bad_page (log_damage d bytes a) (log_damage d bytes b) e in
      let first = log_whole d bytes a p.1 in
      let second = log_whole d bytes b p.2 in (
        decode_both first second,
        λ page lt. go page (image_in (open_logs d bytes) page) refl (open_pages first second)
            (find_none (is_bad_page d bytes) (range_with_len 0 d) p.0 page (range_among 0 d page (omega arith) (omega arith))),
      )
    where
      not_not : (x : Bool) → not x ≡ false → x ≡ true
      not_not true e = refl
      not_not false e = sym e

      go : (page : ℕ) (o : Option Bytes) → image_in (open_logs d bytes) page ≡ o → list_all are_pages (open_logs d bytes) ≡ true → is_bad_page d bytes page ≡ false → is_page (page_at d bytes page) ≡ true
      go page None e logs bad = ap is_page (counts page None e) ∙ not_not (is_page (home_page bytes page)) (sym (ap (λ (x : Option Bytes). not (is_some x) && not (is_page (home_page bytes page))) e) ∙ bad)
      go page (Some image) e logs bad = ap is_page (counts page (Some image) e) ∙ logged_is_page (open_logs d bytes) page image logs e

  some_records : all_damage ≡ None → HaveOwnKeys (pages_of d bytes) → (logs : List Log) → decodes_in (content_by d bytes logs) ≡ true
  some_records e apart [] = refl
  some_records e apart (log ∷ older) =
      let w = whole_pages e in
      let r = have_records (pages_of d bytes) (λ page h. from_range (page_at d bytes) (range_with_len 0 d) page h (λ k m. w.1 k (omega (arith, (among_range 0 d k m).1)))) apart in
      ap is_some (cond-true (logs_decode d bytes) (records_in (pages_of d bytes)) None w.0 ∙ r.1)

  copy_decodes : directory_damage d bytes ≡ None → HaveOwnKeys (pages_of d bytes) → decodes_in (copy_content d bytes) ≡ true
  unfolding copy_content directory_damage
  copy_decodes = go (has_region d (length bytes)) (is_open bytes a || is_open bytes b) refl
    where
      go : (r o : Bool) → (is_open bytes a || is_open bytes b) ≡ o → cond (r && o) all_damage None ≡ None → HaveOwnKeys (pages_of d bytes) → decodes_in (cond r (content_by d bytes (open_logs d bytes)) None) ≡ true
      go false o e k apart = refl
      go true false e k apart = ap (λ (l : List Log). decodes_in (content_by d bytes l)) (closed_logs d bytes (shut_parts e).0 (shut_parts e).1)
      go true true e k apart = some_records k apart (open_logs d bytes)

-- ---- the laws

pub damage_is_seen : (h : Header) (bytes : Bytes) → header_of bytes ≡ Some h → (metadata bytes).decodes ≡ true → directory_damage h.shape.dir_blocks bytes ≡ None
unfolding metadata
damage_is_seen h bytes is ok = copy_damage h.shape.dir_blocks bytes (sym (ap (λ (o : Option Header). decodes_in (content_of o bytes)) is) ∙ ok)

pub whole_copy_decodes : (h : Header) (bytes : Bytes) → header_of bytes ≡ Some h → directory_damage h.shape.dir_blocks bytes ≡ None → HaveOwnKeys (pages_of h.shape.dir_blocks bytes)
    → (metadata bytes).decodes ≡ true
unfolding metadata
whole_copy_decodes h bytes is none apart = ap (λ (o : Option Header). decodes_in (content_of o bytes)) is ∙ copy_decodes h.shape.dir_blocks bytes none apart
