-- What a directory copy holds at each moment while a log slot is put or closed.
use Rattle.std.proofs.Common.{◌≡◌, ◌⊎◌, inl, inr, ⊎_elim, ℕ, ◌+◌, ◌^◌, ◌<◌, ◌≤◌, Bool, true, false, cond, ◌&&◌, List, [], ◌∷◌, ◌++◌, map, refl, sym, ap, subst, ◌∙◌, Some, arith}
use Rattle.std.specs.Prelude.{zip, nat_lt}
use Rattle.std.specs.List.{list_all}
use Rattle.std.specs.Option.{is_some}
use Rattle.std.proofs.lemmas.Bool.{cond-true, cond-false, and_from, lt-ltb, le-ltb}
use Rattle.std.proofs.lemmas.List.{append-nil, length-map}
use Rattle.asm_group.specs.Names.{Bytes}
use Rattle.asm_formats.specs.Bytes.{block, is_open}
use Rattle.asm_formats.specs.Regions.{first_log, second_log}
use Rattle.asm_formats.specs.Content.{is_page}
use Rattle.asm_formats.specs.Logs.{PageImage, Log, head_of_log, log_head_at, decoded_log_head, blocks_from, images_at, log_at, log_decodes, in_log, newest_first, open_logs, slot_decodes, logs_decode}
use Rattle.asm_formats.specs.Slots.{ArePair}
use Rattle.asm_formats.specs.LogSlots.{IsLog}
use Rattle.asm_formats.specs.Commits.{HoldsLog}
use Rattle.asm_formats.proofs.LogReading.{log_head_again, log_head_read}
use Rattle.asm_formats.proofs.SameLogs.{in_log_closed}

-- ---- a log is read as it was put

zip_back : (images : List PageImage) → zip (map (λ (i : PageImage). i.0) images) (map (λ (i : PageImage). i.1) images) ≡ images
zip_back [] = refl
zip_back (i ∷ images) = ap (λ (l : List PageImage). i ∷ l) (zip_back images)

module _ (d : ℕ) (bytes : Bytes) (k : ℕ) (log : Log) (small : d ≤ 2 ^ 32) (ok : IsLog d log) (holds : HoldsLog bytes k log) where
  head_read : log_head_at (block bytes (k + 1)) ≡ head_of_log log
  head_read = ap log_head_at holds.head ∙ log_head_read d (head_of_log log) small ok.0

  head_decoded : decoded_log_head d (block bytes (k + 1)) ≡ Some (head_of_log log)
  head_decoded = ap (decoded_log_head d) holds.head ∙ log_head_again d (head_of_log log) small ok.0

  images_read : images_at bytes (k + 2) (Some (head_of_log log)) ≡ log.images
  images_read =
      let count = length-map log.images (λ (i : PageImage). i.0) in
      ap (λ (n : ℕ). zip (map (λ (i : PageImage). i.0) log.images) (blocks_from bytes (k + 2) n)) count
      ∙ ap (λ (l : List Bytes). zip (map (λ (i : PageImage). i.0) log.images) l) holds.images ∙ zip_back log.images

  pub log_read : log_at d bytes k ≡ log
  unfolding log_at
  log_read =
      let images = ap (images_at bytes (k + 2)) head_decoded ∙ images_read in
      λ i. record { commit = (head_read i).commit; images = images i }

  pub log_decoded : log_decodes d bytes k ≡ true
  unfolding log_decodes
  log_decoded = and_from (is_some (decoded_log_head d (block bytes (k + 1)))) _ (ap is_some head_decoded)
      (ap (λ (l : Log). list_all (λ (i : PageImage). is_page i.1) l.images) log_read ∙ ok.1)

-- ---- the order of the open slots

and_swap : (x y : Bool) → (x && y) ≡ (y && x)
and_swap true true = refl
and_swap true false = refl
and_swap false true = refl
and_swap false false = refl

not_below : (m n : ℕ) → n ≤ m → nat_lt m n ≡ false
not_below m n le = le-ltb m n le

one_log : (d : ℕ) (bytes : Bytes) (k : ℕ) → newest_first (in_log d bytes k) ≡ in_log d bytes k
one_log d bytes k = go (is_open bytes k)
  where
    go : (b : Bool) → newest_first (cond b (log_at d bytes k ∷ []) []) ≡ cond b (log_at d bytes k ∷ []) []
    go true = refl
    go false = refl

module _ (d : ℕ) (bytes : Bytes) where
  abbrev a : ℕ
  a = first_log d

  abbrev b : ℕ
  b = second_log d

  open_first : is_open bytes b ≡ false → open_logs d bytes ≡ in_log d bytes a
  unfolding open_logs
  open_first shut = ap (λ (l : List Log). newest_first (in_log d bytes a ++ l)) (in_log_closed d bytes b shut) ∙ ap newest_first (append-nil (in_log d bytes a)) ∙ one_log d bytes a

  open_second : is_open bytes a ≡ false → open_logs d bytes ≡ in_log d bytes b
  unfolding open_logs
  open_second shut = ap (λ (l : List Log). newest_first (l ++ in_log d bytes b)) (in_log_closed d bytes a shut) ∙ one_log d bytes b

  pub in_log_open : (k : ℕ) → is_open bytes k ≡ true → in_log d bytes k ≡ log_at d bytes k ∷ []
  in_log_open k opened = cond-true (is_open bytes k) (log_at d bytes k ∷ []) [] opened

  both_open : is_open bytes a ≡ true → is_open bytes b ≡ true
      → open_logs d bytes ≡ cond (nat_lt (log_at d bytes a).commit (log_at d bytes b).commit) (log_at d bytes b ∷ log_at d bytes a ∷ []) (log_at d bytes a ∷ log_at d bytes b ∷ [])
  unfolding open_logs
  both_open first second =
      let x = in_log_open a first in
      let y = in_log_open b second in
      λ i. newest_first (x i ++ y i)

  second_newer : is_open bytes a ≡ true → is_open bytes b ≡ true → (log_at d bytes a).commit < (log_at d bytes b).commit → open_logs d bytes ≡ log_at d bytes b ∷ log_at d bytes a ∷ []
  second_newer first second lt = both_open first second ∙ cond-true (nat_lt (log_at d bytes a).commit (log_at d bytes b).commit) _ _ (lt-ltb (log_at d bytes a).commit (log_at d bytes b).commit lt)

  first_newer : is_open bytes a ≡ true → is_open bytes b ≡ true → (log_at d bytes b).commit ≤ (log_at d bytes a).commit → open_logs d bytes ≡ log_at d bytes a ∷ log_at d bytes b ∷ []
  first_newer first second le = both_open first second ∙ cond-false (nat_lt (log_at d bytes a).commit (log_at d bytes b).commit) _ _ (not_below (log_at d bytes a).commit (log_at d bytes b).commit le)

  -- the other slot alone, where one is closed
  pub other_alone : (k other : ℕ) → ArePair a b k other → is_open bytes k ≡ false → open_logs d bytes ≡ in_log d bytes other
  other_alone k other (inl p) shut = open_second (ap (is_open bytes) (sym p.0) ∙ shut) ∙ ap (in_log d bytes) (sym p.1)
  other_alone k other (inr p) shut = open_first (ap (is_open bytes) (sym p.0) ∙ shut) ∙ ap (in_log d bytes) (sym p.1)

  -- two open slots, of which the other holds
  pub other_holds : (k other : ℕ) → ArePair a b k other → is_open bytes k ≡ true → is_open bytes other ≡ true
      → ((log_at d bytes k).commit < (log_at d bytes other).commit) ⊎ (((log_at d bytes k).commit ≡ (log_at d bytes other).commit) × (other < k))
      → open_logs d bytes ≡ log_at d bytes other ∷ log_at d bytes k ∷ []
  other_holds k other (inl p) opened other_open less =
      let at_k : log_at d bytes k ≡ log_at d bytes a = ap (log_at d bytes) p.0 in
      let at_other : log_at d bytes other ≡ log_at d bytes b = ap (log_at d bytes) p.1 in
      let lt : (log_at d bytes a).commit < (log_at d bytes b).commit = ⊎_elim
      (λ below. subst (λ (x : Log). x.commit < (log_at d bytes b).commit) at_k (subst (λ (x : Log). (log_at d bytes k).commit < x.commit) at_other below))
      (λ tie. absurd (omega (arith, p.0, p.1, tie.1))) less in
      second_newer (ap (is_open bytes) (sym p.0) ∙ opened) (ap (is_open bytes) (sym p.1) ∙ other_open) lt ∙ (λ i. sym at_other i ∷ sym at_k i ∷ [])
  other_holds k other (inr p) opened other_open less =
      let at_k : log_at d bytes k ≡ log_at d bytes b = ap (log_at d bytes) p.0 in
      let at_other : log_at d bytes other ≡ log_at d bytes a = ap (log_at d bytes) p.1 in
      let le_there : (log_at d bytes k).commit ≤ (log_at d bytes other).commit = ⊎_elim (λ below. omega arith) (λ tie. omega (arith, tie.0)) less in
      let le : (log_at d bytes b).commit ≤ (log_at d bytes a).commit =
      subst (λ (x : Log). x.commit ≤ (log_at d bytes a).commit) at_k (subst (λ (x : Log). (log_at d bytes k).commit ≤ x.commit) at_other le_there) in
      first_newer (ap (is_open bytes) (sym p.1) ∙ other_open) (ap (is_open bytes) (sym p.0) ∙ opened) le ∙ (λ i. sym at_other i ∷ sym at_k i ∷ [])

  -- two open slots, of which this one is newer
  pub this_holds : (k other : ℕ) → ArePair a b k other → is_open bytes k ≡ true → is_open bytes other ≡ true → (log_at d bytes other).commit < (log_at d bytes k).commit
      → open_logs d bytes ≡ log_at d bytes k ∷ log_at d bytes other ∷ []
  this_holds k other (inl p) opened other_open lt = other_holds other k (inr (p.1, p.0)) other_open opened (inl lt)
  this_holds k other (inr p) opened other_open lt = other_holds other k (inl (p.1, p.0)) other_open opened (inl lt)

  -- whether both decode, one and the other
  pub decode_pair : (k other : ℕ) → ArePair a b k other → logs_decode d bytes ≡ (slot_decodes d bytes other && slot_decodes d bytes k)
  unfolding logs_decode
  decode_pair k other (inl p) = and_swap (slot_decodes d bytes a) (slot_decodes d bytes b) ∙ (λ i. slot_decodes d bytes (sym p.1 i) && slot_decodes d bytes (sym p.0 i))
  decode_pair k other (inr p) = λ i. slot_decodes d bytes (sym p.1 i) && slot_decodes d bytes (sym p.0 i)
