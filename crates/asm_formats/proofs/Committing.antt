-- While a log slot is put or closed, the content of the copy is the one before or the one after.
use Rattle.std.proofs.Common.{◌≡◌, inl, inr, ⊎_elim, ℕ, ◌+◌, ◌*◌, ◌^◌, ◌<◌, ◌≤◌, true, false, cond, List, [], ◌∷◌, ◌++◌, length, refl, sym, ap, subst, ◌∙◌, Option, Some, None, arith}
use Rattle.std.specs.Option.{unwrap_or, option_or}
use Rattle.std.proofs.lemmas.Bool.{cases_Bool, cond-true, cond-false, and_parts, and_from, false≢true}
use Rattle.std.proofs.lemmas.List.{append-nil}
use Rattle.asm_group.specs.Names.{Bytes}
use Rattle.asm_formats.specs.Bytes.{block_size, is_open}
use Rattle.asm_formats.specs.Regions.{region_start, log_blocks, first_log, second_log, has_region}
use Rattle.asm_formats.specs.Content.{records_in}
use Rattle.asm_formats.specs.Logs.{Log, log_at, log_decodes, in_log, open_logs, slot_decodes, logs_decode, logged_image, image_in}
use Rattle.asm_formats.specs.Pages.{home_page, page_at, with_images, content_by, copy_content, committed}
use Rattle.asm_formats.specs.Places.{SameButBlocks}
use Rattle.asm_formats.specs.Slots.{ArePair}
use Rattle.asm_formats.specs.LogSlots.{IsLog, MayCloseLog}
use Rattle.asm_formats.specs.Commits.{HoldsLog}
use Rattle.asm_formats.proofs.Among.{map_range_same}
use Rattle.asm_formats.proofs.Blocks.{SameSlot, block_out, slot_before, slot_behind}
use Rattle.asm_formats.proofs.SameLogs.{in_log_same, slot_decodes_same, log_at_same, in_log_closed, closed_content}
use Rattle.asm_formats.proofs.LogPuts.{log_read, log_decoded, in_log_open, other_alone, other_holds, this_holds, decode_pair}

-- a pair is one and the other
pub pair_closed : (d : ℕ) (bytes : Bytes) (k other : ℕ) → ArePair (first_log d) (second_log d) k other → is_open bytes k ≡ false → is_open bytes other ≡ false → copy_content d bytes ≡ None
pair_closed d bytes k other (inl p) shut other_shut = closed_content d bytes (ap (is_open bytes) (sym p.0) ∙ shut) (ap (is_open bytes) (sym p.1) ∙ other_shut)
pair_closed d bytes k other (inr p) shut other_shut = closed_content d bytes (ap (is_open bytes) (sym p.1) ∙ other_shut) (ap (is_open bytes) (sym p.0) ∙ shut)

module _ (d : ℕ) (old : Bytes) (k other : ℕ) (may : MayCloseLog d old k other) where
  -- where the slot is open, the other one is, and holds
  other_is_open : is_open old k ≡ true → is_open old other ≡ true
  other_is_open opened = ⊎_elim (λ shut. absurd (false≢true (sym shut ∙ opened))) (λ p. p.0) may.free

  two_logs : is_open old k ≡ true → open_logs d old ≡ log_at d old other ∷ log_at d old k ∷ []
  two_logs opened = ⊎_elim (λ shut. absurd (false≢true (sym shut ∙ opened))) (λ p. other_holds d old k other may.pair opened p.0 p.1) may.free

  -- the logs without that of this slot
  logs_old : open_logs d old ≡ in_log d old other ++ in_log d old k
  logs_old = ⊎_elim
      (λ opened. let x = in_log_open d old other (other_is_open opened) in
      let y = in_log_open d old k opened in
      two_logs opened ∙ (λ i. sym x i ++ sym y i))
      (λ shut. other_alone d old k other may.pair shut ∙ sym (append-nil (in_log d old other)) ∙ ap (λ (l : List Log). in_log d old other ++ l) (sym (in_log_closed d old k shut)))
      (cases_Bool (is_open old k))

  -- pages are read without this slot as with it
  pub rest_page : (page : ℕ) → page < d → unwrap_or (image_in (in_log d old other) page) (home_page old page) ≡ page_at d old page
  unfolding page_at
  rest_page page lt = ⊎_elim
      (λ opened. let alone = in_log_open d old other (other_is_open opened) in
      let logs = two_logs opened in
      let checked : unwrap_or (image_in (open_logs d old) page) (home_page old page) ≡ home_page old page = may.checkpointed opened page lt in
      ap (λ (l : List Log). unwrap_or (image_in l page) (home_page old page)) alone
      ∙ go (logged_image (log_at d old other).images page) (image_in (log_at d old k ∷ []) page) (sym (ap (λ (l : List Log). unwrap_or (image_in l page) (home_page old page)) logs) ∙ checked)
      ∙ sym (ap (λ (l : List Log). unwrap_or (image_in l page) (home_page old page)) logs))
      (λ shut. ap (λ (l : List Log). unwrap_or (image_in l page) (home_page old page)) (sym (other_alone d old k other may.pair shut)))
      (cases_Bool (is_open old k))
    where
      go : (x y : Option Bytes) → unwrap_or (option_or x y) (home_page old page) ≡ home_page old page → unwrap_or (option_or x None) (home_page old page) ≡ unwrap_or (option_or x y) (home_page old page)
      go None y e = sym e
      go (Some image) y e = refl

  other_decodes : slot_decodes d old other ≡ true
  other_decodes = (and_parts (slot_decodes d old other) (slot_decodes d old k) (sym (decode_pair d old k other may.pair) ∙ may.decode)).0

  module _ (new : Bytes) (same : SameButBlocks old new k log_blocks) where
    pub other_slot : ArePair (first_log d) (second_log d) k other → SameSlot old new other log_blocks
    other_slot (inl p) = slot_behind old new (k * block_size) (log_blocks * block_size) same other log_blocks (omega (arith, p.0, p.1))
    other_slot (inr p) = slot_before old new (k * block_size) (log_blocks * block_size) same other log_blocks (omega (arith, p.0, p.1)) (omega arith)

    pub behind_pages : ArePair (first_log d) (second_log d) k other → region_start + d ≤ k
    behind_pages (inl p) = omega (arith, p.0)
    behind_pages (inr p) = omega (arith, p.0)

    pub home_same : (page : ℕ) → page < d → home_page new page ≡ home_page old page
    home_same page lt = block_out old new (k * block_size) (log_blocks * block_size) same (region_start + page) (inr (omega (arith, behind_pages may.pair)))

    other_log : in_log d new other ≡ in_log d old other
    other_log = in_log_same d old new other (other_slot may.pair)

    other_decodes_now : slot_decodes d new other ≡ true
    other_decodes_now = slot_decodes_same d old new other (other_slot may.pair) ∙ other_decodes

    -- ---- closed

    module _ (shut : is_open new k ≡ false) where
      closed_logs : open_logs d new ≡ in_log d old other
      closed_logs = other_alone d new k other may.pair shut ∙ other_log

      closed_decode : logs_decode d new ≡ logs_decode d old
      closed_decode = decode_pair d new k other may.pair
          ∙ and_from (slot_decodes d new other) (slot_decodes d new k) other_decodes_now (cond-false (is_open new k) (log_decodes d new k) true shut)
          ∙ sym may.decode

      closed_page : (page : ℕ) → page < d → page_at d new page ≡ page_at d old page
      unfolding page_at
      closed_page page lt = ap (λ (l : List Log). unwrap_or (image_in l page) (home_page new page)) closed_logs
          ∙ (λ i. unwrap_or (image_in (in_log d old other) page) (home_same page lt i)) ∙ rest_page page lt

      pub closed_keeps : copy_content d new ≡ copy_content d old
      unfolding copy_content
      closed_keeps = ⊎_elim
          (λ opened. kept opened)
          (λ other_shut. pair_closed d new k other may.pair shut ((other_slot may.pair).gate ∙ other_shut) ∙ sym (pair_closed d old k other may.pair (this_shut other_shut) other_shut))
          (cases_Bool (is_open old other))
        where
          this_shut : is_open old other ≡ false → is_open old k ≡ false
          this_shut other_shut = ⊎_elim (λ opened. absurd (false≢true (sym other_shut ∙ other_is_open opened))) (λ e. e) (cases_Bool (is_open old k))

          kept : is_open old other ≡ true → copy_content d new ≡ copy_content d old
          kept opened =
              let alone = in_log_open d old other opened in
              let now : content_by d new (open_logs d new) ≡ content_by d new (log_at d old other ∷ []) = ap (content_by d new) (closed_logs ∙ alone) in
              let then_ : content_by d old (open_logs d old) ≡ content_by d old (log_at d old other ∷ in_log d old k) = ap (content_by d old) (logs_old ∙ ap (λ (l : List Log). l ++ in_log d old k) alone) in
              let pages = map_range_same (page_at d new) (page_at d old) 0 d (λ page low high. closed_page page (omega arith)) in
              let whole : content_by d new (log_at d old other ∷ []) ≡ content_by d old (log_at d old other ∷ in_log d old k) =
              λ i. Some (record { commit = (log_at d old other).commit; items = cond (closed_decode i) (records_in (pages i)) None }) in
              let all = now ∙ whole ∙ sym then_ in
              λ i. cond (has_region d (same.size i)) (all i) None

    -- ---- put

    module _ (log : Log) (small : d ≤ 2 ^ 32) (ok : IsLog d log) (above : is_open old other ≡ true → (log_at d old other).commit < log.commit) (holds : HoldsLog new k log) where
      this_log : in_log d new k ≡ log ∷ []
      this_log = in_log_open d new k holds.gate ∙ ap (λ (l : Log). l ∷ []) (log_read d new k log small ok holds)

      pub put_logs : open_logs d new ≡ log ∷ in_log d old other
      put_logs = ⊎_elim
          (λ opened. let slot = other_slot may.pair in
          let there = log_at_same d old new other (slot.body opened) in
          let here = log_read d new k log small ok holds in
          let lt : (log_at d new other).commit < (log_at d new k).commit =
          subst (λ (x : Log). x.commit < (log_at d new k).commit) (sym there) (subst (λ (x : Log). (log_at d old other).commit < x.commit) (sym here) (above opened)) in
          let alone = in_log_open d old other opened in
          this_holds d new k other may.pair holds.gate (slot.gate ∙ opened) lt ∙ (λ i. here i ∷ there i ∷ []) ∙ (λ i. log ∷ sym alone i))
          (λ shut. other_alone d new other k (swapped may.pair) ((other_slot may.pair).gate ∙ shut) ∙ this_log ∙ ap (λ (l : List Log). log ∷ l) (sym (in_log_closed d old other shut)))
          (cases_Bool (is_open old other))
        where
          swapped : ArePair (first_log d) (second_log d) k other → ArePair (first_log d) (second_log d) other k
          swapped (inl p) = inr (p.1, p.0)
          swapped (inr p) = inl (p.1, p.0)

      pub put_decode : logs_decode d new ≡ true
      put_decode = decode_pair d new k other may.pair
          ∙ and_from (slot_decodes d new other) (slot_decodes d new k) other_decodes_now
          (cond-true (is_open new k) (log_decodes d new k) true holds.gate ∙ log_decoded d new k log small ok holds)

      pub put_page : (page : ℕ) → page < d → page_at d new page ≡ with_images log.images (page_at d old) page
      unfolding page_at
      put_page page lt = ap (λ (l : List Log). unwrap_or (image_in l page) (home_page new page)) put_logs ∙ go (logged_image log.images page)
        where
          go : (x : Option Bytes) → unwrap_or (option_or x (image_in (in_log d old other) page)) (home_page new page) ≡ unwrap_or x (page_at d old page)
          go None = (λ i. unwrap_or (image_in (in_log d old other) page) (home_same page lt i)) ∙ rest_page page lt
          go (Some image) = refl

      pub put_commits : has_region d (length old) ≡ true → copy_content d new ≡ Some (committed d old log)
      unfolding copy_content
      put_commits whole =
          let pages = map_range_same (page_at d new) (with_images log.images (page_at d old)) 0 d (λ page low high. put_page page (omega arith)) in
          cond-true (has_region d (length new)) (content_by d new (open_logs d new)) None (ap (has_region d) same.size ∙ whole)
          ∙ ap (content_by d new) put_logs
          ∙ (λ i. Some (record { commit = log.commit; items = cond (put_decode i) (records_in (pages i)) None }))
