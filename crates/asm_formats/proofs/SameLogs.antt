-- What the content of a directory copy rests on: its log slots, and the pages that count.
use Rattle.std.proofs.Common.{◌≡◌, ℕ, zero, suc, ◌+◌, ◌<◌, ◌≤◌, Bool, true, false, cond, ◌&&◌, List, [], ◌∷◌, ◌++◌, length, refl, ap, ◌∙◌, Option, Some, None, arith}
use Rattle.std.specs.Prelude.{zip}
use Rattle.std.specs.List.{list_all}
use Rattle.std.specs.Option.{is_some, unwrap_or}
use Rattle.std.proofs.lemmas.Bool.{cond-false}
use Rattle.asm_group.specs.Names.{Bytes}
use Rattle.asm_formats.specs.Bytes.{block, is_open}
use Rattle.asm_formats.specs.Regions.{log_blocks, first_log, second_log, has_region}
use Rattle.asm_formats.specs.Content.{is_page, records_in}
use Rattle.asm_formats.specs.Logs.{LogHead, PageImage, Log, log_head_at, decoded_log_head, blocks_from, images_at, log_at, log_decodes, in_log, newest_first, open_logs, slot_decodes, logs_decode, image_in}
use Rattle.asm_formats.specs.Pages.{home_page, page_at, content_by, copy_content}
use Rattle.asm_formats.proofs.Among.{cond_same, map_range_same}
use Rattle.asm_formats.proofs.Blocks.{SameSlot}
use Rattle.asm_formats.proofs.LogReading.{log_head_spelled, log_head_len}

pub blocks_from_same : (old new : Bytes) (k n : ℕ) → ((j : ℕ) → k ≤ j → j < k + n → block new j ≡ block old j) → blocks_from new k n ≡ blocks_from old k n
blocks_from_same old new k zero same = refl
blocks_from_same old new k (suc n) same = λ i. same k (omega arith) (omega arith) i ∷ blocks_from_same old new (k + 1) n (λ j low high. same j (omega arith) (omega arith)) i

-- ---- one slot

module _ (d : ℕ) (old new : Bytes) (k : ℕ) where
  module _ (same : (j : ℕ) → k < j → j < k + log_blocks → block new j ≡ block old j) where
    head_same : block new (k + 1) ≡ block old (k + 1)
    head_same = same (k + 1) (omega arith) (omega arith)

    images_same : (o : Option LogHead) → decoded_log_head d (block old (k + 1)) ≡ o → images_at new (k + 2) o ≡ images_at old (k + 2) o
    images_same None is = refl
    images_same (Some h) is =
        let few = log_head_len d h (log_head_spelled d (block old (k + 1)) h is).allowed in
        ap (λ (l : List Bytes). zip h.pages l) (blocks_from_same old new (k + 2) (length h.pages) (λ j low high. same j (omega arith) (omega (arith, few))))

    pub log_at_same : log_at d new k ≡ log_at d old k
    unfolding log_at
    log_at_same =
        let images = ap (λ (b : Bytes). images_at new (k + 2) (decoded_log_head d b)) head_same ∙ images_same (decoded_log_head d (block old (k + 1))) refl in
        λ i. record { commit = (log_head_at (head_same i)).commit; images = images i }

    log_decodes_same : log_decodes d new k ≡ log_decodes d old k
    unfolding log_decodes
    log_decodes_same = λ i. is_some (decoded_log_head d (head_same i)) && list_all (λ (p : PageImage). is_page p.1) (log_at_same i).images

  pub in_log_same : SameSlot old new k log_blocks → in_log d new k ≡ in_log d old k
  in_log_same same = cond_same (is_open new k) (is_open old k) (log_at d new k ∷ []) (log_at d old k ∷ []) [] same.gate
      (λ opened. ap (λ (l : Log). l ∷ []) (log_at_same (same.body opened)))

  pub slot_decodes_same : SameSlot old new k log_blocks → slot_decodes d new k ≡ slot_decodes d old k
  slot_decodes_same same = cond_same (is_open new k) (is_open old k) (log_decodes d new k) (log_decodes d old k) true same.gate
      (λ opened. log_decodes_same (same.body opened))

-- ---- both slots

pub record SameLogs (d : ℕ) (old new : Bytes) : Type 0 where
  pub first : SameSlot old new (first_log d) log_blocks
  pub second : SameSlot old new (second_log d) log_blocks

module _ (d : ℕ) (old new : Bytes) where
  pub open_logs_same : SameLogs d old new → open_logs d new ≡ open_logs d old
  unfolding open_logs
  open_logs_same same =
      let a = in_log_same d old new (first_log d) same.first in
      let b = in_log_same d old new (second_log d) same.second in
      λ i. newest_first (a i ++ b i)

  pub logs_decode_same : SameLogs d old new → logs_decode d new ≡ logs_decode d old
  unfolding logs_decode
  logs_decode_same same =
      let a = slot_decodes_same d old new (first_log d) same.first in
      let b = slot_decodes_same d old new (second_log d) same.second in
      λ i. a i && b i

  -- a page that counts, with the same logs
  pub page_same : open_logs d new ≡ open_logs d old → (page : ℕ) → (image_in (open_logs d old) page ≡ None → home_page new page ≡ home_page old page)
      → page_at d new page ≡ page_at d old page
  unfolding page_at
  page_same logs page home = ap (λ (l : List Log). unwrap_or (image_in l page) (home_page new page)) logs ∙ go (image_in (open_logs d old) page) home
    where
      go : (o : Option Bytes) → (o ≡ None → home_page new page ≡ home_page old page) → unwrap_or o (home_page new page) ≡ unwrap_or o (home_page old page)
      go None e = e refl
      go (Some image) e = refl

  content_by_same : (logs : List Log) → logs_decode d new ≡ logs_decode d old → ((page : ℕ) → page < d → page_at d new page ≡ page_at d old page) → content_by d new logs ≡ content_by d old logs
  content_by_same [] decode pages = refl
  content_by_same (log ∷ older) decode pages =
      let all = map_range_same (page_at d new) (page_at d old) 0 d (λ k low high. pages k (omega arith)) in
      λ i. Some (record { commit = log.commit; items = cond (decode i) (records_in (all i)) None })

  pub content_same : length new ≡ length old → open_logs d new ≡ open_logs d old → logs_decode d new ≡ logs_decode d old
      → ((page : ℕ) → page < d → page_at d new page ≡ page_at d old page) → copy_content d new ≡ copy_content d old
  unfolding copy_content
  content_same size logs decode pages =
      let whole = ap (content_by d new) logs ∙ content_by_same (open_logs d old) decode pages in
      λ i. cond (has_region d (size i)) (whole i) None

-- ---- closed slots

pub in_log_closed : (d : ℕ) (bytes : Bytes) (k : ℕ) → is_open bytes k ≡ false → in_log d bytes k ≡ []
in_log_closed d bytes k shut = cond-false (is_open bytes k) (log_at d bytes k ∷ []) [] shut

pub closed_logs : (d : ℕ) (bytes : Bytes) → is_open bytes (first_log d) ≡ false → is_open bytes (second_log d) ≡ false → open_logs d bytes ≡ []
unfolding open_logs
closed_logs d bytes first second =
    let a = in_log_closed d bytes (first_log d) first in
    let b = in_log_closed d bytes (second_log d) second in
    λ i. newest_first (a i ++ b i)

pub closed_content : (d : ℕ) (bytes : Bytes) → is_open bytes (first_log d) ≡ false → is_open bytes (second_log d) ≡ false → copy_content d bytes ≡ None
unfolding copy_content
closed_content d bytes first second =
    ap (λ (l : List Log). cond (has_region d (length bytes)) (content_by d bytes l) None) (closed_logs d bytes first second) ∙ go (has_region d (length bytes))
  where
    go : (b : Bool) → cond b (content_by d bytes []) None ≡ None
    go true = refl
    go false = refl
