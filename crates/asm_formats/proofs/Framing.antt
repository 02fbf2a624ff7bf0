-- What a write to some bytes of a disk leaves of its metadata.
use Rattle.std.proofs.Common.{◌≡◌, inl, inr, ⊎_elim, ℕ, ◌+◌, ◌*◌, ◌-◌, ◌<◌, ◌≤◌, Bool, true, false, cond, ◌&&◌, ◌||◌, List, [], ◌∷◌, ◌++◌, length, map, filter, refl, sym, ap, subst, ◌∙◌, Option, Some, None, arith}
use Rattle.std.specs.Prelude.{nat_le}
use Rattle.std.specs.List.{list_all, list_any}
use Rattle.std.proofs.lemmas.Bool.{and_parts, le-leb, lt-leb, or_right, leb-true, cond-false}
use Rattle.std.proofs.lemmas.Option.{none-some}
use Rattle.asm_group.specs.Names.{Bytes}
use Rattle.asm_group.specs.Shape.{is_shape, is_unit_size, is_step, is_sector, is_dir_blocks}
use Rattle.asm_formats.specs.Bytes.{block_size, block, is_open}
use Rattle.asm_formats.specs.Regions.{least_size, header_gate, claim_gates, status_gates, region_start, region_end, log_blocks, first_log, second_log, log_gates}
use Rattle.asm_formats.specs.Header.{Header, is_header, header_spelling, header_at, decoded_header}
use Rattle.asm_formats.specs.Claim.{decoded_claim}
use Rattle.asm_formats.specs.Status.{decoded_status}
use Rattle.asm_formats.specs.Pages.{home_page, copy_content, decodes_in}
use Rattle.asm_formats.specs.Metadata.{metadata, in_slot, header_of, content_of}
use Rattle.asm_formats.specs.Places.{SameElsewhere, SameButBlocks, gate_place, blocks_place, slot_places, page_places, directory_places, places, is_apart_from, is_spare, IsWithin}
use Rattle.asm_formats.proofs.Codec.{spelled}
use Rattle.asm_formats.specs.Among.{IsAmong}
use Rattle.asm_formats.proofs.Among.{all_split, all_join, all_map, among_filter, cond_same}
use Rattle.asm_formats.proofs.Blocks.{SameSlot, in_slot_same, open_out, block_out, slot_before, slot_behind, slot_apart, blocks_apart}
use Rattle.asm_formats.proofs.SameLogs.{SameLogs, open_logs_same, logs_decode_same, page_same, content_same, closed_content}

-- ---- what is known of an open header

pub header_allowed : (bytes : Bytes) (h : Header) → header_of bytes ≡ Some h → is_header h ≡ true
unfolding decoded_header
header_allowed bytes h e = go (nat_le least_size (length bytes) && is_open bytes header_gate) e
  where
    go : (b : Bool) → cond b (decoded_header (block bytes 1)) None ≡ Some h → is_header h ≡ true
    go true k = (spelled is_header header_spelling (block bytes 1) (header_at (block bytes 1)) h k).allowed
    go false k = absurd (none-some h k)

pub header_blocks : (h : Header) → is_header h ≡ true → (128 ≤ h.shape.dir_blocks) × (h.shape.dir_blocks ≤ 16384)
unfolding is_header is_shape
header_blocks h ok =
    let a = and_parts (is_shape h.shape) _ ok in
    let b = and_parts (is_unit_size h.shape.au) _ a.0 in
    let c = and_parts (is_step h.shape.step) _ b.1 in
    let d = and_parts (is_sector h.shape.sector h.shape.au) (is_dir_blocks h.shape.dir_blocks) c.1 in
    let e = and_parts (nat_le 128 h.shape.dir_blocks) (nat_le h.shape.dir_blocks 16384) d.1 in
    (leb-true 128 h.shape.dir_blocks e.0, leb-true h.shape.dir_blocks 16384 e.1)

-- ---- frames

module _ (old new : Bytes) (at n : ℕ) (same : SameElsewhere old new at n) where
  pub header_same : SameSlot old new header_gate 2 → header_of new ≡ header_of old
  header_same slot =
      let gate : (nat_le least_size (length new) && is_open new header_gate) ≡ (nat_le least_size (length old) && is_open old header_gate) = λ i. nat_le least_size (same.size i) && slot.gate i in
      cond_same (nat_le least_size (length new) && is_open new header_gate) (nat_le least_size (length old) && is_open old header_gate) (decoded_header (block new 1)) (decoded_header (block old 1)) None gate
      (λ opened. ap decoded_header (slot.body (and_parts (nat_le least_size (length old)) (is_open old header_gate) opened).1 1 (omega arith) (omega arith)))

  -- a copy with the same logs and the same pages at home
  pub copy_same : (d : ℕ) → SameLogs d old new → ((page : ℕ) → page < d → home_page new page ≡ home_page old page) → copy_content d new ≡ copy_content d old
  copy_same d logs homes =
      let open_ = open_logs_same d old new logs in
      content_same d old new same.size open_ (logs_decode_same d old new logs) (λ page lt. page_same d old new open_ page (λ none. homes page lt))

  content_apart : (o : Option Header) → list_all (is_apart_from at n) (directory_places old o) ≡ true → content_of o new ≡ content_of o old
  content_apart None h = refl
  content_apart (Some x) h = go (is_open old (first_log d)) (is_open old (second_log d)) refl refl parts.1
    where
      d : ℕ
      d = x.shape.dir_blocks

      parts : (list_all (is_apart_from at n) (slot_places old (log_blocks - 1) (log_gates d)) ≡ true) × (list_all (is_apart_from at n) (page_places old d) ≡ true)
      parts = all_split (is_apart_from at n) (slot_places old (log_blocks - 1) (log_gates d)) (page_places old d) h

      logs : SameLogs d old new
      logs = record {
        first = slot_apart old new at n same (log_blocks - 1) (log_gates d) parts.0 (first_log d) (inl refl);
        second = slot_apart old new at n same (log_blocks - 1) (log_gates d) parts.0 (second_log d) (inr (inl refl));
      }

      homes : is_apart_from at n (blocks_place region_start d) ≡ true → copy_content d new ≡ copy_content d old
      homes out = copy_same d logs (λ page lt. blocks_apart old new at n same region_start d out (region_start + page) (omega arith) (omega arith))

      go : (a b : Bool) → is_open old (first_log d) ≡ a → is_open old (second_log d) ≡ b
          → list_all (is_apart_from at n) (cond (a || (b || false)) (blocks_place region_start d ∷ []) []) ≡ true → copy_content d new ≡ copy_content d old
      go true b first second out = homes (and_parts (is_apart_from at n (blocks_place region_start d)) true out).0
      go false true first second out = homes (and_parts (is_apart_from at n (blocks_place region_start d)) true out).0
      go false false first second out = closed_content d new (logs.first.gate ∙ first) (logs.second.gate ∙ second) ∙ sym (closed_content d old first second)

  -- a write before the directory region
  pub content_behind : at + n ≤ region_start * block_size → (o : Option Header) → content_of o new ≡ content_of o old
  content_behind high None = refl
  content_behind high (Some h) =
      let d = h.shape.dir_blocks in
      let logs : SameLogs d old new = record { first = slot_behind old new at n same (first_log d) log_blocks (omega arith); second = slot_behind old new at n same (second_log d) log_blocks (omega arith) } in
      copy_same d logs (λ page lt. block_out old new at n same (region_start + page) (inl (omega arith)))

  pub metadata_same : is_spare old at n ≡ true → metadata new ≡ metadata old
  unfolding metadata places
  metadata_same h =
      let apart = is_apart_from at n in
      let a = all_split apart (slot_places old 1 (header_gate ∷ [])) (slot_places old 1 claim_gates ++ (slot_places old 1 status_gates ++ directory_places old (header_of old))) h in
      let b = all_split apart (slot_places old 1 claim_gates) (slot_places old 1 status_gates ++ directory_places old (header_of old)) a.1 in
      let c = all_split apart (slot_places old 1 status_gates) (directory_places old (header_of old)) b.1 in
      let header = header_same (slot_apart old new at n same 1 (header_gate ∷ []) a.0 header_gate (inl refl)) in
      let claim_1 = in_slot_same decoded_claim old new 2 (slot_apart old new at n same 1 claim_gates b.0 2 (inl refl)) in
      let claim_2 = in_slot_same decoded_claim old new 4 (slot_apart old new at n same 1 claim_gates b.0 4 (inr (inl refl))) in
      let status_1 = in_slot_same decoded_status old new 6 (slot_apart old new at n same 1 status_gates c.0 6 (inl refl)) in
      let status_2 = in_slot_same decoded_status old new 8 (slot_apart old new at n same 1 status_gates c.0 8 (inr (inl refl))) in
      let content : content_of (header_of new) new ≡ content_of (header_of old) old = ap (λ (o : Option Header). content_of o new) header ∙ content_apart (header_of old) c.1 in
      λ i. record {
        size = same.size i;
        header = header i;
        claims = claim_1 i ++ claim_2 i;
        statuses = status_1 i ++ status_2 i;
        content = content i;
        decodes = decodes_in (content i);
      }

  -- ---- by region

  pub header_before : 2 * block_size ≤ at → header_of new ≡ header_of old
  header_before low = header_same (slot_before old new at n same header_gate 2 (omega arith) (omega arith))

  pub header_write : IsWithin 0 2 at n → metadata new ≡ record (metadata old) { header = (metadata new).header; content = (metadata new).content; decodes = (metadata new).decodes }
  unfolding metadata
  header_write range =
      let claim_1 = in_slot_same decoded_claim old new 2 (slot_behind old new at n same 2 2 (omega (arith, range.1))) in
      let claim_2 = in_slot_same decoded_claim old new 4 (slot_behind old new at n same 4 2 (omega (arith, range.1))) in
      let status_1 = in_slot_same decoded_status old new 6 (slot_behind old new at n same 6 2 (omega (arith, range.1))) in
      let status_2 = in_slot_same decoded_status old new 8 (slot_behind old new at n same 8 2 (omega (arith, range.1))) in
      λ i. record {
        size = same.size i;
        header = (metadata new).header;
        claims = claim_1 i ++ claim_2 i;
        statuses = status_1 i ++ status_2 i;
        content = (metadata new).content;
        decodes = (metadata new).decodes;
      }

  pub copy_behind : at + n ≤ region_start * block_size → (d : ℕ) → copy_content d new ≡ copy_content d old
  copy_behind high d =
      let logs : SameLogs d old new = record { first = slot_behind old new at n same (first_log d) log_blocks (omega arith); second = slot_behind old new at n same (second_log d) log_blocks (omega arith) } in
      copy_same d logs (λ page lt. block_out old new at n same (region_start + page) (inl (omega arith)))

  pub claim_write : IsWithin 2 6 at n → metadata new ≡ record (metadata old) { claims = (metadata new).claims }
  unfolding metadata
  claim_write range =
      let header = header_before range.0 in
      let status_1 = in_slot_same decoded_status old new 6 (slot_behind old new at n same 6 2 (omega (arith, range.1))) in
      let status_2 = in_slot_same decoded_status old new 8 (slot_behind old new at n same 8 2 (omega (arith, range.1))) in
      let content : content_of (header_of new) new ≡ content_of (header_of old) old = ap (λ (o : Option Header). content_of o new) header ∙ content_behind (omega (arith, range.1)) (header_of old) in
      λ i. record {
        size = same.size i;
        header = header i;
        claims = (metadata new).claims;
        statuses = status_1 i ++ status_2 i;
        content = content i;
        decodes = decodes_in (content i);
      }

  pub status_write : IsWithin 6 10 at n → metadata new ≡ record (metadata old) { statuses = (metadata new).statuses }
  unfolding metadata
  status_write range =
      let header = header_before (omega (arith, range.0)) in
      let claim_1 = in_slot_same decoded_claim old new 2 (slot_before old new at n same 2 2 (omega (arith, range.0)) (omega arith)) in
      let claim_2 = in_slot_same decoded_claim old new 4 (slot_before old new at n same 4 2 (omega (arith, range.0)) (omega arith)) in
      let content : content_of (header_of new) new ≡ content_of (header_of old) old = ap (λ (o : Option Header). content_of o new) header ∙ content_behind (omega (arith, range.1)) (header_of old) in
      λ i. record {
        size = same.size i;
        header = header i;
        claims = claim_1 i ++ claim_2 i;
        statuses = (metadata new).statuses;
        content = content i;
        decodes = decodes_in (content i);
      }

  pub directory_write : region_start * block_size ≤ at → metadata new ≡ record (metadata old) { content = (metadata new).content; decodes = (metadata new).decodes }
  unfolding metadata
  directory_write low =
      let header = header_before (omega arith) in
      let claim_1 = in_slot_same decoded_claim old new 2 (slot_before old new at n same 2 2 (omega arith) (omega arith)) in
      let claim_2 = in_slot_same decoded_claim old new 4 (slot_before old new at n same 4 2 (omega arith) (omega arith)) in
      let status_1 = in_slot_same decoded_status old new 6 (slot_before old new at n same 6 2 (omega arith) (omega arith)) in
      let status_2 = in_slot_same decoded_status old new 8 (slot_before old new at n same 8 2 (omega arith) (omega arith)) in
      λ i. record {
        size = same.size i;
        header = header i;
        claims = claim_1 i ++ claim_2 i;
        statuses = status_1 i ++ status_2 i;
        content = (metadata new).content;
        decodes = (metadata new).decodes;
      }

  -- where the content of the copy is the same, so is all
  pub directory_same : region_start * block_size ≤ at → content_of (header_of old) new ≡ content_of (header_of old) old → metadata new ≡ metadata old
  unfolding metadata
  directory_same low kept =
      let whole = directory_write low in
      let content : content_of (header_of new) new ≡ content_of (header_of old) old = ap (λ (o : Option Header). content_of o new) (header_before (omega arith)) ∙ kept in
      whole ∙ (λ i. record (metadata old) { content = content i; decodes = decodes_in (content i) })

-- ---- behind the directory region

ends_before : (at n from len : ℕ) → from + len ≤ at → is_apart_from at n (from, len) ≡ true
ends_before at n from len le = or_right (nat_le (at + n) from) (nat_le (from + len) at) (le-leb (from + len) at le)

slots_before : (bytes : Bytes) (at n len : ℕ) (gates : List ℕ) → ((k : ℕ) → IsAmong gates k → (k + 1 + len) * block_size ≤ at) → list_all (is_apart_from at n) (slot_places bytes len gates) ≡ true
slots_before bytes at n len gates low = all_join (is_apart_from at n) (map gate_place gates) (map (λ k. blocks_place (k + 1) len) (filter (is_open bytes) gates))
    (all_map (is_apart_from at n) gate_place gates (λ k h. ends_before at n (k * block_size) 1 (omega (arith, low k h))))
    (all_map (is_apart_from at n) (λ k. blocks_place (k + 1) len) (filter (is_open bytes) gates)
    (λ k h. ends_before at n ((k + 1) * block_size) (len * block_size) (omega (arith, low k (among_filter (is_open bytes) gates k h)))))

-- one gate, and two
one_of : (P : ℕ → Type 0) (a k : ℕ) → P a → IsAmong (a ∷ []) k → P k
one_of P a k here h = ⊎_elim (λ e. subst P (sym e) here) (λ none. absurd none) h

one_of_two : (P : ℕ → Type 0) (a b k : ℕ) → P a → P b → IsAmong (a ∷ b ∷ []) k → P k
one_of_two P a b k first second h = ⊎_elim (λ e. subst P (sym e) first) (λ l. one_of P b k second l) h

pub user_bytes_are_spare : (bytes : Bytes) (h : Header) (at n : ℕ) → header_of bytes ≡ Some h → region_end h.shape.dir_blocks * block_size ≤ at → is_spare bytes at n ≡ true
unfolding places
user_bytes_are_spare bytes h at n is le =
    let d = h.shape.dir_blocks in
    let many = (header_blocks h (header_allowed bytes h is)).0 in
    let apart = is_apart_from at n in
    let header = slots_before bytes at n 1 (header_gate ∷ []) (λ k m. one_of (λ j. (j + 1 + 1) * block_size ≤ at) 0 k (omega arith) m) in
    let claims = slots_before bytes at n 1 claim_gates (λ k m. one_of_two (λ j. (j + 1 + 1) * block_size ≤ at) 2 4 k (omega arith) (omega arith) m) in
    let statuses = slots_before bytes at n 1 status_gates (λ k m. one_of_two (λ j. (j + 1 + 1) * block_size ≤ at) 6 8 k (omega arith) (omega arith) m) in
    let logs = slots_before bytes at n (log_blocks - 1) (log_gates d) (λ k m. one_of_two (λ j. (j + 1 + 65) * block_size ≤ at) (first_log d) (second_log d) k (omega arith) (omega arith) m) in
    let pages : list_all apart (page_places bytes d) ≡ true = page_case (list_any (is_open bytes) (log_gates d)) d (ends_before at n (region_start * block_size) (d * block_size) (omega arith)) in
    let directory : list_all apart (directory_places bytes (header_of bytes)) ≡ true = ap (λ (o : Option Header). list_all apart (directory_places bytes o)) is
    ∙ all_join apart (slot_places bytes (log_blocks - 1) (log_gates d)) (page_places bytes d) logs pages in
    all_join apart (slot_places bytes 1 (header_gate ∷ [])) (slot_places bytes 1 claim_gates ++ (slot_places bytes 1 status_gates ++ directory_places bytes (header_of bytes))) header
    (all_join apart (slot_places bytes 1 claim_gates) (slot_places bytes 1 status_gates ++ directory_places bytes (header_of bytes)) claims
    (all_join apart (slot_places bytes 1 status_gates) (directory_places bytes (header_of bytes)) statuses directory))
  where
    page_case : (b : Bool) (d : ℕ) → is_apart_from at n (blocks_place region_start d) ≡ true → list_all (is_apart_from at n) (cond b (blocks_place region_start d ∷ []) []) ≡ true
    page_case true d out = ap (λ (x : Bool). x && true) out
    page_case false d out = refl

pub user_write : (old new : Bytes) (h : Header) (at n : ℕ) → SameElsewhere old new at n → header_of old ≡ Some h → region_end h.shape.dir_blocks * block_size ≤ at → metadata new ≡ metadata old
user_write old new h at n same is le = metadata_same old new at n same (user_bytes_are_spare old h at n is le)

pub claims_by_slot : (bytes : Bytes) → (metadata bytes).claims ≡ in_slot decoded_claim bytes 2 ++ in_slot decoded_claim bytes 4
unfolding metadata
claims_by_slot bytes = refl

pub statuses_by_slot : (bytes : Bytes) → (metadata bytes).statuses ≡ in_slot decoded_status bytes 6 ++ in_slot decoded_status bytes 8
unfolding metadata
statuses_by_slot bytes = refl

-- ---- a copy with closed log slots

pub closed_write : (old new : Bytes) (h : Header) → header_of old ≡ Some h
    → is_open old (first_log h.shape.dir_blocks) ≡ false → is_open old (second_log h.shape.dir_blocks) ≡ false
    → SameButBlocks old new region_start h.shape.dir_blocks → metadata new ≡ metadata old
closed_write old new h is first second same =
    let d = h.shape.dir_blocks in
    let gate_1 = open_out old new (region_start * block_size) (d * block_size) same (first_log d) (inl (omega arith)) in
    let gate_2 = open_out old new (region_start * block_size) (d * block_size) same (second_log d) (inl (omega arith)) in
    let none : copy_content d new ≡ copy_content d old = closed_content d new (gate_1 ∙ first) (gate_2 ∙ second) ∙ sym (closed_content d old first second) in
    directory_same old new (region_start * block_size) (d * block_size) same (omega arith)
    (ap (λ (o : Option Header). content_of o new) is ∙ none ∙ sym (ap (λ (o : Option Header). content_of o old) is))

-- ---- short images

pub short_header : (bytes : Bytes) → length bytes < least_size → (metadata bytes).header ≡ None
unfolding metadata
short_header bytes lt = cond-false (nat_le least_size (length bytes) && is_open bytes header_gate) (decoded_header (block bytes 1)) None (ap (λ (b : Bool). b && is_open bytes header_gate) (lt-leb least_size (length bytes) lt))
