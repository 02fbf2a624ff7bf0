-- The bytes of a group that was just created say what its metadata should.
use Rattle.std.proofs.Common.{◌≡◌, inl, inr, ⊎_elim, ℕ, zero, suc, ◌+◌, ◌-◌, ◌*◌, ◌<◌, ◌≤◌, ◌&&◌, true, false, List, [], ◌∷◌, ◌++◌, length, map, take, drop, replicate, get_or, slice_index, refl, sym, ap, ◌∙◌, Option, Some, None, arith, ◌==◌, lit<, lit≤, add-zero, suc-mul}
use Rattle.std.specs.Prelude.{nat_le}
use Rattle.std.specs.List.{range_with_len, list_all}
use Rattle.std.specs.Option.{option_and_then, option_map, is_some, unwrap_or}
use Rattle.std.proofs.lemmas.Bool.{cond-true, cond-false, cases_Bool, and_from, le-leb}
use Rattle.std.proofs.lemmas.List.{take_at, drop_at, drop-drop, length-append, length-replicate, length-take-le, length-drop, get_or-take, get_or-drop, get_or_append_left, append_assoc}
use Rattle.std.proofs.lemmas.Grind.{same_number_lists}
use Rattle.asm_group.specs.Shape.{is_shape}
use Rattle.asm_group.specs.Names.{is_name}
use Rattle.asm_group.specs.NewGroup.{system_templates}
use Rattle.asm_formats.specs.Bytes.{block_size, open_byte, piece, block, is_open, whole_block, number_bytes, name_field}
use Rattle.asm_formats.specs.Regions.{least_size, has_region, page_home, first_log, second_log}
use Rattle.asm_formats.specs.Sets.{has_bit, elements}
use Rattle.asm_formats.specs.Header.{Header, header_fields, header_spelling, is_header, decoded_header}
use Rattle.asm_formats.specs.Claim.{Claim, claim_spelling, is_claim, decoded_claim}
use Rattle.asm_formats.specs.Status.{Status, entry_of, entry_fields, tail_fields, front_fields, is_entry, is_status, status_spelling, decoded_status}
use Rattle.asm_formats.specs.Items.{Item, is_item}
use Rattle.asm_formats.specs.Values.{value}
use Rattle.asm_formats.specs.Records.{most_value, frame_spelling, record_spelling, decoded_record}
use Rattle.asm_formats.specs.Content.{Content, is_page, page_items, is_empty_page, with_item, with_items, records_in}
use Rattle.asm_formats.specs.Logs.{PageImage, LogHead, log_head_spelling, log_head_at, is_log_head, decoded_log_head, Log, images_at, log_at, log_decodes, in_log, newest_first, open_logs, slot_decodes, logs_decode, image_in}
use Rattle.asm_formats.specs.Pages.{page_at, pages_of, home_page, content_by, copy_content, decodes_in}
use Rattle.asm_formats.specs.Metadata.{metadata, header_of, content_of, in_slot}
use Rattle.asm_formats.proofs.Codec.{bytes_same, same_bytes}
use Rattle.asm_formats.proofs.Lengths.{len_value}
use Rattle.asm_formats.proofs.HeaderReading.{header_again, claim_again}
use Rattle.asm_formats.proofs.StatusReading.{status_again}
use Rattle.asm_formats.proofs.RecordReading.{record_again}
use Rattle.asm_formats.proofs.LogReading.{log_head_read, log_head_again}
use Rattle.asm_formats.proofs.Framing.{claims_by_slot, statuses_by_slot}
use Rattle.asm_formats.specs.Among.{IsAmong}
use Rattle.asm_images.specs.Created.{only_header, only_claim, first_record, only_disk, first_templates, first_settings, first_items, first_content, first_metadata, open_gate, zero_block, first_blocks, first_log_blocks, flat, created_bytes, CreatedBytesAre}
use Rattle.asm_images.proofs.Zeros.{zero_byte}

-- ---- rows of whole blocks

record AreBlocks (bs : List (List ℕ)) : Type 0 where
  each : (b : List ℕ) → IsAmong bs b → length b ≡ block_size

others : (b : List ℕ) (bs : List (List ℕ)) → AreBlocks (b ∷ bs) → AreBlocks bs
others b bs whole = record { each = λ c h. whole.each c (inr h) }

no_blocks : AreBlocks []
no_blocks = record { each = λ b h. absurd h }

one_block : {b : List ℕ} {bs : List (List ℕ)} → length b ≡ block_size → AreBlocks bs → AreBlocks (b ∷ bs)
one_block {b} {bs} len rest = record { each = λ c h. ⊎_elim (λ e. ap (λ (l : List ℕ). length l) e ∙ len) (λ k. rest.each c k) h }

length-flat : (bs : List (List ℕ)) → AreBlocks bs → length (flat bs) ≡ length bs * block_size
length-flat [] whole = refl
length-flat (b ∷ bs) whole = length-append b (flat bs) ∙ (omega (arith, whole.each b (inl refl), length-flat bs (others b bs whole), suc-mul (length bs) block_size))

-- a block behind n blocks
block_behind : (front rest : List ℕ) (n k : ℕ) → length front ≡ n * block_size → block (front ++ rest) (n + k) ≡ block rest k
unfolding piece
block_behind front rest n k len =
    let at : (n + k) * block_size ≡ n * block_size + k * block_size = omega arith in
    ap (λ (l : List ℕ). take block_size l) (ap (λ (j : ℕ). drop j (front ++ rest)) at ∙ sym (drop-drop (k * block_size) (n * block_size) (front ++ rest))
    ∙ ap (λ (l : List ℕ). drop (k * block_size) l) (drop_at front rest (n * block_size) len))

block_in : (bs : List (List ℕ)) (rest : List ℕ) (k : ℕ) → AreBlocks bs → k < length bs → block (flat bs ++ rest) k ≡ get_or bs k []
unfolding piece
block_in [] rest k whole lt = absurd (omega arith)
block_in (b ∷ bs) rest zero whole lt = ap (λ (l : List ℕ). take block_size l) (append_assoc b (flat bs) rest) ∙ take_at b (flat bs ++ rest) block_size (whole.each b (inl refl))
block_in (b ∷ bs) rest (suc k) whole lt =
    let shift : suc k * block_size ≡ block_size + k * block_size = omega arith in
    let back : drop (suc k * block_size) ((b ++ flat bs) ++ rest) ≡ drop (k * block_size) (flat bs ++ rest) =
    ap (λ (n : ℕ). drop n ((b ++ flat bs) ++ rest)) shift ∙ sym (drop-drop (k * block_size) block_size ((b ++ flat bs) ++ rest))
    ∙ ap (λ (l : List ℕ). drop (k * block_size) (drop block_size l)) (append_assoc b (flat bs) rest)
    ∙ ap (λ (l : List ℕ). drop (k * block_size) l) (drop_at b (flat bs ++ rest) block_size (whole.each b (inl refl))) in
    ap (λ (l : List ℕ). take block_size l) back ∙ block_in bs rest k (others b bs whole) (omega arith)

-- a block inside zeros
block_of_zeros : (n : ℕ) (rest : List ℕ) (k : ℕ) → k * block_size + block_size ≤ n → block (replicate n 0 ++ rest) k ≡ zero_block
unfolding piece
block_of_zeros n rest k le =
    let all : List ℕ = replicate n 0 ++ rest in
    let long : k * block_size + block_size ≤ length (replicate n 0 ++ rest) = omega (arith, le, length-append (replicate n 0) rest, length-replicate {A = ℕ} n 0) in
    let len : length (take block_size (drop (k * block_size) (replicate n 0 ++ rest))) ≡ block_size =
    length-take-le block_size (drop (k * block_size) (replicate n 0 ++ rest)) (omega (arith, long, length-drop (k * block_size) (replicate n 0 ++ rest))) in
    same_number_lists (take block_size (drop (k * block_size) (replicate n 0 ++ rest))) zero_block (len ∙ sym (length-replicate {A = ℕ} block_size 0))
    (λ i lt. let small : i < block_size = omega (arith, lt, len) in
    get_or-take block_size (drop (k * block_size) (replicate n 0 ++ rest)) i 0 small ∙ get_or-drop (k * block_size) (replicate n 0 ++ rest) i 0
    ∙ get_or_append_left (replicate n 0) rest 0 (k * block_size + i) (omega (arith, small, le, length-replicate {A = ℕ} n 0))
    ∙ zero_byte n (k * block_size + i) ∙ sym (zero_byte block_size i))

-- a gate is the first byte of its block
gate_of_block : (bytes : List ℕ) (k : ℕ) → slice_index bytes (k * block_size) ≡ slice_index (block bytes k) 0
unfolding piece
gate_of_block bytes k = sym (get_or-take block_size (drop (k * block_size) bytes) 0 0 (lit< tt) ∙ get_or-drop (k * block_size) bytes 0 0 ∙ ap (λ (n : ℕ). slice_index bytes n) (add-zero (k * block_size)))

-- ---- lengths of the bodies

whole_len : (fields : List ℕ) → length fields ≤ block_size → length (whole_block fields) ≡ block_size
unfolding whole_block
whole_len fields le = length-append fields (replicate (block_size - length fields) 0) ∙ omega (arith, length-replicate {A = ℕ} (block_size - length fields) 0)

open_len : length open_gate ≡ block_size
open_len = whole_len (open_byte ∷ []) (lit≤ tt)

zero_len : length zero_block ≡ block_size
zero_len = length-replicate {A = ℕ} block_size 0

header_len : length (header_spelling only_header) ≡ block_size
unfolding header_spelling header_fields number_bytes name_field
header_len = whole_len (header_fields only_header) (lit≤ tt)

claim_len : length (claim_spelling only_claim) ≡ block_size
unfolding claim_spelling number_bytes
claim_len = whole_len _ (lit≤ tt)

status_len : length (status_spelling first_record) ≡ block_size
unfolding status_spelling front_fields tail_fields number_bytes entry_fields
status_len = whole_len _ (lit≤ tt)

abbrev first_head : LogHead
first_head = record { commit = 1; pages = [] }

head_len : length (log_head_spelling first_head) ≡ block_size
unfolding log_head_spelling number_bytes
head_len = whole_len _ (lit≤ tt)

record_len : (i : Item) → is_item i ≡ true → length (record_spelling i) ≡ block_size
unfolding frame_spelling number_bytes
record_len i ok = let short : length (value i) ≤ most_value = len_value i ok in whole_len _ (omega (arith, short))

-- ---- the bodies are allowed

disk_ok : is_item only_disk ≡ true
unfolding is_item is_name
disk_ok = refl

templates_ok : is_item first_templates ≡ true
unfolding is_item is_name system_templates
templates_ok = refl

settings_ok : is_item first_settings ≡ true
unfolding is_item
settings_ok = refl

header_ok : is_header only_header ≡ true
unfolding is_header is_shape is_name
header_ok = refl

claim_ok : is_claim only_claim ≡ true
unfolding is_claim
claim_ok = refl

status_ok : is_status first_record ≡ true
unfolding is_status is_entry entry_of elements has_bit
status_ok = refl

head_ok : is_log_head 128 first_head ≡ true
unfolding is_log_head
head_ok = refl

-- ---- pages

record_starts : (i : Item) → slice_index (record_spelling i) 0 ≡ 65
unfolding frame_spelling whole_block
record_starts i = refl

not_empty : (i : Item) → is_empty_page (record_spelling i) ≡ false
not_empty i = ⊎_elim
    (λ yes. absurd (let e : 65 ≡ 0 = sym (record_starts i) ∙ ap (λ (l : List ℕ). slice_index l 0) (bytes_same (record_spelling i) zero_block yes) ∙ zero_byte block_size 0 in omega (arith, e)))
    (λ no. no) (cases_Bool (is_empty_page (record_spelling i)))

record_page : (i : Item) → is_item i ≡ true → page_items (record_spelling i) ≡ Some (i ∷ [])
unfolding page_items
record_page i ok = cond-false (is_empty_page (record_spelling i)) (Some []) (option_map (λ (j : Item). j ∷ []) (decoded_record (record_spelling i))) (not_empty i) ∙ ap (λ (o : Option Item). option_map (λ (j : Item). j ∷ []) o) (record_again i ok)

zero_page : page_items zero_block ≡ Some []
unfolding page_items
zero_page = cond-true (is_empty_page zero_block) (Some []) (option_map (λ (j : Item). j ∷ []) (decoded_record zero_block)) (same_bytes zero_block zero_block refl)

zero_pages : (pages : ℕ → List ℕ) (a n : ℕ) → ((p : ℕ) → a ≤ p → p < a + n → pages p ≡ zero_block) → records_in (map pages (range_with_len a n)) ≡ Some []
unfolding records_in
zero_pages pages a zero each = refl
zero_pages pages a (suc n) each =
    let rest : records_in (map pages (range_with_len (a + 1) n)) ≡ Some [] = zero_pages pages (a + 1) n (λ p low high. each p (omega (arith, low)) (omega (arith, high))) in
    let first : page_items (pages a) ≡ Some [] = ap page_items (each a (omega arith) (omega arith)) ∙ zero_page in
    λ i. option_and_then (λ (is : List Item). option_and_then (with_items is) (rest i)) (first i)

three_records : (a b c : List ℕ) (more : List (List ℕ)) → page_items a ≡ Some (only_disk ∷ []) → page_items b ≡ Some (first_templates ∷ []) → page_items c ≡ Some (first_settings ∷ []) → records_in more ≡ Some []
    → records_in (a ∷ b ∷ c ∷ more) ≡ Some first_items
unfolding records_in with_item
three_records a b c more first second third rest =
    λ i. option_and_then (λ (is : List Item). option_and_then (with_items is) (option_and_then (λ (js : List Item). option_and_then (with_items js) (option_and_then (λ (ks : List Item). option_and_then (with_items ks) (rest i)) (third i))) (second i))) (first i)

-- ---- the image

module _ (pages rest : ℕ) (pages_is : pages ≡ 125 * block_size) (rest_is : rest + 140 * block_size ≡ 1024 * block_size) where
  abbrev log_part : List ℕ
  log_part = flat first_log_blocks ++ replicate rest 0

  abbrev page_part : List ℕ
  page_part = replicate pages 0 ++ log_part

  abbrev bytes : List ℕ
  bytes = flat first_blocks ++ page_part

  whole : AreBlocks first_blocks
  whole = one_block open_len (one_block header_len (one_block open_len (one_block claim_len (one_block {b = zero_block} zero_len (one_block {b = zero_block} zero_len
      (one_block open_len (one_block status_len (one_block {b = zero_block} zero_len (one_block {b = zero_block} zero_len
      (one_block (record_len only_disk disk_ok) (one_block (record_len first_templates templates_ok) (one_block (record_len first_settings settings_ok) no_blocks))))))))))))

  whole_log : AreBlocks first_log_blocks
  whole_log = one_block open_len (one_block head_len no_blocks)

  front_len : length (flat first_blocks) ≡ 13 * block_size
  front_len = length-flat first_blocks whole

  log_len : length (flat first_log_blocks) ≡ 2 * block_size
  log_len = length-flat first_log_blocks whole_log

  zeros_len : length {A = ℕ} (replicate pages 0) ≡ 125 * block_size
  zeros_len = length-replicate {A = ℕ} pages 0 ∙ pages_is

  size_is : length bytes ≡ 4194304
  size_is = length-append (flat first_blocks) page_part ∙ omega (arith, front_len, length-append (replicate pages 0) log_part, zeros_len, length-append (flat first_log_blocks) (replicate rest 0), log_len, length-replicate {A = ℕ} rest 0, rest_is)

  block_is : (k : ℕ) → k < 13 → block bytes k ≡ get_or first_blocks k []
  block_is k lt = block_in first_blocks page_part k whole lt

  page_is : (k : ℕ) → k < 125 → block bytes (13 + k) ≡ zero_block
  page_is k lt = block_behind (flat first_blocks) page_part 13 k front_len ∙ block_of_zeros pages log_part k (omega (arith, lt, pages_is))

  log_block : (k : ℕ) → block bytes (13 + (125 + k)) ≡ block log_part k
  log_block k = block_behind (flat first_blocks) page_part 13 (125 + k) front_len ∙ block_behind (replicate pages 0) log_part 125 k zeros_len

  log_gate_block : block bytes 138 ≡ open_gate
  log_gate_block = log_block 0 ∙ block_in first_log_blocks (replicate rest 0) 0 whole_log (omega arith)

  log_head_block : block bytes 139 ≡ log_head_spelling first_head
  log_head_block = log_block 1 ∙ block_in first_log_blocks (replicate rest 0) 1 whole_log (omega arith)

  other_gate_block : slice_index (block bytes 204) 0 ≡ 0
  unfolding piece
  other_gate_block = ap (λ (l : List ℕ). slice_index l 0) (log_block 66 ∙ block_behind (flat first_log_blocks) (replicate rest 0) 2 64 log_len)
      ∙ get_or-take block_size (drop (64 * block_size) (replicate rest 0)) 0 0 (lit< tt) ∙ get_or-drop (64 * block_size) (replicate rest 0) 0 0 ∙ zero_byte rest (64 * block_size + 0)

  gate_is : (k : ℕ) (b : List ℕ) → block bytes k ≡ b → is_open bytes k ≡ (slice_index b 0 == open_byte)
  gate_is k b e = ap (λ (x : ℕ). x == open_byte) (gate_of_block bytes k ∙ ap (λ (l : List ℕ). slice_index l 0) e)

  opened : (slice_index open_gate 0 == open_byte) ≡ true
  unfolding whole_block
  opened = refl

  shut : (slice_index zero_block 0 == open_byte) ≡ false
  shut = refl

  header_there : header_of bytes ≡ Some only_header
  header_there =
      cond-true (nat_le least_size (length bytes) && is_open bytes 0) (decoded_header (block bytes 1)) None
      (and_from (nat_le least_size (length bytes)) (is_open bytes 0) (le-leb least_size (length bytes) (omega (arith, size_is))) (gate_is 0 open_gate (block_is 0 (omega arith)) ∙ opened))
      ∙ ap decoded_header (block_is 1 (omega arith)) ∙ header_again only_header header_ok

  slot_open : {A : Type 0} (decoded : List ℕ → Option A) (k : ℕ) → is_open bytes k ≡ true → in_slot decoded bytes k ≡ decoded (block bytes (k + 1)) ∷ []
  slot_open decoded k h = cond-true (is_open bytes k) (decoded (block bytes (k + 1)) ∷ []) [] h

  slot_shut : {A : Type 0} (decoded : List ℕ → Option A) (k : ℕ) → is_open bytes k ≡ false → in_slot decoded bytes k ≡ []
  slot_shut decoded k out = cond-false (is_open bytes k) (decoded (block bytes (k + 1)) ∷ []) [] out

  claims_there : (metadata bytes).claims ≡ Some only_claim ∷ []
  claims_there =
      let here = slot_open decoded_claim 2 (gate_is 2 open_gate (block_is 2 (omega arith)) ∙ opened) ∙ ap (λ (l : List ℕ). decoded_claim l ∷ []) (block_is 3 (omega arith)) ∙ ap (λ (o : Option Claim). o ∷ []) (claim_again only_claim claim_ok) in
      let there = slot_shut decoded_claim 4 (gate_is 4 zero_block (block_is 4 (omega arith)) ∙ shut) in
      claims_by_slot bytes ∙ (λ i. here i ++ there i)

  statuses_there : (metadata bytes).statuses ≡ Some first_record ∷ []
  statuses_there =
      let here = slot_open decoded_status 6 (gate_is 6 open_gate (block_is 6 (omega arith)) ∙ opened) ∙ ap (λ (l : List ℕ). decoded_status l ∷ []) (block_is 7 (omega arith)) ∙ ap (λ (o : Option Status). o ∷ []) (status_again first_record status_ok) in
      let there = slot_shut decoded_status 8 (gate_is 8 zero_block (block_is 8 (omega arith)) ∙ shut) in
      statuses_by_slot bytes ∙ (λ i. here i ++ there i)

  -- ---- the log

  abbrev the_log : Log
  the_log = record { commit = 1; images = [] }

  first_open : is_open bytes (first_log 128) ≡ true
  first_open = gate_is 138 open_gate log_gate_block ∙ opened

  second_shut : is_open bytes (second_log 128) ≡ false
  second_shut = ap (λ (x : ℕ). x == open_byte) (gate_of_block bytes 204 ∙ other_gate_block)

  head_decodes : decoded_log_head 128 (block bytes 139) ≡ Some first_head
  head_decodes = ap (decoded_log_head 128) log_head_block ∙ log_head_again 128 first_head (lit≤ tt) head_ok

  log_is : log_at 128 bytes (first_log 128) ≡ the_log
  unfolding log_at
  log_is =
      let commit : (log_head_at (block bytes 139)).commit ≡ 1 = ap (λ (l : List ℕ). (log_head_at l).commit) log_head_block ∙ ap (λ (h : LogHead). h.commit) (log_head_read 128 first_head (lit≤ tt) head_ok) in
      λ i. record { commit = commit i; images = images_at bytes 140 (head_decodes i) }

  logs_are : open_logs 128 bytes ≡ the_log ∷ []
  unfolding open_logs
  logs_are =
      let here : in_log 128 bytes (first_log 128) ≡ the_log ∷ [] = cond-true (is_open bytes (first_log 128)) (log_at 128 bytes (first_log 128) ∷ []) [] first_open ∙ ap (λ (l : Log). l ∷ []) log_is in
      let there : in_log 128 bytes (second_log 128) ≡ [] = cond-false (is_open bytes (second_log 128)) (log_at 128 bytes (second_log 128) ∷ []) [] second_shut in
      λ i. newest_first (here i ++ there i)

  all_decode : logs_decode 128 bytes ≡ true
  unfolding logs_decode log_decodes
  all_decode =
      let first : slot_decodes 128 bytes (first_log 128) ≡ true = cond-true (is_open bytes (first_log 128)) (log_decodes 128 bytes (first_log 128)) true first_open
      ∙ (λ i. is_some (head_decodes i) && list_all (λ (j : PageImage). is_page j.1) (log_is i).images) in
      let second : slot_decodes 128 bytes (second_log 128) ≡ true = cond-false (is_open bytes (second_log 128)) (log_decodes 128 bytes (second_log 128)) true second_shut in
      λ i. first i && second i

  -- ---- the pages

  at_home : (page : ℕ) → page_at 128 bytes page ≡ home_page bytes page
  unfolding page_at
  at_home page = ap (λ (logs : List Log). unwrap_or (image_in logs page) (home_page bytes page)) logs_are

  later_page : (p : ℕ) → 3 ≤ p → p < 3 + 125 → page_at 128 bytes p ≡ zero_block
  later_page p low high =
      let place : page_home p ≡ 13 + (p - 3) = omega arith in
      at_home p ∙ ap (block bytes) place ∙ page_is (p - 3) (omega arith)

  record_there : (p : ℕ) (i : Item) → block bytes (page_home p) ≡ record_spelling i → is_item i ≡ true → page_items (page_at 128 bytes p) ≡ Some (i ∷ [])
  record_there p i is ok = ap page_items (at_home p ∙ is) ∙ record_page i ok

  records_there : records_in (pages_of 128 bytes) ≡ Some first_items
  records_there = three_records (page_at 128 bytes 0) (page_at 128 bytes 1) (page_at 128 bytes 2) (map (page_at 128 bytes) (range_with_len 3 125))
      (record_there 0 only_disk (block_is 10 (omega arith)) disk_ok) (record_there 1 first_templates (block_is 11 (omega arith)) templates_ok) (record_there 2 first_settings (block_is 12 (omega arith)) settings_ok)
      (zero_pages (page_at 128 bytes) 3 125 later_page)

  content_there : copy_content 128 bytes ≡ Some first_content
  unfolding copy_content
  content_there =
      cond-true (has_region 128 (length bytes)) (content_by 128 bytes (open_logs 128 bytes)) None (le-leb (270 * block_size) (length bytes) (omega (arith, size_is)))
      ∙ ap (content_by 128 bytes) logs_are
      ∙ ap (λ (o : Option (List Item)). Some (content_with o)) (cond-true (logs_decode 128 bytes) (records_in (pages_of 128 bytes)) None all_decode ∙ records_there)
    where
      content_with : Option (List Item) → Content
      content_with items = record { commit = 1; items = items }

  pub metadata_there : metadata bytes ≡ first_metadata
  unfolding metadata
  metadata_there =
      let content : content_of (header_of bytes) bytes ≡ Some first_content = ap (λ (o : Option Header). content_of o bytes) header_there ∙ content_there in
      λ i. record {
        size = size_is i;
        header = header_there i;
        claims = claims_there i;
        statuses = statuses_there i;
        content = content i;
        decodes = decodes_in (content i);
      }

pub created_bytes_are : CreatedBytesAre
unfolding created_bytes
created_bytes_are pages rest pages_is rest_is = metadata_there pages rest pages_is rest_is
