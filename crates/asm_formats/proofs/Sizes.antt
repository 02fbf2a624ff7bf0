-- Each spelling is a block.
use Rattle.std.proofs.Common.{◌≡◌, ℕ, ◌+◌, ◌-◌, ◌*◌, ◌^◌, ◌≤◌, Bool, true, List, [], ◌∷◌, ◌++◌, length, map, replicate, refl, arith, w16, w32, w64, codes}
use Rattle.std.specs.List.{list_all, flat_map}
use Rattle.std.specs.Prelude.{nat_le, nat_lt}
use Rattle.std.proofs.lemmas.Bool.{and_parts, leb-true, ltb-true}
use Rattle.std.proofs.lemmas.List.{length-append, length-replicate}
use Rattle.asm_group.specs.Names.{Bytes, is_name}
use Rattle.asm_group.specs.Shape.{is_shape}
use Rattle.asm_formats.specs.Bytes.{block_size, number_bytes, name_field, whole_block}
use Rattle.asm_formats.specs.Codes.{flag, kind_code, mode_code}
use Rattle.asm_formats.specs.Sets.{most_disks}
use Rattle.asm_formats.specs.Header.{Header, form, is_header, header_fields, header_spelling}
use Rattle.asm_formats.specs.Claim.{Claim, claim_spelling}
use Rattle.asm_formats.specs.Status.{Status, Entry, entry_fields, tail_fields, front_fields, is_entry, ascends_from, is_status, status_spelling, status_spelling_1}
use Rattle.asm_formats.specs.Records.{Frame, most_value, is_frame, frame_spelling, frame_of}
use Rattle.asm_formats.specs.Logs.{LogHead, is_log_head, log_head_spelling}
use Rattle.asm_formats.specs.Codecs.{AreBlocks, AreSmall}
use Rattle.asm_formats.proofs.Fields.{name_len}
use Rattle.asm_formats.proofs.Lengths.{len16, len32, len64, len_name, len_flat_map, len_value}
use Rattle.asm_formats.proofs.LogReading.{log_head_len}
use Rattle.asm_formats.proofs.RecordReading.{item_frame}

whole_len : (fields : Bytes) → length fields ≤ block_size → length (whole_block fields) ≡ block_size
unfolding whole_block
whole_len fields le = omega (arith, length-append fields (replicate (block_size - length fields) 0), length-replicate {A = ℕ} (block_size - length fields) 0, le)

-- one field more in front
more16 : (n : ℕ) (rest : Bytes) → length (number_bytes w16 n ++ rest) ≡ 2 + length rest
more16 n rest = omega (arith, length-append (number_bytes w16 n) rest, len16 n)

more32 : (n : ℕ) (rest : Bytes) → length (number_bytes w32 n ++ rest) ≡ 4 + length rest
more32 n rest = omega (arith, length-append (number_bytes w32 n) rest, len32 n)

more64 : (n : ℕ) (rest : Bytes) → length (number_bytes w64 n ++ rest) ≡ 8 + length rest
more64 n rest = omega (arith, length-append (number_bytes w64 n) rest, len64 n)

more_name : (name rest : Bytes) → is_name name ≡ true → length (name_field 30 name ++ rest) ≡ 31 + length rest
more_name name rest ok = omega (arith, length-append (name_field 30 name) rest, len_name 30 name (name_len name ok))

-- ---- headers and claims

header_len : (h : Header) → is_header h ≡ true → length (header_spelling h) ≡ block_size
unfolding header_spelling header_fields is_header
header_len h ok =
    let a = (and_parts (is_shape h.shape) _ ok).1 in
    let b = and_parts (is_name h.group) _ a in
    let c = and_parts (nat_lt h.id (2 ^ 64)) _ b.1 in
    let d = and_parts (nat_lt h.number most_disks) _ c.1 in
    let e = and_parts (nat_lt h.birth (2 ^ 64)) _ d.1 in
    let f = and_parts (is_name h.disk) (is_name h.failgroup) e.1 in
    let s4 = number_bytes w16 h.shape.dir_blocks in
    let s3 = number_bytes w16 h.shape.step ++ s4 in
    let s2 = number_bytes w16 h.shape.sector ++ s3 in
    let s1 = number_bytes w32 h.shape.au ++ s2 in
    let n2 = name_field 30 h.failgroup ++ (flag h.quorum ∷ s1) in
    let n1 = name_field 30 h.disk ++ n2 in
    let birth = number_bytes w64 h.birth ++ (kind_code h.shape.kind ∷ n1) in
    let id = number_bytes w64 h.id ++ (h.number ∷ birth) in
    whole_len (codes "ASMH" ++ (form ∷ name_field 30 h.group ++ id)) (omega (
      arith,
      more_name h.group id b.0,
      more64 h.id (h.number ∷ birth),
      more64 h.birth (kind_code h.shape.kind ∷ n1),
      more_name h.disk n2 f.0,
      more_name h.failgroup (flag h.quorum ∷ s1) f.1,
      more32 h.shape.au s2,
      more16 h.shape.sector s3,
      more16 h.shape.step s4,
      len16 h.shape.dir_blocks,
    ))

claim_len : (c : Claim) → length (claim_spelling c) ≡ block_size
unfolding claim_spelling
claim_len c = whole_len (codes "ASMC" ++ (number_bytes w64 c.id ++ number_bytes w64 c.epoch)) (omega (arith, more64 c.id (number_bytes w64 c.epoch), len64 c.epoch))

-- ---- status records

entry_len : (e : Entry) → length (entry_fields e) ≡ 40
unfolding entry_fields
entry_len e =
    let p3 = number_bytes w64 e.partners in
    let p2 = number_bytes w64 e.repair ++ p3 in
    let p1 = number_bytes w64 e.since ++ p2 in
    let units = number_bytes w32 e.units ++ p1 in
    omega (arith, more64 e.birth (mode_code e.mode ∷ e.failgroup ∷ flag e.quorum ∷ units), more32 e.units p1, more64 e.since p2, more64 e.repair p3, len64 e.partners)

-- ascending numbers below a bound are few
few_numbers : (es : List Entry) (least : ℕ) → least ≤ most_disks → list_all is_entry es ≡ true → ascends_from least (map (λ (e : Entry). e.number) es) ≡ true → least + length es ≤ most_disks
unfolding is_entry
few_numbers [] least le ok ascends = omega (arith, le)
few_numbers (e ∷ es) least le ok ascends =
    let p = and_parts (is_entry e) (list_all is_entry es) ok in
    let q = and_parts (nat_le least e.number) (ascends_from (e.number + 1) (map (λ (e : Entry). e.number) es)) ascends in
    let below = ltb-true e.number most_disks (and_parts (nat_lt e.number most_disks) _ p.0).0 in
    omega (arith, few_numbers es (e.number + 1) (omega (arith, below)) p.1 q.1, leb-true least e.number q.0)

few_entries : (r : Status) → is_status r ≡ true → length r.entries ≤ most_disks
unfolding is_status
few_entries r ok =
    let a = and_parts (nat_lt r.id (2 ^ 64)) _ ok in
    let b = and_parts (nat_lt r.epoch (2 ^ 64)) _ a.1 in
    let c = and_parts (nat_lt r.turn (2 ^ 64)) _ b.1 in
    let d = and_parts (nat_lt r.births (2 ^ 64)) _ c.1 in
    let e = and_parts (nat_lt r.holders (2 ^ 64)) _ d.1 in
    let f = and_parts (nat_lt r.next_holders (2 ^ 64)) _ e.1 in
    let g = and_parts (nat_lt r.directories (2 ^ 64)) _ f.1 in
    let h = and_parts (list_all is_entry r.entries) _ g.1 in
    let i = and_parts (ascends_from 0 (map (λ (e : Entry). e.number) r.entries)) _ h.1 in
    omega (arith, few_numbers r.entries 0 (omega arith) h.0 i.0)

any_entry : Entry → Bool
any_entry e = true

all_any : (es : List Entry) → list_all any_entry es ≡ true
unfolding any_entry
all_any [] = refl
all_any (e ∷ es) = all_any es

tail_len : (r : Status) → length (tail_fields r) ≡ 9 + length r.entries * 40
unfolding tail_fields
tail_len r = omega (arith, more64 r.directories (length r.entries ∷ flat_map entry_fields r.entries), len_flat_map entry_fields any_entry 40 (λ e yes_. entry_len e) r.entries (all_any r.entries))

front_len : (version : ℕ) (r : Status) (rest : Bytes) → length (front_fields version r rest) ≡ 47 + length rest
unfolding front_fields
front_len version r rest =
    let q5 = number_bytes w64 r.holders ++ rest in
    let q4 = number_bytes w64 r.births ++ q5 in
    let q2 = number_bytes w64 r.turn ++ (flag r.gone ∷ q4) in
    let q1 = number_bytes w64 r.epoch ++ q2 in
    let q0 = number_bytes w64 r.id ++ q1 in
    omega (arith, more16 version q0, more64 r.id q1, more64 r.epoch q2, more64 r.turn (flag r.gone ∷ q4), more64 r.births q5, more64 r.holders rest)

status_len : (r : Status) → is_status r ≡ true → length (status_spelling r) ≡ block_size
unfolding status_spelling
status_len r ok =
    whole_len (front_fields 2 r (number_bytes w64 r.next_holders ++ tail_fields r))
    (omega (arith, front_len 2 r (number_bytes w64 r.next_holders ++ tail_fields r), more64 r.next_holders (tail_fields r), tail_len r, few_entries r ok))

status_len_1 : (r : Status) → is_status r ≡ true → length (status_spelling_1 r) ≡ block_size
unfolding status_spelling_1
status_len_1 r ok = whole_len (front_fields 1 r (tail_fields r)) (omega (arith, front_len 1 r (tail_fields r), tail_len r, few_entries r ok))

-- ---- directory records and logs

frame_len : (f : Frame) → is_frame f ≡ true → length (frame_spelling f) ≡ block_size
unfolding frame_spelling is_frame
frame_len f ok =
    let p = and_parts (nat_lt f.key.kind (2 ^ 16)) _ ok in
    let q = and_parts (nat_lt f.key.a (2 ^ 32)) _ p.1 in
    let r = and_parts (nat_lt f.key.b (2 ^ 32)) (nat_le (length f.value) most_value) q.1 in
    let t4 = replicate 16 0 ++ f.value in
    let t3 = number_bytes w16 (length f.value) ++ t4 in
    let t2 = number_bytes w32 f.key.b ++ t3 in
    let t1 = number_bytes w32 f.key.a ++ t2 in
    whole_len (codes "ASMR" ++ (number_bytes w16 f.key.kind ++ t1)) (omega (
      arith,
      more16 f.key.kind t1,
      more32 f.key.a t2,
      more32 f.key.b t3,
      more16 (length f.value) t4,
      length-append (replicate 16 0) f.value,
      leb-true (length f.value) most_value r.1,
    ))

any_page : ℕ → Bool
any_page p = true

all_pages : (ps : List ℕ) → list_all any_page ps ≡ true
unfolding any_page
all_pages [] = refl
all_pages (p ∷ ps) = all_pages ps

log_head_size : (d : ℕ) (h : LogHead) → is_log_head d h ≡ true → length (log_head_spelling h) ≡ block_size
unfolding log_head_spelling
log_head_size d h ok =
    let pages = flat_map (number_bytes w32) h.pages in
    let count = number_bytes w32 (length h.pages) ++ pages in
    whole_len (codes "ASML" ++ (number_bytes w64 h.commit ++ count)) (omega (
      arith,
      more64 h.commit count,
      more32 (length h.pages) pages,
      len_flat_map (number_bytes w32) any_page 4 (λ n any. len32 n) h.pages (all_pages h.pages),
      log_head_len d h ok,
    ))

pub are_blocks : AreBlocks
are_blocks = record {
  header = header_len;
  claim = claim_len;
  status = status_len;
  status_1 = status_len_1;
  frame = frame_len;
  record_ = λ i ok. frame_len (frame_of i) (item_frame i ok);
  log_head = log_head_size;
}

pub are_small : AreSmall
are_small = record { entries = few_entries; entry = entry_len; value_ = len_value }
