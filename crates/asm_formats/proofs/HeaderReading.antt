-- The header and the claim are read as they were written.
use Rattle.std.proofs.Common.{◌≡◌, ⊎_elim, ℕ, ◌-◌, ◌*◌, ◌%◌, ◌^◌, ◌<◌, ◌≤◌, true, ltb, ◌||◌, ◌∷◌, ◌++◌, length, replicate, refl, ap, ◌∙◌, Some, arith, append_assoc, w16, w32, w64, codes, ◌==◌}
use Rattle.std.specs.Int.{is_in_range}
use Rattle.std.specs.Prelude.{nat_le, nat_lt}
use Rattle.std.proofs.lemmas.Bool.{and_parts, or_cases, eqb-true, ltb-true, leb-true}
use Rattle.asm_group.specs.declared.GroupKind.{GroupKind}
use Rattle.asm_group.specs.declared.GroupKind.TheVariants.{External, Normal, High}
use Rattle.asm_group.specs.Names.{Bytes, is_name}
use Rattle.asm_group.specs.Shape.{is_shape, is_unit_size, is_step, is_sector, unit_sizes}
use Rattle.asm_formats.specs.Bytes.{number_bytes, name_field, whole_block, block_size}
use Rattle.asm_formats.specs.Codes.{kind_code, group_kind_of, flag}
use Rattle.asm_formats.specs.Header.{Header, form, header_fields, header_spelling, header_at, is_header, decoded_header}
use Rattle.asm_formats.specs.Claim.{Claim, claim_spelling, claim_at, is_claim, decoded_claim}
use Rattle.asm_formats.proofs.Codec.{own_spelling}
use Rattle.asm_formats.proofs.Fields.{number16, number32, number64, name_again, name_len, flag_again, join, after, passes_if_all}

kind_again : (k : GroupKind) → group_kind_of (kind_code k) ≡ k
kind_again External = refl
kind_again Normal = refl
kind_again High = refl

-- ---- the claim

claim_fields : (c : Claim) (zeros : Bytes) → c.id < 2 ^ 64 → c.epoch < 2 ^ 64 → claim_at ((codes "ASMC" ++ (number_bytes w64 c.id ++ number_bytes w64 c.epoch)) ++ zeros) ≡ c
unfolding claim_at
claim_fields c zeros id epoch = rw (append_assoc (number_bytes w64 c.id) (number_bytes w64 c.epoch) zeros, number64 c.id (number_bytes w64 c.epoch ++ zeros) id, number64 c.epoch zeros epoch) refl

pub claim_again : (c : Claim) → is_claim c ≡ true → decoded_claim (claim_spelling c) ≡ Some c
unfolding decoded_claim claim_spelling whole_block is_claim
claim_again c ok =
    let p = and_parts (nat_lt c.id (2 ^ 64)) (nat_lt c.epoch (2 ^ 64)) ok in
    let fields = codes "ASMC" ++ (number_bytes w64 c.id ++ number_bytes w64 c.epoch) in
    own_spelling is_claim claim_spelling c (claim_at (claim_spelling c)) ok
    (claim_fields c (replicate (block_size - length fields) 0) (ltb-true c.id (2 ^ 64) p.0) (ltb-true c.epoch (2 ^ 64) p.1))

-- ---- the header

record HeaderFits (h : Header) : Type 0 where
  group : length h.group ≤ 30
  id : h.id < 2 ^ 64
  birth : h.birth < 2 ^ 64
  disk : length h.disk ≤ 30
  failgroup : length h.failgroup ≤ 30
  au : h.shape.au < 2 ^ 32
  sector : h.shape.sector < 2 ^ 16
  step : h.shape.step < 2 ^ 16
  dir_blocks : h.shape.dir_blocks < 2 ^ 16

module _ (h : Header) (zeros : Bytes) where
  abbrev r12 : Bytes
  r12 = number_bytes w16 h.shape.dir_blocks ++ zeros

  abbrev r11 : Bytes
  r11 = number_bytes w16 h.shape.step ++ r12

  abbrev r10 : Bytes
  r10 = number_bytes w16 h.shape.sector ++ r11

  abbrev r9 : Bytes
  r9 = number_bytes w32 h.shape.au ++ r10

  abbrev r8 : Bytes
  r8 = flag h.quorum ∷ r9

  abbrev r7 : Bytes
  r7 = name_field 30 h.failgroup ++ r8

  abbrev r6 : Bytes
  r6 = name_field 30 h.disk ++ r7

  abbrev r5 : Bytes
  r5 = kind_code h.shape.kind ∷ r6

  abbrev r4 : Bytes
  r4 = number_bytes w64 h.birth ++ r5

  abbrev r3 : Bytes
  r3 = h.number ∷ r4

  abbrev r2 : Bytes
  r2 = number_bytes w64 h.id ++ r3

  abbrev r1 : Bytes
  r1 = name_field 30 h.group ++ r2

  in_a_row : header_fields h ++ zeros ≡ codes "ASMH" ++ (form ∷ r1)
  unfolding header_fields
  in_a_row =
      let e11 = append_assoc (number_bytes w16 h.shape.step) (number_bytes w16 h.shape.dir_blocks) zeros in
      let e10 = join (number_bytes w16 h.shape.sector) _ r11 zeros e11 in
      let e9 = join (number_bytes w32 h.shape.au) _ r10 zeros e10 in
      let e8 = after (flag h.quorum) _ r9 zeros e9 in
      let e7 = join (name_field 30 h.failgroup) _ r8 zeros e8 in
      let e6 = join (name_field 30 h.disk) _ r7 zeros e7 in
      let e5 = after (kind_code h.shape.kind) _ r6 zeros e6 in
      let e4 = join (number_bytes w64 h.birth) _ r5 zeros e5 in
      let e3 = after h.number _ r4 zeros e4 in
      let e2 = join (number_bytes w64 h.id) _ r3 zeros e3 in
      let e1 = join (name_field 30 h.group) _ r2 zeros e2 in
      ap (λ (l : Bytes). codes "ASMH" ++ (form ∷ l)) e1

  header_fields_at : HeaderFits h → header_at (codes "ASMH" ++ (form ∷ r1)) ≡ h
  unfolding header_at
  header_fields_at fits =
      rw (
        name_again 30 h.group r2 fits.group,
        number64 h.id r3 fits.id,
        number64 h.birth r5 fits.birth,
        name_again 30 h.disk r7 fits.disk,
        name_again 30 h.failgroup r8 fits.failgroup,
        number32 h.shape.au r10 fits.au,
        number16 h.shape.sector r11 fits.sector,
        number16 h.shape.step r12 fits.step,
        number16 h.shape.dir_blocks zeros fits.dir_blocks,
        kind_again h.shape.kind,
        flag_again h.quorum,
      ) refl

unit_size_below : (au : ℕ) → is_unit_size au ≡ true → au < 2 ^ 32
unit_size_below au h = ltb-true au (2 ^ 32) (passes_if_all (λ n. ltb n (2 ^ 32)) au unit_sizes h refl)

sector_below : (sector au : ℕ) → is_sector sector au ≡ true → sector < 2 ^ 16
sector_below sector au h =
    let p = and_parts (sector == 512 || sector == 4096) (nat_le (8 * sector) au) h in
    ⊎_elim (λ a. omega (arith, eqb-true sector 512 a)) (λ b. omega (arith, eqb-true sector 4096 b)) (or_cases (sector == 512) (sector == 4096) p.0)

header_fits : (h : Header) → is_header h ≡ true → HeaderFits h
unfolding is_header is_shape
header_fits h ok =
    let a = and_parts (is_shape h.shape) _ ok in
    let b = and_parts (is_name h.group) _ a.1 in
    let c = and_parts (nat_lt h.id (2 ^ 64)) _ b.1 in
    let d = and_parts (nat_lt h.number 64) _ c.1 in
    let e = and_parts (nat_lt h.birth (2 ^ 64)) _ d.1 in
    let f = and_parts (is_name h.disk) (is_name h.failgroup) e.1 in
    let s = and_parts (is_unit_size h.shape.au) _ a.0 in
    let t = and_parts (is_step h.shape.step) _ s.1 in
    let u = and_parts (is_sector h.shape.sector h.shape.au) _ t.1 in
    let v = and_parts (is_in_range 8 20000 h.shape.step) (h.shape.step % 8 == 0) t.0 in
    let w = and_parts (nat_le 8 h.shape.step) (nat_le h.shape.step 20000) v.0 in
    let x = and_parts (nat_le 128 h.shape.dir_blocks) (nat_le h.shape.dir_blocks 16384) u.1 in
    record {
      group = name_len h.group b.0;
      id = ltb-true h.id (2 ^ 64) c.0;
      birth = ltb-true h.birth (2 ^ 64) e.0;
      disk = name_len h.disk f.0;
      failgroup = name_len h.failgroup f.1;
      au = unit_size_below h.shape.au s.0;
      sector = sector_below h.shape.sector h.shape.au u.0;
      step = omega (arith, leb-true h.shape.step 20000 w.1);
      dir_blocks = omega (arith, leb-true h.shape.dir_blocks 16384 x.1);
    }

pub header_again : (h : Header) → is_header h ≡ true → decoded_header (header_spelling h) ≡ Some h
unfolding decoded_header header_spelling whole_block
header_again h ok =
    let zeros = replicate (block_size - length (header_fields h)) 0 in
    own_spelling is_header header_spelling h (header_at (header_spelling h)) ok
    (ap header_at (in_a_row h zeros) ∙ header_fields_at h zeros (header_fits h ok))
