-- A header is read from its one spelling alone.
use Rattle.std.proofs.Common.{◌≡◌, ℕ, zero, suc, ◌*◌, ◌%◌, ◌^◌, ◌<◌, ◌≤◌, Bool, true, false, leb, ltb, eqb, cond, List, [], ◌∷◌, ◌++◌, length, Option, Some, None, refl, sym, ap, subst, ◌∙◌, append_assoc, arith}
use Rattle.std.specs.Prelude.{◌&&◌, ◌||◌, codes}
use Rattle.std.specs.Int.{w16, w32, w64}
use Rattle.std.specs.Option.{option_and_then}
use Rattle.std.proofs.lemmas.Bool.{and_parts, eqb-true, leb-true, ltb-true, lt-ltb}
use Rattle.asm_group.specs.declared.GroupKind.{GroupKind}
use Rattle.asm_group.specs.declared.GroupKind.TheVariants.{External, Normal, High}
use Rattle.asm_group.specs.Names.{is_name, is_part}
use Rattle.asm_group.specs.Shape.{Shape, is_shape, is_unit_size, is_step, is_sector, is_dir_blocks, unit_sizes}
use Rattle.asm_formats.specs.Bytes.{number_bytes, name_field, whole_block}
use Rattle.asm_formats.specs.Codes.{flag, kind_code}
use Rattle.asm_formats.specs.Header.{Header, form, header_fields, header_spelling, is_header, decoded_header}
use Rattle.asm_formats.proofs.Bodies.{header_codec}
use Rattle.asm_formats.proofs.Fields.{passes_if_all}
use Rattle.asm_base.specs.Readings.{both, whole_reading, name_reading}
use Rattle.asm_base.proofs.Exact.{IsBytes, IsExact, both_exact, as_exact, fits_exact}
use Rattle.asm_base.proofs.Numbers.{number_exact}
use Rattle.byte_codes.proofs.WordLaws.{kind_exact}
use Rattle.asm_base.proofs.FieldLaws.{byte_exact, flag_exact, fixed_exact}
use Rattle.asm_base.proofs.NameLaws.{name_exact, name_is_part, name_is_short}
use Rattle.asm_base.proofs.Decoding.{block_is_decoded}
use Rattle.disk_header.specs.declared.reading.Ids.{Ids}
use Rattle.disk_header.specs.declared.reading.Sizes.{Sizes}
use Rattle.disk_header.specs.Readings.{IdParts, to_ids, ids_reading, SizeParts, to_sizes, sizes_reading, HeaderParts, to_header, header_reading, is_right_header, right_header}

-- ---- the groups of fields

ids_fields : Ids → List ℕ
ids_fields i = number_bytes w64 i.id ++ (i.number ∷ number_bytes w64 i.birth ++ (kind_code i.kind ∷ []))

record FitsIds (i : Ids) : Type 0 where
  id : i.id < 2 ^ 64
  number : i.number < 2 ^ 8
  birth : i.birth < 2 ^ 64

of_ids : Ids → IdParts
of_ids i = (i.id, (i.number, (i.birth, i.kind)))

ids_exact : IsExact ids_fields FitsIds ids_reading
unfolding ids_reading ids_fields of_ids
ids_exact =
    let fields = both_exact (number_exact w64) (both_exact byte_exact (both_exact (number_exact w64) kind_exact)) in
    fits_exact (λ i f. record { id = f.0; number = f.1.0; birth = f.1.1.0 }) (λ i f. (f.id, (f.number, (f.birth, tt))))
    (as_exact to_ids of_ids (λ p. refl) (λ i. refl) fields)

sizes_fields : Sizes → List ℕ
sizes_fields s = flag s.quorum ∷ number_bytes w32 s.au_size ++ (number_bytes w16 s.sector ++ (number_bytes w16 s.step ++ number_bytes w16 s.dir_blocks))

record FitsSizes (s : Sizes) : Type 0 where
  au : s.au_size < 2 ^ 32
  sector : s.sector < 2 ^ 16
  step : s.step < 2 ^ 16
  dir_blocks : s.dir_blocks < 2 ^ 16

of_sizes : Sizes → SizeParts
of_sizes s = (s.quorum, (s.au_size, (s.sector, (s.step, s.dir_blocks))))

sizes_exact : IsExact sizes_fields FitsSizes sizes_reading
unfolding sizes_reading sizes_fields of_sizes
sizes_exact =
    let fields = both_exact flag_exact (both_exact (number_exact w32) (both_exact (number_exact w16) (both_exact (number_exact w16) (number_exact w16)))) in
    fits_exact (λ s f. record { au = f.1.0; sector = f.1.1.0; step = f.1.1.1.0; dir_blocks = f.1.1.1.1 }) (λ s f. (tt, (f.au, (f.sector, (f.step, f.dir_blocks)))))
    (as_exact to_sizes of_sizes (λ p. refl) (λ s. refl) fields)

-- ---- the header

ids_of : Header → Ids
ids_of h = record { id = h.id; number = h.number; birth = h.birth; kind = h.shape.kind }

sizes_of : Header → Sizes
sizes_of h = record { quorum = h.quorum; au_size = h.shape.au; sector = h.shape.sector; step = h.shape.step; dir_blocks = h.shape.dir_blocks }

of_header : Header → HeaderParts
of_header h = (tt, (h.group, (ids_of h, (h.disk, (h.failgroup, sizes_of h)))))

-- the same bytes, in these groups
grouped : Header → List ℕ
grouped h = (codes "ASMH" ++ form ∷ []) ++ (name_field 30 h.group ++ (ids_fields (ids_of h) ++ (name_field 30 h.disk ++ (name_field 30 h.failgroup ++ sizes_fields (sizes_of h)))))

record FitsHeader (h : Header) : Type 0 where
  group : is_part 30 h.group ≡ true
  ids : FitsIds (ids_of h)
  disk : is_part 30 h.disk ≡ true
  failgroup : is_part 30 h.failgroup ≡ true
  sizes : FitsSizes (sizes_of h)

tag_bytes : IsBytes (codes "ASMH" ++ form ∷ [])
tag_bytes zero = omega arith
tag_bytes (suc zero) = omega arith
tag_bytes (suc (suc zero)) = omega arith
tag_bytes (suc (suc (suc zero))) = omega arith
tag_bytes (suc (suc (suc (suc zero)))) = omega arith
tag_bytes (suc (suc (suc (suc (suc i))))) = omega arith

header_exact : IsExact grouped FitsHeader header_reading
unfolding header_reading grouped of_header ids_of sizes_of
header_exact =
    let named = name_exact 30 (omega arith) in
    let fields = both_exact (fixed_exact (codes "ASMH" ++ form ∷ []) tag_bytes) (both_exact named (both_exact ids_exact (both_exact named (both_exact named sizes_exact)))) in
    fits_exact (λ h f. record { group = f.1.0; ids = f.1.1.0; disk = f.1.1.1.0; failgroup = f.1.1.1.1.0; sizes = f.1.1.1.1.1 }) (λ h f. (tt, (f.group, (f.ids, (f.disk, (f.failgroup, f.sizes))))))
    (as_exact to_header of_header (λ p. refl) (λ h. refl) fields)

spelling_is_grouped : (h : Header) → header_spelling h ≡ whole_block (grouped h)
unfolding header_spelling header_fields grouped ids_fields sizes_fields ids_of sizes_of
spelling_is_grouped h =
    let behind : List ℕ = name_field 30 h.disk ++ (name_field 30 h.failgroup ++ sizes_fields (sizes_of h)) in
    let birth : (number_bytes w64 h.birth ++ (kind_code h.shape.kind ∷ [])) ++ behind ≡ number_bytes w64 h.birth ++ (kind_code h.shape.kind ∷ behind) = append_assoc (number_bytes w64 h.birth) (kind_code h.shape.kind ∷ []) behind in
    let id : ids_fields (ids_of h) ++ behind ≡ number_bytes w64 h.id ++ (h.number ∷ number_bytes w64 h.birth ++ (kind_code h.shape.kind ∷ behind)) =
    append_assoc (number_bytes w64 h.id) (h.number ∷ number_bytes w64 h.birth ++ (kind_code h.shape.kind ∷ [])) behind ∙ ap (λ (r : List ℕ). number_bytes w64 h.id ++ (h.number ∷ r)) birth in
    ap (λ (r : List ℕ). whole_block (codes "ASMH" ++ (form ∷ name_field 30 h.group ++ r))) (sym id)

-- ---- what a header may be

shape_fits : (s : Shape) → is_shape s ≡ true → (s.au < 2 ^ 32) × ((s.sector < 2 ^ 16) × ((s.step < 2 ^ 16) × (s.dir_blocks < 2 ^ 16)))
unfolding is_shape
shape_fits s e =
    let p = and_parts (is_unit_size s.au) (is_step s.step && (is_sector s.sector s.au && is_dir_blocks s.dir_blocks)) e in
    let q = and_parts (is_step s.step) (is_sector s.sector s.au && is_dir_blocks s.dir_blocks) p.1 in
    let r = and_parts (is_sector s.sector s.au) (is_dir_blocks s.dir_blocks) q.1 in
    (ltb-true _ _ (passes_if_all (λ n. ltb n (2 ^ 32)) s.au unit_sizes p.0 refl), (sector_fits s.sector s.au r.0, (step_fits s.step q.0, blocks_fit s.dir_blocks r.1))) where
      pick : {P : Type 0} (a b : Bool) → (a || b) ≡ true → (a ≡ true → P) → (b ≡ true → P) → P
      pick true b e f g = f refl
      pick false b e f g = g e

      sector_fits : (n au : ℕ) → is_sector n au ≡ true → n < 2 ^ 16
      sector_fits n au e = pick (eqb n 512) (eqb n 4096) (and_parts (eqb n 512 || eqb n 4096) (leb (8 * n) au) e).0 (λ h. omega (arith, eqb-true n 512 h)) (λ h. omega (arith, eqb-true n 4096 h))

      step_fits : (n : ℕ) → is_step n ≡ true → n < 2 ^ 16
      step_fits n e = omega (arith, leb-true n 20000 (and_parts (leb 8 n) (leb n 20000) (and_parts (leb 8 n && leb n 20000) (eqb (n % 8) 0) e).0).1)

      blocks_fit : (n : ℕ) → is_dir_blocks n ≡ true → n < 2 ^ 16
      blocks_fit n e = omega (arith, leb-true n 16384 (and_parts (leb 128 n) (leb n 16384) e).1)

-- the parts of the test
record Right (h : Header) : Type 0 where
  shape : is_shape h.shape ≡ true
  group : is_name h.group ≡ true
  number : h.number < 64
  disk : is_name h.disk ≡ true
  failgroup : is_name h.failgroup ≡ true

right_of : (h : Header) → is_right_header h ≡ true → Right h
unfolding is_right_header
right_of h e =
    let a = and_parts (is_shape h.shape) (is_name h.group && (ltb h.number 64 && (is_name h.disk && is_name h.failgroup))) e in
    let b = and_parts (is_name h.group) (ltb h.number 64 && (is_name h.disk && is_name h.failgroup)) a.1 in
    let c = and_parts (ltb h.number 64) (is_name h.disk && is_name h.failgroup) b.1 in
    let d = and_parts (is_name h.disk) (is_name h.failgroup) c.1 in
    record { shape = a.0; group = b.0; number = ltb-true _ _ c.0; disk = d.0; failgroup = d.1 }

right_is : (h : Header) → Right h → is_right_header h ≡ true
unfolding is_right_header
right_is h r = rw (r.shape, r.group, lt-ltb h.number 64 r.number, r.disk, r.failgroup) refl

allowed : (h : Header) → FitsHeader h → is_right_header h ≡ true → is_header h ≡ true
unfolding is_header ids_of
allowed h f e =
    let r = right_of h e in
    rw (r.shape, r.group, lt-ltb h.id (2 ^ 64) f.ids.id, lt-ltb h.number 64 r.number, lt-ltb h.birth (2 ^ 64) f.ids.birth, r.disk, r.failgroup) refl

fits : (h : Header) → is_header h ≡ true → FitsHeader h × Right h
unfolding is_header ids_of sizes_of
fits h e =
    let a = and_parts (is_shape h.shape) (is_name h.group && (ltb h.id (2 ^ 64) && (ltb h.number 64 && (ltb h.birth (2 ^ 64) && (is_name h.disk && is_name h.failgroup))))) e in
    let b = and_parts (is_name h.group) (ltb h.id (2 ^ 64) && (ltb h.number 64 && (ltb h.birth (2 ^ 64) && (is_name h.disk && is_name h.failgroup)))) a.1 in
    let c = and_parts (ltb h.id (2 ^ 64)) (ltb h.number 64 && (ltb h.birth (2 ^ 64) && (is_name h.disk && is_name h.failgroup))) b.1 in
    let d = and_parts (ltb h.number 64) (ltb h.birth (2 ^ 64) && (is_name h.disk && is_name h.failgroup)) c.1 in
    let g = and_parts (ltb h.birth (2 ^ 64)) (is_name h.disk && is_name h.failgroup) d.1 in
    let n = and_parts (is_name h.disk) (is_name h.failgroup) g.1 in
    let number : h.number < 64 = ltb-true _ _ d.0 in
    let sizes = shape_fits h.shape a.0 in (
      record {
        group = name_is_part h.group b.0;
        ids = record { id = ltb-true _ _ c.0; number = omega (arith, number); birth = ltb-true _ _ g.0 };
        disk = name_is_part h.disk n.0;
        failgroup = name_is_part h.failgroup n.1;
        sizes = record { au = sizes.0; sector = sizes.1.0; step = sizes.1.1.0; dir_blocks = sizes.1.1.1 };
      },
      record { shape = a.0; group = b.0; number = number; disk = n.0; failgroup = n.1 },
    )

pub header_is_read : (bytes : List ℕ) → length bytes ≡ 4096 → IsBytes bytes → right_header (whole_reading header_reading bytes) ≡ decoded_header bytes
header_is_read bytes len are =
    block_is_decoded is_right_header header_exact header_codec spelling_is_grouped allowed (λ h e. let f = fits h e in (f.0, right_is h f.1)) bytes len are

-- ---- the fields of a header have their room

pub record HasRoom (h : Header) : Type 0 where
  pub group : length h.group ≤ 30
  pub disk : length h.disk ≤ 30
  pub failgroup : length h.failgroup ≤ 30
  pub sector : h.shape.sector < 2 ^ 16
  pub step : h.shape.step < 2 ^ 16
  pub dir_blocks : h.shape.dir_blocks < 2 ^ 16

pub has_room : (h : Header) → is_header h ≡ true → HasRoom h
unfolding sizes_of
has_room h e =
    let f = fits h e in
    record {
      group = name_is_short h.group f.1.group;
      disk = name_is_short h.disk f.1.disk;
      failgroup = name_is_short h.failgroup f.1.failgroup;
      sector = f.0.sizes.sector;
      step = f.0.sizes.step;
      dir_blocks = f.0.sizes.dir_blocks;
    }

-- the same of a header whose fields are in the open
pub has_room_inside : {v h : Header} → v ≡ h → is_header h ≡ true → HasRoom v
has_room_inside {v} {h} same e = subst (λ (x : Header). HasRoom x) (sym same) (has_room h e)

by_tests : (h : Header) → h.id < 2 ^ 64 → h.birth < 2 ^ 64 → is_right_header h ≡ is_header h
unfolding is_right_header is_header
by_tests h id birth = rw (lt-ltb h.id (2 ^ 64) id, lt-ltb h.birth (2 ^ 64) birth) refl

-- numbers of their types pass where the other tests do
pub right_is_header : {v h : Header} → v ≡ h → v.id < 2 ^ 64 → v.birth < 2 ^ 64 → is_right_header h ≡ is_header h
right_is_header {v} {h} same id birth = subst (λ (x : Header). is_right_header x ≡ is_header x) same (by_tests v id birth)
