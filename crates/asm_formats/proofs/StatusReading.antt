-- A status record is read as it was written, in version 2 and in version 1.
use Rattle.std.proofs.Common.{◌≡◌, ◌⊎◌, inl, inr, ℕ, ◌-◌, ◌^◌, ◌<◌, true, ◌==◌, List, [], ◌∷◌, ◌++◌, length, drop, replicate, slice_index, refl, sym, ap, ◌∙◌, Option, Some, None, arith, append_assoc, w16, w32, w64, codes}
use Rattle.std.specs.List.{list_all, flat_map}
use Rattle.std.specs.Option.{option_or}
use Rattle.std.specs.Prelude.{nat_le, nat_lt}
use Rattle.std.proofs.lemmas.Bool.{and_parts, and_from, ltb-true, leb-true, eqb-true, eq-eqb}
use Rattle.asm_group.specs.declared.Mode.{Mode}
use Rattle.asm_group.specs.declared.Mode.TheVariants.{Online, Offline, Syncing, Dropping, Forced}
use Rattle.asm_group.specs.Names.{Bytes}
use Rattle.asm_formats.specs.Bytes.{number_bytes, number_at, whole_block, block_size, values_at, spelled_by}
use Rattle.asm_formats.specs.Codes.{flag, mode_code, mode_of}
use Rattle.asm_formats.specs.Regions.{most_units}
use Rattle.asm_formats.specs.Sets.{most_disks}
use Rattle.asm_formats.specs.Status.{Status, Entry, entry_fields, tail_fields, front_fields, status_spelling, status_spelling_1, is_entry, is_status, is_status_1, entry_in_bytes, status_by, status_at, status_at_1, decoded_status}
use Rattle.asm_formats.proofs.Codec.{own_spelling, spelled}
use Rattle.asm_formats.proofs.Fields.{number32, number64, flag_again, repeated_again, join, after}

mode_again : (m : Mode) → mode_of (mode_code m) ≡ m
mode_again Online = refl
mode_again Offline = refl
mode_again Syncing = refl
mode_again Dropping = refl
mode_again Forced = refl

-- ---- an entry

module _ (e : Entry) (rest : Bytes) where
  abbrev p6 : Bytes
  p6 = number_bytes w64 e.partners ++ rest

  abbrev p5 : Bytes
  p5 = number_bytes w64 e.repair ++ p6

  abbrev p4 : Bytes
  p4 = number_bytes w64 e.since ++ p5

  abbrev p3 : Bytes
  p3 = number_bytes w32 e.units ++ p4

  abbrev p2 : Bytes
  p2 = mode_code e.mode ∷ e.failgroup ∷ flag e.quorum ∷ p3

  abbrev p1 : Bytes
  p1 = number_bytes w64 e.birth ++ p2

  entry_row : entry_fields e ++ rest ≡ e.number ∷ p1
  unfolding entry_fields
  entry_row =
      let e5 = append_assoc (number_bytes w64 e.repair) (number_bytes w64 e.partners) rest in
      let e4 = join (number_bytes w64 e.since) _ p5 rest e5 in
      let e3 = join (number_bytes w32 e.units) _ p4 rest e4 in
      let e2 = ap (λ (l : Bytes). mode_code e.mode ∷ e.failgroup ∷ flag e.quorum ∷ l) e3 in
      after e.number _ p1 rest (join (number_bytes w64 e.birth) _ p2 rest e2)

  read_entry : e.birth < 2 ^ 64 → e.units < 2 ^ 32 → e.since < 2 ^ 64 → e.repair < 2 ^ 64 → e.partners < 2 ^ 64 → entry_in_bytes (e.number ∷ p1) ≡ (e, rest)
  unfolding entry_in_bytes
  read_entry birth units since repair partners =
      rw (number64 e.birth p2 birth, number32 e.units p4 units, number64 e.since p5 since, number64 e.repair p6 repair, number64 e.partners rest partners, mode_again e.mode, flag_again e.quorum) refl

  entry_again : is_entry e ≡ true → entry_in_bytes (entry_fields e ++ rest) ≡ (e, rest)
  unfolding is_entry
  entry_again ok =
      let a = and_parts (nat_lt e.number most_disks) _ ok in
      let b = and_parts (nat_lt e.birth (2 ^ 64)) _ a.1 in
      let c = and_parts (nat_lt e.failgroup 256) _ b.1 in
      let d = and_parts (nat_le e.units most_units) _ c.1 in
      let f = and_parts (nat_lt e.since (2 ^ 64)) _ d.1 in
      let g = and_parts (nat_lt e.repair (2 ^ 64)) (nat_lt e.partners (2 ^ 64)) f.1 in
      ap entry_in_bytes entry_row ∙ read_entry (ltb-true e.birth (2 ^ 64) b.0) (omega (arith, leb-true e.units most_units d.0)) (ltb-true e.since (2 ^ 64) f.0) (ltb-true e.repair (2 ^ 64) g.0) (ltb-true e.partners (2 ^ 64) g.1)

entries_again : (es : List Entry) (rest : Bytes) → list_all is_entry es ≡ true → values_at entry_in_bytes (length es) (flat_map entry_fields es ++ rest) ≡ (es, rest)
entries_again es rest ok = repeated_again entry_in_bytes entry_fields is_entry (λ e rest ok. entry_again e rest ok) es rest ok

-- ---- the record, with the field of the next holders and without

module _ (r : Status) (zeros : Bytes) where
  abbrev q8 : Bytes
  q8 = length r.entries ∷ (flat_map entry_fields r.entries ++ zeros)

  abbrev q7 : Bytes
  q7 = number_bytes w64 r.directories ++ q8

  tail_row : tail_fields r ++ zeros ≡ q7
  unfolding tail_fields
  tail_row = join (number_bytes w64 r.directories) _ q8 zeros refl

  record StatusFits : Type 0 where
    id : r.id < 2 ^ 64
    epoch : r.epoch < 2 ^ 64
    turn : r.turn < 2 ^ 64
    births : r.births < 2 ^ 64
    holders : r.holders < 2 ^ 64
    next_holders : r.next_holders < 2 ^ 64
    directories : r.directories < 2 ^ 64
    entries : list_all is_entry r.entries ≡ true

  -- the next holders, as some fields spell them and a reading reads them
  module _ (version : ℕ) (next : Bytes) (next_at : Bytes → ℕ × Bytes) (reads : next_at (next ++ q7) ≡ (r.next_holders, q7)) where
    abbrev q6 : Bytes
    q6 = next ++ q7

    abbrev q5 : Bytes
    q5 = number_bytes w64 r.holders ++ q6

    abbrev q4 : Bytes
    q4 = number_bytes w64 r.births ++ q5

    abbrev q3 : Bytes
    q3 = flag r.gone ∷ q4

    abbrev q2 : Bytes
    q2 = number_bytes w64 r.turn ++ q3

    abbrev q1 : Bytes
    q1 = number_bytes w64 r.epoch ++ q2

    abbrev q0 : Bytes
    q0 = number_bytes w64 r.id ++ q1

    status_row : front_fields version r (next ++ tail_fields r) ++ zeros ≡ codes "ASMP" ++ (number_bytes w16 version ++ q0)
    unfolding front_fields
    status_row =
        let e6 = join next _ q7 zeros tail_row in
        let e5 = join (number_bytes w64 r.holders) _ q6 zeros e6 in
        let e4 = join (number_bytes w64 r.births) _ q5 zeros e5 in
        let e3 = after (flag r.gone) _ q4 zeros e4 in
        let e2 = join (number_bytes w64 r.turn) _ q3 zeros e3 in
        let e1 = join (number_bytes w64 r.epoch) _ q2 zeros e2 in
        let e0 = join (number_bytes w64 r.id) _ q1 zeros e1 in
        ap (λ (l : Bytes). codes "ASMP" ++ l) (join (number_bytes w16 version) _ q0 zeros e0)

    version_row : drop 6 (codes "ASMP" ++ (number_bytes w16 version ++ q0)) ≡ q0
    unfolding number_bytes
    version_row = refl

    read_status : StatusFits → status_by next_at (codes "ASMP" ++ (number_bytes w16 version ++ q0)) ≡ r
    read_status fits =
        rw (
          version_row,
          number64 r.id q1 fits.id,
          number64 r.epoch q2 fits.epoch,
          number64 r.turn q3 fits.turn,
          number64 r.births q5 fits.births,
          number64 r.holders q6 fits.holders,
          reads,
          number64 r.directories q8 fits.directories,
          entries_again r.entries zeros fits.entries,
          flag_again r.gone,
        ) refl

    status_read : StatusFits → status_by next_at (front_fields version r (next ++ tail_fields r) ++ zeros) ≡ r
    status_read fits = ap (status_by next_at) status_row ∙ read_status fits

status_fits : (r : Status) (zeros : Bytes) → is_status r ≡ true → StatusFits r zeros
unfolding is_status
status_fits r zeros ok =
    let a = and_parts (nat_lt r.id (2 ^ 64)) _ ok in
    let b = and_parts (nat_lt r.epoch (2 ^ 64)) _ a.1 in
    let c = and_parts (nat_lt r.turn (2 ^ 64)) _ b.1 in
    let d = and_parts (nat_lt r.births (2 ^ 64)) _ c.1 in
    let e = and_parts (nat_lt r.holders (2 ^ 64)) _ d.1 in
    let f = and_parts (nat_lt r.next_holders (2 ^ 64)) _ e.1 in
    let g = and_parts (nat_lt r.directories (2 ^ 64)) _ f.1 in
    let h = and_parts (list_all is_entry r.entries) _ g.1 in
    record {
      id = ltb-true r.id (2 ^ 64) a.0;
      epoch = ltb-true r.epoch (2 ^ 64) b.0;
      turn = ltb-true r.turn (2 ^ 64) c.0;
      births = ltb-true r.births (2 ^ 64) d.0;
      holders = ltb-true r.holders (2 ^ 64) e.0;
      next_holders = ltb-true r.next_holders (2 ^ 64) f.0;
      directories = ltb-true r.directories (2 ^ 64) g.0;
      entries = h.0;
    }

-- ---- version 2

zeros_2 : Status → Bytes
zeros_2 r = replicate (block_size - length (front_fields 2 r (number_bytes w64 r.next_holders ++ tail_fields r))) 0

read_2 : (r : Status) → is_status r ≡ true → status_at (status_spelling r) ≡ r
unfolding status_at status_spelling whole_block zeros_2
read_2 r ok =
    let fits = status_fits r (zeros_2 r) ok in
    status_read r (zeros_2 r) 2 (number_bytes w64 r.next_holders) (number_at w64) (number64 r.next_holders (q7 r (zeros_2 r)) fits.next_holders) fits

pub status_again : (r : Status) → is_status r ≡ true → decoded_status (status_spelling r) ≡ Some r
unfolding decoded_status
status_again r ok =
    ap (λ (o : Option Status). option_or o (spelled_by is_status_1 status_spelling_1 (status_spelling r) (status_at_1 (status_spelling r))))
    (own_spelling is_status status_spelling r (status_at (status_spelling r)) ok (read_2 r ok))

-- ---- version 1

zeros_1 : Status → Bytes
zeros_1 r = replicate (block_size - length (front_fields 1 r (tail_fields r))) 0

read_1 : (r : Status) → is_status r ≡ true → r.next_holders ≡ 0 → status_at_1 (status_spelling_1 r) ≡ r
unfolding status_at_1 status_spelling_1 whole_block zeros_1
read_1 r ok none = status_read r (zeros_1 r) 1 [] (λ rest. (0, rest)) (λ i. (sym none i, q7 r (zeros_1 r))) (status_fits r (zeros_1 r) ok)

-- the versions differ in the sixth byte
sixth : Bytes → ℕ
sixth bytes = slice_index bytes 5

sixth_2 : (r : Status) → sixth (status_spelling r) ≡ 2
unfolding sixth status_spelling whole_block front_fields number_bytes
sixth_2 r = refl

sixth_1 : (r : Status) → sixth (status_spelling_1 r) ≡ 1
unfolding sixth status_spelling_1 whole_block front_fields number_bytes
sixth_1 r = refl

not_version_2 : (r : Status) (o : Option Status) → spelled_by is_status status_spelling (status_spelling_1 r) (status_at (status_spelling_1 r)) ≡ o → o ≡ None
not_version_2 r None e = refl
not_version_2 r (Some x) e =
    let s = spelled is_status status_spelling (status_spelling_1 r) (status_at (status_spelling_1 r)) x e in
    absurd (omega (arith, sixth_1 r, sixth_2 x, ap sixth s.same))

pub status_again_1 : (r : Status) → is_status r ≡ true → r.next_holders ≡ 0 → decoded_status (status_spelling_1 r) ≡ Some r
unfolding decoded_status
status_again_1 r ok none =
    ap (λ (o : Option Status). option_or o (spelled_by is_status_1 status_spelling_1 (status_spelling_1 r) (status_at_1 (status_spelling_1 r))))
    (not_version_2 r _ refl)
    ∙ own_spelling is_status_1 status_spelling_1 r (status_at_1 (status_spelling_1 r)) (and_from (is_status r) (r.next_holders == 0) ok (eq-eqb r.next_holders 0 none)) (read_1 r ok none)

-- ---- what is decoded

pub status_spelled : (bytes : Bytes) (r : Status) → decoded_status bytes ≡ Some r
    → (is_status r ≡ true) × ((bytes ≡ status_spelling r) ⊎ ((r.next_holders ≡ 0) × (bytes ≡ status_spelling_1 r)))
unfolding decoded_status
status_spelled bytes r e = go (spelled_by is_status status_spelling bytes (status_at bytes)) refl e
  where
    go : (o : Option Status) → spelled_by is_status status_spelling bytes (status_at bytes) ≡ o
        → option_or o (spelled_by is_status_1 status_spelling_1 bytes (status_at_1 bytes)) ≡ Some r
        → (is_status r ≡ true) × ((bytes ≡ status_spelling r) ⊎ ((r.next_holders ≡ 0) × (bytes ≡ status_spelling_1 r)))
    go None is found =
        let s = spelled is_status_1 status_spelling_1 bytes (status_at_1 bytes) r found in
        let p = and_parts (is_status r) (r.next_holders == 0) s.allowed in
        (p.0, inr (eqb-true r.next_holders 0 p.1, s.same))
    go (Some x) is found =
        let s = spelled is_status status_spelling bytes (status_at bytes) r (is ∙ found) in
        (s.allowed, inl s.same)
