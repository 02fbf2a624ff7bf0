-- A directory record is read as it was written.
use Rattle.std.proofs.Common.{◌≡◌, ◌+◌, ◌-◌, ◌^◌, ◌<◌, ◌≤◌, true, [], ◌++◌, length, replicate, refl, sym, ap, ◌∙◌, Option, Some, None, arith, append_assoc, w16, w32, codes}
use Rattle.std.specs.Prelude.{nat_le, nat_lt}
use Rattle.std.specs.Option.{option_and_then}
use Rattle.std.proofs.lemmas.Bool.{and_parts, and_from, ltb-true, leb-true, lt-ltb, le-leb}
use Rattle.std.proofs.lemmas.List.{take_at}
use Rattle.std.proofs.lemmas.Option.{none-some}
use Rattle.asm_group.specs.Names.{Bytes}
use Rattle.asm_formats.specs.Bytes.{number_bytes, whole_block, block_size}
use Rattle.asm_formats.specs.Items.{Item, file_item, chunk_item, disk_item, rebalance_item, pending_item, templates_item, node_item, settings_item, marks_item, Key, item_key, is_item}
use Rattle.asm_formats.specs.Values.{decoded_item}
use Rattle.asm_formats.specs.Records.{Frame, most_value, frame_spelling, is_frame, frame_at, decoded_frame, frame_of, record_spelling, decoded_record}
use Rattle.asm_formats.proofs.Codec.{own_spelling, IsSpelledBy, spelled}
use Rattle.asm_formats.proofs.Fields.{number16, number32, join}
use Rattle.asm_formats.proofs.ItemReading.{decoded_again, item_spelled}
use Rattle.asm_formats.proofs.Lengths.{len_value}

-- ---- the frame

record FrameFits (f : Frame) : Type 0 where
  kind : f.key.kind < 2 ^ 16
  a : f.key.a < 2 ^ 32
  b : f.key.b < 2 ^ 32
  len : length f.value ≤ most_value

frame_fits : (f : Frame) → is_frame f ≡ true → FrameFits f
unfolding is_frame
frame_fits f ok =
    let p = and_parts (nat_lt f.key.kind (2 ^ 16)) _ ok in
    let q = and_parts (nat_lt f.key.a (2 ^ 32)) _ p.1 in
    let r = and_parts (nat_lt f.key.b (2 ^ 32)) (nat_le (length f.value) most_value) q.1 in
    record { kind = ltb-true f.key.kind (2 ^ 16) p.0; a = ltb-true f.key.a (2 ^ 32) q.0; b = ltb-true f.key.b (2 ^ 32) r.0; len = leb-true (length f.value) most_value r.1 }

fits_frame : (f : Frame) → FrameFits f → is_frame f ≡ true
unfolding is_frame
fits_frame f fits =
    and_from (nat_lt f.key.kind (2 ^ 16)) _ (lt-ltb f.key.kind (2 ^ 16) fits.kind)
    (and_from (nat_lt f.key.a (2 ^ 32)) _ (lt-ltb f.key.a (2 ^ 32) fits.a)
    (and_from (nat_lt f.key.b (2 ^ 32)) (nat_le (length f.value) most_value) (lt-ltb f.key.b (2 ^ 32) fits.b) (le-leb (length f.value) most_value fits.len)))

module _ (f : Frame) (zeros : Bytes) where
  abbrev t4 : Bytes
  t4 = replicate 16 0 ++ (f.value ++ zeros)

  abbrev t3 : Bytes
  t3 = number_bytes w16 (length f.value) ++ t4

  abbrev t2 : Bytes
  t2 = number_bytes w32 f.key.b ++ t3

  abbrev t1 : Bytes
  t1 = number_bytes w32 f.key.a ++ t2

  abbrev t0 : Bytes
  t0 = number_bytes w16 f.key.kind ++ t1

  abbrev frame_fields : Bytes
  frame_fields = codes "ASMR" ++ (number_bytes w16 f.key.kind ++ (number_bytes w32 f.key.a ++ (number_bytes w32 f.key.b ++ (number_bytes w16 (length f.value) ++ (replicate 16 0 ++ f.value)))))

  frame_row : frame_fields ++ zeros ≡ codes "ASMR" ++ t0
  frame_row =
      let e4 = append_assoc (replicate 16 0) f.value zeros in
      let e3 = join (number_bytes w16 (length f.value)) _ t4 zeros e4 in
      let e2 = join (number_bytes w32 f.key.b) _ t3 zeros e3 in
      let e1 = join (number_bytes w32 f.key.a) _ t2 zeros e2 in
      let e0 = join (number_bytes w16 f.key.kind) _ t1 zeros e1 in
      ap (λ (l : Bytes). codes "ASMR" ++ l) e0

  read_frame : FrameFits f → frame_at (codes "ASMR" ++ t0) ≡ f
  unfolding frame_at
  read_frame fits =
      rw (number16 f.key.kind t1 fits.kind, number32 f.key.a t2 fits.a, number32 f.key.b t3 fits.b, number16 (length f.value) t4 (omega (arith, fits.len)), take_at f.value zeros (length f.value) refl) refl

pub frame_again : (f : Frame) → is_frame f ≡ true → decoded_frame (frame_spelling f) ≡ Some f
unfolding decoded_frame frame_spelling whole_block
frame_again f ok =
    let zeros = replicate (block_size - length (frame_fields f [])) 0 in
    own_spelling is_frame frame_spelling f (frame_at (frame_spelling f)) ok (ap frame_at (frame_row f zeros) ∙ read_frame f zeros (frame_fits f ok))

pub frame_spelled : (bytes : Bytes) (f : Frame) → decoded_frame bytes ≡ Some f → IsSpelledBy is_frame frame_spelling bytes f
unfolding decoded_frame
frame_spelled bytes f e = spelled is_frame frame_spelling bytes (frame_at bytes) f e

-- ---- a record has a frame

record KeyFits (k : Key) : Type 0 where
  kind : k.kind < 2 ^ 16
  a : k.a < 2 ^ 32
  b : k.b < 2 ^ 32

key_fits : (i : Item) → is_item i ≡ true → KeyFits (item_key i)
unfolding is_item
key_fits (file_item f h) ok = record { kind = omega arith; a = ltb-true f (2 ^ 32) (and_parts (nat_lt f (2 ^ 32)) _ ok).0; b = omega arith }
key_fits (chunk_item f c homes) ok =
    let a = and_parts (nat_lt f (2 ^ 32)) _ ok in
    record { kind = omega arith; a = ltb-true f (2 ^ 32) a.0; b = ltb-true (c + 1) (2 ^ 32) (and_parts (nat_lt (c + 1) (2 ^ 32)) _ a.1).0 }
key_fits (disk_item d info) ok = record { kind = omega arith; a = omega (arith, ltb-true d 64 (and_parts (nat_lt d 64) _ ok).0); b = omega arith }
key_fits (rebalance_item power) ok = record { kind = omega arith; a = omega arith; b = omega arith }
key_fits (pending_item op) ok = record { kind = omega arith; a = omega arith; b = omega arith }
key_fits (templates_item ts) ok = record { kind = omega arith; a = omega arith; b = omega arith }
key_fits (node_item n node) ok =
    let z = and_parts (nat_lt 0 n) _ ok in
    record { kind = omega arith; a = ltb-true n (2 ^ 32) (and_parts (nat_lt n (2 ^ 32)) _ z.1).0; b = omega arith }
key_fits (settings_item s) ok = record { kind = omega arith; a = omega arith; b = omega arith }
key_fits (marks_item f c marks) ok =
    let a = and_parts (nat_lt f (2 ^ 32)) _ ok in
    let b = ltb-true (c + 1) (2 ^ 32) (and_parts (nat_lt (c + 1) (2 ^ 32)) _ a.1).0 in
    record { kind = omega arith; a = ltb-true f (2 ^ 32) a.0; b = omega (arith, b) }

pub item_frame : (i : Item) → is_item i ≡ true → is_frame (frame_of i) ≡ true
item_frame i ok = let k = key_fits i ok in fits_frame (frame_of i) (record { kind = k.kind; a = k.a; b = k.b; len = len_value i ok })

pub record_again : (i : Item) → is_item i ≡ true → decoded_record (record_spelling i) ≡ Some i
unfolding decoded_record
record_again i ok =
    ap (option_and_then (λ (f : Frame). decoded_item f.key f.value)) (frame_again (frame_of i) (item_frame i ok)) ∙ decoded_again i ok

pub record_spelled : (bytes : Bytes) (i : Item) → decoded_record bytes ≡ Some i → IsSpelledBy is_item record_spelling bytes i
unfolding decoded_record
record_spelled bytes i e = go (decoded_frame bytes) refl e
  where
    go : (o : Option Frame) → decoded_frame bytes ≡ o → option_and_then (λ (f : Frame). decoded_item f.key f.value) o ≡ Some i → IsSpelledBy is_item record_spelling bytes i
    go None is found = absurd (none-some i found)
    go (Some f) is found =
        let frame = frame_spelled bytes f is in
        let item = item_spelled f.key f.value i found in
        let whole : f ≡ frame_of i = λ j. record { key = sym item.key_is j; value = item.same j } in
        record { allowed = item.allowed; same = frame.same ∙ ap frame_spelling whole }
