-- A directory record's block is read as its frame, and no other block is.
use Rattle.std.proofs.Common.{◌≡◌, ℕ, zero, suc, ◌-◌, ◌^◌, ◌<◌, ◌≤◌, true, leb, ltb, eqb, List, ◌++◌, length, take, drop, replicate, Option, Some, None, refl, sym, ap, subst, ◌∙◌, append_assoc, arith}
use Rattle.std.specs.Prelude.{◌&&◌, codes}
use Rattle.std.specs.Int.{w16, w32}
use Rattle.std.specs.Option.{option_map}
use Rattle.std.specs.List.{list_all}
use Rattle.std.proofs.lemmas.Bool.{and_parts, leb-true, le-leb, ltb-true, lt-ltb}
use Rattle.std.proofs.lemmas.List.{take_at, drop_at, take-append-drop, length-append, length-take}
use Rattle.asm_formats.specs.Bytes.{number_bytes, whole_block}
use Rattle.asm_formats.specs.Items.{Key}
use Rattle.asm_formats.specs.Records.{Frame, frame_spelling, is_frame, decoded_frame}
use Rattle.asm_formats.proofs.Bodies.{frame_codec}
use Rattle.asm_base.specs.Records.{DirectoryRecord}
use Rattle.asm_base.specs.Frames.{frame_fields, entry_frame, framed_entry, record_in_frame, Head, HeadParts, to_head, head_reading}
use Rattle.asm_base.proofs.Exact.{IsBytes, IsExact, bind_some, test_some, both_exact, as_exact, fits_exact}
use Rattle.asm_base.proofs.Numbers.{number_exact}
use Rattle.asm_base.proofs.FieldLaws.{fixed_exact, are_zeros, zeros_are}
use Rattle.asm_base.proofs.Decoding.{is_decoded}
use Rattle.asm_base.proofs.NameLaws.{zeros_bytes}

-- what stands before the value
head_fields : Head → List ℕ
head_fields h = codes "ASMR" ++ (number_bytes w16 h.0.kind ++ (number_bytes w32 h.0.a ++ (number_bytes w32 h.0.b ++ (number_bytes w16 h.1 ++ replicate 16 0))))

record FitsHead (h : Head) : Type 0 where
  kind : h.0.kind < 2 ^ 16
  a : h.0.a < 2 ^ 32
  b : h.0.b < 2 ^ 32
  len : h.1 < 2 ^ 16

of_head : Head → HeadParts
of_head h = (tt, (h.0.kind, (h.0.a, (h.0.b, (h.1, tt)))))

tag_bytes : IsBytes (codes "ASMR")
tag_bytes zero = omega arith
tag_bytes (suc zero) = omega arith
tag_bytes (suc (suc zero)) = omega arith
tag_bytes (suc (suc (suc zero))) = omega arith
tag_bytes (suc (suc (suc (suc i)))) = omega arith

head_exact : IsExact head_fields FitsHead head_reading
unfolding head_reading head_fields of_head
head_exact =
    let fields = both_exact (fixed_exact (codes "ASMR") tag_bytes) (both_exact (number_exact w16) (both_exact (number_exact w32) (both_exact (number_exact w32) (both_exact (number_exact w16) (fixed_exact (replicate 16 0) (zeros_bytes 16)))))) in
    fits_exact
    (λ h f. record { kind = f.1.0; a = f.1.1.0; b = f.1.1.1.0; len = f.1.1.1.1.0 })
    (λ h f. (tt, (f.kind, (f.a, (f.b, (f.len, tt))))))
    (as_exact to_head of_head (λ p. refl) (λ h. refl) fields)

-- ---- the whole frame

head_then_value : (k : Key) (v : List ℕ) → head_fields (k, length v) ++ v ≡ frame_fields (k, v)
unfolding head_fields frame_fields
head_then_value k v =
    let a = number_bytes w16 k.kind in
    let b = number_bytes w32 k.a in
    let c = number_bytes w32 k.b in
    let d = number_bytes w16 (length v) in
    let z : List ℕ = replicate 16 0 in
    rw (append_assoc a (b ++ (c ++ (d ++ z))) v, append_assoc b (c ++ (d ++ z)) v, append_assoc c (d ++ z) v, append_assoc d z v) refl

pub spelling_is : (e : DirectoryRecord) → frame_spelling (entry_frame e) ≡ whole_block (frame_fields e)
unfolding frame_spelling frame_fields
spelling_is e = refl

record FitsFrame (f : Frame) : Type 0 where
  kind : f.key.kind < 2 ^ 16
  a : f.key.a < 2 ^ 32
  b : f.key.b < 2 ^ 32
  few : length f.value ≤ 4064

frame_fits : (f : Frame) → is_frame f ≡ true → FitsFrame f
unfolding is_frame
frame_fits f e =
    let p = and_parts (ltb f.key.kind (2 ^ 16)) (ltb f.key.a (2 ^ 32) && (ltb f.key.b (2 ^ 32) && leb (length f.value) 4064)) e in
    let q = and_parts (ltb f.key.a (2 ^ 32)) (ltb f.key.b (2 ^ 32) && leb (length f.value) 4064) p.1 in
    let r = and_parts (ltb f.key.b (2 ^ 32)) (leb (length f.value) 4064) q.1 in
    record { kind = ltb-true _ _ p.0; a = ltb-true _ _ q.0; b = ltb-true _ _ r.0; few = leb-true _ _ r.1 }

frame_is : (f : Frame) → FitsFrame f → is_frame f ≡ true
unfolding is_frame
frame_is f h = rw (lt-ltb f.key.kind (2 ^ 16) h.kind, lt-ltb f.key.a (2 ^ 32) h.a, lt-ltb f.key.b (2 ^ 32) h.b, le-leb (length f.value) 4064 h.few) refl

map_some : {X Y : Type 0} (f : X → Y) (o : Option X) (y : Y) → option_map f o ≡ Some y → (x : X) × (o ≡ Some x) × (f x ≡ y)
map_some f (Some x) y e = (x, refl, cc)
map_some f None y e = absurd cc

spelled : (fields rest bytes : List ℕ) → bytes ≡ fields ++ rest → 4096 - length fields ≡ length rest → rest ≡ replicate (length rest) 0 → bytes ≡ whole_block fields
unfolding whole_block
spelled fields rest bytes parts fill zeros = rw fill (parts ∙ ap (λ (r : List ℕ). fields ++ r) zeros)

filled : (fields : List ℕ) → whole_block fields ≡ fields ++ replicate (4096 - length fields) 0
unfolding whole_block
filled fields = refl

frame_found : (bytes : List ℕ) → length bytes ≡ 4096 → IsBytes bytes → (f : Frame) → option_map entry_frame (framed_entry bytes) ≡ Some f → (is_frame f ≡ true) × (bytes ≡ frame_spelling f)
frame_found bytes len are f e =
    let m = map_some entry_frame (framed_entry bytes) f e in
    let h = bind_some (λ (h : Head × List ℕ). record_in_frame h.0 h.1) (head_reading bytes) m.0 m.1 in
    let one = head_exact.takes bytes h.0.0 h.0.1 are h.1 in
    let k = h.0.0.0 in
    let n = h.0.0.1 in
    let rest = h.0.1 in
    let t = test_some (leb n 4064 && (leb n (length rest) && list_all (λ b. eqb b 0) (drop n rest))) (k, take n rest) m.0 h.2 in
    let p = and_parts (leb n 4064) (leb n (length rest) && list_all (λ b. eqb b 0) (drop n rest)) t.0 in
    let q = and_parts (leb n (length rest)) (list_all (λ b. eqb b 0) (drop n rest)) p.1 in
    let few : n ≤ 4064 = leb-true _ _ p.0 in
    let long : n ≤ length rest = leb-true _ _ q.0 in
    let v : List ℕ = take n rest in
    let v_len : length v ≡ n = omega (arith, long, length-take n rest) in
    let fields : List ℕ = frame_fields (k, v) in
    let front : head_fields (k, n) ++ v ≡ fields = ap (λ (j : ℕ). head_fields (k, j) ++ v) (sym v_len) ∙ head_then_value k v in
    let parts : bytes ≡ fields ++ drop n rest =
    one.parts ∙ ap (λ (r : List ℕ). head_fields (k, n) ++ r) (sym (take-append-drop n rest)) ∙ sym (append_assoc (head_fields (k, n)) v (drop n rest)) ∙ ap (λ (r : List ℕ). r ++ drop n rest) front in
    let fill : 4096 - length fields ≡ length (drop n rest) = omega (arith, len, ap length parts, length-append fields (drop n rest)) in
    let all : bytes ≡ whole_block fields = spelled fields (drop n rest) bytes parts fill (are_zeros (drop n rest) q.1) in
    let ok : is_frame (entry_frame (k, v)) ≡ true = frame_is (entry_frame (k, v)) (record { kind = one.fits.kind; a = one.fits.a; b = one.fits.b; few = omega (arith, few, v_len) }) in
    subst (λ (x : Frame). (is_frame x ≡ true) × (bytes ≡ frame_spelling x)) (ap entry_frame t.1 ∙ m.2) (ok, all ∙ sym (spelling_is (k, v)))

frame_again : (bytes : List ℕ) (f : Frame) → is_frame f ≡ true → bytes ≡ frame_spelling f → option_map entry_frame (framed_entry bytes) ≡ Some f
frame_again bytes f ok e =
    let fits = frame_fits f ok in
    let k = f.key in
    let v = f.value in
    let zeros : List ℕ = replicate (4096 - length (frame_fields (k, v))) 0 in
    let all : bytes ≡ head_fields (k, length v) ++ (v ++ zeros) =
    e ∙ spelling_is (k, v) ∙ filled (frame_fields (k, v)) ∙ ap (λ (r : List ℕ). r ++ zeros) (sym (head_then_value k v)) ∙ append_assoc (head_fields (k, length v)) v zeros in
    let read = head_exact.again (k, length v) (v ++ zeros) (record { kind = fits.kind; a = fits.a; b = fits.b; len = omega (arith, fits.few) }) in
    let inside : record_in_frame (k, length v) (v ++ zeros) ≡ Some (k, v) =
    rw (le-leb (length v) 4064 fits.few, le-leb (length v) (length (v ++ zeros)) (omega (arith, length-append v zeros)), drop_at v zeros (length v) refl, zeros_are (4096 - length (frame_fields (k, v))), take_at v zeros (length v) refl) refl in
    rw (all, read, inside) refl

pub frame_is_read : (bytes : List ℕ) → length bytes ≡ 4096 → IsBytes bytes → option_map entry_frame (framed_entry bytes) ≡ decoded_frame bytes
frame_is_read bytes len are = is_decoded frame_codec bytes (option_map entry_frame (framed_entry bytes)) (frame_found bytes len are) (frame_again bytes)
