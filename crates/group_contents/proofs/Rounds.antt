-- The rounds of a loop that writes a span.
use Rattle.std.proofs.Common.{◌≡◌, ℕ, ◌+◌, ◌-◌, ◌≤◌, ◌++◌, length, take, drop, replicate, Result, Ok, Err, sym, ap, subst, ◌∙◌, arith}
use Rattle.std.proofs.lemmas.List.{drop-take, length-replicate, length-take-le, replicate-append-replicate, take-append-drop, take-replicate, take-take}
use Rattle.bay.specs.State.{BayState}
use Rattle.asm_group.specs.Names.{Bytes}
use Rattle.asm_base.specs.declared.kinds.ExtentId.{ExtentId}
use Rattle.refusal_lines.specs.declared.refusal.Refusal.{Refusal}
use Rattle.piece_laws.specs.Walks.{IsStep}
use Rattle.file_extents.specs.group_engine.Mounts.{IsMounted, MountedGroup}
use Rattle.file_extents.specs.group_pieces.Held.{PieceHeld}
use Rattle.file_extents.specs.group_pieces.Usable.{piece_of}
use Rattle.group_contents.specs.Writing.{WritesSpan, done_of}
use Rattle.group_contents.specs.declared.opening.OpenFile.{OpenFile}
use Rattle.group_contents.proofs.Spans.{span_join, span_longer, span_piece, span_refused}

-- the bytes so far, and the next ones
taken : (done n : ℕ) (bytes : Bytes) → take done bytes ++ take (done + n - done) (drop done bytes) ≡ take (done + n) bytes
taken done n bytes =
    let len : done + n - done ≡ n = omega arith in
    ap (λ (k : ℕ). take done bytes ++ take k (drop done bytes)) len
    ∙ ap (λ (l : Bytes). take done bytes ++ l) (sym (drop-take done n bytes))
    ∙ ap (λ (l : Bytes). l ++ drop done (take (done + n) bytes)) (sym (take-take done (done + n) bytes (omega arith)))
    ∙ take-append-drop done (take (done + n) bytes)

-- bytes that are alike
alike : (n k : ℕ) (byte : ℕ) → replicate n byte ++ replicate k byte ≡ replicate (n + k) byte
alike n k byte = replicate-append-replicate n k byte

pub first_alike : (n byte : ℕ) (buf : Bytes) → buf ≡ replicate (length buf) byte → n ≤ length buf → take n buf ≡ replicate n byte
first_alike n byte buf all le = ap (λ (l : Bytes). take n l) all ∙ take-replicate n (length buf) byte le

pub all_alike : (k byte : ℕ) (buf : Bytes) → buf ≡ replicate k byte → buf ≡ replicate (length buf) byte
all_alike k byte buf all = all ∙ ap (λ (n : ℕ). replicate n byte) (sym (ap (λ (l : Bytes). length l) all ∙ length-replicate k byte))

module _ (m mid new : MountedGroup) (opened : OpenFile) (at from done : ℕ) (bytes : Bytes) (s t u : BayState) (mounted : IsMounted mid) (same : mid.register.id ≡ m.register.id)
    (within : done ≤ length bytes) (one : WritesSpan m opened at (take done bytes) (Ok tt) mid s t) where
  -- the next piece
  pub piece_next : (n rest : ℕ) (x : ExtentId) (inner : ℕ) (r : Result ℕ Refusal) → from ≡ at + done
      → IsStep mid.catalog.shape opened.stripe opened.file from rest (piece_of x inner (length (take (done + n - done) (drop done bytes))))
      → PieceHeld mid x inner (take (done + n - done) (drop done bytes)) r new t u → WritesSpan m opened at (take (done + n) bytes) (done_of r) new s u
  piece_next n rest x inner r place step held =
      let part = take (done + n - done) (drop done bytes) in
      let here : from ≡ at + length (take done bytes) = omega (arith, place, length-take-le done bytes within) in
      let lies = subst (λ (k : ℕ). IsStep mid.catalog.shape opened.stripe opened.file k rest (piece_of x inner (length part))) here step in
      subst (λ (l : Bytes). WritesSpan m opened at l (done_of r) new s u) (taken done n bytes)
      (span_join m mid new opened at (take done bytes) part (done_of r) s t u mounted same one
      (span_piece mid new opened (at + length (take done bytes)) rest x inner part t u lies r held))

  -- it was refused
  pub piece_stops : (n rest : ℕ) (x : ExtentId) (inner : ℕ) (e : Refusal) → from ≡ at + done
      → IsStep mid.catalog.shape opened.stripe opened.file from rest (piece_of x inner (length (take (done + n - done) (drop done bytes))))
      → PieceHeld mid x inner (take (done + n - done) (drop done bytes)) (Err e) new t u → WritesSpan m opened at bytes (Err e) new s u
  piece_stops n rest x inner e place step held =
      subst (λ (l : Bytes). WritesSpan m opened at l (Err e) new s u) (take-append-drop (done + n) bytes)
      (span_longer m new opened at (take (done + n) bytes) (drop (done + n) bytes) e s u (piece_next n rest x inner (Err e) place step held))

-- there is no next piece
pub no_piece : (m mid : MountedGroup) (opened : OpenFile) (at done : ℕ) (bytes : Bytes) (s t : BayState) → IsMounted mid → mid.register.id ≡ m.register.id
    → WritesSpan m opened at (take done bytes) (Ok tt) mid s t → (e : Refusal) → WritesSpan m opened at bytes (Err e) mid s t
no_piece m mid opened at done bytes s t mounted same one e =
    subst (λ (l : Bytes). WritesSpan m opened at l (Err e) mid s t) (take-append-drop done bytes)
    (span_join m mid mid opened at (take done bytes) (drop done bytes) (Err e) s t t mounted same one (span_refused mid mounted opened (at + length (take done bytes)) t (drop done bytes) e))

module _ (m mid new : MountedGroup) (opened : OpenFile) (at from len left byte : ℕ) (s t u : BayState) (mounted : IsMounted mid) (same : mid.register.id ≡ m.register.id) (within : left ≤ len)
    (one : WritesSpan m opened at (replicate (len - left) byte) (Ok tt) mid s t) where
  -- the next bytes of a filling
  pub fill_next : (n : ℕ) (part : Bytes) (r : Result (Unit {0}) Refusal) → from ≡ at + (len - left) → n ≤ left → part ≡ replicate n byte → WritesSpan mid opened from part r new t u
      → WritesSpan m opened at (replicate (len - (left - n)) byte) r new s u
  fill_next n part r place short all two =
      let before = replicate (len - left) byte in
      let here : from ≡ at + length before = omega (arith, place, length-replicate (len - left) byte) in
      let next : WritesSpan mid opened (at + length before) (replicate n byte) r new t u =
      subst (λ (k : ℕ). WritesSpan mid opened k (replicate n byte) r new t u) here (subst (λ (l : Bytes). WritesSpan mid opened from l r new t u) all two) in
      let count : len - left + n ≡ len - (left - n) = omega (arith, within, short) in
      subst (λ (l : Bytes). WritesSpan m opened at l r new s u) (alike (len - left) n byte ∙ ap (λ (k : ℕ). replicate k byte) count)
      (span_join m mid new opened at before (replicate n byte) r s t u mounted same one next)

  pub fill_stops : (n : ℕ) (part : Bytes) (e : Refusal) → from ≡ at + (len - left) → n ≤ left → part ≡ replicate n byte → WritesSpan mid opened from part (Err e) new t u
      → WritesSpan m opened at (replicate len byte) (Err e) new s u
  fill_stops n part e place short all two =
      let count : len - (left - n) + (left - n) ≡ len = omega (arith, within, short) in
      subst (λ (l : Bytes). WritesSpan m opened at l (Err e) new s u) (alike (len - (left - n)) (left - n) byte ∙ ap (λ (k : ℕ). replicate k byte) count)
      (span_longer m new opened at (replicate (len - (left - n)) byte) (replicate (left - n) byte) e s u (fill_next n part (Err e) place short all two))

-- the buffer is empty
pub no_filling : (m mid : MountedGroup) (opened : OpenFile) (at len left byte : ℕ) (s t : BayState) → IsMounted mid → mid.register.id ≡ m.register.id → left ≤ len
    → WritesSpan m opened at (replicate (len - left) byte) (Ok tt) mid s t → (e : Refusal) → WritesSpan m opened at (replicate len byte) (Err e) mid s t
no_filling m mid opened at len left byte s t mounted same within one e =
    let before = replicate (len - left) byte in
    let count : len - left + left ≡ len = omega (arith, within) in
    subst (λ (l : Bytes). WritesSpan m opened at l (Err e) mid s t) (alike (len - left) left byte ∙ ap (λ (k : ℕ). replicate k byte) count)
    (span_join m mid mid opened at before (replicate left byte) (Err e) s t t mounted same one (span_refused mid mounted opened (at + length before) t (replicate left byte) e))
