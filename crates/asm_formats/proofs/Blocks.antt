-- What a write to some bytes of a disk leaves: bytes, gates and blocks elsewhere.
use Rattle.std.proofs.Common.{◌≡◌, ◌⊎◌, inl, inr, ⊎_elim, ℕ, ◌+◌, ◌*◌, ◌<◌, ◌≤◌, true, List, [], ◌∷◌, length, take, drop, map, filter, slice_index, sym, ap, ◌∙◌, Option, arith, ◌==◌}
use Rattle.std.specs.List.{list_all}
use Rattle.std.proofs.lemmas.Bool.{or_cases, leb-true}
use Rattle.std.specs.Prelude.{nat_le}
use Rattle.std.proofs.lemmas.List.{ext_get_or, get_or-take, get_or-drop, length-take, length-drop}
use Rattle.asm_group.specs.Names.{Bytes}
use Rattle.asm_formats.specs.Bytes.{block_size, piece, block, is_open, open_byte}
use Rattle.asm_formats.specs.Metadata.{in_slot}
use Rattle.asm_formats.specs.Places.{SameElsewhere, gate_place, blocks_place, slot_places, is_apart_from}
use Rattle.asm_formats.specs.Among.{IsAmong}
use Rattle.asm_formats.proofs.Among.{all_among, all_split, among_map, filter_among, cond_same}

-- the gate of a slot is the same, and where it is open the blocks behind it
pub record SameSlot (old new : Bytes) (k count : ℕ) : Type 0 where
  pub gate : is_open new k ≡ is_open old k
  pub body : is_open old k ≡ true → (j : ℕ) → k < j → j < k + count → block new j ≡ block old j

pub in_slot_same : {A : Type 0} (decoded : Bytes → Option A) (old new : Bytes) (k : ℕ) → SameSlot old new k 2 → in_slot decoded new k ≡ in_slot decoded old k
in_slot_same {A} decoded old new k same =
    cond_same (is_open new k) (is_open old k) (decoded (block new (k + 1)) ∷ []) (decoded (block old (k + 1)) ∷ []) [] same.gate
    (λ opened. ap (λ (b : Bytes). decoded b ∷ []) (same.body opened (k + 1) (omega arith) (omega arith)))

-- a place apart from the range
apart : (at n from len : ℕ) → is_apart_from at n (from, len) ≡ true → (at + n ≤ from) ⊎ (from + len ≤ at)
apart at n from len h = ⊎_elim (λ a. inl (leb-true (at + n) from a)) (λ b. inr (leb-true (from + len) at b)) (or_cases (nat_le (at + n) from) (nat_le (from + len) at) h)

module _ (old new : Bytes) (at n : ℕ) (same : SameElsewhere old new at n) where
  byte_same : (k : ℕ) → (at + n ≤ k) ⊎ (k < at) → slice_index new k ≡ slice_index old k
  byte_same k (inl behind) = same.behind k behind
  byte_same k (inr before) = same.before k before

  piece_same : (from len : ℕ) → (at + n ≤ from) ⊎ (from + len ≤ at) → piece new from len ≡ piece old from len
  unfolding piece
  piece_same from len out =
      let lengths : length (take len (drop from new)) ≡ length (take len (drop from old)) =
      omega (arith, length-take len (drop from new), length-take len (drop from old), length-drop from new, length-drop from old, same.size) in
      ext_get_or 0 (take len (drop from new)) (take len (drop from old)) lengths (λ i lt.
      let i_lt : i < len = omega (arith, length-take len (drop from new)) in
      get_or-take len (drop from new) i 0 i_lt ∙ get_or-drop from new i 0
      ∙ byte_same (from + i) (⊎_elim (λ a. inl (omega arith)) (λ b. inr (omega arith)) out)
      ∙ sym (get_or-drop from old i 0) ∙ sym (get_or-take len (drop from old) i 0 i_lt))

  pub open_out : (k : ℕ) → (at + n ≤ k * block_size) ⊎ (k * block_size + 1 ≤ at) → is_open new k ≡ is_open old k
  open_out k out = ap (λ (b : ℕ). b == open_byte) (byte_same (k * block_size) (⊎_elim (λ a. inl a) (λ b. inr (omega arith)) out))

  pub block_out : (j : ℕ) → (at + n ≤ j * block_size) ⊎ ((j + 1) * block_size ≤ at) → block new j ≡ block old j
  block_out j out = piece_same (j * block_size) block_size (⊎_elim (λ a. inl a) (λ b. inr (omega arith)) out)

  -- a slot before or behind the range
  pub slot_before : (k count : ℕ) → (k + count) * block_size ≤ at → 0 < count → SameSlot old new k count
  slot_before k count low some = record {
    gate = open_out k (inr (omega arith));
    body = λ opened j first last. block_out j (inr (omega arith));
  }

  pub slot_behind : (k count : ℕ) → at + n ≤ k * block_size → SameSlot old new k count
  slot_behind k count high = record {
    gate = open_out k (inl high);
    body = λ opened j first last. block_out j (inl (omega arith));
  }

  -- a slot whose places are apart from the range
  pub slot_apart : (len : ℕ) (gates : List ℕ) → list_all (is_apart_from at n) (slot_places old len gates) ≡ true → (k : ℕ) → IsAmong gates k → SameSlot old new k (len + 1)
  slot_apart len gates h k among =
      let parts = all_split (is_apart_from at n) (map gate_place gates) (map (λ k. blocks_place (k + 1) len) (filter (is_open old) gates)) h in
      record {
        gate = open_out k (apart at n (k * block_size) 1 (all_among (is_apart_from at n) (map gate_place gates) (gate_place k) parts.0 (among_map gate_place gates k among)));
        body = λ opened j first last.
            let bodies = all_among (is_apart_from at n) (map (λ k. blocks_place (k + 1) len) (filter (is_open old) gates)) (blocks_place (k + 1) len) parts.1
            (among_map (λ (k : ℕ). blocks_place (k + 1) len) (filter (is_open old) gates) k (filter_among (is_open old) gates k opened among)) in
            block_out j (⊎_elim (λ a. inl (omega arith)) (λ b. inr (omega arith)) (apart at n ((k + 1) * block_size) (len * block_size) bodies));
      }

  pub blocks_apart : (from count : ℕ) → is_apart_from at n (blocks_place from count) ≡ true → (j : ℕ) → from ≤ j → j < from + count → block new j ≡ block old j
  blocks_apart from count h j low high = block_out j (⊎_elim (λ a. inl (omega arith)) (λ b. inr (omega arith)) (apart at n (from * block_size) (count * block_size) h))
