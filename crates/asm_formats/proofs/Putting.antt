-- What a disk says at each moment while a slot with a body of one block is put.
use Rattle.std.proofs.Common.{◌≡◌, inl, inr, ⊎_elim, ℕ, ◌+◌, ◌*◌, ◌≤◌, Bool, true, false, cond, ◌&&◌, [], ◌∷◌, length, refl, ap, ◌∙◌, Option, Some, None, arith}
use Rattle.std.specs.Prelude.{nat_le}
use Rattle.std.proofs.lemmas.Bool.{cond-true, cond-false, and_from, le-leb}
use Rattle.asm_group.specs.Names.{Bytes}
use Rattle.asm_formats.specs.Bytes.{block_size, block, is_open}
use Rattle.asm_formats.specs.Regions.{least_size, header_gate}
use Rattle.asm_formats.specs.Header.{Header, is_header, header_spelling, decoded_header}
use Rattle.asm_formats.specs.Claim.{Claim, is_claim, claim_spelling, decoded_claim}
use Rattle.asm_formats.specs.Status.{Status, is_status, status_spelling, decoded_status}
use Rattle.asm_formats.specs.Pages.{decodes_in}
use Rattle.asm_formats.specs.Metadata.{metadata, in_slot, header_of, content_of}
use Rattle.asm_formats.specs.Places.{SameButBlocks}
use Rattle.asm_formats.specs.Slots.{Moment, as_before, closed, open_with_body, IsPut, ArePair, MaySayAfter, same_said, nothing_said, new_said}
use Rattle.asm_formats.specs.Puts.{PutsClaim, PutsStatus, PutsHeader, header_as_before, no_header, new_header}
use Rattle.asm_formats.proofs.HeaderReading.{header_again, claim_again}
use Rattle.asm_formats.proofs.StatusReading.{status_again}
use Rattle.asm_formats.proofs.Blocks.{SameSlot, in_slot_same, slot_before, slot_behind}
use Rattle.asm_formats.proofs.Framing.{header_write, claim_write, status_write, content_behind, copy_behind}

module _ {A : Type 0} (decoded : Bytes → Option A) (old new : Bytes) (k : ℕ) (body : Bytes) (x : A) (reads : decoded body ≡ Some x) where
  in_slot_after : Moment old new k body → MaySayAfter (in_slot decoded old k) (in_slot decoded new k) x
  in_slot_after (as_before open_ same_body) = same_said (λ i. cond (open_ i) (decoded (same_body i) ∷ []) [])
  in_slot_after (closed shut) = nothing_said (cond-false (is_open new k) (decoded (block new (k + 1)) ∷ []) [] shut)
  in_slot_after (open_with_body open_ is_body) = new_said (cond-true (is_open new k) (decoded (block new (k + 1)) ∷ []) [] open_ ∙ ap (λ (b : Bytes). decoded b ∷ []) is_body ∙ ap (λ (o : Option A). o ∷ []) reads)

-- the other slot of a pair
other_same : (old new : Bytes) (a b k other : ℕ) → a + 2 ≡ b → ArePair a b k other → SameButBlocks old new k 2 → SameSlot old new other 2
other_same old new a b k other e (inl p) same = slot_behind old new (k * block_size) (2 * block_size) same other 2 (omega (arith, p.0, p.1))
other_same old new a b k other e (inr p) same = slot_before old new (k * block_size) (2 * block_size) same other 2 (omega (arith, p.0, p.1)) (omega arith)

pub claim_put : (old new : Bytes) (k other : ℕ) (c : Claim) → ArePair 2 4 k other → is_claim c ≡ true → IsPut old new k (claim_spelling c) → PutsClaim old new k other c
claim_put old new k other c pair ok p =
    let range : (2 * block_size ≤ k * block_size) × (k * block_size + 2 * block_size ≤ 6 * block_size) =
    ⊎_elim (λ x. (omega (arith, x.0), omega (arith, x.0))) (λ x. (omega (arith, x.0), omega (arith, x.0))) pair in
    record {
      rest = claim_write old new (k * block_size) (2 * block_size) p.elsewhere range;
      slot = in_slot_after decoded_claim old new k (claim_spelling c) c (claim_again c ok) p.moment;
      other_slot = in_slot_same decoded_claim old new other (other_same old new 2 4 k other refl pair p.elsewhere);
    }

pub status_put : (old new : Bytes) (k other : ℕ) (r : Status) → ArePair 6 8 k other → is_status r ≡ true → IsPut old new k (status_spelling r) → PutsStatus old new k other r
status_put old new k other r pair ok p =
    let range : (6 * block_size ≤ k * block_size) × (k * block_size + 2 * block_size ≤ 10 * block_size) =
    ⊎_elim (λ x. (omega (arith, x.0), omega (arith, x.0))) (λ x. (omega (arith, x.0), omega (arith, x.0))) pair in
    record {
      rest = status_write old new (k * block_size) (2 * block_size) p.elsewhere range;
      slot = in_slot_after decoded_status old new k (status_spelling r) r (status_again r ok) p.moment;
      other_slot = in_slot_same decoded_status old new other (other_same old new 6 8 k other refl pair p.elsewhere);
    }

-- ---- the header

module _ (old new : Bytes) (same : SameButBlocks old new header_gate 2) where
  rest : metadata new ≡ record (metadata old) { header = (metadata new).header; content = (metadata new).content; decodes = (metadata new).decodes }
  rest = header_write old new (header_gate * block_size) (2 * block_size) same (omega arith, omega arith)

  -- by the header that there is then
  by_header : (o : Option Header) → header_of new ≡ o → metadata new ≡ record (metadata old) { header = o; content = content_of o new; decodes = decodes_in (content_of o new) }
  unfolding metadata
  by_header o is = rest ∙ (λ i. record (metadata old) { header = is i; content = content_of (is i) new; decodes = decodes_in (content_of (is i) new) })

  kept : header_of new ≡ header_of old → metadata new ≡ metadata old
  unfolding metadata
  kept is =
      let content = content_behind old new (header_gate * block_size) (2 * block_size) same (omega arith) (header_of old) in
      by_header (header_of old) is ∙ (λ i. record (metadata old) { content = content i; decodes = decodes_in (content i) })

pub header_put : (old new : Bytes) (h : Header) → least_size ≤ length old → is_header h ≡ true → IsPut old new header_gate (header_spelling h) → PutsHeader old new h
header_put old new h long ok p = go p.moment
  where
    go : Moment old new header_gate (header_spelling h) → PutsHeader old new h
    go (as_before open_ same_body) =
        let header : header_of new ≡ header_of old = λ i. cond (nat_le least_size (p.elsewhere.size i) && open_ i) (decoded_header (same_body i)) None in
        header_as_before (kept old new p.elsewhere header)
    go (closed shut) = no_header (by_header old new p.elsewhere None (shut_header (nat_le least_size (length new)) (is_open new header_gate) shut))
      where
        shut_header : (a b : Bool) → b ≡ false → cond (a && b) (decoded_header (block new 1)) None ≡ None
        shut_header true b e = cond-false b (decoded_header (block new 1)) None e
        shut_header false b e = refl
    go (open_with_body open_ is_body) =
        let size : nat_le least_size (length new) ≡ true = le-leb least_size (length new) (omega (arith, long, p.elsewhere.size)) in
        let header : header_of new ≡ Some h = cond-true (nat_le least_size (length new) && is_open new header_gate) (decoded_header (block new 1)) None (and_from (nat_le least_size (length new)) (is_open new header_gate) size open_)
        ∙ ap decoded_header is_body ∙ header_again h ok in
        let content = copy_behind old new (header_gate * block_size) (2 * block_size) p.elsewhere (omega arith) h.shape.dir_blocks in
        new_header (by_header old new p.elsewhere (Some h) header ∙ (λ i. record (metadata old) { header = Some h; content = content i; decodes = decodes_in (content i) }))
