-- What a disk says while it is given the parts of a new group, and once it has all of them.
use Rattle.std.proofs.Common.{◌≡◌, ℕ, ◌+◌, ◌≤◌, true, false, List, [], ◌∷◌, ◌++◌, length, ap, ◌∙◌, Option, Some, None, arith}
use Rattle.std.specs.Prelude.{◌&&◌, nat_le}
use Rattle.std.proofs.lemmas.Bool.{cond-true, cond-false, and_from, le-leb}
use Rattle.bay.specs.Image.{Image}
use Rattle.body_slot.specs.Slot.{shown_body}
use Rattle.disk_forming.specs.Places.{gated_slot_at}
use Rattle.asm_formats.specs.Bytes.{block, is_open}
use Rattle.asm_formats.specs.Regions.{least_size}
use Rattle.asm_formats.specs.Header.{Header, decoded_header}
use Rattle.asm_formats.specs.Claim.{Claim, decoded_claim}
use Rattle.asm_formats.specs.Status.{Status, decoded_status}
use Rattle.asm_formats.specs.Pages.{decodes_in}
use Rattle.asm_formats.specs.Metadata.{metadata, header_of, content_of, in_slot}
use Rattle.asm_formats.proofs.HeaderReading.{header_again, claim_again}
use Rattle.asm_formats.proofs.StatusReading.{status_again}
use Rattle.asm_formats.proofs.Framing.{claims_by_slot, statuses_by_slot}
use Rattle.asm_images.specs.Bridge.{disk_bytes}
use Rattle.asm_images.proofs.Bridges.{bytes_are_listed}
use Rattle.mounted_groups.specs.Planned.{Plan, IsGroupPlan, header_of_plan, claim_of_plan, record_of_plan, content_of_plan, header_body, claim_body, status_body, metadata_of_plan}
use Rattle.mounted_groups.specs.Stages.{HasAllParts}
use Rattle.mounted_groups.proofs.FirstBodies.{header_ok, claim_ok, status_ok}
use Rattle.mounted_groups.proofs.Shown.{is_shut, is_shown}

module _ (slot : ℕ) (plan : Plan) (is : IsGroupPlan plan) (image : Image) (long : 26214400 ≤ image.size slot) where
  abbrev bytes : List ℕ
  bytes = disk_bytes image slot

  size_is : length bytes ≡ image.size slot
  size_is = (bytes_are_listed image slot).0

  slot_open : {A : Type 0} (decoded : List ℕ → Option A) (k : ℕ) → is_open bytes k ≡ true → in_slot decoded bytes k ≡ decoded (block bytes (k + 1)) ∷ []
  slot_open decoded k h = cond-true (is_open bytes k) (decoded (block bytes (k + 1)) ∷ []) [] h

  slot_shut : {A : Type 0} (decoded : List ℕ → Option A) (k : ℕ) → is_open bytes k ≡ false → in_slot decoded bytes k ≡ []
  slot_shut decoded k out = cond-false (is_open bytes k) (decoded (block bytes (k + 1)) ∷ []) [] out

  pub header_there : shown_body (gated_slot_at 0 1 512) slot image ≡ Some (header_body plan) → header_of bytes ≡ Some (header_of_plan plan)
  header_there shows =
      let there = is_shown slot image 0 (header_body plan) (omega (arith, long)) shows in
      cond-true (nat_le least_size (length bytes) && is_open bytes 0) (decoded_header (block bytes 1)) None
      (and_from (nat_le least_size (length bytes)) (is_open bytes 0) (le-leb least_size (length bytes) (omega (arith, long, size_is))) there.0)
      ∙ ap decoded_header there.1 ∙ header_again (header_of_plan plan) (header_ok plan is)

  -- no record stands yet
  pub no_statuses : shown_body (gated_slot_at 6 1 512) slot image ≡ None → shown_body (gated_slot_at 8 1 512) slot image ≡ None → (metadata bytes).statuses ≡ []
  no_statuses first second =
      let here = slot_shut decoded_status 6 (is_shut slot image 6 (omega (arith, long)) first) in
      let there = slot_shut decoded_status 8 (is_shut slot image 8 (omega (arith, long)) second) in
      statuses_by_slot bytes ∙ (λ i. here i ++ there i)

  -- ---- all of them

  module _ (has : HasAllParts slot plan image) where
    claims_there : (metadata bytes).claims ≡ Some (claim_of_plan plan) ∷ []
    claims_there =
        let p = is_shown slot image 2 (claim_body plan) (omega (arith, long)) has.shows.claim_slot in
        let here = slot_open decoded_claim 2 p.0 ∙ ap (λ (l : List ℕ). decoded_claim l ∷ []) p.1 ∙ ap (λ (o : Option Claim). o ∷ []) (claim_again (claim_of_plan plan) (claim_ok plan is)) in
        let there = slot_shut decoded_claim 4 (is_shut slot image 4 (omega (arith, long)) has.shows.second_claim) in
        claims_by_slot bytes ∙ (λ i. here i ++ there i)

    statuses_there : (metadata bytes).statuses ≡ Some (record_of_plan plan) ∷ []
    statuses_there =
        let p = is_shown slot image 6 (status_body plan) (omega (arith, long)) has.shows.status_slot in
        let here = slot_open decoded_status 6 p.0 ∙ ap (λ (l : List ℕ). decoded_status l ∷ []) p.1 ∙ ap (λ (o : Option Status). o ∷ []) (status_again (record_of_plan plan) (status_ok plan is)) in
        let there = slot_shut decoded_status 8 (is_shut slot image 8 (omega (arith, long)) has.shows.second_status) in
        statuses_by_slot bytes ∙ (λ i. here i ++ there i)

    pub all_there : metadata bytes ≡ metadata_of_plan plan (image.size slot)
    unfolding metadata
    all_there =
        let header = header_there has.shows.header_slot in
        let content : content_of (header_of bytes) bytes ≡ Some (content_of_plan plan) = ap (λ (o : Option Header). content_of o bytes) header ∙ has.content in
        λ i. record {
          size = size_is i;
          header = header i;
          claims = claims_there i;
          statuses = statuses_there i;
          content = content i;
          decodes = decodes_in (content i);
        }
