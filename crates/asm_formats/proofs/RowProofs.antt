-- The worked examples, computed.
use Rattle.std.proofs.Common.{inl, inr, ⊎_elim, ℕ, ◌+◌, ◌*◌, List, [], ◌∷◌, length, refl, ap, arith}
use Rattle.asm_group.specs.Names.{is_name, is_part}
use Rattle.asm_group.specs.Shape.{is_shape}
use Rattle.asm_formats.specs.Bytes.{number_bytes, name_field, whole_block}
use Rattle.asm_formats.specs.Header.{is_header, header_fields, header_spelling}
use Rattle.asm_formats.specs.Claim.{claim_spelling}
use Rattle.asm_formats.specs.Sets.{has_bit, elements}
use Rattle.asm_formats.specs.Status.{is_entry, entry_of, is_status}
use Rattle.asm_formats.specs.Following.{Holder, disks_of, sets_of}
use Rattle.asm_formats.specs.Items.{is_item}
use Rattle.asm_formats.specs.Rows.{HeaderRow, ClaimRow, StatusRow, SetsRow, OneSetRow, TwoSetsRow, RefusedSetsRow, ItemsRow, RefusedItemsRow}

pub header_row : HeaderRow
unfolding is_header header_fields header_spelling whole_block name_field is_name is_shape
header_row = (refl, refl, refl)

pub claim_row : ClaimRow
unfolding claim_spelling whole_block number_bytes
claim_row = refl

pub status_row : StatusRow
unfolding is_status is_entry elements has_bit entry_of
status_row = (refl, refl, refl, refl, refl)

pub sets_row : SetsRow
unfolding sets_of disks_of elements has_bit entry_of
sets_row = (refl, refl)

pub one_set_row : OneSetRow
unfolding sets_of disks_of elements has_bit entry_of
one_set_row = (refl, refl)

pub two_sets_row : TwoSetsRow
unfolding sets_of disks_of elements has_bit entry_of
two_sets_row = (inl refl, inr refl)

-- how many disks are in the sets
sizes : List (List Holder) → ℕ
sizes [] = 0
sizes (set ∷ others) = length set * 10 + sizes others

-- the first number in the last set
last : List (List Holder) → ℕ
last [] = 0
last ([] ∷ []) = 0
last ((h ∷ hs) ∷ []) = h.0
last (set ∷ others) = last others

pub refused_sets_row : RefusedSetsRow
unfolding sets_of disks_of elements has_bit entry_of sizes last
refused_sets_row = (
  λ h. ⊎_elim (λ e. omega (arith, ap sizes e)) (λ e. omega (arith, ap sizes e)) h,
  λ h. ⊎_elim (λ e. omega (arith, ap last e)) (λ e. omega (arith, ap sizes e)) h,
  λ e. omega (arith, ap (λ (l : List Holder). length l) e),
)

pub items_row : ItemsRow
unfolding is_item is_name is_part
items_row = (refl, refl, refl, refl, refl, refl, refl, refl, refl)

pub refused_items_row : RefusedItemsRow
unfolding is_item is_name is_part
refused_items_row = (refl, refl, refl, refl, refl)
