-- The power of the active rebalance and the pending operation are read from their one spelling alone.
use Rattle.std.proofs.Common.{◌≡◌, ◌≢◌, ℕ, ◌^◌, ◌<◌, true, ltb, refl, arith}
use Rattle.std.specs.Int.{w16, w32, w64}
use Rattle.std.specs.Option.{option_map}
use Rattle.std.proofs.lemmas.Bool.{and_parts, ltb-true, lt-ltb, ne_eqb}
use Rattle.asm_base.specs.asm_group.Names.{Bytes}
use Rattle.asm_base.specs.asm_formats.Bytes.{number_bytes}
use Rattle.asm_base.specs.asm_formats.Items.{Pending, pending_item, rebalance_item, is_item}
use Rattle.asm_base.specs.asm_formats.Values.{value, decoded_item, item_by, pending_value, pending_at}
use Rattle.asm_base.specs.Parts.{PendingParts, to_pending}
use Rattle.asm_base.specs.Readings.{number_reading}
use Rattle.asm_base.specs.Records.{all_of}
use Rattle.asm_base.proofs.Exact.{IsExact, both_exact, as_exact, fits_exact}
use Rattle.asm_base.proofs.Numbers.{number_exact}
use Rattle.byte_codes.proofs.WordLaws.{pending_kind_exact}
use Rattle.record_values.specs.Values.{pending_reading}
use Rattle.record_values.proofs.Decoded.{value_decoded}

-- ---- the power

power_spelt : (n : ℕ) → value (rebalance_item n) ≡ number_bytes w16 n
unfolding value
power_spelt n = refl

pub power_allowed : (n : ℕ) → n < 2 ^ 16 → is_item (rebalance_item n) ≡ true
unfolding is_item
power_allowed n lt = lt-ltb n (2 ^ 16) lt

pub power_fits : (n : ℕ) → is_item (rebalance_item n) ≡ true → n < 2 ^ 16
unfolding is_item
power_fits n ok = ltb-true n (2 ^ 16) ok

pub power_form : (b : ℕ) (bytes : Bytes) → (n : ℕ) × (item_by (record { kind = 4; a = 0; b = b }) bytes ≡ rebalance_item n)
unfolding item_by
power_form b bytes = (_, refl)

pub power_decoded : (bytes : Bytes) → option_map rebalance_item (all_of (number_reading w16) bytes) ≡ decoded_item (record { kind = 4; a = 0; b = 0 }) bytes
power_decoded bytes =
    value_decoded (number_exact w16) (record { kind = 4; a = 0; b = 0 }) rebalance_item (power_form 0 bytes).0 bytes (power_form 0 bytes).1 power_spelt (λ n fits. (power_allowed n fits, refl)) power_fits

-- ---- the pending operation

pub record FitsPending (p : Pending) : Type 0 where
  pub file : p.file < 2 ^ 32
  pub kept : p.kept < 2 ^ 64

of_pending : Pending → PendingParts
of_pending p = (p.kind, (p.file, p.kept))

pub pending_exact : IsExact pending_value FitsPending pending_reading
unfolding of_pending pending_reading
pending_exact =
    fits_exact (λ p f. record { file = f.1.0; kept = f.1.1 }) (λ p f. (tt, (f.file, f.kept)))
    (as_exact to_pending of_pending (λ a. refl) (λ b. refl) (both_exact pending_kind_exact (both_exact (number_exact w32) (number_exact w64))))

pending_spelt : (p : Pending) → value (pending_item p) ≡ pending_value p
unfolding value
pending_spelt p = refl

pub pending_allowed : (p : Pending) → FitsPending p → is_item (pending_item p) ≡ true
unfolding is_item
pending_allowed p fits = rw (lt-ltb p.file (2 ^ 32) fits.file, lt-ltb p.kept (2 ^ 64) fits.kept) refl

pub pending_fits : (p : Pending) → is_item (pending_item p) ≡ true → FitsPending p
unfolding is_item
pending_fits p ok = let q = and_parts (ltb p.file (2 ^ 32)) (ltb p.kept (2 ^ 64)) ok in record { file = ltb-true p.file (2 ^ 32) q.0; kept = ltb-true p.kept (2 ^ 64) q.1 }

pub pending_form : (a b : ℕ) (bytes : Bytes) → a ≢ 0 → item_by (record { kind = 4; a = a; b = b }) bytes ≡ pending_item (pending_at bytes)
unfolding item_by
pending_form a b bytes some = rw (ne_eqb a 0 some) refl

pub pending_decoded : (bytes : Bytes) → option_map pending_item (all_of pending_reading bytes) ≡ decoded_item (record { kind = 4; a = 1; b = 0 }) bytes
pending_decoded bytes =
    value_decoded pending_exact (record { kind = 4; a = 1; b = 0 }) pending_item (pending_at bytes) bytes (pending_form 1 0 bytes (λ e. omega (arith, e))) pending_spelt (λ p fits. (pending_allowed p fits, refl)) pending_fits
