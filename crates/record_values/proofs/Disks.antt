-- The record of a disk is read from its one spelling alone.
use Rattle.std.proofs.Common.{◌≡◌, ℕ, ◌^◌, ◌<◌, true, ltb, refl}
use Rattle.std.specs.Int.{w64}
use Rattle.std.specs.Option.{option_map}
use Rattle.std.proofs.lemmas.Bool.{and_parts, ltb-true, lt-ltb}
use Rattle.asm_base.specs.asm_group.Names.{Bytes, is_name}
use Rattle.asm_base.specs.asm_formats.Items.{DiskInfo, disk_item, is_item}
use Rattle.asm_base.specs.asm_formats.Values.{value, decoded_item, item_by, disk_value, disk_info_at}
use Rattle.asm_base.specs.Parts.{DiskParts, to_disk}
use Rattle.asm_base.specs.Records.{all_of}
use Rattle.asm_base.proofs.Exact.{IsExact, both_exact, as_exact, fits_exact}
use Rattle.asm_base.proofs.Numbers.{number_exact}
use Rattle.record_values.specs.Values.{disk_reading}
use Rattle.record_values.proofs.Decoded.{value_decoded}
use Rattle.record_values.proofs.FieldLaws.{named_exact}

pub record FitsDisk (d : DiskInfo) : Type 0 where
  pub birth : d.birth < 2 ^ 64
  pub name : is_name d.name ≡ true
  pub failgroup : is_name d.failgroup ≡ true

of_disk : DiskInfo → DiskParts
of_disk d = (d.birth, (d.name, d.failgroup))

pub disk_exact : IsExact disk_value FitsDisk disk_reading
unfolding of_disk disk_reading
disk_exact =
    fits_exact (λ d f. record { birth = f.0; name = f.1.0; failgroup = f.1.1 }) (λ d f. (f.birth, (f.name, f.failgroup)))
    (as_exact to_disk of_disk (λ p. refl) (λ d. refl) (both_exact (number_exact w64) (both_exact named_exact named_exact)))

pub disk_allowed : (d : ℕ) → d < 64 → (i : DiskInfo) → FitsDisk i → is_item (disk_item d i) ≡ true
unfolding is_item
disk_allowed d lt i fits = rw (lt-ltb d 64 lt, lt-ltb i.birth (2 ^ 64) fits.birth, fits.name, fits.failgroup) refl

pub disk_fits : (d : ℕ) (i : DiskInfo) → is_item (disk_item d i) ≡ true → (d < 64) × FitsDisk i
unfolding is_item
disk_fits d i ok =
    let a = and_parts (ltb d 64) _ ok in
    let b = and_parts (ltb i.birth (2 ^ 64)) _ a.1 in
    let c = and_parts (is_name i.name) (is_name i.failgroup) b.1 in
    (ltb-true d 64 a.0, record { birth = ltb-true i.birth (2 ^ 64) b.0; name = c.0; failgroup = c.1 })

disk_spelt : (d : ℕ) (i : DiskInfo) → value (disk_item d i) ≡ disk_value i
unfolding value
disk_spelt d i = refl

pub disk_form : (d b : ℕ) (bytes : Bytes) → item_by (record { kind = 2; a = d; b = b }) bytes ≡ disk_item d (disk_info_at bytes)
unfolding item_by
disk_form d b bytes = refl

pub disk_decoded : (d : ℕ) (bytes : Bytes) → d < 64 → option_map (disk_item d) (all_of disk_reading bytes) ≡ decoded_item (record { kind = 2; a = d; b = 0 }) bytes
disk_decoded d bytes lt =
    value_decoded disk_exact (record { kind = 2; a = d; b = 0 }) (disk_item d) (disk_info_at bytes) bytes (disk_form d 0 bytes) (disk_spelt d) (λ i fits. (disk_allowed d lt i fits, refl)) (λ i ok. (disk_fits d i ok).1)
