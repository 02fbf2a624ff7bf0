-- Settings are read from their one spelling alone.
use Rattle.std.proofs.Common.{◌≡◌, ℕ, ◌^◌, ◌<◌, ◌≤◌, true, leb, ltb, length, refl, arith}
use Rattle.std.specs.Int.{w64}
use Rattle.std.specs.Option.{option_map}
use Rattle.std.proofs.lemmas.Bool.{and_parts, and_from, leb-true, le-leb, ltb-true, lt-ltb}
use Rattle.asm_base.specs.asm_group.Names.{Bytes}
use Rattle.asm_base.specs.asm_formats.Items.{Settings, settings_item, is_item, is_text}
use Rattle.asm_base.specs.asm_formats.Values.{value, decoded_item, item_by, settings_value, settings_at}
use Rattle.asm_base.specs.Parts.{SettingParts, to_settings}
use Rattle.asm_base.specs.Records.{all_of}
use Rattle.asm_base.proofs.Exact.{IsBytes, IsExact, both_exact, as_exact, fits_exact}
use Rattle.asm_base.proofs.Numbers.{number_exact}
use Rattle.asm_base.proofs.NameLaws.{text_exact}
use Rattle.asm_base.proofs.Tables.{bytes_are, are_bytes_is}
use Rattle.record_values.specs.Values.{settings_reading}
use Rattle.record_values.proofs.Decoded.{value_decoded}

Text : Bytes → Type 0
Text t = (length t ≤ 30) × IsBytes t

text_allowed : (t : Bytes) → Text t → is_text t ≡ true
unfolding Text
text_allowed t fits = and_from (leb (length t) 30) _ (le-leb (length t) 30 fits.0) (bytes_are t fits.1)

text_fits : (t : Bytes) → is_text t ≡ true → Text t
unfolding Text
text_fits t ok = let a = and_parts (leb (length t) 30) _ ok in (leb-true (length t) 30 a.0, are_bytes_is t a.1)

record FitsSettings (s : Settings) : Type 0 where
  incarnation : s.incarnation < 2 ^ 64
  repair : s.attributes.repair < 2 ^ 64
  asm : Text s.attributes.asm
  rdbms : Text s.attributes.rdbms
  advm : Text s.attributes.advm

of_settings : Settings → SettingParts
of_settings s = (s.incarnation, (s.attributes.repair, (s.attributes.asm, (s.attributes.rdbms, s.attributes.advm))))

settings_exact : IsExact settings_value FitsSettings settings_reading
unfolding of_settings Text settings_reading
settings_exact =
    let text = text_exact 30 (omega arith) in
    fits_exact (λ s f. record { incarnation = f.0; repair = f.1.0; asm = f.1.1.0; rdbms = f.1.1.1.0; advm = f.1.1.1.1 }) (λ s f. (f.incarnation, (f.repair, (f.asm, (f.rdbms, f.advm)))))
    (as_exact to_settings of_settings (λ p. refl) (λ s. refl) (both_exact (number_exact w64) (both_exact (number_exact w64) (both_exact text (both_exact text text)))))

settings_spelt : (s : Settings) → value (settings_item s) ≡ settings_value s
unfolding value
settings_spelt s = refl

settings_allowed : (s : Settings) → FitsSettings s → is_item (settings_item s) ≡ true
unfolding is_item
settings_allowed s fits =
    let t = s.attributes in
    and_from (ltb s.incarnation (2 ^ 64)) _ (lt-ltb s.incarnation (2 ^ 64) fits.incarnation)
    (and_from (ltb t.repair (2 ^ 64)) _ (lt-ltb t.repair (2 ^ 64) fits.repair)
    (and_from (is_text t.asm) _ (text_allowed t.asm fits.asm)
    (and_from (is_text t.rdbms) (is_text t.advm) (text_allowed t.rdbms fits.rdbms) (text_allowed t.advm fits.advm))))

settings_fit : (s : Settings) → is_item (settings_item s) ≡ true → FitsSettings s
unfolding is_item
settings_fit s ok =
    let t = s.attributes in
    let a = and_parts (ltb s.incarnation (2 ^ 64)) _ ok in
    let b = and_parts (ltb t.repair (2 ^ 64)) _ a.1 in
    let c = and_parts (is_text t.asm) _ b.1 in
    let d = and_parts (is_text t.rdbms) (is_text t.advm) c.1 in
    record { incarnation = ltb-true s.incarnation (2 ^ 64) a.0; repair = ltb-true t.repair (2 ^ 64) b.0; asm = text_fits t.asm c.0; rdbms = text_fits t.rdbms d.0; advm = text_fits t.advm d.1 }

pub settings_form : (a b : ℕ) (bytes : Bytes) → item_by (record { kind = 9; a = a; b = b }) bytes ≡ settings_item (settings_at bytes)
unfolding item_by
settings_form a b bytes = refl

pub settings_decoded : (bytes : Bytes) → option_map settings_item (all_of settings_reading bytes) ≡ decoded_item (record { kind = 9; a = 0; b = 0 }) bytes
settings_decoded bytes =
    value_decoded settings_exact (record { kind = 9; a = 0; b = 0 }) settings_item (settings_at bytes) bytes (settings_form 0 0 bytes) settings_spelt (λ s fits. (settings_allowed s fits, refl)) settings_fit
