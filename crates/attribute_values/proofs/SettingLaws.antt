-- Settings with another value.
use Rattle.std.proofs.Common.{◌≡◌, ◌<◌, ◌^◌, ℕ, suc, Bool, true, false, leb, [], ◌∷◌, length, take, drop, Option, Some, None, refl, sym, ap, subst}
use Rattle.std.specs.Prelude.{◌&&◌, ◌==◌, codes, nat_lt}
use Rattle.std.specs.Option.{option_map}
use Rattle.std.specs.Str.{bytes_eq}
use Rattle.std.proofs.lemmas.Bool.{and_from, and_parts, lt-ltb, ltb-true}
use Rattle.asm_group.specs.Names.{Bytes, folded_byte, is_same_name}
use Rattle.asm_group.specs.Group.{Attributes}
use Rattle.template_directory.specs.asm_formats.Items.{Settings, is_item, is_text, settings_item}
use Rattle.template_directory.specs.asm_base.Records.{are_bytes}
use Rattle.asm_grammar.specs.Word.{when}
use Rattle.asm_world.specs.Settings.{is_version, is_version_rest, repair_seconds}
use Rattle.attribute_values.specs.Edits.{settings_with}

pub record Allowed (s : Settings) : Type 0 where
  pub incarnation : nat_lt s.incarnation (2 ^ 64) ≡ true
  pub repair : nat_lt s.attributes.repair (2 ^ 64) ≡ true
  pub asm : is_text s.attributes.asm ≡ true
  pub rdbms : is_text s.attributes.rdbms ≡ true
  pub advm : is_text s.attributes.advm ≡ true

parts_of : (s : Settings) → is_item (settings_item s) ≡ true → Allowed s
unfolding is_item
parts_of s e =
    let a = and_parts (nat_lt s.incarnation (2 ^ 64)) _ e in
    let b = and_parts (nat_lt s.attributes.repair (2 ^ 64)) _ a.1 in
    let c = and_parts (is_text s.attributes.asm) _ b.1 in
    let d = and_parts (is_text s.attributes.rdbms) (is_text s.attributes.advm) c.1 in
    record { incarnation = a.0; repair = b.0; asm = c.0; rdbms = d.0; advm = d.1 }

of_parts : (s : Settings) → Allowed s → is_item (settings_item s) ≡ true
unfolding is_item
of_parts s a = rw (a.incarnation, a.repair, a.asm, a.rdbms, a.advm) refl

-- a version is a text that settings may have
version_text : (v : Bytes) → is_version v ≡ true → are_bytes v ≡ true → is_text v ≡ true
version_text v is bytes =
    let p = and_parts (bytes_eq (take 4 v) (codes "11.2") && is_version_rest 30 (drop 4 v)) (leb (length v) 30) is in
    and_from (leb (length v) 30) (are_bytes v) p.1 bytes

-- settings whose other values are those of settings that are allowed
module _ {v s : Settings} (same : v ≡ s) (ok : is_item (settings_item s) ≡ true) where
  was : Allowed v
  was = parts_of v (subst (λ (x : Settings). is_item (settings_item x) ≡ true) (sym same) ok)

  pub repair_stays : v.attributes.repair < 2 ^ 64
  repair_stays = ltb-true v.attributes.repair (2 ^ 64) was.repair

  pub asm_stays : (text : Bytes) → text ≡ v.attributes.asm → is_text text ≡ true
  asm_stays text e = rw e was.asm

  pub rdbms_stays : (text : Bytes) → text ≡ v.attributes.rdbms → is_text text ≡ true
  rdbms_stays text e = rw e was.rdbms

  pub advm_stays : (text : Bytes) → text ≡ v.attributes.advm → is_text text ≡ true
  advm_stays text e = rw e was.advm

  pub allowed_with : (repair : ℕ) (asm rdbms advm : Bytes) → repair < 2 ^ 64 → is_text asm ≡ true → is_text rdbms ≡ true → is_text advm ≡ true
      → is_item (settings_item (record { incarnation = v.incarnation; attributes = record { repair = repair; asm = asm; rdbms = rdbms; advm = advm } })) ≡ true
  allowed_with repair asm rdbms advm less a r d =
      of_parts (record { incarnation = v.incarnation; attributes = record { repair = repair; asm = asm; rdbms = rdbms; advm = advm } })
      (record { incarnation = was.incarnation; repair = lt-ltb repair (2 ^ 64) less; asm = a; rdbms = r; advm = d })

pub new_text : (text value : Bytes) → text ≡ value → is_version value ≡ true → are_bytes value ≡ true → is_text text ≡ true
new_text text value e version bytes = rw e (version_text value version bytes)

-- ---- names

and_false : (b : Bool) → (b && false) ≡ false
and_false true = refl
and_false false = refl

pub other_length : (xs ys : Bytes) → (length xs ≡ length ys → ⊥) → is_same_name xs ys ≡ false
other_length [] [] n = absurd (n refl)
other_length [] (y ∷ ys) n = refl
other_length (x ∷ xs) [] n = refl
other_length (x ∷ xs) (y ∷ ys) n = rw (other_length xs ys (λ e. n (ap suc e))) (and_false (folded_byte x == folded_byte y))

-- ---- the attribute of a name

mapped_twice : (o : Option ℕ) (g : ℕ → Attributes) (s : Settings) → option_map (λ (a : Attributes). record s { attributes = a }) (option_map g o) ≡ option_map (λ (n : ℕ). record s { attributes = g n }) o
mapped_twice None g s = refl
mapped_twice (Some n) g s = refl

mapped_text : (o : Option Bytes) (g : Bytes → Attributes) (s : Settings) → option_map (λ (a : Attributes). record s { attributes = a }) (option_map g o) ≡ option_map (λ (v : Bytes). record s { attributes = g v }) o
mapped_text None g s = refl
mapped_text (Some n) g s = refl

when_mapped : (b : Bool) (v : Bytes) (g : Bytes → Attributes) → when b (g v) ≡ option_map g (when b v)
when_mapped true v g = refl
when_mapped false v g = refl

pub is_repair : (s : Settings) (name value : Bytes) → is_same_name name (codes "disk_repair_time") ≡ true
    → option_map (λ n. record s { attributes = record s.attributes { repair = n } }) (repair_seconds value) ≡ settings_with s name value
is_repair s name value repair = rw repair (sym (mapped_twice (repair_seconds value) (λ n. record s.attributes { repair = n }) s))

pub is_asm : (s : Settings) (name value : Bytes) → is_same_name name (codes "disk_repair_time") ≡ false → is_same_name name (codes "compatible.asm") ≡ true
    → option_map (λ v. record s { attributes = record s.attributes { asm = v } }) (when (is_version value) value) ≡ settings_with s name value
is_asm s name value repair asm = rw (repair, asm, when_mapped (is_version value) value (λ v. record s.attributes { asm = v })) (sym (mapped_text (when (is_version value) value) (λ v. record s.attributes { asm = v }) s))

pub is_rdbms : (s : Settings) (name value : Bytes) → is_same_name name (codes "disk_repair_time") ≡ false → is_same_name name (codes "compatible.asm") ≡ false → is_same_name name (codes "compatible.rdbms") ≡ true
    → option_map (λ v. record s { attributes = record s.attributes { rdbms = v } }) (when (is_version value) value) ≡ settings_with s name value
is_rdbms s name value repair asm rdbms =
    rw (repair, asm, rdbms, when_mapped (is_version value) value (λ v. record s.attributes { rdbms = v })) (sym (mapped_text (when (is_version value) value) (λ v. record s.attributes { rdbms = v }) s))

pub is_advm : (s : Settings) (name value : Bytes) → is_same_name name (codes "disk_repair_time") ≡ false → is_same_name name (codes "compatible.asm") ≡ false → is_same_name name (codes "compatible.rdbms") ≡ false
    → is_same_name name (codes "compatible.advm") ≡ true → option_map (λ v. record s { attributes = record s.attributes { advm = v } }) (when (is_version value) value) ≡ settings_with s name value
is_advm s name value repair asm rdbms advm =
    rw (repair, asm, rdbms, advm, when_mapped (is_version value) value (λ v. record s.attributes { advm = v })) (sym (mapped_text (when (is_version value) value) (λ v. record s.attributes { advm = v }) s))

pub is_none : (s : Settings) (name value : Bytes) → is_same_name name (codes "disk_repair_time") ≡ false → is_same_name name (codes "compatible.asm") ≡ false → is_same_name name (codes "compatible.rdbms") ≡ false
    → is_same_name name (codes "compatible.advm") ≡ false → None ≡ settings_with s name value
is_none s name value repair asm rdbms advm = rw (repair, asm, rdbms, advm) refl
