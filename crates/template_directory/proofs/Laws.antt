-- The names and texts of allowed records fit their fields.
use Rattle.std.proofs.Common.{◌≡◌, ◌≤◌, ◌^◌, true, length, sym, subst}
use Rattle.std.specs.Prelude.{nat_lt}
use Rattle.std.proofs.lemmas.Bool.{and_parts, leb-true}
use Rattle.asm_group.specs.Names.{is_name}
use Rattle.asm_group.specs.Group.{Template}
use Rattle.asm_formats.specs.Items.{Settings, is_item, is_redundancy, is_template, is_text, settings_item}
use Rattle.asm_formats.proofs.Fields.{name_len}

-- a template is seen as one whose name fits
pub name_fits : {s t : Template} → s ≡ t → is_template t ≡ true → length s.name ≤ 30
name_fits {s} {t} same ok = subst (λ (u : Template). length u.name ≤ 30) (sym same) (name_len t.name (and_parts (is_name t.name) (is_redundancy t.copies) ok).0)

pub record TextsFit (s : Settings) : Type 0 where
  pub asm : length s.attributes.asm ≤ 30
  pub rdbms : length s.attributes.rdbms ≤ 30
  pub advm : length s.attributes.advm ≤ 30

pub texts_fit : (s : Settings) → is_item (settings_item s) ≡ true → TextsFit s
unfolding is_item
texts_fit s ok =
    let a = and_parts (nat_lt s.incarnation (2 ^ 64)) _ ok in
    let b = and_parts (nat_lt s.attributes.repair (2 ^ 64)) _ a.1 in
    let c = and_parts (is_text s.attributes.asm) _ b.1 in
    let d = and_parts (is_text s.attributes.rdbms) (is_text s.attributes.advm) c.1 in
    record {
      asm = leb-true (length s.attributes.asm) 30 (and_parts _ _ c.0).0;
      rdbms = leb-true (length s.attributes.rdbms) 30 (and_parts _ _ d.0).0;
      advm = leb-true (length s.attributes.advm) 30 (and_parts _ _ d.1).0;
    }
