-- How many bytes fields and values take.
use Rattle.std.proofs.Common.{◌≡◌, ℕ, ◌+◌, ◌-◌, ◌*◌, ◌^◌, ◌≤◌, Bool, true, List, [], ◌∷◌, ◌++◌, length, replicate, refl, Option, Some, None, arith, w16, w32, w64, ◌==◌}
use Rattle.std.specs.List.{list_all, flat_map}
use Rattle.std.specs.Prelude.{nat_le, nat_lt}
use Rattle.std.proofs.lemmas.Bool.{and_parts, leb-true, eqb-true}
use Rattle.std.proofs.lemmas.List.{length-append, length-replicate}
use Rattle.asm_group.specs.Names.{Bytes, is_name, is_part}
use Rattle.asm_group.specs.Group.{Template}
use Rattle.asm_formats.specs.Bytes.{number_bytes, name_field}
use Rattle.asm_formats.specs.Codes.{flag, stripe_code, node_code}
use Rattle.asm_formats.specs.Items.{Home, Homes, Item, file_item, chunk_item, disk_item, rebalance_item, pending_item, templates_item, node_item, settings_item, marks_item, is_redundancy, is_home, chunk_len, is_homes, is_text, is_template, names_ascend, most_templates, is_item}
use Rattle.asm_formats.specs.Values.{home_fields, template_fields, value}
use Rattle.asm_formats.specs.Records.{most_value}
use Rattle.asm_formats.proofs.Fields.{name_len, part_len}

pub len16 : (n : ℕ) → length (number_bytes w16 n) ≡ 2
unfolding number_bytes
len16 n = refl

pub len32 : (n : ℕ) → length (number_bytes w32 n) ≡ 4
unfolding number_bytes
len32 n = refl

pub len64 : (n : ℕ) → length (number_bytes w64 n) ≡ 8
unfolding number_bytes
len64 n = refl

pub len_name : (width : ℕ) (name : Bytes) → length name ≤ width → length (name_field width name) ≡ width + 1
unfolding name_field
len_name width name le =
    omega (arith, length-append name (replicate (width - length name) 0), length-replicate {A = ℕ} (width - length name) 0)

-- fields of one length
pub len_flat_map : {A : Type 0} (fields : A → Bytes) (ok : A → Bool) (n : ℕ) → ((x : A) → ok x ≡ true → length (fields x) ≡ n)
    → (xs : List A) → list_all ok xs ≡ true → length (flat_map fields xs) ≡ length xs * n
len_flat_map fields ok n each [] all = omega arith
len_flat_map fields ok n each (x ∷ xs) all =
    let p = and_parts (ok x) (list_all ok xs) all in
    omega (arith, length-append (fields x) (flat_map fields xs), each x p.0, len_flat_map fields ok n each xs p.1)

len_home : (o : Option Home) → is_home o ≡ true → length (home_fields o) ≡ 5
len_home None ok = omega (arith, len32 0)
len_home (Some h) ok = omega (arith, len32 h.unit)

len_homes : (hs : Homes) → is_homes hs ≡ true → length (flat_map home_fields hs) ≡ 15
len_homes hs ok =
    let p = and_parts (length hs == 3) (list_all is_home hs) ok in
    omega (arith, len_flat_map home_fields is_home 5 len_home hs p.1, eqb-true (length hs) 3 p.0)

len_template : (t : Template) → is_template t ≡ true → length (template_fields t) ≡ 34
len_template t ok =
    let p = and_parts (is_name t.name) (is_redundancy t.copies) ok in
    omega (arith, length-append (name_field 30 t.name) (t.copies ∷ stripe_code t.stripe ∷ flag t.system ∷ []), len_name 30 t.name (name_len t.name p.0))

pub len_value : (i : Item) → is_item i ≡ true → length (value i) ≤ most_value
unfolding value is_item
len_value (file_item f h) ok =
    let a = and_parts (nat_lt f (2 ^ 32)) _ ok in
    let b = and_parts (is_redundancy h.copies) _ a.1 in
    let c = and_parts (is_part 30 h.type_name) _ b.1 in
    let last = number_bytes w32 h.system ++ number_bytes w32 h.alias in
    let middle = number_bytes w64 h.incarnation ++ last in
    let all = number_bytes w64 h.size ++ middle in
    omega (
      arith,
      length-append (name_field 30 h.type_name) all,
      length-append (number_bytes w64 h.size) middle,
      length-append (number_bytes w64 h.incarnation) last,
      length-append (number_bytes w32 h.system) (number_bytes w32 h.alias),
      len_name 30 h.type_name (part_len 30 h.type_name c.0),
      len64 h.size,
      len64 h.incarnation,
      len32 h.system,
      len32 h.alias,
    )
len_value (chunk_item f c homes) ok =
    let a = and_parts (nat_lt f (2 ^ 32)) _ ok in
    let b = and_parts (nat_lt (c + 1) (2 ^ 32)) _ a.1 in
    let d = and_parts (length homes == chunk_len) (list_all is_homes homes) b.1 in
    omega (arith, len_flat_map (flat_map home_fields) is_homes 15 len_homes homes d.1, eqb-true (length homes) 256 d.0)
len_value (disk_item d info) ok =
    let a = and_parts (nat_lt d 64) _ ok in
    let b = and_parts (nat_lt info.birth (2 ^ 64)) _ a.1 in
    let c = and_parts (is_name info.name) (is_name info.failgroup) b.1 in
    let names = name_field 30 info.name ++ name_field 30 info.failgroup in
    omega (
      arith,
      length-append (number_bytes w64 info.birth) names,
      length-append (name_field 30 info.name) (name_field 30 info.failgroup),
      len64 info.birth,
      len_name 30 info.name (name_len info.name c.0),
      len_name 30 info.failgroup (name_len info.failgroup c.1),
    )
len_value (rebalance_item power) ok = omega (arith, len16 power)
len_value (pending_item op) ok = omega (arith, length-append (number_bytes w32 op.file) (number_bytes w64 op.kept), len32 op.file, len64 op.kept)
len_value (templates_item ts) ok =
    let a = and_parts (nat_le (length ts) most_templates) _ ok in
    let b = and_parts (list_all is_template ts) (names_ascend ts) a.1 in
    omega (arith, len_flat_map template_fields is_template 34 len_template ts b.0, leb-true (length ts) 64 a.0)
len_value (node_item n node) ok =
    let z = and_parts (nat_lt 0 n) _ ok in
    let a = and_parts (nat_lt n (2 ^ 32)) _ z.1 in
    let b = and_parts (nat_lt node.parent (2 ^ 32)) _ a.1 in
    let c = and_parts (nat_lt node.file (2 ^ 32)) (is_part 80 node.name) b.1 in
    let name = number_bytes w32 node.file ++ name_field 80 node.name in
    omega (
      arith,
      length-append (number_bytes w32 node.parent) (node_code node.kind ∷ name),
      length-append (number_bytes w32 node.file) (name_field 80 node.name),
      len32 node.parent,
      len32 node.file,
      len_name 80 node.name (part_len 80 node.name c.1),
    )
len_value (settings_item s) ok =
    let t = s.attributes in
    let a = and_parts (nat_lt s.incarnation (2 ^ 64)) _ ok in
    let b = and_parts (nat_lt t.repair (2 ^ 64)) _ a.1 in
    let c = and_parts (is_text t.asm) _ b.1 in
    let d = and_parts (is_text t.rdbms) (is_text t.advm) c.1 in
    let two = name_field 30 t.rdbms ++ name_field 30 t.advm in
    let three = name_field 30 t.asm ++ two in
    omega (
      arith,
      length-append (number_bytes w64 s.incarnation) (number_bytes w64 t.repair ++ three),
      length-append (number_bytes w64 t.repair) three,
      length-append (name_field 30 t.asm) two,
      length-append (name_field 30 t.rdbms) (name_field 30 t.advm),
      len64 s.incarnation,
      len64 t.repair,
      len_name 30 t.asm (text_len t.asm c.0),
      len_name 30 t.rdbms (text_len t.rdbms d.0),
      len_name 30 t.advm (text_len t.advm d.1),
    )
  where
    text_len : (t : Bytes) → is_text t ≡ true → length t ≤ 30
    text_len t h = leb-true (length t) 30 (and_parts (nat_le (length t) 30) _ h).0
len_value (marks_item f c marks) ok =
    let a = and_parts (nat_lt f (2 ^ 32)) _ ok in
    let b = and_parts (nat_lt (c + 1) (2 ^ 32)) _ a.1 in
    let d = and_parts (length marks == chunk_len) _ b.1 in
    omega (arith, eqb-true (length marks) 256 d.0)
