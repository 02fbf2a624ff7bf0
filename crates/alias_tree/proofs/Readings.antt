-- A node is read exactly from its record.
use Rattle.std.proofs.Common.{◌≡◌, ℕ, ◌<◌, ◌≤◌, ◌^◌, true, false, ltb, eqb, List, length, Option, None, refl, sym, ap, ◌∙◌, arith}
use Rattle.std.specs.Prelude.{◌&&◌, IsTrue}
use Rattle.std.specs.Option.{option_map}
use Rattle.std.proofs.lemmas.Bool.{and_parts, eqb-true, eq-eqb, lt-ltb, ltb-true, true≢false}
use Rattle.asm_group.specs.Names.{is_part}
use Rattle.asm_formats.specs.Items.{node_item, Key, Node, item_key, is_item}
use Rattle.asm_formats.specs.Values.{decoded_item, item_by, node_in_bytes}
use Rattle.asm_base.specs.Records.{all_of}
use Rattle.asm_base.proofs.NameLaws.{part_is_short, part_of}
use Rattle.record_values.specs.Values.{node_reading}
use Rattle.record_values.proofs.Decoded.{nothing_decoded}
use Rattle.record_values.proofs.Nodes.{node_allowed, node_decoded, node_fits, node_form}
use Rattle.alias_tree.specs.Readings.{is_node_key}

-- ---- what a node's item has

pub name_is_short : (n : ℕ) (node : Node) → IsTrue (is_item (node_item n node)) → length node.name ≤ 80
name_is_short n node h = part_is_short 80 node.name (node_fits n node h).2.name

pub name_is_part : (n : ℕ) (node : Node) → IsTrue (is_item (node_item n node)) → is_part 80 node.name ≡ true
name_is_part n node h = (node_fits n node h).2.name

pub name_is_some : (n : ℕ) (node : Node) → IsTrue (is_item (node_item n node)) → 0 < length node.name
name_is_some n node h = ltb-true 0 (length node.name) (part_of 80 node.name (node_fits n node h).2.name).some

pub number_is_some : (n : ℕ) (node : Node) → is_item (node_item n node) ≡ true → (0 < n) × (n < 2 ^ 32)
number_is_some n node h = let f = node_fits n node h in (f.0, f.1)

pub file_is_small : (n : ℕ) (node : Node) → is_item (node_item n node) ≡ true → node.file < 2 ^ 32
file_is_small n node h = (node_fits n node h).2.file

pub single_item : (node : Node) → is_part 80 node.name ≡ true → node.parent ≡ 0 → node.file ≡ 0 → is_item (node_item 1 node) ≡ true
single_item node name parent file = node_allowed 1 node (omega arith) (omega arith) (record { parent = omega arith; file = omega arith; name = name })

pub hung_item : (n : ℕ) (node : Node) → 0 < n → n < 2 ^ 32 → node.parent < 2 ^ 32 → node.file < 2 ^ 32 → is_part 80 node.name ≡ true → is_item (node_item n node) ≡ true
hung_item n node some small parent file name = node_allowed n node some small (record { parent = parent; file = file; name = name })

-- ---- what is read

-- a record of a node's kind with another key is that of no node
pub none_is_read : (k : Key) (bytes : List ℕ) → k.kind ≡ 6 → is_node_key k ≡ false → option_map (node_item k.a) None ≡ decoded_item k bytes
none_is_read k bytes kind other = sym (nothing_decoded k bytes (node_item k.a (node_in_bytes bytes)) form never) where
  same : record { kind = 6; a = k.a; b = k.b } ≡ k
  same = λ i. record { kind = sym kind i; a = k.a; b = k.b }

  form : item_by k bytes ≡ node_item k.a (node_in_bytes bytes)
  form = ap (λ (j : Key). item_by j bytes) (sym same) ∙ node_form k.a k.b bytes

  never : is_item (node_item k.a (node_in_bytes bytes)) ≡ true → item_key (node_item k.a (node_in_bytes bytes)) ≡ k → ⊥
  never ok at =
      let some : ltb 0 k.a ≡ true = lt-ltb 0 k.a (node_fits k.a (node_in_bytes bytes) ok).0 in
      let no_b : eqb k.b 0 ≡ true = ap (λ (j : Key). eqb j.b 0) (sym at) in
      let is : is_node_key k ≡ true = rw (eq-eqb k.kind 6 kind, some, no_b) refl in
      true≢false (sym is ∙ other)

-- What is read of a value is the node that is decoded.
pub node_is_read : (k : Key) (bytes : List ℕ) (read : Option Node) → k.a < 2 ^ 32 → is_node_key k ≡ true → read ≡ all_of node_reading bytes → option_map (node_item k.a) read ≡ decoded_item k bytes
node_is_read k bytes read high mine e =
    let p = and_parts (eqb k.kind 6) (ltb 0 k.a && eqb k.b 0) mine in
    let q = and_parts (ltb 0 k.a) (eqb k.b 0) p.1 in
    let same : record { kind = 6; a = k.a; b = 0 } ≡ k = λ i. record { kind = sym (eqb-true k.kind 6 p.0) i; a = k.a; b = sym (eqb-true k.b 0 q.1) i } in
    ap (option_map (node_item k.a)) e ∙ node_decoded k.a bytes (ltb-true 0 k.a q.0) high ∙ ap (λ (j : Key). decoded_item j bytes) same
