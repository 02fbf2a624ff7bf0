-- A node is read from its one spelling alone.
use Rattle.std.proofs.Common.{◌≡◌, ℕ, ◌^◌, ◌<◌, true, ltb, refl, arith}
use Rattle.std.specs.Int.{w32}
use Rattle.std.specs.Option.{option_map}
use Rattle.std.proofs.lemmas.Bool.{and_parts, ltb-true, lt-ltb}
use Rattle.asm_base.specs.asm_group.Names.{Bytes, is_part}
use Rattle.asm_base.specs.asm_formats.Items.{Node, node_item, is_item}
use Rattle.asm_base.specs.asm_formats.Values.{value, decoded_item, item_by, node_value, node_in_bytes}
use Rattle.asm_base.specs.Parts.{NodeParts, to_node}
use Rattle.asm_base.specs.Records.{all_of}
use Rattle.asm_base.proofs.Exact.{IsExact, both_exact, as_exact, fits_exact}
use Rattle.asm_base.proofs.Numbers.{number_exact}
use Rattle.byte_codes.proofs.WordLaws.{node_kind_exact}
use Rattle.asm_base.proofs.NameLaws.{name_exact}
use Rattle.record_values.specs.Values.{node_reading}
use Rattle.record_values.proofs.Decoded.{value_decoded}

pub record FitsNode (n : Node) : Type 0 where
  pub parent : n.parent < 2 ^ 32
  pub file : n.file < 2 ^ 32
  pub name : is_part 80 n.name ≡ true

of_node : Node → NodeParts
of_node n = (n.parent, (n.kind, (n.file, n.name)))

pub node_exact : IsExact node_value FitsNode node_reading
unfolding of_node node_reading
node_exact =
    fits_exact (λ n f. record { parent = f.0; file = f.1.1.0; name = f.1.1.1 }) (λ n f. (f.parent, (tt, (f.file, f.name))))
    (as_exact to_node of_node (λ p. refl) (λ n. refl) (both_exact (number_exact w32) (both_exact node_kind_exact (both_exact (number_exact w32) (name_exact 80 (omega arith))))))

node_spelt : (n : ℕ) (node : Node) → value (node_item n node) ≡ node_value node
unfolding value
node_spelt n node = refl

pub node_allowed : (n : ℕ) (node : Node) → 0 < n → n < 2 ^ 32 → FitsNode node → is_item (node_item n node) ≡ true
unfolding is_item
node_allowed n node some lt fits = rw (lt-ltb 0 n some, lt-ltb n (2 ^ 32) lt, lt-ltb node.parent (2 ^ 32) fits.parent, lt-ltb node.file (2 ^ 32) fits.file) fits.name

pub node_fits : (n : ℕ) (node : Node) → is_item (node_item n node) ≡ true → (0 < n) × (n < 2 ^ 32) × FitsNode node
unfolding is_item
node_fits n node ok =
    let z = and_parts (ltb 0 n) _ ok in
    let a = and_parts (ltb n (2 ^ 32)) _ z.1 in
    let b = and_parts (ltb node.parent (2 ^ 32)) _ a.1 in
    let c = and_parts (ltb node.file (2 ^ 32)) (is_part 80 node.name) b.1 in
    (ltb-true 0 n z.0, ltb-true n (2 ^ 32) a.0, record { parent = ltb-true node.parent (2 ^ 32) b.0; file = ltb-true node.file (2 ^ 32) c.0; name = c.1 })

pub node_form : (n b : ℕ) (bytes : Bytes) → item_by (record { kind = 6; a = n; b = b }) bytes ≡ node_item n (node_in_bytes bytes)
unfolding item_by
node_form n b bytes = refl

pub node_decoded : (n : ℕ) (bytes : Bytes) → 0 < n → n < 2 ^ 32 → option_map (node_item n) (all_of node_reading bytes) ≡ decoded_item (record { kind = 6; a = n; b = 0 }) bytes
node_decoded n bytes some lt =
    value_decoded node_exact (record { kind = 6; a = n; b = 0 }) (node_item n) (node_in_bytes bytes) bytes (node_form n 0 bytes) (node_spelt n) (λ node fits. (node_allowed n node some lt fits, refl)) (λ node ok. (node_fits n node ok).2)
