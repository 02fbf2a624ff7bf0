-- The key of a node's record.
use Rattle.std.specs.Prelude.{Bool, ◌&&◌, ◌==◌, nat_lt}
use Rattle.asm_formats.specs.Items.{Key, nodes_kind}

-- a key that a node may have
abbrev pub is_node_key : Key → Bool
is_node_key k = (k.kind == nodes_kind) && (nat_lt 0 k.a && (k.b == 0))
