use Rattle.std.proofs.Common.{refl}
use Rattle.asm_group.specs.declared.NodeKind.TheVariants.{Directory}
use Rattle.alias_tree.proofs.Single.{one_node, short_part}
use Rattle.table_tests.proofs.tables.names.put_directory.Goals as goal

pub put-requires : goal.put-requires
put-requires c =
    rw c.new-tree.ensures (one_node (record { parent = 0; kind = Directory; file = 0; name = c.args.name })
    (short_part c.args.name c.as_bytes.result.now c.as_bytes.ensures.bytes c.as_bytes.ensures.part c.if-as_bytes-gt80.false) refl refl)
