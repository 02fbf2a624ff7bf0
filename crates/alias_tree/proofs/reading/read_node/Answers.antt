use Rattle.std.proofs.Common.{sym, ap, ◌∙◌}
use Rattle.asm_base.specs.Records.{all_of}
use Rattle.record_values.specs.Values.{node_reading}
use Rattle.alias_tree.proofs.Readings.{node_is_read}
use Rattle.alias_tree.proofs.reading.read_node.Goals as goal

pub returns : goal.returns
returns c =
    node_is_read c.args.key c.args.value.now c.in_ok-node.node c.is_node_key.ensures.fits (sym c.is_node_key.ensures.is ∙ c.if-not-is_node_key.false) (c.in_ok-node.ensures ∙ ap (all_of node_reading) c.as_bytes.ensures.bytes)
