use Rattle.std.proofs.Common.{◌≤◌, length, sym, ap, subst, ◌∙◌}
use Rattle.std.specs.Prelude.{is_some}
use Rattle.std.specs.Option.{option_map}
use Rattle.asm_formats.specs.Items.{Key, Node, node_item}
use Rattle.alias_tree.specs.Nodes.{with_numbered_node}
use Rattle.alias_tree.specs.Places.{named_place, place_of}
use Rattle.alias_tree.proofs.OpenLaws.{is_taken, name_of_record, put_keeps_nodes}
use Rattle.alias_tree.proofs.opening.OpenTree.put_record.Goals as goal

pub named_place-at-requires : goal.named_place-at-requires
named_place-at-requires c =
    let short = name_of_record c.args.key c.args.value.now c.in-Some.node (ap (option_map (node_item c.args.key.a)) (sym c.in-Some.is) ∙ c.in_ok-node.ensures) in
    rw c.as_bytes.ensures.bytes (subst (λ (x : Node). length x.name ≤ 80) (sym c.node.view_is) short)

pub returns-then-is_some-clause-refused : goal.returns-then-is_some-clause-refused
returns-then-is_some-clause-refused c =
    rw (← c.self.view_is)
    (is_taken c.self.inside.nodes c.self.inside.places c.args.key c.args.value.now c.in-Some.node c.named_place-at.result (ap (option_map (node_item c.args.key.a)) (sym c.in-Some.is) ∙ c.in_ok-node.ensures) c.self.invariant.1
    (c.named_place-at.ensures ∙ ap (named_place c.node.inside.parent) c.as_bytes.ensures.bytes ∙ ap place_of c.node.view_is) (ap is_some (sym c.get.ensures) ∙ sym c.is_some.ensures ∙ c.if-is_some.true))

pub invariant_of-self-2 : goal.invariant_of-self-2
invariant_of-self-2 c = (
  put_keeps_nodes c.self.inside.nodes c.put_at.new.nodes c.args.key c.args.value.now c.in-Some.node (ap (option_map (node_item c.args.key.a)) (sym c.in-Some.is) ∙ c.in_ok-node.ensures)
      (c.in_ok-put_at.ensures.ok ∙ ap (λ (k : Key). with_numbered_node c.self.inside.nodes k.a c.in-Some.node) c.key.view_is) c.self.invariant.0,
  c.put_at.ensures.index,
)
