use Rattle.std.proofs.Common.{Option, ap, ◌∙◌}
use Rattle.alias_tree.specs.Places.{Place, number_at_place, without_place}
use Rattle.alias_tree.proofs.IndexLaws.{index_without}
use Rattle.alias_tree.proofs.index.remove_node.Goals as goal

pub returns-clause-index : goal.returns-clause-index
returns-clause-index c =
    index_without c.args.nodes.now c.remove.new.self c.args.places.now c.forget.new.places c.args.key c.requires.index c.remove.ensures.at
    (λ q. c.forget.ensures q ∙ ap (λ (o : Option Place). without_place o q (number_at_place c.args.places.now q)) c.place_at-gone.ensures)
