use Rattle.std.proofs.Common.{◌≡◌, ℕ, cond, Option, Some, sym, ap, ◌∙◌}
use Rattle.std.specs.Ordering.{nat_cmp}
use Rattle.std.specs.BTreeMap.{is_at}
use Rattle.alias_tree.specs.Nodes.{node_at}
use Rattle.alias_tree.specs.Places.{Place, number_at_place, without_place}
use Rattle.alias_tree.proofs.IndexLaws.{err_of, ok_of, put_and_gone, put_new}
use Rattle.alias_tree.proofs.index.put_at.Goals as goal

pub returns-then-is_err-clause-index : goal.returns-then-is_err-clause-index
returns-then-is_err-clause-index c =
    let same : c.put-2.new.self ≡ c.args.nodes.now = err_of c.put-2.result (c.put-2.new.self ≡ c.args.nodes.now) (sym c.is_err.ensures.value ∙ c.if-is_err.true) c.put-2.ensures.err in
    rw same (put_and_gone c.args.nodes.now c.args.places.now c.put.new.self c.remove.new.self c.args.at c.args.key c.requires.index c.requires.free c.in_ok-put.ensures.ok c.remove.ensures)

pub returns-clause-index : goal.returns-clause-index
returns-clause-index c =
    let nodes_are : (n : ℕ) → node_at c.put-2.new.self n ≡ cond (is_at (nat_cmp c.args.key) n) (Some c.args.item) (node_at c.args.nodes.now n) = ok_of c.put-2.result ((n : ℕ) → node_at c.put-2.new.self n ≡ cond (is_at (nat_cmp c.args.key) n) (Some c.args.item) (node_at c.args.nodes.now n)) (sym c.is_err.ensures.value ∙ c.if-is_err.false) c.put-2.ensures.at in
    put_new c.args.nodes.now c.put-2.new.self c.args.places.now c.put.new.self c.forget.new.places c.args.at c.args.key c.args.item c.requires.index c.requires.at c.requires.free nodes_are c.in_ok-put.ensures.ok
    (λ q. c.forget.ensures q ∙ ap (λ (o : Option Place). without_place o q (number_at_place c.put.new.self q)) c.place_at-before.ensures)

pub returns-clause-nodes : goal.returns-clause-nodes
returns-clause-nodes c = ok_of c.put-2.result ((n : ℕ) → node_at c.put-2.new.self n ≡ cond (is_at (nat_cmp c.args.key) n) (Some c.args.item) (node_at c.args.nodes.now n)) (sym c.is_err.ensures.value ∙ c.if-is_err.false) c.put-2.ensures.at
