use Rattle.std.proofs.Common.{◌≡◌, true, sym, ◌∙◌}
use Rattle.std.specs.List.{list_all}
use Rattle.alias_tree.specs.Nodes.{is_right}
use Rattle.alias_tree.specs.Places.{Indexes}
use Rattle.alias_tree.proofs.Rules.{found_of, index_of, no_clash, not_rooted, refused_by, table_of}
use Rattle.alias_tree.proofs.tree.AliasTree.from_records.Goals as goal

pub returns-in_default-2-clause-only : goal.returns-in_default-2-clause-only
returns-in_default-2-clause-only c =
    refused_by c.args.records.now c.in-Some.nodes c.in_ok-nodes.field-0 c.in-Some.is c.in_ok-nodes.ensures.only (λ t. no_clash c.in-Some.nodes t (rw c.in_default-2.is at c.in_ok-places.ensures))

pub returns-then-not-are_rooted-clause-only : goal.returns-then-not-are_rooted-clause-only
returns-then-not-are_rooted-clause-only c =
    refused_by c.args.records.now c.in-Some.nodes c.in_ok-nodes.field-0 c.in-Some.is c.in_ok-nodes.ensures.only (not_rooted c.in-Some.nodes (sym c.are_rooted.ensures ∙ c.if-not-are_rooted.true))

pub invariant_of-result : goal.invariant_of-result
invariant_of-result c =
    let f = found_of c.args.records.now c.in-Some.nodes c.in_ok-nodes.field-0 c.in-Some.is c.in_ok-nodes.ensures.found in
    let indexes : Indexes c.in-Some.nodes c.in-Some-2.places = rw c.in-Some-2.is at c.in_ok-places.ensures in
    let all : list_all (is_right c.in-Some.nodes) c.in-Some.nodes ≡ true = sym c.are_rooted.ensures ∙ c.if-not-are_rooted.false in
    (table_of c.in-Some.nodes c.in-Some-2.places f.0 indexes all, index_of c.in-Some.nodes c.in-Some-2.places f.0 indexes)

pub returns-clause-found : goal.returns-clause-found
returns-clause-found c =
    let f = found_of c.args.records.now c.in-Some.nodes c.in_ok-nodes.field-0 c.in-Some.is c.in_ok-nodes.ensures.found in
    let indexes : Indexes c.in-Some.nodes c.in-Some-2.places = rw c.in-Some-2.is at c.in_ok-places.ensures in
    let all : list_all (is_right c.in-Some.nodes) c.in-Some.nodes ≡ true = sym c.are_rooted.ensures ∙ c.if-not-are_rooted.false in
    (table_of c.in-Some.nodes c.in-Some-2.places f.0 indexes all, f.1)
