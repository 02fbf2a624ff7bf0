use Rattle.alias_tree.proofs.FoundFaults.{none_at_fault}
use Rattle.alias_tree.proofs.tree.AliasTree.fault_in.Goals as goal

pub returns-clause-none : goal.returns-clause-none
returns-clause-none c =
    none_at_fault c.args.records.now c.in-Some.nodes c.in_ok-nodes.field-0 c.in-Some.is c.in_ok-nodes.ensures.only c.in_ok-nodes.ensures.found c.first_unrooted.result c.first_unrooted.ensures c.in_default-first_unrooted.is c.in_ok-twin.twin c.in_ok-twin.ensures.none
