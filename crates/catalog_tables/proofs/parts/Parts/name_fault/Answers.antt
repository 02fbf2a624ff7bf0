use Rattle.std.proofs.Common.{sym}
use Rattle.catalog_tables.proofs.FaultLaws.{alone_is, file_is, mark_alone_is, node_is}
use Rattle.catalog_tables.proofs.parts.Parts.name_fault.Goals as goal

pub returns-in-Some-clause-some : goal.returns-in-Some-clause-some
returns-in-Some-clause-some c = λ s es. alone_is s es c.args.self.now c.in-Some.at c.marks_key.result (sym c.in-Some.ensures) c.marks_key.ensures

pub returns-in-Some-mark_alone-clause-some : goal.returns-in-Some-mark_alone-clause-some
returns-in-Some-mark_alone-clause-some c = λ s es. mark_alone_is s es c.args.self.now c.in-Some-mark_alone.at c.marks_key-in-Some-mark_alone.result (sym c.in-Some-mark_alone.ensures) c.marks_key-in-Some-mark_alone.ensures

pub returns-in-Some-nameless_node-clause-some : goal.returns-in-Some-nameless_node-clause-some
returns-in-Some-nameless_node-clause-some c = λ s es. node_is s es c.args.self.now c.in-Some-nameless_node.number c.node_key.result (sym c.in-Some-nameless_node.ensures) c.node_key.ensures

pub returns-in-Some-nameless_file-clause-some : goal.returns-in-Some-nameless_file-clause-some
returns-in-Some-nameless_file-clause-some c = λ s es. file_is s es c.args.self.now c.in-Some-nameless_file.file c.file_key.result (sym c.in-Some-nameless_file.ensures) c.file_key.ensures
