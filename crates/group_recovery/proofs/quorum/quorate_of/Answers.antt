use Rattle.std.proofs.Common.{List, subst}
use Rattle.group_recovery.specs.Quorum.{IsReadOf}
use Rattle.group_recovery.specs.declared.finding.Headed.{Headed}
use Rattle.group_recovery.proofs.Quorums.{answered, entries_allowed, shape_allowed}
use Rattle.group_recovery.proofs.quorum.quorate_of.Goals as goal

pub catalogued-requires-clause-shape : goal.catalogued-requires-clause-shape
catalogued-requires-clause-shape g c =
    let t = g.B.Bay.state c.read_group.new.bay in
    let is = c.in_ok-read.ensures.read in
    shape_allowed c.args.slots c.args.id c.as_slice.result.now t is.there c.in_ok-read.read.shape is.shape

pub catalogued-requires-clause-entries : goal.catalogued-requires-clause-entries
catalogued-requires-clause-entries g c = entries_allowed c.in_ok-read.read.survey.value c.in_ok-read.ensures.read.survey.well.allowed

pub returns-clause-answer : goal.returns-clause-answer
returns-clause-answer g c =
    let s = g.B.Bay.state c.args.bay.now in
    let t = g.B.Bay.state c.read_group.new.bay in
    let is = subst (λ (l : List Headed). IsReadOf (record { id = c.args.id; slots = c.args.slots; headed = l }) c.in_ok-read.read t) c.as_slice.ensures.value c.in_ok-read.ensures.read in
    answered c.args.option (record { id = c.args.id; slots = c.args.slots; headed = c.args.headed.items }) c.in_ok-read.read s t is c.catalogued.result c.catalogued.ensures.made c.catalogued.ensures.cause
