use Rattle.std.proofs.Common.{sym}
use Rattle.catalog.proofs.MarkedExtents.{later_found, later_none}
use Rattle.catalog.proofs.catalog.Catalog.marked_from.Goals as goal

pub returns-clause-found : goal.returns-clause-found
returns-clause-found c =
    later_found c.args.self.now c.args.disk c.args.least.file c.args.least.index c.in-Some-first_marked.later c.keeps_rules.ensures c.in_default.ensures.none (sym c.in-Some-first_marked.ensures) c.marked_in-2.result
    c.marked_in-2.ensures.found

pub returns-clause-none : goal.returns-clause-none
returns-clause-none c =
    later_none c.args.self.now c.args.disk c.args.least.file c.args.least.index c.in-Some-first_marked.later c.keeps_rules.ensures c.in_default.ensures.none (sym c.in-Some-first_marked.ensures) c.marked_in-2.result
    c.marked_in-2.ensures.none
