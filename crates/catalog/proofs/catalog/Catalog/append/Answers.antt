use Rattle.catalog.proofs.AppendPlans.{append_planned}
use Rattle.catalog.proofs.catalog.Catalog.append.Goals as goal

pub returns : goal.returns
returns c = append_planned c.args.self.now c.keeps_rules.ensures c.args.file c.args.chunk c.args.homes.now c.args.marks.now c.requires.append c.ranges.file.fits c.units_fit.ensures c.in_ok-change.change.put c.in_ok-change.change.gone c.requires.room
    c.in_ok-change.ensures.put c.in_ok-change.ensures.gone
