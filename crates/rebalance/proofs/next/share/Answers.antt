use Rattle.rebalance.proofs.Searching.{share_is}
use Rattle.rebalance.proofs.next.share.Goals as goal

pub returns : goal.returns
returns c = record {
  share = share_is c.args.catalog.now c.args.status.now c.args.disk c.share.result c.units-units.result.now c.of.result c.units-units.ensures.rules c.requires c.units-units.ensures.units c.share.ensures.placement c.of.ensures.placement;
}
