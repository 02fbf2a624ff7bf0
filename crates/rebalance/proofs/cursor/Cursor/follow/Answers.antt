use Rattle.std.proofs.Common.{◌/◌, sym, subst}
use Rattle.rebalance.specs.Cursors.{IsFollowed, SearchPlaces}
use Rattle.rebalance.proofs.Following.{followed_is}
use Rattle.rebalance.proofs.cursor.Cursor.follow.Goals as goal

pub returns-clause-follows : goal.returns-clause-follows
returns-clause-follows c =
    subst (λ (k : SearchPlaces). IsFollowed (c.args.extent.file, c.args.extent.index / 256) c.args.self.now c.args.catalog.now c.args.status.now k) (sym c.followed.ensures)
    (followed_is c.args.self.now (c.args.extent.file, c.args.extent.index / 256) c.args.catalog.now c.args.status.now c.requires.tables)
