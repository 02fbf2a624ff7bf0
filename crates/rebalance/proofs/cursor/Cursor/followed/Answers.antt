use Rattle.std.proofs.Common.{◌≡◌, List, subst, sym}
use Rattle.asm_formats.specs.Status.{Entry}
use Rattle.catalog_laws.specs.catalog_tables.Tables.{AreTables, Catalogued}
use Rattle.rebalance.specs.Cursors.{places_after}
use Rattle.rebalance.specs.Sums.{Sums}
use Rattle.rebalance.proofs.Passing.{along}
use Rattle.rebalance.proofs.cursor.Cursor.followed.Goals as goal

pub followed_by-requires : goal.followed_by-requires
followed_by-requires c = subst (λ (d : Catalogued). AreTables d.tables) (sym c.of.ensures.catalog) c.requires

pub returns : goal.returns
returns c =
    let s = c.of.ensures in
    along (λ (d : Catalogued) (es : List Entry) (t : Sums). c.followed_by.result ≡ places_after es d t c.args.self.now c.args.at) _ _ _ _ _ _ s.catalog s.disks s.shares c.followed_by.ensures
