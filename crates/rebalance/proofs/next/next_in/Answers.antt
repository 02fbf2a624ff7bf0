use Rattle.std.proofs.Common.{◌≡◌, ◌∙◌, List, Option, ap, subst, sym}
use Rattle.std.specs.Option.{option_map, unwrap_or}
use Rattle.asm_formats.specs.Status.{Entry}
use Rattle.asm_placement.specs.Rebalancing.{Next, done}
use Rattle.catalog_laws.specs.catalog_tables.Tables.{AreTables, Catalogued}
use Rattle.rebalance.specs.Moves.{next_meant}
use Rattle.rebalance.specs.Searching.{all_said}
use Rattle.rebalance.specs.Sums.{Sums}
use Rattle.rebalance.specs.Cursors.{AreClear, HasGoneOn}
use Rattle.rebalance.proofs.Passing.{along}
use Rattle.rebalance.proofs.next.next_in.Goals as goal

pub all_said-requires-clause-tables : goal.all_said-requires-clause-tables
all_said-requires-clause-tables c = subst (λ (d : Catalogued). AreTables d.tables) (sym c.of-search.ensures.catalog) c.of-search.ensures.rules.rules.tables

pub all_said-requires-clause-cursor : goal.all_said-requires-clause-cursor
all_said-requires-clause-cursor c =
    let s = c.of-search.ensures in
    along (λ (d : Catalogued) (es : List Entry) (t : Sums). AreClear es d t c.args.cursor.now) _ _ _ _ _ _ (sym s.catalog) (sym s.disks) (sym s.shares) c.requires.cursor

pub returns-clause-next : goal.returns-clause-next
returns-clause-next c =
    let s = c.of-search.ensures in
    c.or_done.ensures
    ∙ ap (λ (o : Option Next). unwrap_or o done)
    (along (λ (d : Catalogued) (es : List Entry) (t : Sums). option_map next_meant c.all_said.result ≡ all_said d c.args.status.now es t) _ _ _ _ _ _ s.catalog s.disks s.shares c.all_said.ensures.said)

pub returns-clause-cursor : goal.returns-clause-cursor
returns-clause-cursor c =
    let s = c.of-search.ensures in
    along (λ (d : Catalogued) (es : List Entry) (t : Sums). AreClear es d t c.all_said.new.cursor) _ _ _ _ _ _ s.catalog s.disks s.shares c.all_said.ensures.cursor

pub returns-clause-gone_on : goal.returns-clause-gone_on
returns-clause-gone_on c =
    let s = c.of-search.ensures in
    along (λ (d : Catalogued) (es : List Entry) (t : Sums). HasGoneOn es d c.args.status.now t c.all_said.new.cursor) _ _ _ _ _ _ s.catalog s.disks s.shares c.all_said.ensures.gone_on
