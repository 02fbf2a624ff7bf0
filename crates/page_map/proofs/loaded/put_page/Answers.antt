use Rattle.std.proofs.Common.{ap, refl, sym, ◌∙◌}
use Rattle.std.specs.Prelude.{is_some}
use Rattle.page_map.specs.Tables.{place_at}
use Rattle.page_map.proofs.Loading.{puts_page, has_key, no_place}
use Rattle.page_map.proofs.loaded.put_page.Goals as goal

pub returns-then-is_some-clause-twin : goal.returns-then-is_some-clause-twin
returns-then-is_some-clause-twin c =
    (refl, has_key c.args.map.now c.args.block.now c.in_ok-record.record c.in_ok-record.ensures (ap is_some (sym c.place.ensures.page) ∙ sym c.is_some.ensures ∙ c.if-is_some.true))

pub returns-clause-ok : goal.returns-clause-ok
returns-clause-ok c =
    puts_page c.args.map.now c.add_at.new.self c.args.page c.args.block.now c.in_ok-record.record c.in_ok-record.ensures (no_place (place_at c.args.map.now.places c.in_ok-record.record.0) (ap is_some (sym c.place.ensures.page) ∙ sym c.is_some.ensures ∙ c.if-is_some.false)) c.in_ok-add_at.ensures
