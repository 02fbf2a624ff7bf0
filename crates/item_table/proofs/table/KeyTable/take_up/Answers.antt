use Rattle.std.proofs.Common.{sym, ap, ◌∙◌}
use Rattle.std.specs.Option.{option_map}
use Rattle.item_table.proofs.Laws.{is_kept, step_taken}
use Rattle.item_table.proofs.table.KeyTable.take_up.Goals as goal

pub put-requires : goal.put-requires
put-requires g c =
    rw c.place_of-place.ensures
    (is_kept g.met.T.Listed.is_entry g.T.Listed.is_mine (c.args.key, c.args.value.now) (g.T.Listed.place_of c.args.key) c.in-Some.kept (sym c.is_mine.ensures ∙ c.if-not-is_mine.false)
    (c.in_ok-kept.ensures ∙ ap (option_map (λ (y : g.row.T.Denot). (g.T.Listed.place_of c.args.key, y))) c.in-Some.is))

pub returns : goal.returns
returns g c =
    step_taken g.met.T.Listed.is_entry g.T.Listed.is_mine g.met.K.Ord.total c.args.self.now c.put.new.self (c.args.key, c.args.value.now) (g.T.Listed.place_of c.args.key) c.in-Some.kept (sym c.is_mine.ensures ∙ c.if-not-is_mine.false)
    c.ends_before.ensures.table (c.in_ok-kept.ensures ∙ ap (option_map (λ (y : g.row.T.Denot). (g.T.Listed.place_of c.args.key, y))) c.in-Some.is)
    (rw c.place_of-place.ensures at (sym c.ends_before.ensures.ends ∙ c.if-not-ends_before.false)) (rw c.place_of-place.ensures at c.in_ok-put.ensures.ok)
