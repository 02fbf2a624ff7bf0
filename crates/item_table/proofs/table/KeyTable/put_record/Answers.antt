use Rattle.std.proofs.Common.{ap, ◌∙◌}
use Rattle.std.specs.Option.{option_map}
use Rattle.asm_base.proofs.ItemTables.{nothing_decoded}
use Rattle.item_table.proofs.Laws.{is_kept, record_put}
use Rattle.item_table.proofs.table.KeyTable.put_record.Goals as goal

pub put-requires : goal.put-requires
put-requires g c =
    rw c.place_of.ensures
    (is_kept g.met.T.Listed.is_entry g.T.Listed.is_mine (c.args.key, c.args.value.now) (g.T.Listed.place_of c.args.key) c.in-Some.kept c.requires
    (c.in_ok-kept.ensures ∙ ap (option_map (λ (y : g.row.T.Denot). (g.T.Listed.place_of c.args.key, y))) c.in-Some.is))

pub returns-clause-put : goal.returns-clause-put
returns-clause-put g c =
    record_put g.met.T.Listed.is_entry g.T.Listed.is_mine g.met.T.Listed.exact c.args.self.now c.put.new.self (c.args.key, c.args.value.now) (g.T.Listed.place_of c.args.key) c.in-Some.kept c.requires
    (c.in_ok-kept.ensures ∙ ap (option_map (λ (y : g.row.T.Denot). (g.T.Listed.place_of c.args.key, y))) c.in-Some.is)
    (rw c.place_of.ensures at c.in_ok-put.ensures.at)

pub returns-in_default-clause-refused : goal.returns-in_default-clause-refused
returns-in_default-clause-refused g c =
    nothing_decoded g.met.T.Listed.is_entry g.T.Listed.is_mine g.met.T.Listed.are_entries (c.args.key, c.args.value.now) c.requires
    (c.in_ok-kept.ensures ∙ ap (option_map (λ (y : g.row.T.Denot). (g.T.Listed.place_of c.args.key, y))) c.in_default.is)
