use Rattle.std.proofs.Common.{◌+◌, length, cond, true, Option, ℕ, sym, ap, ◌∙◌}
use Rattle.std.specs.Prelude.{is_some}
use Rattle.page_map.specs.Free.{is_page_free}
use Rattle.page_map.specs.Tables.{PageTable, Removes, is_this_page, one_if}
use Rattle.page_map.proofs.Adding.{removed_is_table}
use Rattle.page_map.proofs.table.PageMap.remove.Goals as goal

pub invariant_of-self-2 : goal.invariant_of-self-2
invariant_of-self-2 c =
    let old : PageTable = record { records = c.self.inside.records; places = c.self.inside.places.entries; free = c.self.inside.free } in
    let new : PageTable = record { records = c.remove-2.new.self; places = c.remove.new.self.entries; free = c.give.new.self } in
    let removes : Removes old new c.args.key = record {
      records = c.remove-2.ensures.updates;
      places = c.remove.ensures.updates.0;
      free = λ p. c.give.ensures.given p ∙ ap (λ (q : Option ℕ). cond (is_this_page q p) true (is_page_free old.free p)) c.in-Some.ensures.value;
      units = c.give.ensures.count;
      count = ap (λ (q : Option ℕ). length new.places + one_if (is_some q)) (sym c.in-Some.ensures.value) ∙ c.in-Some.ensures.len;
    } in
    removed_is_table old new c.args.key c.self.invariant removes
