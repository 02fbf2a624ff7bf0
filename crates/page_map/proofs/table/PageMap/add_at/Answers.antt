use Rattle.std.proofs.Common.{◌≡◌, true, None, sym, subst}
use Rattle.page_map.specs.Free.{is_page_free}
use Rattle.page_map.specs.Tables.{PageTable, place_at}
use Rattle.page_map.proofs.Adding.{added_is_table}
use Rattle.page_map.proofs.Pages.{free_inside}
use Rattle.page_map.proofs.table.PageMap.add_at.Goals as goal

pub invariant_of-self-2 : goal.invariant_of-self-2
invariant_of-self-2 c =
    let old : PageTable = record { records = c.self.inside.records; places = c.self.inside.places.entries; free = c.self.inside.free } in
    let new : PageTable = record { records = c.insert_both.new.records; places = c.insert_both.new.places.entries; free = c.mark.new.self } in
    let absent : place_at old.places c.args.key ≡ None = subst (λ (t : PageTable). place_at t.places c.args.key ≡ None) (sym c.self.view_is) c.requires.absent in
    let free : is_page_free old.free c.args.page ≡ true = subst (λ (t : PageTable). is_page_free t.free c.args.page ≡ true) (sym c.self.view_is) c.requires.free in
    added_is_table old new c.args.key c.args.value c.args.page c.self.invariant absent free (free_inside old.free c.args.page free) c.in_ok-insert_both.ensures.record c.in_ok-insert_both.ensures.place c.mark.ensures.taken c.mark.ensures.count
