use Rattle.std.proofs.Common.{◌≡◌, List, None, sym, ap, subst, ◌∙◌}
use Rattle.allocator.specs.asm_base.Records.{DirectoryRecord, record_at}
use Rattle.page_map.specs.Tables.{PageTable, SameTable, Adds, place_at}
use Rattle.page_map.proofs.Adding.{added_is_table, same_is_table, free_again}
use Rattle.page_map.proofs.table.PageMap.add.Goals as goal

pub invariant_of-self-in-Ok : goal.invariant_of-self-in-Ok
invariant_of-self-in-Ok c =
    let old : PageTable = record { records = c.self.inside.records; places = c.self.inside.places.entries; free = c.self.inside.free } in
    let new : PageTable = record { records = c.insert_both.new.records; places = c.insert_both.new.places.entries; free = c.take.new.self } in
    let absent : place_at old.places c.args.key ≡ None = subst (λ (t : PageTable). place_at t.places c.args.key ≡ None) (sym c.self.view_is) c.requires.absent in
    added_is_table old new c.args.key c.args.value c.in-Some.page c.self.invariant absent c.in-Some.ensures.least.free c.in-Some.ensures.least.inside c.in-Ok.ensures.record c.in-Ok.ensures.place c.in-Some.ensures.taken c.in-Some.ensures.count

pub returns-in-Ok-clause-ok : goal.returns-in-Ok-clause-ok
returns-in-Ok-clause-ok c =
    let old : PageTable = record { records = c.self.inside.records; places = c.self.inside.places.entries; free = c.self.inside.free } in
    let new : PageTable = record { records = c.insert_both.new.records; places = c.insert_both.new.places.entries; free = c.take.new.self } in
    let absent : place_at old.places c.args.key ≡ None = subst (λ (t : PageTable). place_at t.places c.args.key ≡ None) (sym c.self.view_is) c.requires.absent in
    let adds : Adds old new c.args.key c.args.value = record {
      page = c.in-Some.page;
      least = c.in-Some.ensures.least;
      records = c.in-Ok.ensures.record;
      places = c.in-Ok.ensures.place;
      free = c.in-Some.ensures.taken;
      units = c.in-Some.ensures.count;
      count = c.in-Ok.ensures.count absent;
    } in
    subst (λ (t : PageTable). Adds t new c.args.key c.args.value) c.self.view_is adds

pub invariant_of-self-in-Err : goal.invariant_of-self-in-Err
invariant_of-self-in-Err c =
    let old : PageTable = record { records = c.self.inside.records; places = c.self.inside.places.entries; free = c.self.inside.free } in
    let new : PageTable = record { records = c.insert_both.new.records; places = c.insert_both.new.places.entries; free = c.give.new.self } in
    let absent : place_at old.places c.args.key ≡ None = subst (λ (t : PageTable). place_at t.places c.args.key ≡ None) (sym c.self.view_is) c.requires.absent in
    let same : SameTable old new = record {
      records = λ k. ap (λ (r : List DirectoryRecord). record_at r k) c.in-Err.ensures.records;
      places = c.in-Err.ensures.places absent;
      free = free_again old.free c.take.new.self new.free c.in-Some.page c.in-Some.ensures.least.free c.in-Some.ensures.taken c.give.ensures.given;
      units = c.give.ensures.count ∙ c.in-Some.ensures.count;
      count = c.in-Err.ensures.length absent;
    } in
    same_is_table old new c.self.invariant same

pub returns-in-Err-clause-err : goal.returns-in-Err-clause-err
returns-in-Err-clause-err c =
    let old : PageTable = record { records = c.self.inside.records; places = c.self.inside.places.entries; free = c.self.inside.free } in
    let new : PageTable = record { records = c.insert_both.new.records; places = c.insert_both.new.places.entries; free = c.give.new.self } in
    let absent : place_at old.places c.args.key ≡ None = subst (λ (t : PageTable). place_at t.places c.args.key ≡ None) (sym c.self.view_is) c.requires.absent in
    let same : SameTable old new = record {
      records = λ k. ap (λ (r : List DirectoryRecord). record_at r k) c.in-Err.ensures.records;
      places = c.in-Err.ensures.places absent;
      free = free_again old.free c.take.new.self new.free c.in-Some.page c.in-Some.ensures.least.free c.in-Some.ensures.taken c.give.ensures.given;
      units = c.give.ensures.count ∙ c.in-Some.ensures.count;
      count = c.in-Err.ensures.length absent;
    } in
    subst (λ (t : PageTable). SameTable t new) c.self.view_is same
