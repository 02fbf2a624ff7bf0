use Rattle.std.proofs.Common.{rules, ◌≡◌, ◌-◌, List, length, take, drop, None, sym, subst}
use Rattle.allocator.specs.asm_base.Records.{DirectoryRecord}
use Rattle.page_map.specs.Tables.{place_at}
use Rattle.page_map.specs.Applying.{AddsNew}
use Rattle.page_map.proofs.Adding.{undone}
use Rattle.page_map.proofs.Changing.{first_and_rest, add_more}
use Rattle.page_map.proofs.change.+add_new.Goals as goal

pub returns-in-Ok-clause-adds : goal.returns-in-Ok-clause-adds
returns-in-Ok-clause-adds t c =
    let first : DirectoryRecord = c.first-item.result in
    let rest : List DirectoryRecord = take (length c.args.left.now - 1) (drop 1 c.args.left.now) in
    let absent : place_at c.args.map.now.places first.0 ≡ None = search rules in
    subst (λ (xs : List DirectoryRecord). AddsNew c.args.map.now c.add_new-2.new.map xs) (sym (first_and_rest c.args.left.now first c.in-len1-up.len_at_least c.first-item.is))
    (add_more c.args.map.now c.add.new.self c.add_new-2.new.map first.0 first.1 c.in_ok-value.value rest absent c.in_ok-add.ensures.ok c.in-Ok.ensures.adds)

pub returns-in-Err-clause-err : goal.returns-in-Err-clause-err
returns-in-Err-clause-err t c =
    let first : DirectoryRecord = c.first-item.result in
    let absent : place_at c.args.map.now.places first.0 ≡ None = search rules in
    undone c.args.map.now c.add.new.self c.add_new-2.new.map c.remove.new.self first.0 c.in_ok-value.value c.place.ensures.table absent c.in_ok-add.ensures.ok c.in-Err.ensures.err c.remove.ensures
