use Rattle.std.proofs.Common.{◌-◌, List, length, take, drop, sym, subst}
use Rattle.asm_formats.specs.Items.{Key}
use Rattle.page_map.specs.Applying.{RemovesAll}
use Rattle.page_map.proofs.Changing.{first_and_rest, remove_more}
use Rattle.page_map.proofs.change.+remove_all.Goals as goal

pub returns : goal.returns
returns t c =
    let first : Key = c.first-item.result in
    let rest : List Key = take (length c.args.gone.now - 1) (drop 1 c.args.gone.now) in
    subst (λ (xs : List Key). RemovesAll c.args.map.now c.remove_all.new.map xs) (sym (first_and_rest c.args.gone.now first c.in-len1-up.len_at_least c.first-item.is))
    (remove_more c.args.map.now c.remove.new.self c.remove_all.new.map first rest c.remove.ensures c.remove_all.ensures)
