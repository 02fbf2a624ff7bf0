use Rattle.std.proofs.Common.{◌-◌, List, length, take, drop, sym, subst}
use Rattle.asm_formats.specs.asm_group.Names.{Bytes}
use Rattle.asm_formats.specs.Items.{Key}
use Rattle.page_map.specs.Applying.{PutOne, GoneBlocks}
use Rattle.page_map.proofs.Changing.{first_and_rest, on_ok, gone_more}
use Rattle.page_map.proofs.change.+gone_blocks.Goals as goal

pub returns : goal.returns
returns t c =
    let first : Key = c.first-item.result in
    let rest : List Key = take (length c.args.gone.now - 1) (drop 1 c.args.gone.now) in
    let old = c.args.pages.now.entries in
    let mid = c.put_one.new.pages.entries in
    let new = c.gone_blocks.new.pages.entries in
    on_ok c.gone_blocks.result (λ (h : GoneBlocks c.args.map.now rest mid new). subst (λ (xs : List Key). GoneBlocks c.args.map.now xs old new) (sym (first_and_rest c.args.gone.now first c.in-len1-up.len_at_least c.first-item.is))
    (gone_more c.args.map.now first rest old mid new (subst (λ (b : Bytes). PutOne c.args.map.now first b old mid) c.zeros.ensures c.in_ok-put_one.ensures) h)) c.gone_blocks.ensures
