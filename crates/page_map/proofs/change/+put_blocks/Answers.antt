use Rattle.std.proofs.Common.{◌-◌, List, length, take, drop, sym, subst}
use Rattle.asm_formats.specs.asm_group.Names.{Bytes}
use Rattle.allocator.specs.asm_base.Records.{DirectoryRecord}
use Rattle.page_map.specs.Applying.{PutOne, PutBlocks}
use Rattle.page_map.proofs.Changing.{first_and_rest, on_ok, put_more}
use Rattle.page_map.proofs.change.+put_blocks.Goals as goal

pub returns : goal.returns
returns t c =
    let first : DirectoryRecord = c.first-item.result in
    let rest : List DirectoryRecord = take (length c.args.put.now - 1) (drop 1 c.args.put.now) in
    let old = c.args.pages.now.entries in
    let mid = c.put_one.new.pages.entries in
    let new = c.put_blocks.new.pages.entries in
    on_ok c.put_blocks.result (λ (h : PutBlocks c.args.map.now rest mid new). subst (λ (xs : List DirectoryRecord). PutBlocks c.args.map.now xs old new) (sym (first_and_rest c.args.put.now first c.in-len1-up.len_at_least c.first-item.is))
    (put_more c.args.map.now first.0 first.1 rest old mid new (subst (λ (b : Bytes). PutOne c.args.map.now first.0 b old mid) c.record_block.ensures c.in_ok-put_one.ensures) h)) c.put_blocks.ensures
