use Rattle.std.proofs.Common.{sym}
use Rattle.page_map.proofs.Changing.{block_put, on_ok_both}
use Rattle.page_map.proofs.change.put_one.Goals as goal

pub returns-in-Some : goal.returns-in-Some
returns-in-Some c =
    on_ok_both c.put_block.result (block_put c.args.map.now c.args.key c.args.block.bytes c.in-Some.page c.args.pages.now.entries c.put_block.new.pages.entries c.place.ensures.table (sym c.in-Some.ensures.page)) c.put_block.ensures.blocks c.put_block.ensures.count
