use Rattle.std.proofs.Common.{◌≡◌, ℕ, List, [], map, sym, subst}
use Rattle.std.specs.List.Sorted.{IsStrictlySortedBy}
use Rattle.std.specs.Ordering.{nat_cmp}
use Rattle.allocator.specs.asm_base.declared.block.Block.{Block}
use Rattle.page_map.specs.Applying.{page_number}
use Rattle.page_map.specs.Listing.{Lists, ListsBut}
use Rattle.page_map.proofs.Listing.{lists, if_ok_both}
use Rattle.page_map.proofs.table.PageMap.pages.Goals as goal

pub returns : goal.returns
returns c = if_ok_both
    {P = λ list. list.items ≡ c.put_all.new.pages.entries} {Q = λ list. IsStrictlySortedBy nat_cmp (map page_number list.items)} {R = λ list. Lists c.args.self.now list.items} c.listed.result
    (λ list same ascend. lists c.args.self.now list.items c.put_all.ensures.table (subst (λ (l : List (ℕ × Block)). ListsBut c.args.self.now [] l) (sym same) c.in_ok-put_all.ensures.pages) ascend)
    c.listed.ensures.pages c.listed.ensures.ascend
