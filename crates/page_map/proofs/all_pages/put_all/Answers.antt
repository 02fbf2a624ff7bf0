use Rattle.std.proofs.Common.{◌≡◌, List, ◌∷◌, ℕ, cond, eqb, subst, Some}
use Rattle.asm_formats.specs.asm_group.Names.{Bytes}
use Rattle.asm_formats.specs.Items.{Key}
use Rattle.page_map.specs.Applying.{block_at}
use Rattle.page_map.specs.Listing.{ListsBut}
use Rattle.page_map.proofs.Listing.{list_more}
use Rattle.page_map.proofs.all_pages.put_all.Goals as goal

pub loop-key-preserved : goal.loop-key-preserved
loop-key-preserved c =
    let t = c.args.map.now in
    let left = c.next.new.self in
    let before : ListsBut t ((c.in-Some.key.now, c.in-Some.page.now) ∷ left) c.loop-key.pages.entries = subst (λ (xs : List (Key × ℕ)). ListsBut t xs c.loop-key.pages.entries) c.in-Some.ensures.steps c.loop-key.invariant.lists in
    record {
      lists = list_more t c.in-Some.key.now c.in-Some.page.now left c.loop-key.pages.entries c.put_block.new.pages.entries c.loop-key.invariant.table before
          (λ p. subst (λ (b : Bytes). block_at c.put_block.new.pages.entries p ≡ cond (eqb p c.in-Some.page.now) (Some b) (block_at c.loop-key.pages.entries p)) c.page_block.ensures (c.in_ok-put_block.ensures.blocks p))
          c.in_ok-put_block.ensures.more;
      table = c.loop-key.invariant.table;
    }
