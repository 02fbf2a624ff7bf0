use Rattle.std.proofs.Common.{◌≡◌, ◌+◌, ◌*◌, ℕ, length, take, ◌∙◌, ap, arith}
use Rattle.std.proofs.lemmas.List.Elements.{All-more}
use Rattle.change_directory.specs.Logs.{bytes_of_page}
use Rattle.change_directory.proofs.Gathering.{gathered_more}
use Rattle.change_directory.proofs.pages.gather.Goals as goal

pub loop-page-preserved : goal.loop-page-preserved
loop-page-preserved c =
    let next : (c.loop-page.page-index + 1) * 4096 ≡ c.loop-page.at + 4096 = omega (arith, c.loop-page.invariant.at) in
    record {
      at = omega (arith, c.loop-page.invariant.at);
      size = c.put_page.ensures.size ∙ c.loop-page.invariant.size;
      gathered = ap (λ (n : ℕ). take n c.put_page.new.to) next ∙ c.put_page.ensures.front
          ∙ gathered_more c.args.pages.now c.loop-page.page-index _ c.loop-page-test.true _ (ap (λ (n : ℕ). take n c.loop-page.to) c.loop-page.invariant.at ∙ c.loop-page.invariant.gathered);
      blocks = All-more (λ p. length (bytes_of_page p) ≡ 4096) c.args.pages.now c.loop-page.page-index _ c.loop-page-test.true c.loop-page.invariant.blocks c.put_page.ensures.block;
    }
