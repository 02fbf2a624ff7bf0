use Rattle.std.proofs.Common.{◌++◌, ◌∷◌, [], get_or, sym, ◌∙◌, arith}
use Rattle.std.proofs.lemmas.List.{length-take-le}
use Rattle.change_directory.proofs.BlockRows.{zip_more}
use Rattle.change_directory.proofs.slots.images_of.Goals as goal

pub loop-i-preserved : goal.loop-i-preserved
loop-i-preserved c = record {
  images =
      c.in_ok-push_image.ensures.images
      ∙ (λ j. c.loop-i.invariant.images j ++ (get_or c.args.pages.now c.loop-i.i 0, c.block_at-image.ensures j) ∷ [])
      ∙ sym (zip_more c.args.pages.now c.loop-i.i 0 c.args.bytes.now c.loop-i-test.true (length-take-le c.loop-i.i c.args.pages.now (omega (arith, c.loop-i-test.true))));
  len = omega (arith, c.loop-i.invariant.len, c.in_ok-push_image.ensures.len);
}
