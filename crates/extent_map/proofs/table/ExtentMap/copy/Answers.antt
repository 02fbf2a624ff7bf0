use Rattle.std.proofs.Common.{List, ap, ◌∙◌}
use Rattle.asm_formats.specs.Items.{Homes}
use Rattle.extent_map.specs.Extents.{with_chunk}
use Rattle.extent_map.proofs.ChangeLaws.{copied}
use Rattle.extent_map.proofs.table.ExtentMap.copy.Goals as goal

pub loop-at-preserved : goal.loop-at-preserved
loop-at-preserved c = record {
  copied =
      copied c.args.self.now c.loop-at.copy c.insert.new.self c.next.new.self c.in-Some.at.now c.in-Some.chunk.now c.loop-at.invariant.ascend (rw c.in-Some.ensures.steps at c.loop-at.invariant.copied)
      (c.in_ok-insert.ensures.ok ∙ ap (λ (hs : List Homes). with_chunk c.loop-at.copy c.in-Some.at.now hs) c.in_ok-copy.ensures);
  ascend = c.loop-at.invariant.ascend;
}
