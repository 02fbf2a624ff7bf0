use Rattle.group_pieces.proofs.group_engine.Causes.{calls_keep}
use Rattle.file_extents.proofs.Chains.{fails_on, takes_on}
use Rattle.file_extents.proofs.sparing.fill_copies.Goals as goal

pub fill_copy-filled-requires-2-clause-takes : goal.fill_copy-filled-requires-2-clause-takes
fill_copy-filled-requires-2-clause-takes g c = takes_on c.fill_copy-filled.ensures.keeps

pub fill_copy-requires-clause-takes : goal.fill_copy-requires-clause-takes
fill_copy-requires-clause-takes g c = takes_on c.fill_copy-filled-2.ensures.keeps

pub returns : goal.returns
returns g c = record {
  keeps = calls_keep (calls_keep c.fill_copy-filled.ensures.keeps c.fill_copy-filled-2.ensures.keeps) c.fill_copy.ensures.keeps;
  failed =
      let one = c.fill_copy-filled.ensures in
      let two = c.fill_copy-filled-2.ensures in
      fails_on c.args.filled.failed c.fill_copy-filled-2.result.failed c.fill_copy.result.failed (calls_keep one.keeps two.keeps) c.fill_copy.ensures.keeps
      (fails_on c.args.filled.failed c.fill_copy-filled.result.failed c.fill_copy-filled-2.result.failed one.keeps two.keeps one.failed two.failed)
      c.fill_copy.ensures.failed;
}
