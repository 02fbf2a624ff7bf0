use Rattle.std.proofs.Common.{◌∙◌, ap}
use Rattle.std.proofs.lemmas.List.Elements.{All-more}
use Rattle.group_engine.specs.Mounts.{MountedGroup}
use Rattle.group_engine.specs.Trying.{IsRightCopy}
use Rattle.group_engine.proofs.MayGet.{all_taken}
use Rattle.group_engine.proofs.mounted.Mounted.are_right_copies.Goals as goal

pub loop-copy-preserved : goal.loop-copy-preserved
loop-copy-preserved c = All-more (IsRightCopy c.args.self.now c.args.next.now) c.copies-copy-items.result.now c.loop-copy.copy-index _ c.loop-copy-test.true c.loop-copy.invariant c.if-not-is_right_copy.ensures

pub returns : goal.returns
returns c = all_taken (IsRightCopy c.args.self.now c.args.next.now) c.copies-copy-items.result.now c.args.self.now.store.copies c.loop-copy.copy-index c.loop-copy-test.false
    (c.copies-copy-items.ensures ∙ ap (λ (v : MountedGroup). v.store.copies) c.self.view_is) c.loop-copy.invariant
