use Rattle.directory_store.specs.Stores.{Keeps}
use Rattle.group_engine.specs.Forgetting.{KeepsNamed}
use Rattle.group_engine.proofs.forgetting.forget_others.Given as goal

abbrev pub invariant-loop-disk : goal.invariant-loop-disk
invariant-loop-disk g l = record {
  named : KeepsNamed l.fn.store l.store l.disks l.named l.disk;
  kept : Keeps l.store (g.B.Bay.state l.bay);
}
