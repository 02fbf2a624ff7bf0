use Rattle.std.proofs.Common.{Option, sym, subst}
use Rattle.std.specs.Prelude.{IfSome}
use Rattle.asm_base.specs.Records.{DirectoryRecord}
use Rattle.directory_store.specs.Contents.{ArePutItems, IsPutItem}
use Rattle.store_tests.proofs.PutLast.{put_last}
use Rattle.store_tests.proofs.stores.stale.put_stale.Goals as goal

pub returns-in-Ok-push-clause-items : goal.returns-in-Ok-push-clause-items
returns-in-Ok-push-clause-items c = λ before.
    subst ArePutItems (sym c.in-Ok-push.ensures.ok)
    (put_last c.args.change.now.put c.in-Some.record before (subst (λ (o : Option DirectoryRecord). IfSome o IsPutItem) c.in-Some.is c.in-Ok.ensures))
