use Rattle.std.proofs.Common.{sym, subst}
use Rattle.directory_store.specs.Stores.{Keeps, Stored}
use Rattle.directory_store.proofs.Storing.{forgotten_keeps}
use Rattle.group_engine.proofs.forgetting.forget_unnamed.Goals as goal

pub returns-in-Some-clause-kept : goal.returns-in-Some-clause-kept
returns-in-Some-clause-kept g c =
    let s = g.B.Bay.state c.args.bay.now in
    subst (λ (x : Stored). Keeps x s) (sym c.forget.ensures) (forgotten_keeps c.args.store.now c.in-Some.attached.slot s c.requires.kept)
