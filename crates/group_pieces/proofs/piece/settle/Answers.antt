use Rattle.std.proofs.Common.{subst, sym}
use Rattle.refusal_lines.specs.declared.refusal.Refusal.{Refusal}
use Rattle.record_laws.specs.group_engine.Commits.{StatusCause}
use Rattle.record_laws.specs.group_engine.Mounts.{MountedGroup}
use Rattle.record_laws.specs.group_engine.Own.{KeepsGroup}
use Rattle.record_laws.specs.group_engine.Mounts.{IsMounted}
use Rattle.record_laws.proofs.group_engine.Endings.{closed_takes_none, dismounted_takes_none, keeps_closed}
use Rattle.group_pieces.proofs.Recording.{held_refused}
use Rattle.group_pieces.proofs.piece.settle.Goals as goal

pub returns-in-Ok-clause-goes : goal.returns-in-Ok-clause-goes
returns-in-Ok-clause-goes g c = record { keeps = c.in-Ok.ensures.goes.keeps; mounted = c.in-Ok.ensures.goes.mounted; cause = tt }

pub returns-in-Err-Dismounted-clause-goes : goal.returns-in-Err-Dismounted-clause-goes
returns-in-Err-Dismounted-clause-goes g c = record {
  keeps = c.record_faults.ensures.goes.keeps;
  mounted = tt;
  cause = subst (λ (e : Refusal). StatusCause c.args.m.now c.record_faults.new.m (g.B.Bay.state c.args.bay.now) (g.B.Bay.state c.record_faults.new.bay) e) c.in-Err-Dismounted.field-0-is c.in-Err-Dismounted.ensures.goes.cause;
}

pub returns-clause-goes : goal.returns-clause-goes
returns-clause-goes g c = record {
  keeps = subst (λ (q : MountedGroup). KeepsGroup c.args.m.now q (g.B.Bay.state c.args.bay.now) (g.B.Bay.state c.record_faults.new.bay)) (sym c.close.ensures) (keeps_closed c.record_faults.ensures.goes.keeps);
  mounted = tt;
  cause = tt;
}

pub returns-in-Err-Dismounted-clause-held : goal.returns-in-Err-Dismounted-clause-held
returns-in-Err-Dismounted-clause-held g c =
    held_refused c.args.m.now (g.B.Bay.state c.args.bay.now) (g.B.Bay.state c.record_faults.new.bay) c.args.x c.args.inner c.args.failed c.record_faults.result c.record_faults.new.m c.record_faults.new.m _ c.record_faults.ensures.held

pub returns-clause-held : goal.returns-clause-held
returns-clause-held g c =
    held_refused c.args.m.now (g.B.Bay.state c.args.bay.now) (g.B.Bay.state c.record_faults.new.bay) c.args.x c.args.inner c.args.failed c.record_faults.result c.record_faults.new.m c.close.new.self _ c.record_faults.ensures.held

pub returns-in-Err-Dismounted-clause-shut : goal.returns-in-Err-Dismounted-clause-shut
returns-in-Err-Dismounted-clause-shut g c = dismounted_takes_none c.args.m.now c.record_faults.new.m (g.B.Bay.state c.args.bay.now) (g.B.Bay.state c.record_faults.new.bay) _ c.requires.mounted
    (subst (λ (e : Refusal). StatusCause c.args.m.now c.record_faults.new.m (g.B.Bay.state c.args.bay.now) (g.B.Bay.state c.record_faults.new.bay) e) c.in-Err-Dismounted.field-0-is c.in-Err-Dismounted.ensures.goes.cause)

pub returns-clause-shut : goal.returns-clause-shut
returns-clause-shut g c = λ mounted. closed_takes_none c.record_faults.new.m (subst IsMounted c.close.ensures mounted)
