use Rattle.std.proofs.lemmas.Result.{IfOk-weaker}
use Rattle.session.proofs.Calls.{carries_more}
use Rattle.file_commands.specs.HostCauses.{IsOfSource}
use Rattle.file_commands.proofs.HostCauses.{err_none, given_cause, put_none, work_none}
use Rattle.file_commands.proofs.copying.put_piece.Goals as goal

pub work-requires : goal.work-requires
work-requires g c = record { ready = c.read_source.ensures.carries.ready }

pub give_up-requires : goal.give_up-requires
give_up-requires g c = record { ready = c.read_source.ensures.carries.ready }

pub returns-in-Ok : goal.returns-in-Ok
returns-in-Ok g c = record {
  carries = carries_more c.args.session.now c.args.session.now c.work.new.self _ _ _ c.read_source.ensures.carries c.work.ensures.carries;
  files = c.read_source.ensures.files;
  end = IfOk-weaker c.work.result _ _ (λ more did. did.1.0) c.work.ensures.done;
  counts = c.read_source.ensures.counts;
  cause = err_none (IsOfSource c.args.source.now) (g.H.Host.faults c.args.host.now) (g.H.Host.faults c.read_source.new.host) c.work.result (work_none _ _ _ _ _ _ c.work.result c.work.ensures (λ x y raw why. put_none x _ y _ _ raw why.1));
}

pub returns-in-Err : goal.returns-in-Err
returns-in-Err g c = record {
  carries = carries_more c.args.session.now c.args.session.now c.give_up.new.session _ _ _ c.read_source.ensures.carries c.give_up.ensures.carries;
  files = c.read_source.ensures.files;
  end = tt;
  counts = c.read_source.ensures.counts;
  cause = given_cause (IsOfSource c.args.source.now) (g.H.Host.faults c.args.host.now) (g.H.Host.faults c.read_source.new.host) c.in-Err.refusal c.give_up.result c.give_up.ensures.cause c.in-Err.ensures.cause;
}
