use Rattle.status_register.proofs.Elsewhere.{attached_keeps, attached_ready}
use Rattle.status_register.proofs.Reaching.{attached_reaches}
use Rattle.status_register.proofs.kept_laws.attached_keeps.Goals as goal

pub returns-clause-keeps : goal.returns-clause-keeps
returns-clause-keeps g c = λ slots register completed begun m on keeps. attached_keeps slots register completed begun m on keeps

pub returns-clause-ready : goal.returns-clause-ready
returns-clause-ready g c = λ register m has apart ready. attached_ready register m has apart ready

pub returns-clause-reaches : goal.returns-clause-reaches
returns-clause-reaches g c = λ register m of_entry reached. attached_reaches register m of_entry reached
