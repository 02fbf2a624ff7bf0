use Rattle.status_register.proofs.Elsewhere.{keeps_elsewhere, ready_elsewhere}
use Rattle.status_register.proofs.kept_laws.register_keeps_elsewhere.Goals as goal

pub returns-clause-keeps : goal.returns-clause-keeps
returns-clause-keeps g c = λ slots register completed begun leaves run keeps. keeps_elsewhere slots register completed begun leaves run keeps

pub returns-clause-ready : goal.returns-clause-ready
returns-clause-ready g c = λ register same ready. ready_elsewhere register same ready
