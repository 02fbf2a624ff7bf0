use Rattle.group_engine.proofs.Members.{cause_lets, keeps_lets}
use Rattle.group_engine.proofs.letting_laws.keeping_lets_go.Goals as goal

pub returns-clause-lets : goal.returns-clause-lets
returns-clause-lets g c = λ one two keeps. keeps_lets keeps

pub returns-clause-cause : goal.returns-clause-cause
returns-clause-cause g c = λ one two whole keeps refusal why. cause_lets one two (g.B.Bay.state c.args.start.now) (g.B.Bay.state c.args.end.now) whole keeps refusal why
