use Rattle.group_engine.proofs.Members.{letting_on, lets_join}
use Rattle.group_engine.proofs.letting_laws.lettings_join.Goals as goal

pub returns-clause-lets : goal.returns-clause-lets
returns-clause-lets g c = λ one two three first second. lets_join first second

pub returns-clause-cause : goal.returns-clause-cause
returns-clause-cause g c = λ one two three first second mounted refusal why.
    letting_on one two three (g.B.Bay.state c.args.start.now) (g.B.Bay.state c.args.between.now) (g.B.Bay.state c.args.end.now) first mounted refusal why
