use Rattle.std.proofs.Common.{sym}
use Rattle.serving.proofs.Reading.{refused_statement, asked_verb}
use Rattle.serving.proofs.reader.other_request.Goals as goal

pub returns-then-opens_statement : goal.returns-then-opens_statement
returns-then-opens_statement c = record { reads = refused_statement c.args.text.now c.args.at c.requires (sym c.if-opens_statement.ensures) }

pub returns-in-Ok : goal.returns-in-Ok
returns-in-Ok c = record { reads = asked_verb c.args.text.now c.args.at _ c.requires c.in-Ok.ensures.reads }
