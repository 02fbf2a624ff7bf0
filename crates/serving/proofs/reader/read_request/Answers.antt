use Rattle.serving.proofs.Reading.{statement_read}
use Rattle.serving.proofs.reader.read_request.Goals as goal

pub returns-in-Ok : goal.returns-in-Ok
returns-in-Ok c = record { reads = statement_read c.args.text.now _ c.in-Ok.ensures.found }
