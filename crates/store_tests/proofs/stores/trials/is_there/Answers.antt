use Rattle.std.proofs.Common.{sym, ◌∙◌}
use Rattle.bay.proofs.OneCall.{keeps_size}
use Rattle.directory_store.proofs.Trying.{long_copy, still_there}
use Rattle.store_tests.proofs.stores.trials.is_there.Goals as goal

pub returns-in-Ok-clause-here : goal.returns-in-Ok-clause-here
returns-in-Ok-clause-here g c = λ long. long_copy (g.B.Bay.state c.attach.new.self) c.args.copy c.in-Ok.size c.in-Ok.ensures.done.attached (sym c.lies_on.ensures ∙ long)

pub returns-in-Ok-clause-others : goal.returns-in-Ok-clause-others
returns-in-Ok-clause-others g c = still_there (g.B.Bay.state c.args.bay.now) (g.B.Bay.state c.attach.new.self) c.args.copy.slot c.attach.ensures.others (keeps_size c.attach.ensures)

pub returns-in-Err-clause-others : goal.returns-in-Err-clause-others
returns-in-Err-clause-others g c = still_there (g.B.Bay.state c.args.bay.now) (g.B.Bay.state c.attach.new.self) c.args.copy.slot c.attach.ensures.others (keeps_size c.attach.ensures)
