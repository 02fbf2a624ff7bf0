use Rattle.bay_mem.proofs.Past.{durable}
use Rattle.store_tests.proofs.stores.many.load_kept.Goals as goal

pub returns-in-Ok : goal.returns-in-Ok
returns-in-Ok c = c.in-Ok.ensures.kept (λ d among. durable c.is_there-2.new.bay d.slot)
