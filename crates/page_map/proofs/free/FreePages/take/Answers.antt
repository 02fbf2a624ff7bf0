use Rattle.page_map.proofs.Pages.{least_is, taken_is, sound_taken}
use Rattle.page_map.proofs.free.FreePages.take.Goals as goal

pub invariant_of-self : goal.invariant_of-self
invariant_of-self c = sound_taken c.self.inside.units c.take.new.self c.take.result c.self.invariant c.take.ensures.found c.take.ensures.after

pub returns-clause-least : goal.returns-clause-least
returns-clause-least c = rw (← c.self.view_is) (least_is c.self.inside.units c.take.result c.self.invariant c.take.ensures.found)

pub returns-clause-taken : goal.returns-clause-taken
returns-clause-taken c = rw (← c.self.view_is) (taken_is c.self.inside.units c.take.new.self c.take.result c.self.invariant c.take.ensures.found c.take.ensures.after)
