use Rattle.std.proofs.Common.{subst}
use Rattle.resync.specs.group_engine.Searches.{IsNextMove}
use Rattle.resync.specs.rebalance.declared.moves.Next.{Next}
use Rattle.relocation.specs.Shortfalls.{EndCause}
use Rattle.relocation.proofs.Shortfalls.{lost_cause, no_end, space_cause}
use Rattle.relocation.proofs.asking.asked_of.Goals as goal

pub returns-in-Move : goal.returns-in-Move
returns-in-Move c = record { end = no_end (EndCause c.args.m.now) c.begun.result c.begun.ensures }

pub returns-in-NoSpace : goal.returns-in-NoSpace
returns-in-NoSpace c = record { end = space_cause c.args.m.now c.in-NoSpace.x (subst (λ (n : Next). IsNextMove c.args.m.now.catalog c.args.m.now.register.value n) c.in-NoSpace.is c.requires.next) }

pub returns-in-Lost : goal.returns-in-Lost
returns-in-Lost c = record { end = lost_cause c.args.m.now c.in-Lost.x (subst (λ (n : Next). IsNextMove c.args.m.now.catalog c.args.m.now.register.value n) c.in-Lost.is c.requires.next) }
