use Rattle.std.proofs.Common.{◌≡◌, sym, subst}
use Rattle.asm_grammar.specs.Reads.{Gives}
use Rattle.asm_world.specs.Verbs as g
use Rattle.asmcmd.specs.Exact.{last_verbs, other_of}
use Rattle.asmcmd.specs.Verbs.{meant_verb}
use Rattle.asmcmd.proofs.Choices.{either_some, either_none, either_refused}
use Rattle.asmcmd.proofs.line.other_verb.Goals as goal

pub returns-in-Some : goal.returns-in-Some
returns-in-Some c = either_some g.names (last_verbs) other_of c.args.place.rest.now c.args.place.left (meant_verb c.in-Some.verb) c.in-Ok.place.rest.now c.in-Ok.place.left (rw c.in-Some.is at (rw c.in-Ok.is at c.name_verb.ensures))

pub returns-in-None : goal.returns-in-None
returns-in-None c =
    subst (λ o. Gives meant_verb c.last_verb.result o)
    (sym (either_none g.names (last_verbs) other_of c.args.place.rest.now c.args.place.left c.in-Ok.place.rest.now c.in-Ok.place.left (rw c.in-None.is at (rw c.in-Ok.is at c.name_verb.ensures)))) c.last_verb.ensures

pub returns-in-Err : goal.returns-in-Err
returns-in-Err c = either_refused g.names (last_verbs) other_of c.args.place.rest.now c.args.place.left c.in-Err.error (rw c.in-Err.is at c.name_verb.ensures)
