use Rattle.std.proofs.Common.{◌≡◌, sym, subst}
use Rattle.asm_grammar.specs.Reads.{Gives}
use Rattle.asm_world.specs.Verbs as g
use Rattle.asmcmd.specs.Exact.{last_of}
use Rattle.asmcmd.specs.Verbs.{meant_verb}
use Rattle.asmcmd.proofs.Choices.{either_some, either_none, either_refused}
use Rattle.asmcmd.proofs.line.last_verb.Goals as goal

pub returns-in-Some : goal.returns-in-Some
returns-in-Some c = either_some g.reports (g.disks) last_of c.args.place.rest.now c.args.place.left (meant_verb c.in-Some.verb) c.in-Ok.place.rest.now c.in-Ok.place.left (rw c.in-Some.is at (rw c.in-Ok.is at c.report_verb.ensures))

pub returns-in-None : goal.returns-in-None
returns-in-None c =
    subst (λ o. Gives meant_verb c.disk_verb.result o)
    (sym (either_none g.reports (g.disks) last_of c.args.place.rest.now c.args.place.left c.in-Ok.place.rest.now c.in-Ok.place.left (rw c.in-None.is at (rw c.in-Ok.is at c.report_verb.ensures)))) c.disk_verb.ensures

pub returns-in-Err : goal.returns-in-Err
returns-in-Err c = either_refused g.reports (g.disks) last_of c.args.place.rest.now c.args.place.left c.in-Err.error (rw c.in-Err.is at c.report_verb.ensures)
