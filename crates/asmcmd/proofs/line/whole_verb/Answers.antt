use Rattle.std.proofs.Common.{◌≡◌, sym, subst}
use Rattle.asm_grammar.specs.Reading.{parse}
use Rattle.asm_grammar.specs.Reads.{Gives}
use Rattle.asm_grammar.specs.Word.{End}
use Rattle.asm_world.specs.VerbMeaning.{verb_of}
use Rattle.asm_world.specs.Verbs as g
use Rattle.asmcmd.specs.Verbs.{meant_verb}
use Rattle.asmcmd.proofs.Lines.{closed_took, closed_refused}
use Rattle.asmcmd.proofs.line.whole_verb.Goals as goal

pub returns-in-Ok : goal.returns-in-Ok
returns-in-Ok c =
    subst (λ o. Gives meant_verb c.with_end.result o)
    (sym (closed_took verb_of End (parse g.verb c.args.place.rest.now c.args.place.left) (meant_verb c.in-Ok.verb) c.in-Ok.place.rest.now c.in-Ok.place.left (rw c.in-Ok.is at c.verb.ensures))) c.with_end.ensures

pub returns-in-Err : goal.returns-in-Err
returns-in-Err c = closed_refused verb_of End c.in-Err.error (parse g.verb c.args.place.rest.now c.args.place.left) (rw c.in-Err.is at c.verb.ensures)
