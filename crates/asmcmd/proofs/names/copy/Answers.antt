use Rattle.std.proofs.Common.{◌≡◌, sym, subst}
use Rattle.asm_grammar.specs.Reads.{Gives}
use Rattle.asmcmd.specs.Verbs.{meant_verb}
use Rattle.asmcmd.proofs.Copies.{path_stands, copied}
use Rattle.asmcmd.proofs.names.copy.Goals as goal

pub returns-in-Some : goal.returns-in-Some
returns-in-Some c =
    let e = rw c.in-Some.is at c.in_ok-source.ensures in
    subst (λ o. Gives meant_verb c.copy_from.result o)
    (sym (copied c.args.place.rest.now c.in_ok-source.place.rest.now c.in-Some.source c.args.place.left c.in_ok-source.place.left (path_stands c.args.place.rest.now c.in_ok-source.place.rest.now c.in-Some.source c.args.place.left c.in_ok-source.place.left e)))
    c.copy_from.ensures
