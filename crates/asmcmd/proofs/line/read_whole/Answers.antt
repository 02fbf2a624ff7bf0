use Rattle.std.proofs.Common.{◌≡◌, sym, subst}
use Rattle.std.specs.Prelude.{Err}
use Rattle.asmcmd.specs.Exact.{IsVerbRead}
use Rattle.asmcmd.specs.Verbs.{meant_verb}
use Rattle.asmcmd.proofs.Lines.{asked_ok, asked_refused}
use Rattle.asmcmd.proofs.line.read_whole.Goals as goal

pub returns-in-Ok : goal.returns-in-Ok
returns-in-Ok c = asked_ok c.args.text.now c.keyword_front.result (meant_verb c.in-Ok.verb) _ _ c.keyword_front.ensures.front c.keyword_front.ensures.within (rw c.in-Ok.is at c.whole_verb.ensures)

pub returns-in-Err : goal.returns-in-Err
returns-in-Err c =
    subst (λ e. IsVerbRead (Err e) c.args.text.now) (sym c.place_of.ensures)
    (asked_refused c.args.text.now c.keyword_front.result c.in-Err.error c.keyword_front.ensures.front c.keyword_front.ensures.within (rw c.in-Err.is at c.whole_verb.ensures))
