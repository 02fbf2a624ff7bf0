use Rattle.std.proofs.Common.{refl, sym, ◌∙◌, ap, subst}
use Rattle.std.specs.Prelude.{IfErr}
use Rattle.std.proofs.lemmas.Bool.{false≢true}
use Rattle.asm_group.specs.Names.{Bytes}
use Rattle.session.specs.Desks.{is_copy_command}
use Rattle.session.proofs.Desks.{answered-carried}
use Rattle.file_commands.specs.HostCauses.{Faults, HostCause}
use Rattle.file_commands.proofs.HostCauses.{replied}
use Rattle.file_commands.proofs.copying.copy_file.Goals as goal

pub returns-clause-answers : goal.returns-clause-answers
returns-clause-answers g c = answered-carried c.args.text.now _ c.args.desk.now _ (rw c.requires.asked refl) refl (λ is. absurd (false≢true (sym is ∙ ap is_copy_command c.requires.asked))) c.copy-done.ensures.carries

pub returns-clause-cause : goal.returns-clause-cause
returns-clause-cause g c =
    let s : Faults = g.H.Host.faults c.args.desk.now.host in
    let t : Faults = g.H.Host.faults c.copy-done.new.host in
    let why : IfErr c.copy-done.result (HostCause c.args.source c.args.target s t) =
    subst (λ (p : Bytes). IfErr c.copy-done.result (HostCause p c.args.target s t)) c.as_slice.ensures
    (subst (λ (p : Bytes). IfErr c.copy-done.result (HostCause c.as_slice.result.now p s t)) c.as_slice-2.ensures c.copy-done.ensures.cause) in
    replied c.args.source c.args.target s t c.copy-done.result c.answer_lines.result.reply c.answer_lines.ensures.done c.answer_lines.ensures.refused why
