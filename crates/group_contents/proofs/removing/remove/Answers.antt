use Rattle.std.proofs.Common.{inr, sym, ◌∙◌}
use Rattle.std.proofs.lemmas.Result.{err_from_is_err_and}
use Rattle.file_extents.proofs.Chains.{kept, shut_cause}
use Rattle.group_contents.proofs.Steps.{directory_goes, directory_refused, file_goes, file_refused}
use Rattle.group_contents.proofs.removing.remove.Goals as goal

pub returns-in_err-takes_calls-clause-keeps : goal.returns-in_err-takes_calls-clause-keeps
returns-in_err-takes_calls-clause-keeps g c = kept c.args.m.now (g.B.Bay.state c.args.bay.now) c.requires.takes

pub returns-in_err-takes_calls-clause-cause : goal.returns-in_err-takes_calls-clause-cause
returns-in_err-takes_calls-clause-cause g c =
    let f = err_from_is_err_and c.from_residual.result c.from_residual.ensures.1 in
    rw (f.1, f.2) (inr (shut_cause c.args.m.now (g.B.Bay.state c.args.bay.now) c.in_err-takes_calls.field-0.0 c.in_err-takes_calls.ensures.cause))

pub returns-then-is_directory-clause-cause : goal.returns-then-is_directory-clause-cause
returns-then-is_directory-clause-cause g c =
    directory_refused c.args.m.now c.args.path.now.parts c.remove_directory.new.m (g.B.Bay.state c.args.bay.now) (g.B.Bay.state c.remove_directory.new.bay) c.remove_directory.result
    (sym c.is_directory.ensures ∙ c.if-is_directory.true) c.remove_directory.ensures.cause

pub returns-then-is_directory-clause-removed : goal.returns-then-is_directory-clause-removed
returns-then-is_directory-clause-removed g c =
    directory_goes c.args.m.now c.args.path.now.parts c.remove_directory.new.m c.remove_directory.result
    (sym c.is_directory.ensures ∙ c.if-is_directory.true) c.remove_directory.ensures.dropped

pub returns-else-is_directory-clause-cause : goal.returns-else-is_directory-clause-cause
returns-else-is_directory-clause-cause g c =
    file_refused c.args.m.now c.args.path.now.parts c.remove_file.new.m (g.B.Bay.state c.args.bay.now) (g.B.Bay.state c.remove_file.new.bay) c.remove_file.result
    (sym c.is_directory.ensures ∙ c.if-is_directory.false) c.remove_file.ensures.cause

pub returns-else-is_directory-clause-removed : goal.returns-else-is_directory-clause-removed
returns-else-is_directory-clause-removed g c =
    file_goes c.args.m.now c.args.path.now.parts c.remove_file.new.m c.remove_file.result
    (sym c.is_directory.ensures ∙ c.if-is_directory.false) c.remove_file.ensures.removed
