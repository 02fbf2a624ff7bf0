use Rattle.std.proofs.Common.{subst, sym}
use Rattle.refusal_lines.specs.declared.refusal.Refusal.{Refusal}
use Rattle.file_extents.specs.group_engine.Commits.{StatusCause}
use Rattle.file_extents.proofs.group_engine.Causes.{calls_keep}
use Rattle.file_extents.proofs.Chains.{kept, takes_on}
use Rattle.resync.specs.Syncing.{SyncCause}
use Rattle.resync.proofs.Chains.{copy_syncs, on_err, status_syncs, sync_on}
use Rattle.resync.proofs.slice.sync_extent.Goals as goal

pub returns-in_default-clause-keeps : goal.returns-in_default-clause-keeps
returns-in_default-clause-keeps g c = kept c.args.m.now (g.B.Bay.state c.args.bay.now) c.requires.takes

pub clear_mark-requires-clause-takes : goal.clear_mark-requires-clause-takes
clear_mark-requires-clause-takes g c = takes_on c.copy_whole.ensures.keeps

pub returns-in-Ok-clause-keeps : goal.returns-in-Ok-clause-keeps
returns-in-Ok-clause-keeps g c = calls_keep c.copy_whole.ensures.keeps c.clear_mark.ensures.goes.keeps

pub returns-in-Ok-clause-mounted : goal.returns-in-Ok-clause-mounted
returns-in-Ok-clause-mounted g c = c.clear_mark.ensures.goes.mounted

pub returns-in-Ok-clause-cause : goal.returns-in-Ok-clause-cause
returns-in-Ok-clause-cause g c =
    let m = c.args.m.now in
    let b = c.clear_mark.new.m in
    let s = g.B.Bay.state c.args.bay.now in
    let t = g.B.Bay.state c.copy_whole.new.bay in
    let u = g.B.Bay.state c.clear_mark.new.bay in
    on_err (StatusCause m b t u) (SyncCause m c.args.disk b s u) c.clear_mark.result
    (λ e why. sync_on c.copy_whole.ensures.keeps c.requires.mounted u b c.args.disk e (status_syncs m b c.args.disk t u e why))
    c.clear_mark.ensures.goes.cause

pub returns-in-Err-clause-cause : goal.returns-in-Err-clause-cause
returns-in-Err-clause-cause g c =
    let m = c.args.m.now in
    let s = g.B.Bay.state c.args.bay.now in
    let t = g.B.Bay.state c.copy_whole.new.bay in
    subst (λ (e : Refusal). SyncCause m c.args.disk m s t e) (sym c.refusal_of.ensures)
    (copy_syncs m c.in-Some.stale.home.disk c.args.disk s t c.in-Err.error c.in-Some.ensures.disk c.in-Err.ensures.cause)
