use Rattle.file_extents.proofs.group_engine.Causes.{calls_keep}
use Rattle.file_extents.proofs.Chains.{kept, takes_on}
use Rattle.resync.specs.Syncing.{SyncCause}
use Rattle.resync.proofs.Chains.{on_err, sync_on}
use Rattle.resync.proofs.slice.sync_from.Goals as goal

pub loop-done-init : goal.loop-done-init
loop-done-init g c = record { mounted = c.requires.mounted; keeps = kept c.args.m.now (g.B.Bay.state c.args.bay.now) c.requires.takes }

pub sync_extent-requires-clause-takes : goal.sync_extent-requires-clause-takes
sync_extent-requires-clause-takes g c = takes_on c.loop-done.invariant.keeps

pub next_stale-requires : goal.next_stale-requires
next_stale-requires g c = record { shape = (c.sync_extent.ensures.keeps.whole c.in-Ok.ensures.mounted).shape }

pub loop-done-preserved : goal.loop-done-preserved
loop-done-preserved g c = record { mounted = c.in-Ok.ensures.mounted; keeps = calls_keep c.loop-done.invariant.keeps c.sync_extent.ensures.keeps }

pub returns-in-Err-clause-keeps : goal.returns-in-Err-clause-keeps
returns-in-Err-clause-keeps g c = calls_keep c.loop-done.invariant.keeps c.sync_extent.ensures.keeps

pub returns-in-Err-clause-cause : goal.returns-in-Err-clause-cause
returns-in-Err-clause-cause g c =
    sync_on c.loop-done.invariant.keeps c.loop-done.invariant.mounted (g.B.Bay.state c.sync_extent.new.bay) c.sync_extent.new.m c.args.disk c.in-Err.refusal c.in-Err.ensures.cause

pub come_online-requires-clause-takes : goal.come_online-requires-clause-takes
come_online-requires-clause-takes g c = takes_on c.sync_extent.ensures.keeps

pub returns-in-None-clause-keeps : goal.returns-in-None-clause-keeps
returns-in-None-clause-keeps g c = calls_keep (calls_keep c.loop-done.invariant.keeps c.sync_extent.ensures.keeps) c.come_online.ensures.keeps

pub returns-in-None-clause-cause : goal.returns-in-None-clause-cause
returns-in-None-clause-cause g c =
    let keeps = calls_keep c.loop-done.invariant.keeps c.sync_extent.ensures.keeps in
    let b = c.sync_extent.new.m in
    let m = c.come_online.new.m in
    let s = g.B.Bay.state c.args.bay.now in
    let t = g.B.Bay.state c.sync_extent.new.bay in
    let u = g.B.Bay.state c.come_online.new.bay in
    on_err (SyncCause b c.args.disk m t u) (SyncCause c.args.m.now c.args.disk m s u) c.come_online.result (sync_on keeps c.in-Ok.ensures.mounted u m c.args.disk) c.come_online.ensures.cause
