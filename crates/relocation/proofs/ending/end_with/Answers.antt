use Rattle.std.proofs.Common.{subst}
use Rattle.std.specs.Prelude.{OnOk}
use Rattle.resync.specs.group_engine.Mounts.{MountedGroup}
use Rattle.relocation.specs.Shortfalls.{EndsActive}
use Rattle.relocation.proofs.Chains.{commits_end, ends_more, lets_takes}
use Rattle.relocation.proofs.ending.end_with.Goals as goal

pub end_active-requires-clause-takes : goal.end_active-requires-clause-takes
end_active-requires-clause-takes g c = lets_takes c.empty_out.ensures.ends.lets

pub end_active-requires-clause-mounted : goal.end_active-requires-clause-mounted
end_active-requires-clause-mounted g c = c.in-Ok.ensures.ends.mounted

pub returns-in-Ok-clause-ends : goal.returns-in-Ok-clause-ends
returns-in-Ok-clause-ends g c =
    let lets = c.empty_out.ensures.ends.lets in
    let mounted = c.in-Ok.ensures.ends.mounted in
    ends_more c.end_active.result lets mounted (commits_end c.end_active.result (lets.whole mounted) c.end_active.ensures.goes)

pub returns-in-Ok-clause-kept : goal.returns-in-Ok-clause-kept
returns-in-Ok-clause-kept g c = λ short. subst (λ (v : MountedGroup). OnOk c.end_active.result (EndsActive v c.end_active.new.m)) (c.empty_out.ensures.same short) c.end_active.ensures.ended
