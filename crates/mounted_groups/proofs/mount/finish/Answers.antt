use Rattle.std.proofs.Common.{arith}
use Rattle.std.proofs.lemmas.Result.{IfErr-weaker, err_from_is_err_and}
use Rattle.group_engine.proofs.Causes.{calls_keep}
use Rattle.mounted_groups.proofs.Brought.{brought_on, ok_of}
use Rattle.mounted_groups.proofs.BroughtMounts.{mounts_for_more, mounts_to_end, stands_for_more, stands_to_end}
use Rattle.mounted_groups.proofs.Clears.{clear_on}
use Rattle.mounted_groups.proofs.mount.finish.Goals as goal

pub clean_up-requires-clause-mounted : goal.clean_up-requires-clause-mounted
clean_up-requires-clause-mounted g c = c.in_ok-bring_all.ensures.works.mounted

pub clean_up-requires-clause-takes : goal.clean_up-requires-clause-takes
clean_up-requires-clause-takes g c = λ mounted. (c.bring_all.ensures.works.keeps.whole mounted, c.bring_all.ensures.works.keeps.ready mounted)

pub returns-in_err-bring_all-clause-brings : goal.returns-in_err-bring_all-clause-brings
returns-in_err-bring_all-clause-brings g c =
    let s = g.B.Bay.state c.args.bay.now in
    let u = g.B.Bay.state c.bring_all.new.bay in
    let p = err_from_is_err_and c.from_residual.result c.from_residual.ensures.1 in
    rw (p.1, p.2) (record {
      works = record { keeps = c.bring_all.ensures.works.keeps; mounted = tt; cause = c.in_err-bring_all.ensures.works.cause };
      brought = tt;
      moments = stands_for_more 64 65 c.args.m.now s u (omega arith) c.bring_all.ensures.moments;
      mounts = λ mounted. mounts_for_more 64 65 c.args.m.now c.bring_all.new.m s u (omega arith) (c.bring_all.ensures.mounts mounted);
      turns = c.bring_all.ensures.turns;
    })

pub returns-clause-brings : goal.returns-clause-brings
returns-clause-brings g c =
    let old = c.args.m.now in
    let mid = c.bring_all.new.m in
    let new = c.clean_up.new.m in
    let s = g.B.Bay.state c.args.bay.now in
    let u = g.B.Bay.state c.bring_all.new.bay in
    let t = g.B.Bay.state c.clean_up.new.bay in
    let first = c.in_ok-bring_all.ensures in
    let keeps = first.works.keeps in
    let mounts = first.mounts first.works.mounted in
    let ends = c.clean_up.ensures.ends in
    record {
      works = record {
        keeps = calls_keep keeps ends.goes.keeps;
        mounted = ends.goes.mounted;
        cause = IfErr-weaker c.clean_up.result _ _ (λ given cause. clear_on old mid s u t given keeps cause) c.clean_up.ensures.cause;
      };
      brought = ok_of c.clean_up.result (λ d lt bit. brought_on g.B.Bay.state old d mid new s u t ends.goes.keeps (first.brought d lt bit));
      moments = stands_to_end 64 old mid s u t first.turns mounts keeps.same.id first.moments ends.moments;
      mounts = λ mounted. mounts_to_end 64 old mid s u t first.turns mounts new (ends.stays mounted);
      turns = omega (arith, first.turns, ends.turns);
    }
