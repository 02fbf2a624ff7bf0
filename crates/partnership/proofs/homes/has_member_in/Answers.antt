use Rattle.std.proofs.Common.{◌+◌, Bool, ◌||◌, drop, sym, ap, ◌∙◌}
use Rattle.std.specs.List.{list_any}
use Rattle.std.proofs.lemmas.Bool.{or_left}
use Rattle.partnership.specs.Candidates.{among, candidates, is_disk_in_set}
use Rattle.partnership.specs.Steps.{is_candidate_of_failgroup}
use Rattle.partnership.proofs.Groups.{any_from}
use Rattle.partnership.proofs.homes.has_member_in.Goals as goal

pub returns-then-is_member_in : goal.returns-then-is_member_in
returns-then-is_member_in c =
    let step = any_from (is_disk_in_set c.args.set) c.args.failgroup c.args.room.now.n c.args.disks.now c.args.room.now.maps c.loop-i.i c.index-disks-i.result c.loop-i-test.true c.index-disks-i.is in
    sym (sym c.loop-i.invariant ∙ step ∙ or_left _ _ (sym c.is_member_in.ensures ∙ c.if-is_member_in.true))

pub loop-i-preserved : goal.loop-i-preserved
loop-i-preserved c =
    let step = any_from (is_disk_in_set c.args.set) c.args.failgroup c.args.room.now.n c.args.disks.now c.args.room.now.maps c.loop-i.i c.index-disks-i.result c.loop-i-test.true c.index-disks-i.is in
    let rest : Bool = list_any (is_candidate_of_failgroup c.args.failgroup) (among (is_disk_in_set c.args.set) (candidates c.args.room.now.n (drop (c.loop-i.i + 1) c.args.disks.now) c.args.room.now.maps)) in
    sym (step ∙ ap (λ (b : Bool). b || rest) (sym c.is_member_in.ensures ∙ c.if-is_member_in.false)) ∙ c.loop-i.invariant
