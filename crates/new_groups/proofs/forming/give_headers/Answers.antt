use Rattle.std.proofs.lemmas.Result.{IfErr-weaker}
use Rattle.new_groups.proofs.Formed.{headable_stays}
use Rattle.new_groups.proofs.Works.{cause_before, works_on}
use Rattle.new_groups.proofs.forming.give_headers.Goals as goal

pub write_headers-requires : goal.write_headers-requires
write_headers-requires g c = headable_stays c.args.disks.now c.close_all.ensures.works.attached c.requires.headers

pub returns-in-Ok-clause-works : goal.returns-in-Ok-clause-works
returns-in-Ok-clause-works g c = works_on c.close_all.ensures.works c.write_headers.ensures.works

pub returns-in-Ok-clause-cause : goal.returns-in-Ok-clause-cause
returns-in-Ok-clause-cause g c = IfErr-weaker c.write_headers.result _ _ (λ e is. cause_before c.args.disks.now (g.B.Bay.state c.write_headers.new.bay) c.close_all.ensures.works.runs e is) c.write_headers.ensures.cause
