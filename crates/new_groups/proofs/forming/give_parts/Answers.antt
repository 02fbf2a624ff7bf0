use Rattle.std.proofs.lemmas.Result.{IfErr-weaker}
use Rattle.new_groups.proofs.Formed.{all_headable, all_long, disks_stay}
use Rattle.new_groups.proofs.Works.{cause_before, works_on}
use Rattle.new_groups.proofs.forming.give_parts.Goals as goal

pub give_headers-requires-clause-shape : goal.give_headers-requires-clause-shape
give_headers-requires-clause-shape g c = c.requires.agrees.shape

pub give_headers-requires-clause-long : goal.give_headers-requires-clause-long
give_headers-requires-clause-long g c = rw c.deref.ensures.value (all_long c.args.draft.now c.requires.agrees (g.B.Bay.state c.args.bay.now) c.requires.disks)

pub give_headers-requires-clause-headers : goal.give_headers-requires-clause-headers
give_headers-requires-clause-headers g c = rw c.deref.ensures.value (all_headable c.args.draft.now c.requires.agrees (g.B.Bay.state c.args.bay.now) c.requires.disks)

pub give_rest-requires-clause-disks : goal.give_rest-requires-clause-disks
give_rest-requires-clause-disks g c = disks_stay c.args.draft.now.disks.items c.give_headers.ensures.works.attached c.requires.disks

pub returns-in-Ok-clause-works : goal.returns-in-Ok-clause-works
returns-in-Ok-clause-works g c = works_on (rw (← c.deref.ensures.value) c.give_headers.ensures.works) c.give_rest.ensures.works

pub returns-in-Ok-clause-cause : goal.returns-in-Ok-clause-cause
returns-in-Ok-clause-cause g c = IfErr-weaker c.give_rest.result _ _ (λ e is. cause_before c.args.draft.now.disks.items (g.B.Bay.state c.give_rest.new.bay) c.give_headers.ensures.works.runs e is) c.give_rest.ensures.cause
