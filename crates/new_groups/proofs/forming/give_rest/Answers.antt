use Rattle.new_groups.proofs.Formed.{directories_stay, disks_stay}
use Rattle.new_groups.proofs.Works.{cause_before, works_on}
use Rattle.new_groups.proofs.forming.give_rest.Goals as goal

pub give_record-requires-clause-disks : goal.give_record-requires-clause-disks
give_record-requires-clause-disks g c = disks_stay c.args.draft.now.disks.items c.give_directories.ensures.works.attached c.requires.disks

pub returns-in-Ok-give_record-clause-works : goal.returns-in-Ok-give_record-clause-works
returns-in-Ok-give_record-clause-works g c = works_on c.give_directories.ensures.works c.give_record.ensures.works

pub returns-in-Ok-give_record-clause-formed : goal.returns-in-Ok-give_record-clause-formed
returns-in-Ok-give_record-clause-formed g c = record {
  parts = record { copies = c.in-Ok.ensures.copies; register = c.in-Ok-give_record.ensures.register };
  keeps = directories_stay c.args.draft.now.disks.items c.in-Ok.store c.give_record.ensures.works.attached c.give_record.ensures.front c.in-Ok.ensures.keeps;
  ready = c.in-Ok-give_record.ensures.ready;
}

pub returns-in-Err-give_record-clause-works : goal.returns-in-Err-give_record-clause-works
returns-in-Err-give_record-clause-works g c = works_on c.give_directories.ensures.works c.give_record.ensures.works

pub returns-in-Err-give_record-clause-cause : goal.returns-in-Err-give_record-clause-cause
returns-in-Err-give_record-clause-cause g c = cause_before c.args.draft.now.disks.items (g.B.Bay.state c.give_record.new.bay) c.give_directories.ensures.works.runs c.in-Err-give_record.error c.in-Err-give_record.ensures.cause
