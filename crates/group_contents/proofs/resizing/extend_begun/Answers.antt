use Rattle.std.proofs.Common.{subst}
use Rattle.refusal_lines.specs.declared.refusal.Refusal.{Refusal}
use Rattle.file_extents.proofs.group_engine.Causes.{calls_keep}
use Rattle.file_extents.proofs.Chains.{takes_on}
use Rattle.group_contents.specs.Files.{WriteCause}
use Rattle.group_contents.proofs.Steps.{fault_given_back, or_shut_keeps, or_shut_writes, shut_later, later_next}
use Rattle.group_contents.proofs.resizing.extend_begun.Goals as goal

pub place_more-requires-clause-takes : goal.place_more-requires-clause-takes
place_more-requires-clause-takes g c = takes_on c.clear_behind.ensures.keeps

pub returns-in-Ok-clause-keeps : goal.returns-in-Ok-clause-keeps
returns-in-Ok-clause-keeps g c = calls_keep c.clear_behind.ensures.keeps c.place_more.ensures.keeps

pub returns-in-Ok-clause-cause : goal.returns-in-Ok-clause-cause
returns-in-Ok-clause-cause g c =
    later_next c.args.filling.now.extents c.clear_behind.ensures.keeps c.in-Ok.ensures.mounted c.place_more.new.m (g.B.Bay.state c.place_more.new.bay) c.place_more.result c.place_more.ensures.cause

pub give_back_fault-requires : goal.give_back_fault-requires
give_back_fault-requires g c = record { takes = takes_on c.clear_behind.ensures.keeps }

pub returns-in-Err-WriteFault-clause-keeps : goal.returns-in-Err-WriteFault-clause-keeps
returns-in-Err-WriteFault-clause-keeps g c = calls_keep c.clear_behind.ensures.keeps c.give_back_fault.ensures.keeps

pub returns-in-Err-WriteFault-clause-cause : goal.returns-in-Err-WriteFault-clause-cause
returns-in-Err-WriteFault-clause-cause g c =
    let s = g.B.Bay.state c.args.bay.now in
    let t = g.B.Bay.state c.clear_behind.new.bay in
    fault_given_back c.args.filling.now.extents c.in-Err-WriteFault.disk c.give_back_fault.result c.clear_behind.ensures.keeps c.give_back_fault.ensures.keeps
    (subst (λ (r : Refusal). WriteCause c.args.m.now c.clear_behind.new.m s t r) c.in-Err-WriteFault.field-0-is c.in-Err-WriteFault.ensures.cause) c.give_back_fault.ensures.cause

pub returns-in-Err-clause-keeps : goal.returns-in-Err-clause-keeps
returns-in-Err-clause-keeps g c =
    or_shut_keeps c.args.m.now c.clear_behind.new.m c.or_shut.new.m (g.B.Bay.state c.args.bay.now) (g.B.Bay.state c.clear_behind.new.bay) _ c.or_shut.result c.clear_behind.ensures.keeps c.or_shut.ensures

pub returns-in-Err-clause-cause : goal.returns-in-Err-clause-cause
returns-in-Err-clause-cause g c =
    let s = g.B.Bay.state c.args.bay.now in
    let t = g.B.Bay.state c.clear_behind.new.bay in
    shut_later c.args.m.now c.or_shut.new.m c.args.filling.now.extents s t c.or_shut.result
    (or_shut_writes c.args.m.now c.clear_behind.new.m c.or_shut.new.m s t _ c.or_shut.result c.in-Err.ensures.cause c.or_shut.ensures)
