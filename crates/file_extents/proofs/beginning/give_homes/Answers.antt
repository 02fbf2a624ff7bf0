use Rattle.std.proofs.Common.{inr, subst}
use Rattle.refusal_lines.specs.declared.refusal.Refusal.{Refusal}
use Rattle.refusal_lines.specs.declared.refusal.Refusal.TheVariants.{NoSpace}
use Rattle.file_extents.specs.Rows.{SpaceCause}
use Rattle.file_extents.proofs.Begins.{homes_back}
use Rattle.file_extents.proofs.Chains.{goes_shut, kept}
use Rattle.file_extents.proofs.beginning.give_homes.Goals as goal

pub choose_all-requires : goal.choose_all-requires
choose_all-requires g c = record { whole = (c.requires.takes c.requires.mounted).0 }

pub returns-in-Ok-clause-keeps : goal.returns-in-Ok-clause-keeps
returns-in-Ok-clause-keeps g c = kept c.args.m.now (g.B.Bay.state c.args.bay.now) c.requires.takes

pub returns-in-Err-NoSpace-clause-cause : goal.returns-in-Err-NoSpace-clause-cause
returns-in-Err-NoSpace-clause-cause g c =
    homes_back c.args.m.now c.give_back.new.m c.args.filling.now.extents (g.B.Bay.state c.args.bay.now) (g.B.Bay.state c.give_back.new.bay) (NoSpace c.in-Err-NoSpace.extent) c.give_back.result
    (subst (λ (r : Refusal). SpaceCause c.args.m.now c.args.filling.now.extents r) c.in-Err-NoSpace.field-0-is c.in-Err-NoSpace.ensures.cause)
    c.give_back.ensures.ended c.give_back.ensures.cause

pub returns-clause-keeps : goal.returns-clause-keeps
returns-clause-keeps g c =
    (goes_shut (kept c.args.m.now (g.B.Bay.state c.args.bay.now) c.requires.takes) c.shut.new.m c.shut.result c.shut.ensures.group c.shut.ensures.refusal).keeps

pub returns-clause-cause : goal.returns-clause-cause
returns-clause-cause g c =
    inr (goes_shut (kept c.args.m.now (g.B.Bay.state c.args.bay.now) c.requires.takes) c.shut.new.m c.shut.result c.shut.ensures.group c.shut.ensures.refusal).cause
