use Rattle.bay.proofs.Calls.{leaves_begin, started}
use Rattle.bay.proofs.Images.{changes-same, same-refl}
use Rattle.group_recovery.specs.Verdicts.{members_with}
use Rattle.group_recovery.specs.Writing.{FrontOf}
use Rattle.group_recovery.proofs.LeftGroups.{none_change}
use Rattle.group_recovery.proofs.NextRecords.{makes, next_renews}
use Rattle.group_recovery.proofs.Recovered.{anew_refused}
use Rattle.group_recovery.proofs.quorum.Quorate.recover.Goals as goal

pub make_anew-requires-clause-makes : goal.make_anew-requires-clause-makes
make_anew-requires-clause-makes g c = makes c.args.self (g.B.Bay.state c.args.bay.now) c.requires

pub make_anew-requires-clause-renews : goal.make_anew-requires-clause-renews
make_anew-requires-clause-renews g c = λ next is. next_renews c.args.self (g.B.Bay.state c.args.bay.now) c.requires c.args.now next is

pub returns-in-Err-clause-cause : goal.returns-in-Err-clause-cause
returns-in-Err-clause-cause g c =
    anew_refused c.args.self (g.B.Bay.state c.args.bay.now) (g.B.Bay.state c.args.bay.now) c.in-Err.error c.in-Err.ensures.cause

pub returns-in-Err-clause-runs : goal.returns-in-Err-clause-runs
returns-in-Err-clause-runs g c = started (λ x. changes-same (FrontOf (members_with c.args.self.id c.args.self.headed.items)) x x (same-refl x))

pub returns-in-Err-clause-leaves : goal.returns-in-Err-clause-leaves
returns-in-Err-clause-leaves g c = λ groups may. record { moments = leaves_begin may.allows; one = tt }

pub returns-in-Err-clause-members : goal.returns-in-Err-clause-members
returns-in-Err-clause-members g c = started (none_change c.args.self.id)
