-- Calls on a mounted group one after the other: what they keep, and why they are refused.
use Rattle.std.proofs.Common.{◌≡◌, inl, None, Result, Ok, Err, refl, sym, ap, subst, ◌∙◌}
use Rattle.std.specs.Prelude.{IfErr}
use Rattle.bay.specs.State.{BayState}
use Rattle.refusal_lines.specs.declared.refusal.Refusal.{Refusal}
use Rattle.refusal_lines.specs.declared.refusal.Refusal.TheVariants as cause
use Rattle.record_laws.specs.group_engine.Commits.{StatusCause}
use Rattle.record_laws.specs.group_engine.Making.{IsShut}
use Rattle.record_laws.specs.group_engine.Mounts.{IsMounted, MountedGroup, Takes}
use Rattle.record_laws.specs.group_engine.Own.{KeepsGroup}
use Rattle.record_laws.specs.group_engine.Pending.{GoesOn}
use Rattle.record_laws.specs.group_engine.declared.access.Access.{Access}
use Rattle.record_laws.specs.group_engine.declared.access.Access.TheVariants as access
use Rattle.record_laws.proofs.group_engine.Causes.{gives_up, nothing_kept}

-- no call was made
pub kept : (m : MountedGroup) (s : BayState) → Takes m s → KeepsGroup m m s s
kept m s takes = nothing_kept m s (λ mounted. (takes mounted).0) (λ mounted. (takes mounted).1)

-- the group takes the next call
pub takes_on : {a b : MountedGroup} {s t : BayState} → KeepsGroup a b s t → Takes b t
takes_on keeps mounted = (keeps.whole mounted, keeps.ready mounted)

-- the move that is on its way is given up
pub given_up : (m new : MountedGroup) (s : BayState) → Takes m s → new ≡ record m { flight = None } → KeepsGroup m new s s
given_up m new s takes is = subst (λ (v : MountedGroup). KeepsGroup m v s s) (sym is) (gives_up m s takes)

pub given_mounted : (m new : MountedGroup) → IsMounted m → new ≡ record m { flight = None } → IsMounted new
given_mounted m new mounted is = ap (λ (v : MountedGroup). v.access) is ∙ mounted

-- ---- what a step leaves

pub goes_short : {a b : MountedGroup} {s t : BayState} → KeepsGroup a b s t → GoesOn a (Err cause.NoMemory) b s t
goes_short keeps = record { keeps = keeps; mounted = tt; cause = tt }

-- ---- refusals

-- a group that takes no calls
shut_is : (m : MountedGroup) (s : BayState) (e : Refusal) (a : Access) → m.access ≡ a → IsShut a e → StatusCause m m s s e
shut_is m s e access.Mounted is why = absurd why
shut_is m s e (access.Dismounted d) is why = subst (λ (x : Refusal). StatusCause m m s s x) (sym why) (inl is)
shut_is m s e access.Closed is why = subst (λ (x : Refusal). StatusCause m m s s x) (sym why) tt

pub shut_cause : (m : MountedGroup) (s : BayState) (e : Refusal) → IsShut m.access e → StatusCause m m s s e
shut_cause m s e why = shut_is m s e m.access refl why

pub on_err : (P Q : Refusal → Type 0) (r : Result (Unit {0}) Refusal) → ((e : Refusal) → P e → Q e) → IfErr r P → IfErr r Q
on_err P Q (Ok done) f why = tt
on_err P Q (Err e) f why = f e why
