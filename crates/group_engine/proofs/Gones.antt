-- A record is written marked gone.
use Rattle.std.proofs.Common.{◌≡◌, inl, inr, ℕ, zero, suc, List, ◌++◌, get_or, refl, sym, ap, subst, Option, None, Result, Ok, Err, arith}
use Rattle.bay.specs.State.{BayState}
use Rattle.bay.specs.Moments.{Runs}
use Rattle.refusal_lines.specs.declared.refusal.Refusal.{Refusal}
use Rattle.asm_formats.specs.Status.{Status}
use Rattle.status_register.specs.Holders.{holder_in, holders_below}
use Rattle.status_register.specs.Registered.{Registered}
use Rattle.status_register.specs.declared.error.Dead.{Dead}
use Rattle.status_register.specs.declared.member.Member.{Member}
use Rattle.group_engine.specs.Commits.{IsDismountedBy, IsLostIn}
use Rattle.status_register.specs.RegisterCalls.{HasWritten}
use Rattle.group_engine.specs.Gone.{GoneCause, EndsGroup, gone_of}
use Rattle.group_engine.specs.Mounts.{IsOwn, IsWhole, MountedGroup}
use Rattle.group_engine.specs.Own.{IsSameGroup, OnOwnDisks}
use Rattle.group_engine.specs.declared.access.Access.TheVariants as access
use Rattle.group_engine.proofs.Causes.{dead_lost, not_open, nothing_own, written_own}
use Rattle.group_engine.proofs.Ends.{id_same, keeps_dismounted, members_same, out_of_calls}

pub same_holders : (places : List (Option Member)) (r : Status) (n : ℕ) → holders_below places (gone_of r) n ≡ holders_below places r n
unfolding holders_below
same_holders places r zero = refl
same_holders places r (suc d) = ap (λ (l : List Member). holder_in r d (get_or places d None) ++ l) (same_holders places r d)

module _ (was : MountedGroup) (whole : IsWhole was) (s t : BayState) (answer : Result ℕ Dead) (reg : Registered) (written : HasWritten was.register (gone_of was.register.value) answer reg s t) where
  abbrev next : Status
  next = gone_of was.register.value

  abbrev now : MountedGroup
  now = record was { register = reg }

  same_group : IsSameGroup was now
  same_group = record {
    name = refl;
    id = id_same was.register reg next answer written.register;
    shape = refl;
    members = members_same was.register reg next answer written.register;
    disks = refl;
    flight = inl refl;
  }

  runs : Runs (IsOwn was) (OnOwnDisks was) s t
  runs = written_own was whole next answer reg (nothing_own was s) written

  -- it is complete
  pub ends_marked : (failed : ℕ) → answer ≡ Ok failed → EndsGroup was (Ok tt) (record was { register = reg; access = access.Closed }) s t
  ends_marked failed ok =
      let after : MountedGroup = record was { register = reg; access = access.Closed } in
      record {
        keeps = record {
          same = record { name = refl; id = same_group.id; shape = refl; members = same_group.members; disks = refl; flight = inl refl };
          attached = written.calls.attached;
          runs = runs;
          whole = λ takes. absurd (not_open after refl takes);
          ready = λ takes. absurd (not_open after refl takes);
        };
        closed = λ takes. not_open after refl takes;
        gone = record { failed = failed; written = subst (λ (a : Result ℕ Dead). HasWritten was.register next a reg s t) ok written };
        cause = tt;
      }

  -- a majority was lost
  pub ends_unmarked : (dead : Dead) (refusal : Refusal) (after : MountedGroup) → answer ≡ Err dead → IsDismountedBy now dead.slot refusal after → EndsGroup was (Err refusal) after s t
  ends_unmarked dead refusal after is by =
      let lost : IsLostIn was after.register.value by.number s t = dead_lost was whole after.register.value s s t next answer dead by.number (λ k. omega arith) is written.answer by.found in
      record {
        keeps = keeps_dismounted was now after s t dead.slot refusal same_group by written.calls.attached runs;
        closed = out_of_calls now after dead.slot refusal by;
        gone = tt;
        cause = subst (λ (x : Refusal). GoneCause was after s t x) (sym by.refusal_is) (inr (ap (λ (v : MountedGroup). v.access) by.new_is, lost));
      }
