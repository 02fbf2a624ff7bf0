-- Several commits, one after the other, and a group that is closed.
use Rattle.std.proofs.Common.{◌≡◌, ◌∙◌, inl, ⊎_elim, ℕ, Bool, true, false, List, [], ◌∷◌, None, Some, Result, Ok, Err, refl, sym, ap, subst, arith}
use Rattle.std.specs.Prelude.{IfErr, OnOk}
use Rattle.std.specs.Bool.{OnTrue}
use Rattle.bay.specs.Image.{Image}
use Rattle.bay.specs.State.{BayState}
use Rattle.bay.proofs.Calls.{leaves_begin, leaves_less, leaves_on}
use Rattle.asm_group.specs.Group.{Group}
use Rattle.refusal_lines.specs.declared.refusal.DiskRef.{DiskRef}
use Rattle.refusal_lines.specs.declared.refusal.DiskRef.TheVariants.{Number, Spelt}
use Rattle.refusal_lines.specs.declared.refusal.Refusal.{Refusal}
use Rattle.refusal_lines.specs.declared.refusal.Refusal.TheVariants as cause
use Rattle.asm_formats.specs.Items.{Key}
use Rattle.asm_base.specs.Records.{DirectoryRecord}
use Rattle.asm_images.specs.Bridge.{disks_in}
use Rattle.asm_images.specs.Kept.{Kept, IsHeld}
use Rattle.asm_images.specs.Stands.{Standing}
use Rattle.asm_images.proofs.Spans.{widen_keeps}
use Rattle.rebalance.specs.catalog_tables.Changing.{IsAfter}
use Rattle.rebalance.specs.catalog_tables.Tables.{Tables}
use Rattle.rebalance.proofs.catalog_tables.AfterLaws.{one_after}
use Rattle.group_of.specs.Describing.{KeepsNames}
use Rattle.group_engine.specs.Commits.{CommitsChange, CommitsPlan, DismountCause, LeadsTo, StandsIn, StatusCause}
use Rattle.group_engine.specs.Making.{access_after_closing}
use Rattle.group_engine.specs.Mounts.{IsMounted, IsReady, IsWhole, MountedGroup, Mounts}
use Rattle.group_engine.specs.Own.{KeepsGroup}
use Rattle.group_engine.specs.Pending.{EndsOn, GoesOn, HasTurns, StandsThrough, StaysMounted, without_pending}
use Rattle.group_engine.specs.Surplus.{IsSurplus}
use Rattle.group_engine.specs.declared.access.Access.{Access}
use Rattle.group_engine.specs.declared.access.Access.TheVariants.{Mounted, Dismounted, Closed}
use Rattle.group_engine.proofs.Causes.{calls_keep, cause_on, not_mounted, nothing_kept}
use Rattle.group_engine.proofs.KeptRecords.{record_stays, records_on}
use Rattle.group_engine.proofs.Standings.{stands_at_rest}
use Rattle.group_engine.proofs.Surplus.{surplus_leads_on}

-- nothing was done
pub goes_begin : (m : MountedGroup) (s : BayState) → IsMounted m → IsWhole m → IsReady m s → GoesOn m (Ok tt) m s s
goes_begin m s mounted whole ready = record { keeps = nothing_kept m s (λ takes. whole) (λ takes. ready); mounted = mounted; cause = tt }

pub goes_without : (m : MountedGroup) (s : BayState) → IsWhole m → IsReady m s → GoesOn m (Err cause.NoMemory) m s s
goes_without m s whole ready = record { keeps = nothing_kept m s (λ takes. whole) (λ takes. ready); mounted = tt; cause = tt }

-- one call more
pub goes_on : {a b c : MountedGroup} {s t u : BayState} (r : Result (Unit {0}) Refusal) → KeepsGroup a b s t → IsMounted b → GoesOn b r c t u → GoesOn a r c s u
goes_on {a} {b} {c} {s} {t} {u} r keeps mounted two = record { keeps = calls_keep keeps two.keeps; mounted = two.mounted; cause = why r two.cause }
  where
    why : (x : Result (Unit {0}) Refusal) → IfErr x (StatusCause b c t u) → IfErr x (StatusCause a c s u)
    why (Ok done) is = tt
    why (Err e) is = cause_on keeps u c mounted e is

-- ---- commits by which an operation ends

same_names : (t : Tables) → KeepsNames t t
same_names t = record { files = refl; nodes = refl; templates = refl }

-- where nothing is done
pub stands_here : (m : MountedGroup) (s : BayState) → StandsThrough m s s
stands_here m s n g kept mounts turns = leaves_begin (record { now = λ x left. stands_at_rest n m.register.id (g ∷ []) kept x mounts.begun (mounts.now.now x left) })

stays_here : (m : MountedGroup) (s : BayState) → StaysMounted m m s s
stays_here m s n g kept mounts turns = (kept, refl, mounts)

pub ends_begin : (m : MountedGroup) (s : BayState) → IsMounted m → IsWhole m → IsReady m s → EndsOn m (Ok tt) m s s
ends_begin m s mounted whole ready = record {
  goes = goes_begin m s mounted whole ready;
  status = record_stays m.register.value;
  names = same_names m.catalog.tables;
  turns = omega arith;
  moments = stands_here m s;
  stays = λ takes. stays_here m s;
}

pub ends_without : (m : MountedGroup) (s : BayState) → IsWhole m → IsReady m s → EndsOn m (Err cause.NoMemory) m s s
ends_without m s whole ready = record {
  goes = goes_without m s whole ready;
  status = record_stays m.register.value;
  names = tt;
  turns = omega arith;
  moments = stands_here m s;
  stays = λ takes. stays_here m s;
}

-- what stands for a group as it was kept later, stands for it as it was kept before
pub kept_before : (n id later_id : ℕ) (groups : List Group) (kept later : Kept) (x : Image) → later_id ≡ id → later.slots ≡ kept.slots → StandsIn n later_id groups later x → StandsIn n id groups kept x
kept_before n id later_id groups kept later x same slots stands = record {
  by = stands.by;
  slots = stands.slots ∙ slots;
  is = subst (λ (k : ℕ). IsHeld n k groups stands.by x) same stands.is;
  beside = λ more also. subst (λ (k : ℕ). Standing k (disks_in n x) more) same (stands.beside more (λ slot has. also slot (sym (ap (λ (some : ℕ → Bool). some slot) slots) ∙ has)));
}

-- one after the other
pub ends_on : {a b c : MountedGroup} {s t u : BayState} (r : Result (Unit {0}) Refusal) → EndsOn a (Ok tt) b s t → EndsOn b r c t u → EndsOn a r c s u
ends_on {a} {b} {c} {s} {t} {u} r one two = record {
  goes = goes_on r one.goes.keeps one.goes.mounted two.goes;
  status = records_on one.status two.status;
  names = names r two.names;
  turns = omega (arith, one.turns, two.turns);
  moments = λ n g kept mounts turns.
      let mid = one.stays one.goes.mounted n g kept mounts turns in
      leaves_on (one.moments n g kept mounts turns)
      (leaves_less (λ x is. kept_before n a.register.id b.register.id (g ∷ []) kept mid.0 x one.goes.keeps.same.id mid.1 is) (two.moments n g mid.0 mid.2 (fewer turns)));
  stays = λ takes n g kept mounts turns.
      let mid = one.stays one.goes.mounted n g kept mounts turns in
      let end = two.stays takes n g mid.0 mid.2 (fewer turns) in
      (end.0, end.1 ∙ mid.1, end.2);
}
  where
    fewer : HasTurns a → HasTurns b
    fewer turns = omega (arith, turns, one.turns)

    names : (x : Result (Unit {0}) Refusal) → OnOk x (KeepsNames b.catalog.tables c.catalog.tables) → OnOk x (KeepsNames a.catalog.tables c.catalog.tables)
    names (Ok done) is = record { files = is.files ∙ one.names.files; nodes = is.nodes ∙ one.names.nodes; templates = is.templates ∙ one.names.templates }
    names (Err e) is = tt

-- the group is listed once where it is listed twice
listed_once : (n id : ℕ) (g : Group) (kept : Kept) (x : Image) → StandsIn n id (g ∷ g ∷ []) kept x → StandsIn n id (g ∷ []) kept x
listed_once n id g kept x stands = record {
  by = stands.by;
  slots = stands.slots;
  is = record {
    sound = λ slots. widen_keeps id (disks_in slots x) (g ∷ g ∷ []) (g ∷ []) (Some stands.by.completed) stands.by.begun (stands.is.sound slots)
        (λ k among. ⊎_elim (λ e. inl e) (λ more. ⊎_elim (λ e. inl e) (λ none. absurd none) more) among);
    standing = stands.is.standing;
    there = stands.is.there;
  };
  beside = stands.beside;
}

-- the commit of a plan that changes nothing that the group is
module _ (a b : MountedGroup) (put : List DirectoryRecord) (gone : List Key) (u : Tables) (s t : BayState) (is : IsSurplus a.register.value.entries a.catalog put gone u) where
  leads : (n : ℕ) (g : Group) (kept : Kept) → Mounts n a s g kept → HasTurns a → LeadsTo n a put gone s g g kept
  leads n g kept mounts turns = surplus_leads_on s n a put gone g kept u mounts is (omega (arith, turns))

  names_after : (r : Result (Unit {0}) Refusal) → OnOk r (IsAfter a.catalog.tables put gone b.catalog.tables) → OnOk r (KeepsNames a.catalog.tables b.catalog.tables)
  names_after (Ok done) after = subst (λ (v : Tables). KeepsNames a.catalog.tables v) (sym (one_after a.catalog.tables b.catalog.tables u put gone after is.plan.after)) is.names
  names_after (Err e) after = tt

  stays_after : (r : Result (Unit {0}) Refusal) → CommitsChange a put gone r b s t → IsMounted b → StaysMounted a b s t
  stays_after (Ok done) did takes n g kept mounts turns = did.done n g g kept (leads n g kept mounts turns)
  stays_after (Err e) did takes n g kept mounts turns = (kept, refl, did.refused takes n g kept mounts)

  pub ends_planned : (r : Result (Unit {0}) Refusal) → IsMounted a → GoesOn a r b s t → CommitsPlan a put gone r b s t → EndsOn a r b s t
  ends_planned r mounted goes commits =
      let did = commits.held mounted in
      record {
        goes = goes;
        status = did.status;
        names = names_after r commits.applied;
        turns = did.turns;
        moments = λ n g kept mounts turns. leaves_less (listed_once n a.register.id g kept) (did.moments n g g kept (leads n g kept mounts turns));
        stays = stays_after r did;
      }

-- ---- a group that takes no calls

closed_access : (a : Access) → access_after_closing a ≡ Mounted → ⊥
closed_access Mounted is = absurd cc
closed_access (Dismounted disk) is = absurd cc
closed_access Closed is = absurd cc

pub closed_takes_none : (m : MountedGroup) → IsMounted (record m { access = access_after_closing m.access }) → ⊥
closed_takes_none m is = closed_access m.access is

pub keeps_closed : {a m : MountedGroup} {s t : BayState} → KeepsGroup a m s t → KeepsGroup a (record m { access = access_after_closing m.access }) s t
keeps_closed {a} {m} keeps = record {
  same = record {
    name = keeps.same.name;
    id = keeps.same.id;
    shape = keeps.same.shape;
    members = keeps.same.members;
    disks = keeps.same.disks;
    flight = keeps.same.flight;
  };
  attached = keeps.attached;
  runs = keeps.runs;
  whole = λ takes. absurd (closed_takes_none m takes);
  ready = λ takes. absurd (closed_takes_none m takes);
}

pub ends_closed : {a m : MountedGroup} {s t : BayState} (r : Result (Unit {0}) Refusal) → EndsOn a r m s t → EndsOn a (Err cause.NoMemory) (record m { access = access_after_closing m.access }) s t
ends_closed {a} {m} r did = record {
  goes = record { keeps = keeps_closed did.goes.keeps; mounted = tt; cause = tt };
  status = did.status;
  names = tt;
  turns = did.turns;
  moments = did.moments;
  stays = λ takes. absurd (closed_takes_none m takes);
}

pub dismounted_takes_none : (old new : MountedGroup) (s t : BayState) (by : DiskRef) → IsMounted old → DismountCause old new s t by → IsMounted new → ⊥
dismounted_takes_none old new s t (Number d) mounted why takes = ⊎_elim (λ before. not_mounted old d before mounted) (λ now. not_mounted new d now.0 takes) why
dismounted_takes_none old new s t (Spelt text) mounted why takes = absurd why

-- ---- the end of the operation

-- once its record is gone, nothing is pending
pub ended_if : (r : Result (Unit {0}) Refusal) (t new : Tables) (put : List DirectoryRecord) (gone : List Key) → OnOk r (IsAfter t put gone new) → IsAfter t put gone (without_pending t) → OnOk r (new.operations.pending ≡ None)
ended_if (Ok done) t new put gone applied after = ap (λ (u : Tables). u.operations.pending) (one_after t new (without_pending t) put gone applied after)
ended_if (Err e) t new put gone applied after = tt

pub on_true : {P : Type 0} (b : Bool) → OnTrue b P → b ≡ true → P
on_true true p is = p
on_true false p is = absurd cc
