-- The refusals with which waiting ends, and their causes in the group that is left.
use Rattle.std.proofs.Common.{◌≡◌, ◌∙◌, ◌⊎◌, inl, inr, ⊎_elim, [], List, map, refl, sym, ap, subst, Option, Some, None, Result, Ok, Err}
use Rattle.std.specs.Prelude.{IfErr, IfOk, IfSome, ℕ}
use Rattle.bay.specs.State.{BayState}
use Rattle.refusal_lines.specs.Refusals.{meaning_of}
use Rattle.refusal_lines.specs.declared.refusal.Refusal.{Refusal}
use Rattle.refusal_lines.specs.declared.refusal.Refusal.TheVariants as cause
use Rattle.asm_group.specs.Names.{Bytes}
use Rattle.asm_group.specs.Refusal as r
use Rattle.asm_world.specs.World.{DismountedBy, Mounted, SessionEntry, SessionState, entry_among}
use Rattle.session.specs.group_engine.Mounts.{MountedGroup}
use Rattle.session.specs.relocation.Shortfalls.{EndCause}
use Rattle.session.specs.relocation.Slices.{SliceCause}
use Rattle.session.specs.relocation.declared.asking.Slice.{Slice}
use Rattle.session.specs.relocation.declared.asking.Slice.TheVariants as slice
use Rattle.session.specs.Entries.{disk_name}
use Rattle.session.specs.Naming.{ChangesGroup, IsMountedName, IsOutCause, group_among, in_state, key_of, of_entry, with_group_named}
use Rattle.session.specs.Sessions.{SessionView}
use Rattle.session.specs.Works.{Doing, DoesOn, DoesWork, IsSpelt, SpellsRefusal, WorksOn}
use Rattle.session.specs.declared.reply.Reply.{Reply}
use Rattle.session.proofs.Calls.{found_after}
use Rattle.disk_commands.specs.declared.waiting.Waited.{Waited}
use Rattle.disk_commands.specs.Waits.{HasShortCause, HasWaited, IsLeftShort, IsNoShortfall, ReplyWaited, ShortCause, WaitCause, WaitsForRebalance, refusal_in, refused_after, refusal_of_rebalance}

-- ---- a rebalance to its end

no_short : (m : MountedGroup) (names : ℕ → Bytes) (e : Refusal) → IsNoShortfall e → ShortCause m (meaning_of names e)
unfolding meaning_of
no_short m names (cause.NoSpace x) why = absurd why
no_short m names (cause.Lost x) why = absurd why
no_short m names _ why = tt

fault_short : (a b : MountedGroup) (s t : BayState) (e : Refusal) → SliceCause a b s t e → IsNoShortfall e
fault_short a b s t (cause.NoSpace x) why = absurd why
fault_short a b s t (cause.Lost x) why = absurd why
fault_short a b s t _ why = tt

pub faults_short : (a b : MountedGroup) (s t : BayState) (end : Result Slice Refusal) → IfErr end (SliceCause a b s t) → IfErr end IsNoShortfall
faults_short a b s t (Ok end) why = tt
faults_short a b s t (Err e) why = fault_short a b s t e why

pub shortfall_cause : (m : MountedGroup) (end : Result Slice Refusal) → IfOk end (EndCause m) → IfErr end IsNoShortfall → IfSome (refusal_of_rebalance end) (HasShortCause m)
unfolding meaning_of
shortfall_cause m (Ok slice.More) why fault = tt
shortfall_cause m (Ok slice.Done) why fault = tt
shortfall_cause m (Ok (slice.NoSpace x)) why fault = why
shortfall_cause m (Ok (slice.Lost x)) why fault = why
shortfall_cause m (Err e) why fault = no_short m (disk_name m) e fault

pub spelt_short : (m : MountedGroup) (raw spelt : Refusal) → (meaning_of (λ _. []) spelt ≡ meaning_of (disk_name m) raw) ⊎ (meaning_of (λ _. []) spelt ≡ r.NoMemory) → HasShortCause m raw → ShortCause m (meaning_of (λ _. []) spelt)
spelt_short m raw spelt is why = ⊎_elim (λ same. subst (ShortCause m) (sym same) why) (λ memory. subst (ShortCause m) (sym memory) tt) is

pub told_waits : (m : MountedGroup) (end : Result Slice Refusal) (raw : Option Refusal) (waited : Waited) → raw ≡ refusal_of_rebalance end → IfOk end (EndCause m) → IfErr end IsNoShortfall
    → (IfSome raw (HasShortCause m) → HasWaited m waited) → WaitsForRebalance (Ok waited) m
told_waits m end raw waited is why fault told = record { waited = told (subst (λ (o : Option Refusal). IfSome o (HasShortCause m)) (sym is) (shortfall_cause m end why fault)); short = tt }

-- ---- on the group of a name

wait_cause : (now : SessionView) (name : Bytes) (m : MountedGroup) → group_among now.entries now.groups name ≡ Some m → (refusal : r.Refusal) → ShortCause m refusal → WaitCause now name refusal
wait_cause now name m named (r.NoSpace f i) why = record { group = m; named = named; cause = why }
wait_cause now name m named (r.Lost f i) why = record { group = m; named = named; cause = why }
wait_cause now name m named _ why = tt

-- the group that was worked on has its name still
left_named : (old new : SessionView) (name : Bytes) (before after : MountedGroup) → map key_of new.entries ≡ map key_of old.entries → group_among old.entries old.groups name ≡ Some before
    → new.groups ≡ with_group_named old.entries old.groups name after → group_among new.entries new.groups name ≡ Some after
left_named old new name before after keys named groups =
    ap (λ (gs : List MountedGroup). group_among new.entries gs name) groups ∙ found_after old.entries new.entries old.groups name before after keys named

no_memory_waits : (now : SessionView) (name : Bytes) (refusal : r.Refusal) → refusal ≡ r.NoMemory → WaitCause now name refusal
no_memory_waits now name refusal is = subst (WaitCause now name) (sym is) tt

not_both : (x : Result Waited Refusal) (w : Waited) (e : Refusal) → x ≡ Ok w → x ≡ Err e → ⊥
not_both x w e ok err = cc

one_refusal : (x : Result Waited Refusal) (a b : Refusal) → x ≡ Err a → x ≡ Err b → a ≡ b
one_refusal x a b one two = cc

module _ (name : Bytes) (old new : SessionView) (s t : BayState) where
  abbrev Does : Doing Waited
  Does = λ a result b u v. WaitsForRebalance result b

  pub waited_so : (result : Result Waited Refusal) → WorksOn name Does result old new s t → (waited : Waited) → result ≡ Ok waited → (e : Refusal) → (waited.refusal ≡ Some e) ⊎ (e ≡ cause.NoMemory)
      → WaitCause new name (meaning_of (λ _. []) e)
  unfolding meaning_of
  waited_so result works waited is e from =
      let did : DoesOn name Does old new s t waited = subst (λ (x : Result Waited Refusal). IfOk x (DoesOn name Does old new s t)) is works.done in
      let changes = did.0 in
      let named = left_named old new name changes.before changes.after works.carries.keys changes.is.named changes.groups in
      ⊎_elim
      (λ told. wait_cause new name changes.after named (meaning_of (λ _. []) e) (subst (λ (o : Option Refusal). IfSome o (λ x. ShortCause changes.after (meaning_of (λ _. []) x))) told did.1.waited))
      (λ memory. no_memory_waits new name (meaning_of (λ _. []) e) (ap (meaning_of (λ _. [])) memory))
      from

  refused_by : (after : MountedGroup) (answer result : Result Waited Refusal) (e : Refusal) → result ≡ Err e → IsSpelt after answer result → WaitsForRebalance answer after → WaitCause new name (meaning_of (λ _. []) e)
  unfolding meaning_of
  refused_by after (Ok waited) result e is spelt did = absurd (not_both result waited e spelt is)
  refused_by after (Err raw) result e is spelt did =
      let same : spelt.0 ≡ e = one_refusal result spelt.0 e spelt.1 is in
      let memory = λ (k : meaning_of (λ _. []) spelt.0 ≡ r.NoMemory). no_memory_waits new name (meaning_of (λ _. []) e) (ap (meaning_of (λ _. [])) (sym same) ∙ k) in
      ⊎_elim (λ said_so. memory (said_so ∙ ap (meaning_of (disk_name after)) did.short)) memory spelt.2

  out_waits : (e : Refusal) → IsOutCause old.entries name e → WaitCause new name (meaning_of (λ _. []) e)
  out_waits e out = ⊎_elim (by_entry (entry_among old.entries name)) (no_memory_waits new name (meaning_of (λ _. []) e)) out
    where
      by_state : (state : SessionState) → in_state state (meaning_of (λ _. []) e) → WaitCause new name (meaning_of (λ _. []) e)
      by_state Mounted why = absurd why
      by_state (DismountedBy disk) why = subst (WaitCause new name) (sym why) tt

      by_entry : (o : Option SessionEntry) → of_entry o (meaning_of (λ _. []) e) → WaitCause new name (meaning_of (λ _. []) e)
      by_entry None why = subst (WaitCause new name) (sym why) tt
      by_entry (Some entry) why = by_state entry.state why

  pub refused_so : (result : Result Waited Refusal) → WorksOn name Does result old new s t → (e : Refusal) → result ≡ Err e → WaitCause new name (meaning_of (λ _. []) e)
  refused_so result works e is =
      ⊎_elim
      (λ found. let did = works.works found in refused_by did.after did.answer result e is did.spelt did.does)
      (λ out. out_waits e out)
      (subst (λ (x : Result Waited Refusal). IfErr x (λ refusal. IsMountedName old name ⊎ IsOutCause old.entries name refusal)) is works.out)

-- ---- replies

pub reply_waits : (now : SessionView) (name : Bytes) (ended : Result (Unit {0}) Refusal) (reply : Reply) → IfErr ended (λ e. WaitCause now name (meaning_of (λ _. []) e)) → refused_after reply ≡ refusal_in ended
    → ReplyWaited now name reply
reply_waits now name ended reply why is = subst (λ (o : Option Refusal). IfSome o (λ e. WaitCause now name (meaning_of (λ _. []) e))) (sym is) (by ended why)
  where
    by : (x : Result (Unit {0}) Refusal) → IfErr x (λ e. WaitCause now name (meaning_of (λ _. []) e)) → IfSome (refusal_in x) (λ e. WaitCause now name (meaning_of (λ _. []) e))
    by (Ok done) k = tt
    by (Err e) k = k
