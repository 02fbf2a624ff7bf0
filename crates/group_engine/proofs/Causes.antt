-- Which disks a commit changes, and by which faults it dismounts a group.
use Rattle.std.proofs.Common.{◌≡◌, inl, inr, ⊎_elim, ℕ, ◌<◌, ◌≤◌, Bool, true, false, List, get_or, refl, sym, ap, subst, ◌∙◌, Option, Some, None, Result, Err, arith}
use Rattle.std.specs.Option.{option_map}
use Rattle.std.proofs.lemmas.Bool.{cases_lt, false≢true}
use Rattle.std.proofs.lemmas.Option.{same_Some}
use Rattle.bay.specs.Counts.{Rose}
use Rattle.bay.specs.Image as bay
use Rattle.bay.specs.Image.{ChangesOnly}
use Rattle.bay.specs.State.{BayState}
use Rattle.bay.specs.Moments.{Runs}
use Rattle.bay.proofs.Calls.{attached-trans, started}
use Rattle.refusal_lines.specs.declared.refusal.DiskRef.{DiskRef}
use Rattle.refusal_lines.specs.declared.refusal.DiskRef.TheVariants.{Number, Spelt}
use Rattle.refusal_lines.specs.declared.refusal.Refusal.{Refusal}
use Rattle.refusal_lines.specs.declared.refusal.Refusal.TheVariants as cause
use Rattle.asm_formats.specs.Following.{sets}
use Rattle.asm_formats.specs.Sets.{elements}
use Rattle.asm_formats.specs.Status.{Status, status_spelling}
use Rattle.asm_formats.specs.Among.{IsAmong}
use Rattle.rebalance.proofs.catalog_tables.TableItems.{from_map}
use Rattle.directory_store.specs.change_directory.declared.copy.DirCopy.{DirCopy}
use Rattle.directory_store.specs.Copies.{IsSlotOfCopy, RegionsOf}
use Rattle.status_register.specs.Holders.{SlotsDiffer, attached_to, with_next_number}
use Rattle.status_register.specs.Registered.{Registered}
use Rattle.status_register.specs.Rows.{PutsRow, no_put, one_put}
use Rattle.status_register.specs.Slots.{status_gate}
use Rattle.status_register.specs.Surveys.{AreRead}
use Rattle.status_register.specs.Tallies as tallies
use Rattle.status_register.specs.Writes.{IsLostMember, IsWriteAnswer}
use Rattle.status_register.specs.declared.error.Dead.{Dead}
use Rattle.status_register.specs.declared.member.Member.{Member}
use Rattle.status_register.proofs.Holding.{among_below}
use Rattle.status_register.proofs.Ordering.{row_runs}
use Rattle.status_register.proofs.Tallying.{still_read}
use Rattle.group_engine.specs.Commits.{DismountCause, IsLostIn, LosesMajority, StatusCause}
use Rattle.status_register.specs.RegisterCalls.{HasWritten}
use Rattle.group_engine.specs.Mounts.{MountedGroup, IsMounted, IsOwn, IsReady, IsWhole, Takes, slot_at}
use Rattle.group_engine.specs.Own.{IsSameGroup, KeepsGroup, OnOwnDisks}
use Rattle.group_engine.specs.declared.attached.Attached.{Attached}
use Rattle.group_engine.specs.declared.flight.Flight.{Flight}
use Rattle.group_engine.specs.declared.access.Access.{Access}
use Rattle.group_engine.specs.declared.access.Access.TheVariants.{Mounted, Dismounted, Closed}
use Rattle.group_engine.proofs.Sets.{element_small}

-- ---- a group that was dismounted or closed takes no calls

takes_calls : Access → Bool
takes_calls Mounted = true
takes_calls (Dismounted disk) = false
takes_calls Closed = false

pub not_mounted : (m : MountedGroup) (disk : ℕ) → m.access ≡ Dismounted disk → IsMounted m → ⊥
unfolding takes_calls
not_mounted m disk is mounted = false≢true (sym (ap takes_calls is) ∙ ap takes_calls mounted)

pub not_open : (m : MountedGroup) → m.access ≡ Closed → IsMounted m → ⊥
unfolding takes_calls
not_open m is mounted = false≢true (sym (ap takes_calls is) ∙ ap takes_calls mounted)

-- ---- disks

-- a run of calls on some slots, in fewer words
pub run_less : {slots more : ℕ → Type 0} {step whole : bay.Image → bay.Image → Type 0} {a b : BayState} → ((s : ℕ) → slots s → more s) → ((x y : bay.Image) → step x y → whole x y) → Runs slots step a b → Runs more whole a b
run_less {slots} {more} {step} {whole} {a} {b} wider weaker run = record {
  later = run.later;
  faults = run.faults;
  other_faults = λ s other. run.other_faults s (λ inside. other (wider s inside));
  other_written = λ s other. run.other_written s (λ inside. other (wider s inside));
  tells = run.tells;
  held = λ image is. let from = run.held image is in (from.0, from.1, weaker from.0 image from.2);
  ended = run.ended;
  moments = λ k image low high left. let from = run.moments k image low high left in (from.0, from.1, weaker from.0 image from.2);
}

-- two runs, one after the other
pub run_on : {slots : ℕ → Type 0} {step : bay.Image → bay.Image → Type 0} {a b c : BayState} → ((x y z : bay.Image) → step x y → step y z → step x z) → Runs slots step a b → Runs slots step b c → Runs slots step a c
run_on {slots} {step} {a} {b} {c} joins one two = record {
  later = omega (arith, one.later, two.later);
  faults = λ s. omega (arith, one.faults s, two.faults s);
  other_faults = λ s other. two.other_faults s other ∙ one.other_faults s other;
  other_written = λ s other. two.other_written s other ∙ one.other_written s other;
  tells = λ told. two.tells (one.tells told);
  held = λ image is.
      let from = two.held image is in
      let first = one.held from.0 from.1 in
      (first.0, first.1, joins first.0 from.0 image first.2 from.2);
  ended = λ k image below.
      let far : k < b.calls = omega (arith, one.later) in
      let second = two.ended k image far in
      let first = one.ended k image below in
      ((λ left. first.0 (second.0 left)), (λ left. second.1 (first.1 left)));
  moments = λ k image low high left. ⊎_elim
      (λ (below : k < b.calls). one.moments k image low (omega arith) ((two.ended k image below).0 left))
      (λ (above : b.calls ≤ k).
      let from = two.moments k image above high left in
      let first = one.moments b.calls from.0 one.later (omega arith) from.1 in
      (first.0, first.1, joins first.0 from.0 image first.2 from.2))
      (cases_lt k b.calls);
}

pub own_joins : (m : MountedGroup) (x y z : bay.Image) → OnOwnDisks m x y → OnOwnDisks m y z → OnOwnDisks m x z
own_joins m x y z a b = record { size = λ s. b.size s ∙ a.size s; byte = λ s k out. b.byte s k out ∙ a.byte s k out }

-- nothing changes
pub nothing_own : (m : MountedGroup) (s : BayState) → Runs (IsOwn m) (OnOwnDisks m) s s
nothing_own m s = started (λ x. record { size = λ k. refl; byte = λ k j out. refl })

-- the same group
pub same_itself : (m : MountedGroup) → IsSameGroup m m
same_itself m = record { name = refl; id = refl; shape = refl; members = refl; disks = refl; flight = inl refl }

-- no call was made
pub nothing_kept : (m : MountedGroup) (s : BayState) → (IsMounted m → IsWhole m) → (IsMounted m → IsReady m s) → KeepsGroup m m s s
nothing_kept m s whole ready = record { same = same_itself m; attached = record { same = λ k. refl }; runs = nothing_own m s; whole = whole; ready = ready }

-- with another move on its way, or none, the group is whole and ready as it was
pub whole_in_flight : (m : MountedGroup) (f : Option Flight) → IsWhole m → IsWhole (record m { flight = f })
whole_in_flight m f w = record {
  are_tables = w.are_tables;
  tables = w.tables;
  shape = w.shape;
  units = w.units;
  status = w.status;
  alive = w.alive;
  written = w.written;
  group = w.group;
  reached = w.reached;
  numbers = w.numbers;
  births = w.births;
  copies = w.copies;
  disks = w.disks;
}

pub ready_in_flight : (m : MountedGroup) (f : Option Flight) (s : BayState) → IsReady m s → IsReady (record m { flight = f }) s
ready_in_flight m f s r = record { store = r.store; register = r.register; sizes = r.sizes }

-- the move that is on its way was given up
pub gives_up : (m : MountedGroup) (s : BayState) → Takes m s → KeepsGroup m (record m { flight = None }) s s
gives_up m s takes = record {
  same = record { name = refl; id = refl; shape = refl; members = refl; disks = refl; flight = inr refl };
  attached = record { same = λ k. refl };
  runs = nothing_own m s;
  whole = λ mounted. whole_in_flight m None (takes mounted).0;
  ready = λ mounted. ready_in_flight m None s (takes mounted).1;
}

-- two calls, one after the other
pub calls_keep : {a b c : MountedGroup} {s t u : BayState} → KeepsGroup a b s t → KeepsGroup b c t u → KeepsGroup a c s u
calls_keep {a} {b} {c} {s} {t} {u} one two =
    let own : (slot : ℕ) → IsOwn b slot → IsOwn a slot = λ slot of. (of.0, of.1, ap (λ (l : List (Option Member)). get_or l of.0 None) (sym one.same.members) ∙ of.2, of.3) in
    record {
      same = record {
        name = two.same.name ∙ one.same.name;
        id = two.same.id ∙ one.same.id;
        shape = two.same.shape ∙ one.same.shape;
        members = two.same.members ∙ one.same.members;
        disks = two.same.disks ∙ one.same.disks;
        flight = ⊎_elim
            (λ goes. ⊎_elim (λ went. inl (goes ∙ went)) (λ none. inr (goes ∙ none)) one.same.flight)
            (λ none. inr none)
            two.same.flight;
      };
      attached = attached-trans one.attached two.attached;
      runs = run_on (own_joins a) one.runs
          (run_less own (λ x y change. record { size = change.size; byte = λ slot k out. change.byte slot k (λ of. out (own slot of)) }) two.runs);
      whole = two.whole;
      ready = two.ready;
    }

module _ (m : MountedGroup) (whole : IsWhole m) where
  own_copy : (slot : ℕ) → IsSlotOfCopy m.store.copies slot → IsOwn m slot
  own_copy slot of = let k = whole.copies.each of.0 of.1 in (of.0.number, k.member, k.attached, of.2 ∙ sym k.slot)

  own_member : (next : Status) (slot : ℕ) → tallies.IsSlotOf (attached_to m.register.members next) slot → IsOwn m slot
  own_member next slot of = let f = among_below m.register.members next 64 of.0 of.1 in (f.0, of.0, f.2.there, of.2)

  row_own : (next : Status) (body : List ℕ) (x y : bay.Image) → PutsRow (status_gate m.register.id) (attached_to m.register.members next) body x y → OnOwnDisks m x y
  row_own next body x y (no_put a b same) = record { size = same.size; byte = λ s k out. same.byte s k }
  row_own next body x z (one_put a y b k among row step) =
      own_joins m a y b (row_own next body a y row)
      (record { size = step.elsewhere.size; byte = λ s j out. step.elsewhere.byte s j (λ inside. out (own_member next s (k, among, inside.0))) })

  pub store_own : {s t : BayState} → Runs (IsSlotOfCopy m.store.copies) (ChangesOnly (RegionsOf m.store.copies)) s t → Runs (IsOwn m) (OnOwnDisks m) s t
  store_own {s} {t} run = run_less own_copy (λ x y change. record { size = change.size; byte = λ slot k out. change.byte slot k (λ region. out (own_copy slot (region.0, region.1, region.2.0))) }) run

  pub written_own : {s t u : BayState} (next : Status) (answer : Result ℕ Dead) (reg : Registered) → Runs (IsOwn m) (OnOwnDisks m) s t → HasWritten m.register next answer reg t u → Runs (IsOwn m) (OnOwnDisks m) s u
  written_own {s} {t} {u} next answer reg before written = run_on (own_joins m) before
      (run_less (own_member next) (row_own next (status_spelling (with_next_number m.register next)))
      (row_runs (status_gate m.register.id) (attached_to m.register.members next) (status_spelling (with_next_number m.register next)) t u written.calls.runs))

  -- ---- causes

  copy_slot : (c : DirCopy) → IsAmong m.store.copies c → (c.number < 64) × (slot_at m.disks c.number ≡ Some c.slot)
  copy_slot c among =
      let k = whole.copies.each c among in
      (element_small m.register.value.directories c.number k.named, whole.disks c.number ∙ ap (option_map (λ (x : Member). x.slot)) k.attached ∙ ap (λ (s : ℕ). Some s) k.slot)

  -- a disk in the slot of a copy is that of its number
  copy_number : SlotsDiffer m.register.members → (c : DirCopy) → IsAmong m.store.copies c → (number : ℕ) → slot_at m.disks number ≡ Some c.slot → number ≡ c.number
  copy_number apart c among number at =
      let k = whole.copies.each c among in
      let other = from_map (λ (x : Member). x.slot) (get_or m.register.members number None) c.slot (sym (whole.disks number) ∙ at) in
      apart number c.number other.0 k.member other.1 k.attached (other.2 ∙ sym k.slot)

  pub gone_lost : SlotsDiffer m.register.members → (s t : BayState) (slot number : ℕ) → IsSlotOfCopy m.store.copies slot
      → ((c : DirCopy) → IsAmong m.store.copies c → Rose (s.faults c.slot) (t.faults c.slot))
      → ((k : ℕ) → k < 64 → slot_at m.disks k ≡ Some slot → slot_at m.disks number ≡ Some slot) → IsLostIn m m.register.value number s t
  gone_lost apart s t slot number of all found =
      let own = copy_slot of.0 of.1 in
      let at : slot_at m.disks number ≡ Some slot = found of.0.number own.0 (own.1 ∙ ap (λ (k : ℕ). Some k) (sym of.2)) in
      let one : number ≡ of.0.number = copy_number apart of.0 of.1 number (at ∙ ap (λ (k : ℕ). Some k) of.2) in
      record {
        slot = slot;
        at = at;
        rose = subst (λ (k : ℕ). Rose (s.faults k) (t.faults k)) (sym of.2) (all of.0 of.1);
        by = inl (record {
          named = subst (λ (d : ℕ). IsAmong (elements m.register.value.directories) d) (sym one) (whole.copies.each of.0 of.1).named;
          all = λ k place named there.
              let c = whole.copies.all k named in
              let same : place ≡ c.0.slot = same_Some place c.0.slot (sym there ∙ ap (slot_at m.disks) (sym c.2) ∙ (copy_slot c.0 c.1).1) in
              subst (λ (j : ℕ). Rose (s.faults j) (t.faults j)) (sym same) (all c.0 c.1);
        });
      }

  pub dead_lost : (r : Status) (s t u : BayState) (next : Status) (answer : Result ℕ Dead) (dead : Dead) (number : ℕ) → ((k : ℕ) → s.faults k ≤ t.faults k) → answer ≡ Err dead
      → IsWriteAnswer (attached_to m.register.members next) (with_next_number m.register next) answer t u
      → ((k : ℕ) → k < 64 → slot_at m.disks k ≡ Some dead.slot → slot_at m.disks number ≡ Some dead.slot) → IsLostIn m r number s u
  dead_lost r s t u next answer dead number before is answered found =
      let a = subst (λ (x : Result ℕ Dead). IsWriteAnswer (attached_to m.register.members next) (with_next_number m.register next) x t u) is answered in
      let lost = a.3 in
      let k = lost.0 in
      let f = among_below m.register.members next 64 k lost.1.lost.attached in
      let rises : (j : ℕ) → Rose (t.faults j) (u.faults j) → Rose (s.faults j) (u.faults j) = λ j rose. omega (arith, before j, rose) in
      record {
        slot = dead.slot;
        at = found f.0 f.1 (whole.disks f.0 ∙ ap (option_map (λ (x : Member). x.slot)) f.2.there ∙ ap (λ (j : ℕ). Some j) (sym lost.2));
        rose = rises dead.slot lost.3;
        by = inr (
          next,
          record {
            took = a.0;
            read = still_read (λ (j : ℕ). Rose (t.faults j) (u.faults j)) (λ (j : ℕ). Rose (s.faults j) (u.faults j)) rises (attached_to m.register.members next) a.0 a.1;
            disk = k;
            lost = lost.1;
            at = lost.2;
          },
        );
      }

-- ---- causes over two calls

module _ {a b : MountedGroup} {s t : BayState} (keeps : KeepsGroup a b s t) (u : BayState) where
  rises_on : (j : ℕ) → Rose (t.faults j) (u.faults j) → Rose (s.faults j) (u.faults j)
  rises_on j rose = omega (arith, keeps.runs.faults j, rose)

  majority_on : (next : Status) (slot : ℕ) → LosesMajority b next slot t u → LosesMajority a next slot s u
  majority_on next slot lost = record {
    took = lost.took;
    read = still_read (λ (j : ℕ). Rose (t.faults j) (u.faults j)) (λ (j : ℕ). Rose (s.faults j) (u.faults j)) rises_on (attached_to a.register.members next) lost.took
        (subst (λ (l : List (Option Member)). AreRead (λ (k : ℕ). Rose (t.faults k) (u.faults k)) (attached_to l next) lost.took) keeps.same.members lost.read);
    disk = lost.disk;
    lost = subst (λ (l : List (Option Member)). IsLostMember (attached_to l next) lost.took (sets next) lost.disk) keeps.same.members lost.lost;
    at = lost.at;
  }

  -- a disk that was lost in the second call was lost in both
  pub lost_on : (r : Status) (d : ℕ) → IsLostIn b r d t u → IsLostIn a r d s u
  lost_on r d lost = record {
    slot = lost.slot;
    at = ap (λ (l : List (Option Attached)). slot_at l d) (sym keeps.same.disks) ∙ lost.at;
    rose = rises_on lost.slot lost.rose;
    by = ⊎_elim
        (λ copies. inl (record {
          named = copies.named;
          all = λ k place named there. rises_on place (copies.all k place named (ap (λ (l : List (Option Attached)). slot_at l k) keeps.same.disks ∙ there));
        }))
        (λ wrote. inr (wrote.0, majority_on wrote.0 lost.slot wrote.1))
        lost.by;
  }

  pub dismount_on : (c : MountedGroup) → IsMounted b → (by : DiskRef) → DismountCause b c t u by → DismountCause a c s u by
  dismount_on c mounted (Number d) why = ⊎_elim (λ before. absurd (not_mounted b d before mounted)) (λ now. inr (now.0, lost_on c.register.value d now.1)) why
  dismount_on c mounted (Spelt text) why = absurd why

  pub cause_on : (c : MountedGroup) → IsMounted b → (refusal : Refusal) → StatusCause b c t u refusal → StatusCause a c s u refusal
  cause_on c mounted (cause.Dismounted by) why = dismount_on c mounted by why
  cause_on c mounted cause.NoMemory why = tt
  cause_on c mounted _ why = absurd why
