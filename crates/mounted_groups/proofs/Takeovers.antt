-- How a group that was found is taken over, and what that leaves of other groups.
use Rattle.std.proofs.Common.{◌≡◌, ℕ, ◌<◌, ◌≤◌, Bool, true, false, List, get_or, refl, sym, ap, subst, ◌∙◌, Option, None}
use Rattle.bay.specs.Image.{Image, ChangesOnly, Same}
use Rattle.bay.specs.State.{BayState}
use Rattle.bay.specs.Moments.{Runs}
use Rattle.asm_group.specs.Names.{Bytes, is_same_name}
use Rattle.group_engine.specs.Frames.{StaysAttached}
use Rattle.group_engine.specs.Mounts.{IsMounted, IsOwn, MountedGroup}
use Rattle.group_engine.specs.Own.{KeepsGroup}
use Rattle.group_recovery.specs.Finding.{AreThere, AttachedStays}
use Rattle.group_recovery.specs.Founds.{FoundDisks, IsFound}
use Rattle.group_recovery.specs.Quorum.{IsQuorate, QuorumCause}
use Rattle.group_recovery.specs.Recovering.{ArePartsOf, RecoverCause, is_named, name_in}
use Rattle.group_recovery.specs.Verdicts.{IsSlotIn, members_with}
use Rattle.group_recovery.specs.Writing.{FrontOf}
use Rattle.group_recovery.specs.declared.error.MountError.{MountError}
use Rattle.group_recovery.specs.declared.error.MountError.TheVariants as error
use Rattle.group_recovery.specs.declared.finding.Headed.{Headed}
use Rattle.group_recovery.specs.declared.quorum.MountOption.{MountOption}
use Rattle.group_recovery.specs.declared.quorum.Quorate.{Quorate}
use Rattle.group_recovery.specs.declared.recovering.Parts.{Parts}
use Rattle.status_register.specs.declared.member.Member.{Member}
use Rattle.status_register.specs.Registered.{AreNumbered}
use Rattle.mounted_groups.specs.Bringing.{AreBrought, HasNamedCopies, IsBrought}
use Rattle.mounted_groups.specs.Holding.{IsHeldSlot, SameHeld, SparesHeld}
use Rattle.mounted_groups.specs.Mounting.{IsMountCause, IsMountedBy, IsRecovered, IsTakenOver, WasQuorate, free_disks, has_group_name, mounted_of, not_quorate, not_renewed, of_others}
use Rattle.mounted_groups.proofs.Brought.{brought_since}
use Rattle.mounted_groups.proofs.Held.{member_found, slots_free, slots_inside, there_left}
use Rattle.mounted_groups.proofs.Spared.{change_held, same_held, spares_on, spares_some}

pub found_stays : {s t : BayState} → AttachedStays s t → StaysAttached s t
found_stays {s} {t} stays = record { stays = stays }

module _ (name : Bytes) (n : ℕ) (held : List ℕ) (option : MountOption) (found f : FoundDisks) (is : f ≡ free_disks held found) (slots : found.slots ≡ n) where
  -- ---- the disks that are left

  pub was_named : (b c : Bool) → b ≡ is_named (name_in f.id f.headed) name → b ≡ c → has_group_name (free_disks held found) name ≡ c
  was_named b c tested answer = subst (λ (d : FoundDisks). is_named (name_in d.id d.headed) name ≡ c) is (sym tested ∙ answer)

  pub quorate_left : (q : Quorate) (t : BayState) → IsQuorate option f q t → IsQuorate option (free_disks held found) q t
  quorate_left q t quorate = subst (λ (d : FoundDisks). IsQuorate option d q t) is quorate

  cause_left : (e : MountError) (s t : BayState) → QuorumCause option f e s t → QuorumCause option (free_disks held found) e s t
  cause_left e s t cause = subst (λ (d : FoundDisks). QuorumCause option d e s t) is cause

  module _ (state : BayState) (there : AreThere n found.headed state) where
    left : AreThere f.slots f.headed state
    left = there_left held n found f state is slots there

    pub is_inside : (slot : ℕ) → IsSlotIn f.headed slot → slot < n
    is_inside slot in_f = subst (λ (k : ℕ). slot < k) (ap (λ (d : FoundDisks). d.slots) is ∙ slots) (slots_inside f.slots f.headed state left slot in_f)

    is_free : (slot : ℕ) → IsSlotIn f.headed slot → IsHeldSlot held slot → ⊥
    is_free slot in_f = slots_free held found.headed slot (subst (λ (d : FoundDisks). IsSlotIn d.headed slot) is in_f)

    -- reads of these disks, and then writes in front of them, leave those that are held
    pub reads_spare : {s t : BayState} → SparesHeld held n s state → Runs (IsSlotIn f.headed) Same state t → SparesHeld held n s t
    reads_spare {s} {t} before run = spares_on held n before (spares_some held n is_inside (same_held held) run)

    module _ (q : Quorate) (heads : q.headed.items ≡ f.headed) where
      pub in_left : (slot : ℕ) → IsSlotIn q.headed.items slot → IsSlotIn f.headed slot
      in_left slot in_q = subst (λ (l : List Headed). IsSlotIn l slot) heads in_q

      front_held : (x y : Image) → ChangesOnly (FrontOf (members_with q.id q.headed.items)) x y → SameHeld held x y
      front_held x y change slot is_held = record {
        size = change.size slot;
        byte = λ k. change.byte slot k (λ front.
            let m = front.0 in
            let disk = member_found q.id q.headed.items m.0 m.1 in
            is_free slot (in_left slot (disk.0, disk.1, m.2 ∙ disk.2)) is_held);
      }

      pub writes_spare : {s m t : BayState} → SparesHeld held n s m → Runs (IsSlotIn q.headed.items) (ChangesOnly (FrontOf (members_with q.id q.headed.items))) m t → SparesHeld held n s t
      writes_spare {s} {m} {t} before run = spares_on held n before (spares_some held n (λ slot in_q. is_inside slot (in_left slot in_q)) front_held run)

      -- each disk of the parts is one of these
      pub parts_inside : (now : ℕ) (parts : Parts) (t : BayState) → ArePartsOf q now parts t → (slot : ℕ) → IsOwn (mounted_of parts) slot → slot < n
      parts_inside now parts t are slot own =
          let placed = are.register.members own.0 own.1 own.2 in
          let disk = member_found q.id q.headed.items own.1 placed.among in
          is_inside slot (in_left slot (disk.0, disk.1, own.3 ∙ disk.2))

  -- ---- causes

  module _ {B : Type 0} (state : B → BayState) (s : BayState) where
    pub others_cause : (t : BayState) → Runs (λ slot. slot < n) Same s t → IsFound name n found s t → has_group_name (free_disks held found) name ≡ false → IsMountCause state name n held option s t error.NoGroup
    others_cause t looks was none = of_others refl looks (record { found = found; is = was; none = none })

    pub quorum_cause : (between : B) (t : BayState) (e : MountError) → IsFound name n found s (state between) → Runs (λ slot. slot < n) Same s (state between) → Runs (λ slot. slot < n) Same (state between) t
        → QuorumCause option f e (state between) t → IsMountCause state name n held option s t e
    quorum_cause between t e was searched reads cause =
        not_quorate (record { found = found; slots = slots; between = between; is = was; searched = searched; reads = reads; cause = cause_left e (state between) t cause })

    pub was_quorate : (between later : B) (q : Quorate) → IsFound name n found s (state between) → Runs (λ slot. slot < n) Same s (state between) → IsQuorate option f q (state later) → WasQuorate state name n held option s
    was_quorate between later q was searched quorate = record { found = found; between = between; is = was; searched = searched; quorum = q; later = later; quorate = quorate_left q (state later) quorate }

    pub taken_over : (between later : B) (q : Quorate) (now : ℕ) (parts : Parts) (m : MountedGroup) (set : ℕ) (t : BayState) → IsFound name n found s (state between)
        → Runs (λ slot. slot < n) Same s (state between) → IsQuorate option f q (state later) → ArePartsOf q now parts t → m ≡ mounted_of parts → HasNamedCopies q.survey.value q.survey.read set
        → IsTakenOver state name n held option now m set s t
    unfolding was_quorate
    taken_over between later q now parts m set t was searched quorate are same named =
        record { was = was_quorate between later q was searched quorate; parts = parts; are = are; group = same; named = named }

    pub renewed_cause : (between later : B) (q : Quorate) (t : BayState) (e : MountError) → IsFound name n found s (state between) → Runs (λ slot. slot < n) Same s (state between) → IsQuorate option f q (state later)
        → Runs (λ slot. slot < n) Same (state between) (state later) → ((slot : ℕ) → (state later).faults slot ≤ t.faults slot) → RecoverCause q e (state later) t → IsMountCause state name n held option s t e
    unfolding was_quorate
    renewed_cause between later q t e was searched quorate reads on cause =
        not_renewed (record { was = was_quorate between later q was searched quorate; slots = slots; reads = reads; later = on; cause = cause })

-- those that were read have numbers of disks
pub read_numbered : (option : MountOption) (f : FoundDisks) (q : Quorate) (t : BayState) → IsQuorate option f q t → AreNumbered q.survey.read
read_numbered option f q t quorate m h = quorate.quorum.survey.numbers m (quorate.quorum.survey.well.among m h)

-- ---- what a stop left undone is ended

module _ {B : Type 0} (state : B → BayState) (name : Bytes) (n : ℕ) (held : List ℕ) (option : MountOption) (now : ℕ) where
  pub recovered : (old new : MountedGroup) (set : ℕ) (s : BayState) (at : B) (t : BayState) → IsTakenOver state name n held option now old set s (state at) → KeepsGroup old new (state at) t
      → ((slot : ℕ) → s.faults slot ≤ (state at).faults slot) → AreBrought state old set 64 new (state at) t → IsRecovered state name n held option now new s t
  recovered old new set s at t taken keeps later brought = record {
    was = taken.was;
    parts = taken.parts;
    at = at;
    are = taken.are;
    keeps = subst (λ (k : MountedGroup). KeepsGroup k new (state at) t) taken.group keeps;
    brought = λ d lt is. subst (λ (k : MountedGroup). IsBrought state k d new s t) taken.group
        (brought_since state old d new s (state at) t later (brought d lt (taken.named d lt ∙ is)));
  }

module _ (name : Bytes) (n : ℕ) (held : List ℕ) (old new : MountedGroup) (s m t : BayState) (keeps : KeepsGroup old new m t) (mounted_by : IsMountedBy name held old m) where
  pub still_mounted : IsMounted new → IsMountedBy name held new t
  still_mounted mounted = record {
    mounted = mounted;
    named = subst (λ (b : Bytes). is_same_name b name ≡ true) (sym keeps.same.name) mounted_by.named;
    own = λ slot own held_is. mounted_by.own slot (own.0, own.1, ap (λ (l : List (Option Member)). get_or l own.0 None) (sym keeps.same.members) ∙ own.2, own.3) held_is;
    whole = keeps.whole mounted;
    ready = keeps.ready mounted;
  }

  pub cleared_spares : ((slot : ℕ) → IsOwn old slot → slot < n) → SparesHeld held n s m → SparesHeld held n s t
  cleared_spares inside before = spares_on held n before (spares_some held n inside (change_held held (IsOwn old) mounted_by.own) keeps.runs)
