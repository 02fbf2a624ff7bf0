-- A mounted group takes the next call.
use Rattle.std.proofs.Common.{◌≡◌, inl, inr, ℕ, ◌+◌, ◌-◌, ◌%◌, ◌<◌, refl, sym, ap, subst, ◌∙◌, Option, Some, arith}
use Rattle.std.specs.Prelude.{◌≤◌, List, IsSome, unwrap_or}
use Rattle.asm_group.specs.Names.{Bytes}
use Rattle.std.specs.Option.{ForSome}
use Rattle.std.proofs.lemmas.Bool.{cases_eq}
use Rattle.bay.specs.Image.{Image, Same}
use Rattle.bay.specs.State.{BayState, AttachesOnly, IsOnSectors, IsSlot, KeepsAttached, size_of}
use Rattle.bay.specs.Moments.{Runs}
use Rattle.bay_mem.specs.MemState.{IsQuiet}
use Rattle.group_engine.specs.Frames.{StaysAttached}
use Rattle.new_groups.specs.mounted_groups.FirstParts.{IsNewlyMounted}
use Rattle.new_groups.specs.mounted_groups.Mounting.{IsMountedBy}
use Rattle.group_engine.specs.Making.{access_after_closing}
use Rattle.group_engine.specs.Members.{HasImage, LetsGo}
use Rattle.group_engine.specs.Mounts.{MountedGroup, Takes}
use Rattle.group_engine.specs.Own.{KeepsGroup}
use Rattle.file_extents.specs.group_pieces.Bytes.{WritesBytes}
use Rattle.status_register.specs.declared.member.Member.{Member}
use Rattle.group_engine.proofs.Endings.{closed_takes_none}
use Rattle.group_engine.proofs.Elsewhere.{ready_elsewhere, stays_attached}

pub kept_takes : {m n : MountedGroup} {s t : BayState} → KeepsGroup m n s t → Takes n t
kept_takes {m} {n} {s} {t} keeps mounted = (keeps.whole mounted, keeps.ready mounted)

pub let_takes : {m n : MountedGroup} {s t : BayState} → LetsGo m n s t → Takes n t
let_takes {m} {n} {s} {t} lets mounted = (lets.whole mounted, lets.ready mounted)

-- calls that change no disk leave the group
pub same_takes : (m : MountedGroup) {s t : BayState} {on : ℕ → Type 0} → StaysAttached s t → Runs on Same s t → Takes m s → Takes m t
same_takes m {s} {t} {on} stays run takes mounted =
    let before = takes mounted in
    (before.0, ready_elsewhere m before.0 before.1 stays run (λ x y same slot own. record { size = same.size slot; byte = same.byte slot }))

-- ---- disks in memory

quiet_runs : (s t : BayState) → IsQuiet s t → Runs (λ slot. ⊥) Same s t
quiet_runs s t quiet = record {
  later = omega (arith, quiet.calls);
  faults = λ slot. omega (arith, quiet.faults slot);
  other_faults = λ slot out. quiet.faults slot;
  other_written = λ slot out. quiet.written slot;
  tells = quiet.tells;
  held = quiet.held;
  ended = λ m image lt. quiet.moments m image;
  moments = λ m image le ge left.
      let same : m ≡ s.calls = omega (arith, le, ge, quiet.calls) in
      (image, subst (λ (k : ℕ). s.leaves k image) same ((quiet.moments m image).0 left), record { size = λ k. refl; byte = λ k j. refl });
}

-- which calls fail is no part of what the disks hold
pub quiet_takes : (m : MountedGroup) (s t : BayState) → IsQuiet s t → KeepsAttached s t → Takes m s → Takes m t
quiet_takes m s t quiet attached = same_takes m {s = s} {t = t} (stays_attached {s = s} {t = t} attached) (quiet_runs s t quiet)

-- a sector of an attached slot is read
pub looked_takes : (m : MountedGroup) {s t : BayState} {slot : ℕ} → KeepsAttached s t → Runs (IsSlot slot) Same s t → Takes m s → Takes m t
looked_takes m {s} {t} attached run = same_takes m {s = s} {t = t} (stays_attached {s = s} {t = t} attached) run

-- bytes of users are written
pub wrote_takes : {m : MountedGroup} {region : ℕ → ℕ → Type 0} {s t : BayState} → WritesBytes m region s t → Takes m s → Takes m t
wrote_takes writes takes mounted = ((takes mounted).0, writes.ready)

-- one slot is attached or stays as it was
pub attached_takes : (m : MountedGroup) (s t : BayState) (slot : ℕ) → AttachesOnly slot s t → ForSome (s.attached slot) (λ size. t.attached slot ≡ Some size)
    → Runs (IsSlot slot) Same s t → Takes m s → Takes m t
attached_takes m s t slot others has run = same_takes m {s = s} {t = t} (record {
  stays = λ k size is. elim (cases_eq k slot) [
    | inl here ↦ ap t.attached here ∙ has size (ap s.attached (sym here) ∙ is)
    | inr other ↦ others.others k other ∙ is
  ];
}) run

-- ---- the end of calls

pub closed_takes : (m : MountedGroup) (s : BayState) → Takes (record m { access = access_after_closing m.access }) s
closed_takes m s mounted = absurd (closed_takes_none m mounted)

-- ---- groups that are made and found

pub newly_takes : (held : List ℕ) (name : Bytes) (id : Option ℕ) (m : MountedGroup) (s : BayState) → IsNewlyMounted held name id m s → Takes m s
newly_takes held name id m s new mounted = (new.whole, new.ready)

pub mounted_takes : (name : Bytes) (held : List ℕ) (m : MountedGroup) (s : BayState) → IsMountedBy name held m s → Takes m s
mounted_takes name held m s by mounted = (by.whole, by.ready)

-- ---- a sector of an attached image

pub is_there : (s : BayState) (slot size : ℕ) → s.attached slot ≡ Some size → IsSome (s.attached slot)
is_there s slot size is = subst (λ (o : Option ℕ). IsSome o) (sym is) refl

pub is_inside : (s : BayState) (slot size at : ℕ) → s.attached slot ≡ Some size → at ≤ size → 512 ≤ size - at → at + 512 ≤ size_of s slot
is_inside s slot size at is before room = subst (λ (o : Option ℕ). at + 512 ≤ unwrap_or o 0) (sym is) (omega (arith, before, room))

pub on_sector : (at : ℕ) → at % 512 ≡ 0 → IsOnSectors at 512
on_sector at is = (is, refl)

-- ---- an image that is attached

pub has_image : (x : Member) (size : ℕ) (s : BayState) → x.sector ≡ 512 → s.attached x.slot ≡ Some size → 40960 ≤ size → HasImage x size s
has_image x size s sector is long = record {
  slots = record {
    attached = subst (λ (o : Option ℕ). IsSome o) (sym is) refl;
    sector_size = inl sector;
    long = subst (λ (o : Option ℕ). 40960 ≤ unwrap_or o 0) (sym is) long;
  };
  attached = is;
}
