-- Directory copies that are brought up.
use Rattle.std.proofs.Common.{◌≡◌, inl, inr, ⊎_elim, ℕ, zero, suc, ◌+◌, ◌-◌, ◌<◌, ◌≤◌, Bool, true, false, List, [], ◌∷◌, length, get_or, take, drop, refl, sym, ap, subst, ◌∙◌, Option, Some, None, Result, Ok, Err, arith}
use Rattle.std.specs.Prelude.{OnOk}
use Rattle.std.specs.Option.{option_map}
use Rattle.std.proofs.lemmas.Bool.{cases_lt, false≢true}
use Rattle.std.proofs.lemmas.Option.{none-some, same_Some}
use Rattle.bay.specs.Counts.{Rose}
use Rattle.bay.specs.State.{BayState}
use Rattle.refusal_lines.specs.declared.refusal.Refusal.{Refusal}
use Rattle.refusal_lines.specs.declared.refusal.Refusal.TheVariants as refusal
use Rattle.asm_formats.specs.Regions.{has_region}
use Rattle.asm_formats.specs.Sets.{has_bit}
use Rattle.asm_formats.specs.Status.{Status}
use Rattle.asm_group.specs.Shape.{Shape}
use Rattle.asm_formats.specs.Among.{IsAmong}
use Rattle.group_engine.specs.Copying.{DirectoryCopyCause, IsNotCopied}
use Rattle.group_engine.specs.Mounts.{IsMounted, MountedGroup, slot_at}
use Rattle.group_engine.specs.Own.{KeepsGroup}
use Rattle.group_engine.specs.declared.attached.Attached.{Attached}
use Rattle.group_engine.proofs.Causes.{calls_keep}
use Rattle.group_recovery.proofs.NextRecords.{no_bits}
use Rattle.status_register.specs.declared.member.Member.{Member}
use Rattle.mounted_groups.specs.Bringing.{AreBrought, IsBrought, StoodWith, is_named_in}
use Rattle.mounted_groups.specs.Clearing.{IsClearCause}
use Rattle.mounted_groups.proofs.Clears.{dismount_clear}
use Rattle.mounted_groups.proofs.Drops.{nothing_done}

-- why a copy isn't stored
pub copy_clear : (old : MountedGroup) (d : ℕ) (new : MountedGroup) (s t : BayState) (given : Refusal) → IsMounted old → DirectoryCopyCause old d new s t given → IsClearCause old s t given
copy_clear old d new s t (refusal.WriteFault by) mounted cause = tt
copy_clear old d new s t (refusal.Dismounted by) mounted cause = dismount_clear old new s t by mounted cause
copy_clear old d new s t refusal.NoMemory mounted cause = tt
copy_clear old d new s t other mounted cause = absurd cause

-- the slot of an attached disk
slot_of : (m : MountedGroup) (d : ℕ) (a : Attached) → get_or m.disks d None ≡ Some a → slot_at m.disks d ≡ Some a.slot
slot_of m d a is = ap (option_map (λ (x : Attached). x.slot)) is

-- a write to a disk that is attached was refused: its slot failed
pub rose_of : (old : MountedGroup) (d : ℕ) (s t : BayState) (a : Attached) → get_or old.disks d None ≡ Some a → IsNotCopied old d s t → Rose (s.faults a.slot) (t.faults a.slot)
rose_of old d s t a is cause = ⊎_elim
    (λ none. absurd (none-some a.slot (sym none ∙ slot_of old d a is)))
    (λ failed. subst (λ (k : ℕ). Rose (s.faults k) (t.faults k)) (same_Some failed.0 a.slot (sym failed.1 ∙ slot_of old d a is)) failed.2)
    cause

module _ {B : Type 0} (state : B → BayState) where
  -- the group went on
  pub stood_on : (d : ℕ) (m n : MountedGroup) (t u : BayState) → KeepsGroup m n t u → StoodWith state d m t → StoodWith state d n u
  stood_on d m n t u keeps stood = record {
    group = stood.group;
    at = stood.at;
    named = stood.named;
    whole = stood.whole;
    ready = stood.ready;
    since = calls_keep stood.since keeps;
  }

  pub brought_on : (old : MountedGroup) (d : ℕ) (m n : MountedGroup) (s t u : BayState) → KeepsGroup m n t u → IsBrought state old d m s t → IsBrought state old d n s u
  brought_on old d m n s t u keeps brought a is room = ⊎_elim
      (λ rose. inl (omega (arith, rose, keeps.runs.faults a.slot)))
      (λ stood. inr (stood_on d m n t u keeps stood))
      (brought a is room)

  -- calls before
  pub brought_from : (old mid : MountedGroup) (d : ℕ) (new : MountedGroup) (s m t : BayState) → KeepsGroup old mid s m → IsBrought state mid d new m t → IsBrought state old d new s t
  brought_from old mid d new s m t keeps brought a is room = ⊎_elim
      (λ rose. inl (omega (arith, rose, keeps.runs.faults a.slot)))
      (λ stood. inr stood)
      (brought a (ap (λ (l : List (Option Attached)). get_or l d None) keeps.same.disks ∙ is)
      (ap (λ (k : ℕ). has_region k a.size) (ap (λ (x : Shape). x.dir_blocks) keeps.same.shape) ∙ room))

  -- calls before, of which faults alone are known
  pub brought_since : (old : MountedGroup) (d : ℕ) (new : MountedGroup) (s m t : BayState) → ((slot : ℕ) → s.faults slot ≤ m.faults slot) → IsBrought state old d new m t → IsBrought state old d new s t
  brought_since old d new s m t later brought a is room = ⊎_elim (λ rose. inl (omega (arith, rose, later a.slot))) (λ stood. inr stood) (brought a is room)

  -- ---- one disk

  -- no copy fits there
  pub brought_nowhere : (old : MountedGroup) (d : ℕ) (s : BayState) (b : Bool) → ((a : Attached) → get_or old.disks d None ≡ Some a → b ≡ has_region old.catalog.shape.dir_blocks a.size) → b ≡ false
      → IsBrought state old d old s s
  brought_nowhere old d s b is out a at room = absurd (false≢true (sym out ∙ is a at ∙ room))

  pub brought_named : (old : MountedGroup) (d : ℕ) (new : MountedGroup) (s : BayState) (end : B) → IsMounted new → KeepsGroup old new s (state end) → has_bit new.register.value.directories d ≡ true
      → IsBrought state old d new s (state end)
  brought_named old d new s end mounted keeps named a at room = inr (record {
    group = new;
    at = end;
    named = named;
    whole = keeps.whole mounted;
    ready = keeps.ready mounted;
    since = nothing_done new (state end) (λ is. (keeps.whole is, keeps.ready is));
  })

  pub brought_failed : (old : MountedGroup) (d : ℕ) (new : MountedGroup) (s t : BayState) → IsNotCopied old d s t → IsBrought state old d new s t
  brought_failed old d new s t failed a at room = inl (rose_of old d s t a at failed)

  -- ---- one disk more

  pub brought_more : (old : MountedGroup) (set front : ℕ) (m n : MountedGroup) (s t u : BayState) → KeepsGroup m n t u → AreBrought state old set front m s t
      → (has_bit set front ≡ true → IsBrought state old front n s u) → AreBrought state old set (front + 1) n s u
  brought_more old set front m n s t u keeps before here d lt bit = ⊎_elim
      (λ low. brought_on old d m n s t u keeps (before d low bit))
      (λ high. let same : front ≡ d = omega (arith, lt, high) in
      subst (λ (k : ℕ). IsBrought state old k n s u) same (here (ap (has_bit set) same ∙ bit)))
      (cases_lt d front)

-- ---- the disks of copies

pub none_named : (set : ℕ) (r : Status) (ms : List Member) → set ≡ 0 → length ms < 1 → (d : ℕ) → has_bit set d ≡ is_named_in r ms d
none_named set r [] none few d = no_bits set none d
none_named set r (m ∷ ms) none few d = absurd (omega (arith, few))

pub first_disk : (ms : List Member) (none : Member) → 1 ≤ length ms → IsAmong ms (get_or ms 0 none)
first_disk [] none some = absurd (omega (arith, some))
first_disk (m ∷ ms) none some = inl refl

take_among : (n : ℕ) (ms : List Member) (m : Member) → IsAmong (take n ms) m → IsAmong ms m
take_among zero ms m h = absurd h
take_among (suc n) [] m h = absurd h
take_among (suc n) (x ∷ ms) m (inl same) = inl same
take_among (suc n) (x ∷ ms) m (inr h) = inr (take_among n ms m h)

pub rest_disk : (ms : List Member) (m : Member) → IsAmong (take (length ms - 1) (drop 1 ms)) m → IsAmong ms m
rest_disk [] m h = absurd h
rest_disk (x ∷ ms) m h = inr (take_among (length (x ∷ ms) - 1) ms m h)

-- a fact of the end, where a call was done
pub ok_of : {E : Type 0} {P : Type 0} (answer : Result (Unit {0}) E) → P → OnOk answer P
ok_of {E} {P} (Ok done) is = is
ok_of {E} {P} (Err e) is = tt
