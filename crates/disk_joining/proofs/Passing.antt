-- Disks of a set that pass a test, from the least.
use Rattle.std.proofs.Common.{◌≡◌, ⊎_elim, ℕ, ◌+◌, ◌<◌, ◌≤◌, Bool, true, false, List, Option, Some, refl, sym, ap, subst, ◌∙◌, arith}
use Rattle.std.proofs.lemmas.Bool.{cases_lt, true≢false}
use Rattle.refusal_lines.specs.declared.refusal.DiskRef.TheVariants as disk
use Rattle.refusal_lines.specs.declared.refusal.Refusal.TheVariants as refusal
use Rattle.asm_formats.specs.Sets.{has_bit}
use Rattle.asm_formats.specs.Status.{Entry, Status, entry_of, is_offline_entry}
use Rattle.asm_group.specs.declared.Mode.{Mode}
use Rattle.asm_group.specs.declared.Mode.TheVariants as mode
use Rattle.asm_group.specs.Modes.{is_offline}
use Rattle.disk_images.specs.declared.looking.Looked.{Looked}
use Rattle.file_extents.specs.group_engine.Mounts.{MountedGroup}
use Rattle.disk_joining.specs.Causes.{ImageCause, PassBelow, PassesTest, JoinStateCause}
use Rattle.disk_joining.specs.Returning.{is_present}

pub none_below : (entries : List Entry) (disks : ℕ) (test : Entry → Bool) → PassBelow entries disks test 0
none_below entries disks test = record { each = λ d less has. absurd (omega arith) }

one_more : (entries : List Entry) (disks : ℕ) (test : Entry → Bool) (n : ℕ) → (has_bit disks n ≡ true → PassesTest entries test n) → PassBelow entries disks test n → PassBelow entries disks test (n + 1)
one_more entries disks test n here below = record {
  each = λ d less has. ⊎_elim
      (λ (before : d < n). below.each d before has)
      (λ (from : n ≤ d).
      let same : n ≡ d = omega arith in
      subst (λ (k : ℕ). PassesTest entries test k) same (here (subst (λ (k : ℕ). has_bit disks k ≡ true) (sym same) has)))
      (cases_lt d n);
}

-- the next number is none of the set
pub pass_without : (entries : List Entry) (disks : ℕ) (test : Entry → Bool) (n : ℕ) → has_bit disks n ≡ false → PassBelow entries disks test n → PassBelow entries disks test (n + 1)
pass_without entries disks test n out below = one_more entries disks test n (λ has. absurd (true≢false (sym has ∙ out))) below

-- the disk of the next number passes
pub pass_with : (entries : List Entry) (disks : ℕ) (test : Entry → Bool) (n : ℕ) (e : Entry) → entry_of entries n ≡ Some e → test e ≡ true → PassBelow entries disks test n → PassBelow entries disks test (n + 1)
pass_with entries disks test n e at good below = one_more entries disks test n (λ has. (e, at, good)) below

-- ---- the least that doesn't

not_offline : (is : Mode) → (is ≡ mode.Offline → ⊥) → is_offline is ≡ false
not_offline mode.Offline out = absurd (out refl)
not_offline other out = refl

pub state_refused : (m : MountedGroup) (disks n : ℕ) (e : Entry) (is : Mode) → has_bit disks n ≡ true → entry_of m.register.value.entries n ≡ Some e → e.mode ≡ is → (is ≡ mode.Offline → ⊥) → PassBelow m.register.value.entries disks is_offline_entry n
    → JoinStateCause m disks (refusal.DiskState (disk.Number n) is)
state_refused m disks n e is has at same out lesser = (record { among = has; entry = e; there = at; fails = ap is_offline same ∙ not_offline is out; lesser = lesser }, same)

pub image_refused : (looked : List Looked) (held : List ℕ) (m : MountedGroup) (disks n : ℕ) (e : Entry) → has_bit disks n ≡ true → entry_of m.register.value.entries n ≡ Some e → is_present looked held m e ≡ false
    → PassBelow m.register.value.entries disks (is_present looked held m) n → ImageCause looked held m disks (refusal.NoDisk (disk.Number n))
image_refused looked held m disks n e has at out lesser = record { among = has; entry = e; there = at; fails = out; lesser = lesser }

-- the entry that was found is the record's
pub entry_is : (r v : Status) (n : ℕ) (found : Option Entry) → r ≡ v → found ≡ entry_of r.entries n → entry_of v.entries n ≡ found
entry_is r v n found same is = subst (λ (x : Status). entry_of x.entries n ≡ found) same (sym is)
