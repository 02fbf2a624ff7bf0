-- Why statements on disks are refused, from why their parts are.
use Rattle.std.proofs.Common.{◌≡◌, ◌∙◌, ℕ, ◌<◌, Bool, true, false, ◌==◌, ◌||◌, List, map, Result, refl, ap, subst}
use Rattle.std.specs.Prelude.{IfErr}
use Rattle.asm_group.specs.declared.GroupKind.{GroupKind}
use Rattle.refusal_lines.specs.declared.refusal.Refusal.{Refusal}
use Rattle.asm_formats.specs.Sets.{has_bit}
use Rattle.asm_formats.specs.Status.{Entry, Status}
use Rattle.group_reports.specs.catalog_tables.Tables.{Catalogued}
use Rattle.record_laws.specs.group_engine.Mounts.{MountedGroup}
use Rattle.disk_modes.specs.declared.checking.Statement.{Statement}
use Rattle.disk_modes.specs.declared.checking.Statement.TheVariants as statement
use Rattle.disk_modes.specs.declared.losing.Counted.TheVariants as counted
use Rattle.disk_modes.specs.declared.records.NewModes.{NewModes}
use Rattle.disk_modes.specs.declared.records.NewModes.TheVariants as modes
use Rattle.disk_modes.specs.declared.sizes.Asked.{Asked}
use Rattle.disk_modes.specs.Causes.{IsFirstSmall, IsStateOf, LeavesTooLittle, OfflineRefused, ResizeRefused, forced_hold_copies, forced_would_lose, hold_copies, not_online, not_serving, too_few, disk_too_small, would_lose_extent}
use Rattle.disk_modes.specs.Directories.{DirectoriesCause}
use Rattle.disk_modes.specs.Finding.{HasAttachedDisks}
use Rattle.disk_modes.specs.Losing.{LosingCause}
use Rattle.disk_modes.specs.Modes.{GroupsCause, ModeStateCause, drop_as}
use Rattle.disk_modes.specs.Records.{entry_after}
use Rattle.disk_modes.proofs.Naming.{no_bit}
use Rattle.disk_modes.proofs.Steps.{on_err}

pub of_record : (m : MountedGroup) (r : Status) (es : List Entry) → r ≡ m.register.value → es ≡ r.entries → es ≡ m.register.value.entries
of_record m r es held is = is ∙ ap (λ (x : Status). x.entries) held

or_false : (b : Bool) → (b || false) ≡ b
or_false true = refl
or_false false = refl

-- ---- OFFLINE

pub offline_state_by : (m : MountedGroup) (r : Status) (es : List Entry) (disks : ℕ) (e : Refusal) → r ≡ m.register.value → es ≡ r.entries → ModeStateCause statement.Offline disks es e → OfflineRefused m disks e
offline_state_by m r es disks e held is why = not_online (subst (λ (x : List Entry). ModeStateCause statement.Offline disks x e) (of_record m r es held is) why)

pub offline_copies_by : (m : MountedGroup) (r : Status) (n disks : ℕ) (e : Refusal) → r ≡ m.register.value → n ≡ r.directories → DirectoriesCause n disks e → OfflineRefused m disks e
offline_copies_by m r n disks e held is why = hold_copies (subst (λ (x : ℕ). DirectoriesCause x disks e) (is ∙ ap (λ (x : Status). x.directories) held) why)

pub offline_losing_by : (m : MountedGroup) (r : Status) (es : List Entry) (v : Catalogued) (disks attached : ℕ) (res : Result (Unit {0}) Refusal) → r ≡ m.register.value → es ≡ r.entries → v ≡ m.catalog
    → HasAttachedDisks m attached → IfErr res (LosingCause (counted.Usable attached) es disks v) → IfErr res (OfflineRefused m disks)
offline_losing_by m r es v disks attached res held is same all = on_err (LosingCause (counted.Usable attached) es disks v) (OfflineRefused m disks) res
    (λ e why. would_lose_extent attached all (subst (λ (x : Catalogued). LosingCause (counted.Usable attached) m.register.value.entries disks x e) same
    (subst (λ (x : List Entry). LosingCause (counted.Usable attached) x disks v e) (of_record m r es held is) why)))

-- ---- DROP

pub alone_state_by : (m : MountedGroup) (r : Status) (es : List Entry) (of : Statement) (force : Bool) (none set d : ℕ) (res : Result (Unit {0}) Refusal) → r ≡ m.register.value → es ≡ r.entries → of ≡ drop_as force
    → none ≡ 0 → ((k : ℕ) → k < 64 → has_bit set k ≡ ((k == d) || has_bit none k)) → IfErr res (ModeStateCause of set es) → IfErr res (IsStateOf (drop_as force) d m.register.value.entries)
alone_state_by m r es of force none set d res held is same empty made = on_err (ModeStateCause of set es) (IsStateOf (drop_as force) d m.register.value.entries) res
    (λ e why. (
      set,
      (λ k lt. made k lt ∙ ap (λ (n : ℕ). (k == d) || has_bit n k) empty ∙ ap (λ (b : Bool). (k == d) || b) (no_bit k) ∙ or_false (k == d)),
      subst (λ (x : Statement). ModeStateCause x set m.register.value.entries e) same
          (subst (λ (x : List Entry). ModeStateCause of set x e) (of_record m r es held is) why),
    ))

pub drop_copies_by : (m : MountedGroup) (r : Status) (n dropping forced : ℕ) (e : Refusal) → r ≡ m.register.value → n ≡ r.directories → DirectoriesCause n forced e → LeavesTooLittle m dropping forced e
drop_copies_by m r n dropping forced e held is why = forced_hold_copies (subst (λ (x : ℕ). DirectoriesCause x forced e) (is ∙ ap (λ (x : Status). x.directories) held) why)

pub drop_losing_by : (m : MountedGroup) (r : Status) (es : List Entry) (v : Catalogued) (dropping forced : ℕ) (e : Refusal) → r ≡ m.register.value → es ≡ r.entries → v ≡ m.catalog
    → LosingCause counted.Current es forced v e → LeavesTooLittle m dropping forced e
drop_losing_by m r es v dropping forced e held is same why = forced_would_lose (subst (λ (x : Catalogued). LosingCause counted.Current m.register.value.entries forced x e) same
    (subst (λ (x : List Entry). LosingCause counted.Current x forced v e) (of_record m r es held is) why))

pub drop_groups_by : (m : MountedGroup) (k : GroupKind) (r next : Status) (to : NewModes) (dropping forced : ℕ) (res : Result (Unit {0}) Refusal) → k ≡ m.catalog.shape.kind → r ≡ m.register.value
    → to ≡ modes.Dropped dropping forced → next ≡ record r { entries = map (entry_after to) r.entries } → IfErr res (GroupsCause k next) → IfErr res (LeavesTooLittle m dropping forced)
drop_groups_by m k r next to dropping forced res same held is changed = on_err (GroupsCause k next) (LeavesTooLittle m dropping forced) res
    (λ e why. too_few (subst (λ (x : Status). GroupsCause m.catalog.shape.kind x e)
    (changed ∙ ap (λ (n : NewModes). record r { entries = map (entry_after n) r.entries }) is ∙ ap (λ (x : Status). record x { entries = map (entry_after (modes.Dropped dropping forced)) x.entries }) held)
    (subst (λ (x : GroupKind). GroupsCause x next e) same why)))

-- ---- RESIZE

pub resize_state_by : (m : MountedGroup) (r : Status) (es : List Entry) (asked : Asked) (e : Refusal) → r ≡ m.register.value → es ≡ r.entries → ModeStateCause statement.Resize asked.disks es e → ResizeRefused m asked e
resize_state_by m r es asked e held is why = not_serving (subst (λ (x : List Entry). ModeStateCause statement.Resize asked.disks x e) (of_record m r es held is) why)

pub resize_size_by : (m : MountedGroup) (asked : Asked) (res : Result (Unit {0}) Refusal) → IfErr res (IsFirstSmall m asked) → IfErr res (ResizeRefused m asked)
resize_size_by m asked res = on_err (IsFirstSmall m asked) (ResizeRefused m asked) res (λ e why. disk_too_small why)
