-- What DROP, UNDROP and expiry have done, from what the changes have done.
use Rattle.std.proofs.Common.{◌≡◌, ℕ, ◌<◌, Bool, true, false, cond, ◌||◌, ◌==◌, List, Result, refl, sym, ap, subst, ◌∙◌, IsTrue}
use Rattle.std.specs.Prelude.{OnOk}
use Rattle.std.proofs.lemmas.Bool.{eq-eqb, true≢false}
use Rattle.refusal_lines.specs.declared.refusal.Refusal.{Refusal}
use Rattle.asm_formats.specs.Sets.{has_bit}
use Rattle.asm_formats.specs.Status.{Entry, Status, is_status}
use Rattle.asm_placement.specs.Partners.{with_partners}
use Rattle.record_laws.specs.group_engine.Mounts.{MountedGroup}
use Rattle.record_laws.proofs.group_engine.Records.{record_parts}
use Rattle.disk_modes.specs.declared.changing.Changes.{Changes}
use Rattle.disk_modes.specs.declared.changing.Changes.TheVariants as changes
use Rattle.disk_modes.specs.declared.dropping.DropDisk.{DropDisk}
use Rattle.disk_modes.specs.declared.records.NewModes.{NewModes}
use Rattle.disk_modes.specs.declared.records.NewModes.TheVariants as modes
use Rattle.disk_modes.specs.Effects.{AreNamedToDrop, DropsDisks, DropsByForce, MakesChanges, PutsBoth, Undrops, changes_for, entry_dropped, entry_forced, has_dropping, undropping}
use Rattle.disk_modes.specs.Records.{entries_after, entry_after}
use Rattle.disk_modes.proofs.Effects.{on_ok}
use Rattle.disk_modes.proofs.Naming.{each_entry, one_dropped, one_forced}

not_so : (b : Bool) → (b ≡ true → ⊥) → b ≡ false
not_so true f = absurd (f refl)
not_so false f = refl

-- ---- DROP

both_for : (forced power : ℕ) (to : NewModes) (a b : MountedGroup) → MakesChanges (changes_for forced power) to a b → PutsBoth power to a b
both_for forced power to a b = go (forced == 0)
  where
    go : (x : Bool) → MakesChanges (cond x (changes.RebalanceThenModes power) (changes.ModesThenRebalance power)) to a b → PutsBoth power to a b
    go true is = is
    go false is = is

pub made_for : (forced power : ℕ) (of : Changes) (to new : NewModes) (a b : MountedGroup) (r : Result (Unit {0}) Refusal) → of ≡ changes_for forced power → new ≡ to → OnOk r (MakesChanges of new a b) → OnOk r (PutsBoth power to a b)
made_for forced power of to new a b r is same done =
    on_ok (MakesChanges (changes_for forced power) to a b) (PutsBoth power to a b) r (both_for forced power to a b)
    (subst (λ (x : NewModes). OnOk r (MakesChanges (changes_for forced power) x a b)) same (subst (λ (x : Changes). OnOk r (MakesChanges x new a b)) is done))

drops_by : (disks : List DropDisk) (dropping forced power : ℕ) (a b : MountedGroup) → AreNamedToDrop disks dropping forced → IsTrue (is_status a.register.value) → PutsBoth power (modes.Dropped dropping forced) a b
    → DropsDisks disks power a b
drops_by disks dropping forced power a b named allowed both =
    let es = a.register.value.entries in
    record {
      tables = both.tables;
      entries = both.entries
          ∙ ap with_partners (each_entry (entry_after (modes.Dropped dropping forced)) (entry_dropped disks) (one_dropped disks dropping forced named) es (record_parts a.register.value allowed).entries);
      copies = λ d lt has. (both.copies d lt has).0;
      forced = λ d lt by. not_so (has_bit b.register.value.directories d) (λ has. true≢false (sym by ∙ sym (named.with_force d lt) ∙ (both.copies d lt has).1));
    }

pub drops_done : (disks : List DropDisk) (dropping forced power : ℕ) (a b : MountedGroup) (r : Result (Unit {0}) Refusal) → AreNamedToDrop disks dropping forced → IsTrue (is_status a.register.value)
    → OnOk r (PutsBoth power (modes.Dropped dropping forced) a b) → OnOk r (DropsDisks disks power a b)
drops_done disks dropping forced power a b r named allowed = on_ok (PutsBoth power (modes.Dropped dropping forced) a b) (DropsDisks disks power a b) r (drops_by disks dropping forced power a b named allowed)

-- ---- UNDROP

undrops_by : (a b : MountedGroup) → MakesChanges (undropping a.register.value.entries) modes.Undropped a b → Undrops a b
undrops_by a b = go (has_dropping a.register.value.entries) refl
  where
    es : List Entry
    es = a.register.value.entries

    go : (x : Bool) → x ≡ has_dropping a.register.value.entries → MakesChanges (cond x (changes.RebalanceThenModes 1) (changes.Rebalance 1)) modes.Undropped a b → Undrops a b
    go true is both = record {
      tables = both.tables;
      entries = both.entries ∙ ap (λ (x : Bool). cond x (entries_after modes.Undropped a.register.value.entries) a.register.value.entries) is;
      copies = λ d lt has. (both.copies d lt has).0;
    }
    go false is one = record {
      tables = one.tables;
      entries = one.kept.entries ∙ ap (λ (x : Bool). cond x (entries_after modes.Undropped a.register.value.entries) a.register.value.entries) is;
      copies = one.kept.copies;
    }

pub undrops_done : (a b : MountedGroup) (r : Status) (es : List Entry) (of : Changes) (x : Result (Unit {0}) Refusal) → r ≡ a.register.value → es ≡ r.entries → of ≡ undropping es
    → OnOk x (MakesChanges of modes.Undropped a b) → OnOk x (Undrops a b)
undrops_done a b r es of x held all is done =
    let same : of ≡ undropping a.register.value.entries = is ∙ ap undropping (all ∙ ap (λ (s : Status). s.entries) held) in
    on_ok (MakesChanges (undropping a.register.value.entries) modes.Undropped a b) (Undrops a b) x (undrops_by a b)
    (subst (λ (y : Changes). OnOk x (MakesChanges y modes.Undropped a b)) same done)

-- ---- expiry

pub forces_by : (none forced d : ℕ) (a b : MountedGroup) → ((k : ℕ) → k < 64 → has_bit none k ≡ false) → ((k : ℕ) → k < 64 → has_bit forced k ≡ (k == d || has_bit none k)) → IsTrue (is_status a.register.value)
    → PutsBoth 1 (modes.Dropped none forced) a b → DropsByForce d a b
forces_by none forced d a b empty is allowed both = record {
  tables = both.tables;
  entries = both.entries
      ∙ ap with_partners (each_entry (entry_after (modes.Dropped none forced)) (entry_forced d) (one_forced none forced d empty is) a.register.value.entries (record_parts a.register.value allowed).entries);
  copies = λ k lt has.
      let p = both.copies k lt has in
      (p.0, λ same. true≢false (sym (ap (λ (x : Bool). x || has_bit none k) (eq-eqb k d same)) ∙ sym (is k lt) ∙ p.1));
}
