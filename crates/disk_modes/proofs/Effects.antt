-- Changes of records and of modes, one after the other.
use Rattle.std.proofs.Common.{◌≡◌, ℕ, Bool, true, false, not, ◌&&◌, List, Result, Ok, Err, Option, Some, None, refl, sym, ap, subst, ◌∙◌}
use Rattle.std.specs.Prelude.{OnOk}
use Rattle.std.proofs.lemmas.Bool.{and_parts}
use Rattle.refusal_lines.specs.declared.refusal.Refusal.{Refusal}
use Rattle.asm_base.specs.Records as records
use Rattle.asm_formats.specs.Items.{Key}
use Rattle.asm_formats.specs.Sets.{has_bit}
use Rattle.asm_formats.specs.Status.{Status}
use Rattle.group_reports.specs.catalog_tables.Changing.{IsAfter}
use Rattle.group_reports.specs.catalog.Plans.{IsPlan}
use Rattle.group_reports.specs.catalog_tables.Tables.{Catalogued, Tables}
use Rattle.group_reports.proofs.catalog_tables.AfterLaws.{one_after}
use Rattle.record_laws.specs.group_engine.Commits.{KeepsRecord}
use Rattle.record_laws.specs.group_engine.Mounts.{MountedGroup}
use Rattle.record_laws.specs.status_register.Holders.{with_next_number}
use Rattle.disk_modes.specs.declared.changing.Changes.{Changes}
use Rattle.disk_modes.specs.declared.changing.Changes.TheVariants as changes
use Rattle.disk_modes.specs.declared.records.NewModes.{NewModes}
use Rattle.disk_modes.specs.Effects.{MakesChanges, PutsBoth, PutsModes, PutsRebalance, with_rebalance_power}
use Rattle.disk_modes.specs.Records.{IsUnder, entries_after, taken_off}

pub on_ok : (P Q : Type 0) (r : Result (Unit {0}) Refusal) → (P → Q) → OnOk r P → OnOk r Q
on_ok P Q (Ok done) f is = f is
on_ok P Q (Err e) f is = tt

-- ---- one change

-- the record was written under the next number
pub puts_modes : (to : NewModes) (old new : MountedGroup) (next : Status) → new.catalog.tables ≡ old.catalog.tables → new.register.value ≡ with_next_number old.register next
    → IsUnder to old.register.value next → PutsModes to old new
puts_modes to old new next tables written under = record {
  tables = tables;
  under = subst (λ (s : Status). IsUnder to old.register.value s) (sym written) (record { entries = under.entries; copies = under.copies });
}

-- the tables after a commit are those that were planned
pub puts_rebalance : (power : Option ℕ) (old new : MountedGroup) (put : List records.DirectoryRecord) (gone : List Key) → IsAfter old.catalog.tables put gone new.catalog.tables
    → IsAfter old.catalog.tables put gone (with_rebalance_power old.catalog.tables power) → KeepsRecord old.register.value new.register.value → PutsRebalance power old new
puts_rebalance power old new put gone applied planned kept = record { tables = one_after old.catalog.tables new.catalog.tables (with_rebalance_power old.catalog.tables power) put gone applied planned; kept = kept }

pub modes_put : (to : NewModes) (old new : MountedGroup) (next : Status) (r : Result (Unit {0}) Refusal) → new.catalog.tables ≡ old.catalog.tables → OnOk r (new.register.value ≡ with_next_number old.register next)
    → IsUnder to old.register.value next → OnOk r (PutsModes to old new)
modes_put to old new next r tables written under =
    on_ok (new.register.value ≡ with_next_number old.register next) (PutsModes to old new) r (λ is. puts_modes to old new next tables is under) written

pub rebalance_put : (power : Option ℕ) (old new : MountedGroup) (c : Catalogued) (put : List records.DirectoryRecord) (gone : List Key) (r : Result (Unit {0}) Refusal) → c ≡ old.catalog
    → IsPlan c put gone (with_rebalance_power c.tables power) → OnOk r (IsAfter old.catalog.tables put gone new.catalog.tables) → KeepsRecord old.register.value new.register.value
    → OnOk r (PutsRebalance power old new)
rebalance_put power old new c put gone (Ok done) same plan applied kept =
    puts_rebalance power old new put gone applied (subst (λ (k : Catalogued). IsAfter k.tables put gone (with_rebalance_power k.tables power)) same plan.after) kept
rebalance_put power old new c put gone (Err e) same plan applied kept = tt

-- ---- two changes

not_true : (b : Bool) → not b ≡ true → b ≡ false
not_true true e = absurd cc
not_true false e = refl

left_of : (left all off d : ℕ) → has_bit left d ≡ (has_bit all d && not (has_bit off d)) → has_bit left d ≡ true → (has_bit all d ≡ true) × (has_bit off d ≡ false)
left_of left all off d is has = let p = and_parts (has_bit all d) (not (has_bit off d)) (sym is ∙ has) in (p.0, not_true (has_bit off d) p.1)

pub rebalance_then_modes : (power : ℕ) (to : NewModes) (a b c : MountedGroup) → PutsRebalance (Some power) a b → PutsModes to b c → PutsBoth power to a c
rebalance_then_modes power to a b c one two = record {
  tables = two.tables ∙ one.tables;
  entries = two.under.entries ∙ ap (entries_after to) one.kept.entries;
  copies = λ d lt has. let p = left_of c.register.value.directories b.register.value.directories (taken_off to) d (two.under.copies d lt) has in
      (one.kept.copies d lt p.0, p.1);
}

pub modes_then_rebalance : (power : ℕ) (to : NewModes) (a b c : MountedGroup) → PutsModes to a b → PutsRebalance (Some power) b c → PutsBoth power to a c
modes_then_rebalance power to a b c one two = record {
  tables = two.tables ∙ ap (λ (t : Tables). with_rebalance_power t (Some power)) one.tables;
  entries = two.kept.entries ∙ one.under.entries;
  copies = λ d lt has. left_of b.register.value.directories a.register.value.directories (taken_off to) d (one.under.copies d lt) (two.kept.copies d lt has);
}

-- ---- the move that is on its way was given up before

pub forget_flight : (of : Changes) (to : NewModes) (a b : MountedGroup) → MakesChanges of to (record a { flight = None }) b → MakesChanges of to a b
forget_flight changes.Modes to a b is = record { tables = is.tables; under = is.under }
forget_flight (changes.Rebalance power) to a b is = record { tables = is.tables; kept = is.kept }
forget_flight (changes.RebalanceThenModes power) to a b is = record { tables = is.tables; entries = is.entries; copies = is.copies }
forget_flight (changes.ModesThenRebalance power) to a b is = record { tables = is.tables; entries = is.entries; copies = is.copies }

pub made_behind : (of : Changes) (to : NewModes) (a b c : MountedGroup) (r : Result (Unit {0}) Refusal) → b ≡ record a { flight = None } → OnOk r (MakesChanges of to b c) → OnOk r (MakesChanges of to a c)
made_behind of to a b c r is done =
    on_ok (MakesChanges of to (record a { flight = None }) c) (MakesChanges of to a c) r (forget_flight of to a c) (subst (λ (v : MountedGroup). OnOk r (MakesChanges of to v c)) is done)
