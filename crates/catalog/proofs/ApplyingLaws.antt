-- A change of a catalog.
use Rattle.std.proofs.Common.{◌≡◌, List, Option, Some, None, refl, sym, ap, subst, ◌∙◌}
use Rattle.std.specs.Prelude.{ℕ, Err, IfOk, Ok, Result, Vec}
use Rattle.std.specs.declared.alloc.Global.{Global}
use Rattle.asm_base.proofs.Exact.{some_is}
use Rattle.asm_base.specs.Records.{DirectoryRecord}
use Rattle.asm_base.specs.declared.records.Change.{Change}
use Rattle.asm_formats.specs.Items.{Key}
use Rattle.asm_formats.specs.Status as status
use Rattle.asm_group.specs.Shape.{Shape}
use Rattle.plan_records.specs.allocator.UnitMaps.{UnitMap}
use Rattle.catalog.specs.Applying.{AreDisksReady, IsChangeReady, Leaves, next_maps}
use Rattle.plan_records.specs.catalog_tables.Changing.{IsAfter}
use Rattle.plan_records.specs.catalog_tables.Placing.{HasUnits, OtherMapsStay, after_chunks, put_maps}
use Rattle.catalog.specs.Spares.{IsCatalogWithSpare, IsSpareOf, ready_tables, unit_maps_in}
use Rattle.plan_records.specs.catalog_tables.Tables.{AreTables, Catalogued, Tables}
use Rattle.catalog.specs.declared.spare.Spare.{Spare}
use Rattle.catalog.specs.declared.spare.Spare.TheVariants.{Absent, Behind, Ready}
use Rattle.plan_records.proofs.catalog_tables.AfterLaws.{one_after}

abbrev Units : Type 0
Units = Option (List (ℕ × UnitMap))

abbrev pub made : Tables → Shape → List UnitMap → Option Tables → Option (List (ℕ × UnitMap)) → Catalogued
made t s ms o d = record { tables = t; shape = s; units = ms; next = o; next_units = d }

-- the tables that a change leaves are the ones that keep the rules
pub ready_is : (t u : Tables) (s : Shape) (ms : List UnitMap) (o : Option Tables) (d e : Units) (put : List DirectoryRecord) (gone : List Key) → (v : Tables) × Leaves (made t s ms o d) put gone v → IsAfter t put gone u
    → IsChangeReady (made t s ms (Some u) e) put gone
ready_is t u s ms o d e put gone leaves after =
    let same : leaves.0 ≡ u = one_after t leaves.0 u put gone leaves.1.after after in
    let l = subst (λ (x : Tables). Leaves (made t s ms o d) put gone x) same leaves.1 in
    record { tables = u; next = refl; leaves = record { after = l.after; rules = l.rules; units = l.units } }

-- kept tables brought up by the last change are equal to the catalog's
pub brought : {E : Type 0} (parts now : Tables) (put : List DirectoryRecord) (gone : List Key) (made : Result Tables E) → IsAfter parts put gone now → IfOk made (λ u. IsAfter parts put gone u) → IfOk made (λ u. u ≡ now)
brought parts now put gone (Ok u) is after = one_after parts u now put gone after is
brought parts now put gone (Err e) is after = tt

-- the units follow the tables
pub units_after : (t u : Tables) (s : Shape) (old new : List UnitMap) (o : Option Tables) (d : Units) (put : List DirectoryRecord) (gone : List Key) → Leaves (made t s old o d) put gone u
    → ((first after : List UnitMap) → after_chunks s.step first t.extents ≡ Some old → after_chunks s.step first u.extents ≡ Some after → after ≡ new)
    → (entries : List status.Entry) → HasUnits s entries t old → HasUnits s entries u new
units_after t u s old new o d put gone leaves follows entries has =
    let there = leaves.units entries has in
    there.1 ∙ ap (λ (xs : List UnitMap). Some xs) (follows _ there.0 has there.1)

leaves_next : (t u : Tables) (s : Shape) (old : List UnitMap) (o : Option Tables) (d : Units) (put : List DirectoryRecord) (gone : List Key) → IsChangeReady (made t s old o d) put gone → o ≡ Some u → Leaves (made t s old o d) put gone u
leaves_next t u s old o d put gone ready is =
    subst (λ (x : Tables). Leaves (made t s old o d) put gone x) (some_is ready.tables u (sym ready.next ∙ is)) ready.leaves

pub leaves_seen : (c : Catalogued) (t u : Tables) (s : Shape) (old : List UnitMap) (o : Option Tables) (d : Units) (put : List DirectoryRecord) (gone : List Key) → made t s old o d ≡ c → IsChangeReady c put gone → o ≡ Some u → Leaves (made t s old o d) put gone u
leaves_seen c t u s old o d put gone view ready is = leaves_next t u s old o d put gone (subst (λ (x : Catalogued). IsChangeReady x put gone) (sym view) ready) is

pub units_follow : (c : Catalogued) (t u : Tables) (s : Shape) (old new : List UnitMap) (o : Option Tables) (d : Units) (put : List DirectoryRecord) (gone : List Key) → made t s old o d ≡ c → IsChangeReady c put gone → o ≡ Some u
    → ((first after : List UnitMap) → after_chunks s.step first t.extents ≡ Some old → after_chunks s.step first u.extents ≡ Some after → after ≡ new)
    → (entries : List status.Entry) → HasUnits c.shape entries c.tables c.units → HasUnits s entries u new
units_follow c t u s old new o d put gone view ready is follows entries has =
    units_after t u s old new o d put gone (leaves_seen c t u s old o d put gone view ready is) follows entries
    (subst (λ (x : Catalogued). HasUnits x.shape entries x.tables x.units) (sym view) has)

ready_leads : (spare : Spare) (t u : Tables) (kept : Change) → spare ≡ Ready u kept → IsSpareOf spare t → IsAfter t kept.put kept.gone u
ready_leads spare t u kept is own = subst (λ (x : Spare). IsSpareOf x t) is own

pub ready_seen : (spare : Spare) (u : Tables) (kept : Change) → spare ≡ Ready u kept → ready_tables spare ≡ Some u
ready_seen spare u kept is = ap ready_tables is

-- the tables before the change are kept beside those after it
pub kept_after : (c : Catalogued) (t u was is : Tables) (s : Shape) (old new : List UnitMap) (spare : Spare) (d e : Units) (kept : Change) (put : List DirectoryRecord) (gone : List Key) → made t s old (ready_tables spare) d ≡ c → IsChangeReady c put gone → spare ≡ Ready u kept
    → was ≡ t → is ≡ u → IsCatalogWithSpare (made t s old (ready_tables spare) d) spare
    → ((first after : List UnitMap) → after_chunks s.step first t.extents ≡ Some old → after_chunks s.step first u.extents ≡ Some after → after ≡ new)
    → IsCatalogWithSpare (made is s new None e) (Behind was kept)
kept_after c t u was is s old new spare d e kept put gone view ready ahead same_old same_new own follows =
    let leaves = leaves_seen c t u s old (ready_tables spare) d put gone view ready (ready_seen spare u kept ahead) in
    let whole : IsCatalogWithSpare (made u s new None e) (Behind t kept) = record {
      catalog = record { rules = leaves.rules; entries = own.catalog.entries; units = units_after t u s old new (ready_tables spare) d put gone leaves follows own.catalog.entries own.catalog.units };
      shape = own.shape;
      kept = (own.catalog.rules.tables, ready_leads spare t u kept ahead own.kept);
    } in
    let one : IsCatalogWithSpare (made is s new None e) (Behind t kept) = subst (λ (x : Tables). IsCatalogWithSpare (made x s new None e) (Behind t kept)) (sym same_new) whole in
    subst (λ (x : Tables). IsCatalogWithSpare (made is s new None e) (Behind x kept)) (sym same_old) one

pub units_kept : (c : Catalogued) (t u is : Tables) (s : Shape) (old new : List UnitMap) (spare : Spare) (d : Units) (kept : Change) (put : List DirectoryRecord) (gone : List Key) → made t s old (ready_tables spare) d ≡ c → IsChangeReady c put gone → spare ≡ Ready u kept → is ≡ u
    → ((first after : List UnitMap) → after_chunks s.step first t.extents ≡ Some old → after_chunks s.step first u.extents ≡ Some after → after ≡ new)
    → (entries : List status.Entry) → HasUnits c.shape entries c.tables c.units → HasUnits s entries is new
units_kept c t u is s old new spare d kept put gone view ready ahead same follows entries has =
    subst (λ (x : Tables). HasUnits s entries x new) (sym same) (units_follow c t u s old new (ready_tables spare) d put gone view ready (ready_seen spare u kept ahead) follows entries has)

-- ---- spare tables that are brought up

-- the kept change leads from the kept tables to those of the catalog
pub behind_now : (spare : Spare) (parts t : Tables) (kept : Change) → spare ≡ Behind parts kept → IsSpareOf spare t → AreTables parts × IsAfter parts kept.put kept.gone t
behind_now spare parts t kept is own = subst (λ (x : Spare). IsSpareOf x t) is own

-- ---- what a catalog keeps

-- no tables are kept
pub kept_none : (t : Tables) (s : Shape) (ms : List UnitMap) (o : Option Tables) (d e : Units) (spare : Spare) → IsCatalogWithSpare (made t s ms o d) spare → IsCatalogWithSpare (made t s ms None e) Absent
kept_none t s ms o d e spare own = record { catalog = record { rules = own.catalog.rules; entries = own.catalog.entries; units = own.catalog.units }; shape = own.shape; kept = tt }

-- the tables after a change are kept, with an equal change
pub kept_ready : (t equal u : Tables) (s : Shape) (ms : List UnitMap) (o : Option Tables) (d e : Units) (spare : Spare) (kept : Change) (put : List DirectoryRecord) (gone : List Key) → IsCatalogWithSpare (made t s ms o d) spare → equal ≡ t → IsAfter equal put gone u
    → kept.put ≡ put → kept.gone ≡ gone → IsCatalogWithSpare (made t s ms (Some u) e) (Ready u kept)
kept_ready t equal u s ms o d e spare kept put gone own same after puts goes =
    let one : IsAfter t put gone u = subst (λ (x : Tables). IsAfter x put gone u) same after in
    let two : IsAfter t kept.put gone u = subst (λ (p : List DirectoryRecord). IsAfter t p gone u) (sym puts) one in
    record {
      catalog = record { rules = own.catalog.rules; entries = own.catalog.entries; units = own.catalog.units };
      shape = own.shape;
      kept = subst (λ (g : List Key). IsAfter t kept.put g u) (sym goes) two;
    }

-- the units are others for which the homes have units too
pub kept_units : (t : Tables) (s : Shape) (ms new : List UnitMap) (o : Option Tables) (d e : Units) (spare : Spare) (entries : List status.Entry) → IsCatalogWithSpare (made t s ms o d) spare → HasUnits s entries t new → IsCatalogWithSpare (made t s new o e) spare
kept_units t s ms new o d e spare entries own has = record { catalog = record { rules = own.catalog.rules; entries = entries; units = has }; shape = own.shape; kept = own.kept }

-- the units that were made ready are those of the homes
disks_seen : (c : Catalogued) (t : Tables) (s : Shape) (ms : List UnitMap) (o : Option Tables) (next : Option (Vec (ℕ × UnitMap) Global)) (entries : List status.Entry) → made t s ms o (unit_maps_in next) ≡ c → AreDisksReady c entries
    → AreDisksReady (made t s ms o (unit_maps_in next)) entries
disks_seen c t s ms o next entries view ready = subst (λ (x : Catalogued). AreDisksReady x entries) (sym view) ready

pub disks_made : (c : Catalogued) (t : Tables) (s : Shape) (ms new : List UnitMap) (o : Option Tables) (next : Option (Vec (ℕ × UnitMap) Global)) (changed : Vec (ℕ × UnitMap) Global) → made t s ms o (unit_maps_in next) ≡ c → Some changed ≡ next → new ≡ put_maps ms changed.items
    → new ≡ next_maps c.units c.next_units
disks_made c t s ms new o next changed view is put =
    put ∙ ap (λ (n : Option (Vec (ℕ × UnitMap) Global)). next_maps ms (unit_maps_in n)) is ∙ ap (λ (x : Catalogued). next_maps x.units x.next_units) view

pub disks_taken : (c : Catalogued) (t : Tables) (s : Shape) (ms new : List UnitMap) (o : Option Tables) (next : Option (Vec (ℕ × UnitMap) Global)) (changed : Vec (ℕ × UnitMap) Global) (entries : List status.Entry) → made t s ms o (unit_maps_in next) ≡ c → AreDisksReady c entries → Some changed ≡ next
    → new ≡ put_maps ms changed.items → HasUnits s entries t new
disks_taken c t s ms new o next changed entries view ready is put =
    let made_is : new ≡ next_maps ms (unit_maps_in next) = put ∙ ap (λ (n : Option (Vec (ℕ × UnitMap) Global)). next_maps ms (unit_maps_in n)) is in
    subst (λ (xs : List UnitMap). HasUnits s entries t xs) (sym made_is) (disks_seen c t s ms o next entries view ready).homes

pub disks_others : (c : Catalogued) (new : List UnitMap) (entries : List status.Entry) → AreDisksReady c entries → new ≡ next_maps c.units c.next_units → OtherMapsStay entries c.units new
disks_others c new entries ready is = subst (λ (xs : List UnitMap). OtherMapsStay entries c.units xs) (sym is) ready.others

-- where none were, those of now are
pub disks_stay : (c : Catalogued) (t : Tables) (s : Shape) (ms : List UnitMap) (o : Option Tables) (next : Option (Vec (ℕ × UnitMap) Global)) (entries : List status.Entry) → made t s ms o (unit_maps_in next) ≡ c → AreDisksReady c entries → None ≡ next → HasUnits s entries t ms
disks_stay c t s ms o next entries view ready is =
    subst (λ (n : Option (Vec (ℕ × UnitMap) Global)). HasUnits s entries t (next_maps ms (unit_maps_in n))) (sym is) (disks_seen c t s ms o next entries view ready).homes

pub disks_kept : (c : Catalogued) (t : Tables) (s : Shape) (ms : List UnitMap) (o : Option Tables) (next : Option (Vec (ℕ × UnitMap) Global)) → made t s ms o (unit_maps_in next) ≡ c → None ≡ next → ms ≡ next_maps c.units c.next_units
disks_kept c t s ms o next view is =
    ap (λ (n : Option (Vec (ℕ × UnitMap) Global)). next_maps ms (unit_maps_in n)) is ∙ ap (λ (x : Catalogued). next_maps x.units x.next_units) view
