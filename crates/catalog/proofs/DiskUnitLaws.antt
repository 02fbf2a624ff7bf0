-- The units of the disks by a next status record.
use Rattle.std.proofs.Common.{◌≡◌, ℕ, Bool, true, false, List, Option, Some, None, refl, sym, ap, subst, ◌∙◌}
use Rattle.std.specs.Prelude.{IsTrue, ◌↔◌}
use Rattle.std.specs.Bool.{OnFalse, OnTrue}
use Rattle.std.proofs.lemmas.Bool.{true≢false}
use Rattle.asm_formats.specs.Status as status
use Rattle.asm_group.specs.Shape.{Shape}
use Rattle.plan_records.specs.allocator.UnitMaps.{UnitMap}
use Rattle.catalog.specs.Applying.{AreDisksReady}
use Rattle.plan_records.specs.catalog_tables.Placing.{AreFit, HasUnits, HaveSameUnits, OtherMapsStay, changed_maps, have_units, put_maps, resized_maps}
use Rattle.catalog.specs.Spares.{IsCatalogWithSpare}
use Rattle.plan_records.specs.catalog_tables.Tables.{Catalogued, Tables}
use Rattle.catalog.specs.declared.spare.Spare.{Spare}
use Rattle.catalog.proofs.ApplyingLaws.{made}
use Rattle.plan_records.proofs.catalog_units.ResizedUnits.{all_long, all_whole, changed_are, others_stay, units_are_resized, units_resize}
use Rattle.plan_records.proofs.catalog_tables.SameUnits.{as_many, units_same, units_stay}

-- what is known of a catalog is known of its fields
pub covered : (c : Catalogued) (t : Tables) (s : Shape) (ms : List UnitMap) (o : Option Tables) (d : Option (List (ℕ × UnitMap))) (entries given : List status.Entry) → made t s ms o d ≡ c → given ≡ entries → (x : List UnitMap) × HasUnits c.shape entries c.tables x → (x : List UnitMap) × HasUnits s given t x
covered c t s ms o d entries given view same there =
    let one : HasUnits s entries t there.0 = subst (λ (k : Catalogued). HasUnits k.shape entries k.tables there.0) (sym view) there.1 in
    (there.0, subst (λ (es : List status.Entry). HasUnits s es t there.0) (sym same) one)

-- the maps that were made for the disks that change are, with the others, those of the homes
pub made_ready : (t : Tables) (s : Shape) (ms : List UnitMap) (changed : List (ℕ × UnitMap)) (o : Option Tables) (d : Option (List (ℕ × UnitMap))) (spare : Spare) (entries given : List status.Entry) → given ≡ entries → IsCatalogWithSpare (made t s ms o d) spare → (x : List UnitMap) × HasUnits s given t x
    → changed ≡ changed_maps ms given → AreDisksReady (made t s ms o (Some changed)) entries
made_ready t s ms changed o d spare entries given same own there is =
    let before = own.catalog.entries in
    let has = own.catalog.units in
    let whole = all_whole s before t ms has in
    let put : put_maps ms changed ≡ resized_maps given ms = ap (put_maps ms) is ∙ changed_are given ms whole (all_long s before t ms has) in
    let found : there.0 ≡ put_maps ms changed = (units_are_resized s before given t ms there.0 has there.1).1 ∙ sym put in
    subst (λ (es : List status.Entry). AreDisksReady (made t s ms o (Some changed)) es) same (record {
      homes = subst (λ (xs : List UnitMap). HasUnits s given t xs) found there.1;
      others = subst (λ (xs : List UnitMap). OtherMapsStay given ms xs) (sym put) (others_stay given ms whole);
    })

-- maps with as many units as the entries give stay
pub made_stays : (t : Tables) (s : Shape) (ms : List UnitMap) (o : Option Tables) (d : Option (List (ℕ × UnitMap))) (spare : Spare) (entries given : List status.Entry) → given ≡ entries → IsCatalogWithSpare (made t s ms o d) spare → have_units ms given ≡ true
    → AreDisksReady (made t s ms o None) entries
made_stays t s ms o d spare entries given same own as_many =
    record { homes = subst (λ (es : List status.Entry). HasUnits s es t ms) same (units_stay s own.catalog.entries given t ms own.catalog.units as_many); others = λ k as_before. refl }

-- homes have units by other entries exactly where no unit is used that these lack
pub covers_is : (c : Catalogued) (t : Tables) (s : Shape) (ms : List UnitMap) (o : Option Tables) (d : Option (List (ℕ × UnitMap))) (spare : Spare) (entries : List status.Entry) (b : Bool) → made t s ms o d ≡ c → IsCatalogWithSpare (made t s ms o d) spare
    → OnTrue b (AreFit ms entries) → OnFalse b (AreFit ms entries → ⊥) → IsTrue b ↔ ((x : List UnitMap) × HasUnits c.shape entries c.tables x)
covers_is c t s ms o d spare entries true view own fit not = (
  λ yes. (resized_maps entries ms, subst (λ (k : Catalogued). HasUnits k.shape entries k.tables (resized_maps entries ms)) view (units_resize s own.catalog.entries entries t ms own.catalog.units fit)),
  λ there. refl,
)
covers_is c t s ms o d spare entries false view own fit not = (
  λ yes. absurd (true≢false (sym yes)),
  λ there. absurd (not (units_are_resized s own.catalog.entries entries t ms there.0 own.catalog.units (subst (λ (k : Catalogued). HasUnits k.shape entries k.tables there.0) (sym view) there.1)).0),
)

pub covers_same : (c : Catalogued) (before entries : List status.Entry) (b : Bool) → IsTrue b ↔ ((x : List UnitMap) × HasUnits c.shape entries c.tables x) → HasUnits c.shape before c.tables c.units → HaveSameUnits before entries → b ≡ true
covers_same c before entries b covers has same = covers.1 (c.units, units_same c.shape before entries c.tables c.units same has)

-- entries that give the disks as many units as they had are found to
pub found_same : (c : Catalogued) (t : Tables) (s : Shape) (ms : List UnitMap) (o : Option Tables) (d : Option (List (ℕ × UnitMap))) (before entries given : List status.Entry) → made t s ms o d ≡ c → given ≡ entries
    → HasUnits c.shape before c.tables c.units → HaveSameUnits before entries → have_units ms given ≡ true
found_same c t s ms o d before entries given view same has as_before =
    let one : HasUnits s before t ms = subst (λ (k : Catalogued). HasUnits k.shape before k.tables k.units) (sym view) has in
    as_many s before given t ms one (subst (λ (es : List status.Entry). HaveSameUnits before es) (sym same) as_before)

pub not_same : (c : Catalogued) (t : Tables) (s : Shape) (ms : List UnitMap) (o : Option Tables) (d : Option (List (ℕ × UnitMap))) (before entries given : List status.Entry) → made t s ms o d ≡ c → given ≡ entries → have_units ms given ≡ false
    → HasUnits c.shape before c.tables c.units → HaveSameUnits before entries → ⊥
not_same c t s ms o d before entries given view same other has as_before = true≢false (sym (found_same c t s ms o d before entries given view same has as_before) ∙ other)
