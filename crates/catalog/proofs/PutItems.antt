-- Plans put records of the formats.
use Rattle.std.proofs.Common.{◌≡◌, ◌≤◌, ◌+◌, ℕ, Bool, true, false, cond, List, [], ◌∷◌, length, Option, Some, None, refl, sym, subst, ◌∙◌, inl, inr}
use Rattle.std.specs.Prelude.{◌&&◌, ◌||◌, not}
use Rattle.std.specs.List.{list_all}
use Rattle.std.proofs.lemmas.Bool.{and_parts, true≢false}
use Rattle.std.proofs.lemmas.Cmp.{eq_by_cmp_equiv}
use Rattle.asm_formats.specs.Among.{IsAmong}
use Rattle.asm_formats.specs.Items.{Key}
use Rattle.asm_formats.specs.Status as status
use Rattle.asm_formats.specs.Values.{value}
use Rattle.asm_formats.proofs.Among.{all_among}
use Rattle.asm_base.specs.Records.{DirectoryRecord, is_key}
use Rattle.plan_records.specs.page_map.Changes.{is_gone, is_put, last_put, value_after}
use Rattle.plan_records.specs.allocator.UnitMaps.{UnitMap}
use Rattle.plan_records.specs.catalog_tables.Changing.{IsAfter}
use Rattle.plan_records.specs.catalog_tables.Placing.{HasUnits}
use Rattle.catalog.specs.Plans.{ArePlannedItems, IsPlan}
use Rattle.plan_records.specs.catalog_tables.Rules.{KeepsRules}
use Rattle.plan_records.specs.catalog_tables.Tables.{Catalogued, Tables, item_at, records_of}
use Rattle.plan_records.proofs.catalog_tables.NewRecords.{HasRoom}
use Rattle.plan_records.proofs.catalog_tables.TableItems.{allowed, from_map, key_total, said}

-- no two records have one key
abbrev pub keys_apart : List DirectoryRecord → Bool
keys_apart [] = true
keys_apart (e ∷ es) = not (is_put es e.0) && keys_apart es

-- each key stands once
abbrev pub is_once : List DirectoryRecord → List Key → Bool
is_once put gone = list_all (λ (e : DirectoryRecord). not (is_gone gone e.0)) put && keys_apart put

not_true : (b : Bool) → not b ≡ true → b ≡ false
not_true true e = absurd cc
not_true false e = refl

neither : (a b : Bool) → (a || b) ≡ false → (a ≡ false) × (b ≡ false)
neither true b e = absurd (true≢false e)
neither false b e = (refl, e)

last_kept : (es : List DirectoryRecord) (k : Key) (before : Option (List ℕ)) → is_put es k ≡ false → last_put es k before ≡ before
last_kept [] k before e = refl
last_kept (p ∷ ps) k before e = let a = neither (is_key p.0 k) (is_put ps k) e in rw a.0 (last_kept ps k before a.1)

-- at its key stands what a record says
says_own : (es : List DirectoryRecord) (e : DirectoryRecord) → IsAmong es e → keys_apart es ≡ true → (before : Option (List ℕ)) → last_put es e.0 before ≡ Some e.1
says_own [] e among apart before = absurd among
says_own (p ∷ ps) e among apart before =
    let a = and_parts (not (is_put ps p.0)) (keys_apart ps) apart in
    elim among [
      | inl same ↦ subst (λ (x : DirectoryRecord). last_put (p ∷ ps) x.0 before ≡ Some x.1) (sym same) (rw ((eq_by_cmp_equiv key_total).refl p.0) (last_kept ps p.0 (Some p.1) (not_true (is_put ps p.0) a.0)))
      | inr later ↦ says_own ps e later a.1 (cond (is_key p.0 e.0) (Some p.1) before)
    ]

pub put_items : (t u : Tables) (put : List DirectoryRecord) (gone : List Key) → IsAfter t put gone u → is_once put gone ≡ true → ArePlannedItems put
put_items t u put gone after once e among =
    let a = and_parts (list_all (λ (x : DirectoryRecord). not (is_gone gone x.0)) put) (keys_apart put) once in
    let stays : is_gone gone e.0 ≡ false = not_true (is_gone gone e.0) (all_among (λ (x : DirectoryRecord). not (is_gone gone x.0)) put e a.0 among) in
    let own : value_after put gone e.0 (records_of t e.0) ≡ Some e.1 = rw stays (says_own put e among a.1 (records_of t e.0)) in
    let i = from_map value (item_at u e.0) e.1 (after.records e.0 ∙ own) in
    let o = said u e.0 i.0 i.1 in
    (i.0, record { is = allowed u i.0 after.tables o.0; key = o.1; value = i.2 })

-- a plan each key of which stands once
pub plan_is : (c : Catalogued) (put : List DirectoryRecord) (gone : List Key) (u : Tables) → IsAfter c.tables put gone u → KeepsRules c.shape u
    → ((entries : List status.Entry) → HasUnits c.shape entries c.tables c.units → (ms : List UnitMap) × HasUnits c.shape entries u ms) → length put + length gone ≤ 64 → is_once put gone ≡ true → HasRoom c put → IsPlan c put gone u
plan_is c put gone u after rules units few once room = record { after = after; rules = rules; units = units; few = few; items = put_items c.tables u put gone after once; room = room }
