-- The catalog of some records under a record with the same disks.
use Rattle.std.proofs.Common.{◌≡◌, ℕ, Bool, true, false, cond, not, List, [], ◌∷◌, map, refl, sym, ap, subst, ◌∙◌, Option, Some, None}
use Rattle.std.specs.Prelude.{find}
use Rattle.std.specs.List.{list_all, range_with_len}
use Rattle.std.specs.Option.{option_map}
use Rattle.std.proofs.lemmas.Option.{same_Some}
use Rattle.catalog.specs.allocator.UnitMaps.{UnitMap, unused}
use Rattle.asm_base.specs.Records as records
use Rattle.asm_formats.specs.Items.{Home, Homes}
use Rattle.asm_formats.specs.Regions.{reserved_units}
use Rattle.asm_formats.specs.Sets.{most_disks}
use Rattle.asm_formats.specs.Status.{Entry, entry_of}
use Rattle.asm_group.specs.Shape.{Shape}
use Rattle.asm_images.specs.RecordLaws.{bare}
use Rattle.asm_placement.specs.Naming.{is_birth}
use Rattle.catalog.specs.disk_directory.Disks.{info_at}
use Rattle.catalog.specs.catalog_tables.Faults.{IsCatalogOf}
use Rattle.catalog.specs.catalog_tables.Placing.{after_chunks, disk_units, entry_units, unused_maps}
use Rattle.catalog.specs.catalog_tables.Rules.{AreOnRegular, first_unknown, first_wrong, has_info, is_on_regular}
use Rattle.catalog.specs.catalog_tables.Tables.{Catalogued, Tables}
use Rattle.asm_images.proofs.Bare.{same_entry, same_regular}

abbrev Bare : Type 0
Bare = ℕ × ℕ × ℕ × Bool

-- ---- disk records

abbrev bare_info : Tables → Bare → Bool
bare_info t b = is_birth b.1 (info_at t.disks b.0)

unknown_bare : (t : Tables) (es : List Entry) → first_unknown t es ≡ option_map (λ (b : Bare). b.0) (find (λ (b : Bare). not (bare_info t b)) (map bare es))
unknown_bare t [] = refl
unknown_bare t (e ∷ es) = go (not (has_info t e)) (unknown_bare t es)
  where
    go : (b : Bool) → first_unknown t es ≡ option_map (λ (b : Bare). b.0) (find (λ (b : Bare). not (bare_info t b)) (map bare es))
        → option_map (λ (x : Entry). x.number) (cond b (Some e) (find (λ x. not (has_info t x)) es))
        ≡ option_map (λ (b : Bare). b.0) (cond b (Some (bare e)) (find (λ (b : Bare). not (bare_info t b)) (map bare es)))
    go true rest = refl
    go false rest = rest

same_unknown : (t : Tables) (xs ys : List Entry) → map bare xs ≡ map bare ys → first_unknown t xs ≡ first_unknown t ys
same_unknown t xs ys e =
    unknown_bare t xs ∙ ap (λ (l : List Bare). option_map (λ (b : Bare). b.0) (find (λ (b : Bare). not (bare_info t b)) l)) e ∙ sym (unknown_bare t ys)

-- ---- regular disks

same_on : (xs ys : List Entry) → map bare xs ≡ map bare ys → (h : Option Home) → is_on_regular xs h ≡ is_on_regular ys h
same_on xs ys e None = refl
same_on xs ys e (Some h) = same_regular (entry_of xs h.disk) (entry_of ys h.disk) (same_entry xs ys h.disk e)

regular_stays : (t : Tables) (xs ys : List Entry) → map bare ys ≡ map bare xs → AreOnRegular xs t → AreOnRegular ys t
regular_stays t xs ys e are =
    (λ i. first_wrong (λ (x : (ℕ × ℕ) × List Homes). list_all (λ (homes : Homes). list_all (λ (h : Option Home). same_on ys xs e h i) homes) x.1) t.extents) ∙ are

-- ---- units

same_units : (o p : Option Entry) → option_map bare o ≡ option_map bare p → entry_units o ≡ entry_units p
same_units None None e = refl
same_units None (Some y) e = absurd cc
same_units (Some x) None e = absurd cc
same_units (Some x) (Some y) e = ap (λ (b : Bare). b.2) (same_Some (bare x) (bare y) e)

units_of : (xs ys : List Entry) (d : ℕ) → map bare xs ≡ map bare ys → disk_units xs d ≡ disk_units ys d
unfolding entry_of
units_of xs ys d e = same_units (entry_of xs d) (entry_of ys d) (same_entry xs ys d e)

same_maps : (s : Shape) (xs ys : List Entry) → map bare xs ≡ map bare ys → unused_maps s xs ≡ unused_maps s ys
same_maps s xs ys e = λ i. map (λ (d : ℕ). unused (reserved_units s) (units_of xs ys d e i)) (range_with_len 0 most_disks)

-- ---- the catalog

pub catalog_under : (content : List records.DirectoryRecord) (xs ys : List Entry) (c : Catalogued) → map bare ys ≡ map bare xs → IsCatalogOf content xs c → IsCatalogOf content ys c
catalog_under content xs ys c same is = record {
  records = is.records;
  rules = is.rules;
  infos = same_unknown c.tables ys xs same ∙ is.infos;
  regular = regular_stays c.tables xs ys same is.regular;
  units = subst (λ (maps : List UnitMap). after_chunks c.shape.step maps c.tables.extents ≡ Some c.units) (same_maps c.shape xs ys (sym same)) is.units;
}
