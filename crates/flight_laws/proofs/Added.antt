-- Disk records that are added leave those that are there.
use Rattle.std.proofs.Common.{◌≡◌, ℕ, Bool, true, false, List, [], ◌∷◌, Option, Some, None, refl, sym, ap, ◌∙◌, inl, inr}
use Rattle.std.specs.Prelude.{not}
use Rattle.std.specs.Ordering.{nat_cmp}
use Rattle.std.specs.Option.{is_some}
use Rattle.std.proofs.lemmas.Bool.{and_parts, cases_eq, true≢false}
use Rattle.std.proofs.lemmas.Option.{none-some}
use Rattle.asm_formats.specs.Items.{DiskInfo}
use Rattle.asm_formats.specs.Status as status
use Rattle.asm_placement.specs.Naming.{is_birth}
use Rattle.extent_map.proofs.Lookups.{put_other}
use Rattle.catalog.specs.Plans.{are_new, with_records}
use Rattle.catalog.proofs.NumberedEntries.{number_other}
use Rattle.disk_directory.specs.Disks.{Disk, info_at, with_info}
use Rattle.catalog_tables.specs.Rules.{first_unknown, has_info}
use Rattle.catalog_tables.specs.Tables.{Tables}
use Rattle.catalog_tables.proofs.TableItems.{numbers_exact}
use Rattle.flight_laws.specs.Added.{AddedDisksAreSurplus}

no_info : (o : Option DiskInfo) → not (is_some o) ≡ true → o ≡ None
no_info None e = refl
no_info (Some x) e = absurd cc

-- an entry that has its disk record has it still
info_stays : (t : Tables) (d : ℕ) (info : DiskInfo) (e : status.Entry) → info_at t.disks d ≡ None → has_info t e ≡ true → has_info (record t { disks = with_info t.disks d info }) e ≡ true
info_stays t d info e none has = elim (cases_eq e.number d) [
  | inl same ↦ absurd (true≢false (sym has ∙ ap (λ (n : ℕ). is_birth e.birth (info_at t.disks n)) same ∙ ap (is_birth e.birth) none))
  | inr apart ↦ ap (is_birth e.birth) (put_other nat_cmp numbers_exact d info e.number (number_other e.number d apart) t.disks) ∙ has
]

infos_stay : (t : Tables) (d : ℕ) (info : DiskInfo) (es : List status.Entry) → info_at t.disks d ≡ None → first_unknown t es ≡ None → first_unknown (record t { disks = with_info t.disks d info }) es ≡ None
infos_stay t d info [] none unknown = refl
infos_stay t d info (e ∷ es) none unknown = by (has_info t e) refl unknown (infos_stay t d info es none) where
  u : Tables
  u = record t { disks = with_info t.disks d info }

  by : (b : Bool) → has_info t e ≡ b → first_unknown t (e ∷ es) ≡ None → (first_unknown t es ≡ None → first_unknown u es ≡ None) → first_unknown u (e ∷ es) ≡ None
  by true q none_here rest = rw (info_stays t d info e none q) (rest (rw q at none_here))
  by false q none_here rest = absurd (none-some e.number (sym (rw q at none_here)))

all_stay : (t : Tables) (added : List Disk) (es : List status.Entry) → are_new t.disks added ≡ true → first_unknown t es ≡ None → first_unknown (record t { disks = with_records t.disks added }) es ≡ None
all_stay t [] es new unknown = unknown
all_stay t (x ∷ added) es new unknown =
    let p = and_parts (not (is_some (info_at t.disks x.0))) (are_new (with_info t.disks x.0 x.1) added) new in
    all_stay (record t { disks = with_info t.disks x.0 x.1 }) added es p.1 (infos_stay t x.0 x.1 es (no_info (info_at t.disks x.0) p.0) unknown)

pub added_disks_are_surplus : AddedDisksAreSurplus
added_disks_are_surplus entries c put gone added may plan = record {
  plan = plan;
  names = record { files = refl; nodes = refl; templates = refl };
  due = record { files = refl; homes = λ f i head there due. refl; marks = λ f i head there due. refl };
  infos = all_stay c.tables added entries may.new;
  regular = λ is. is;
}
