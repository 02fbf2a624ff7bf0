-- When the records of two new disks may be planned.
use Rattle.std.proofs.Common.{◌≡◌, ℕ, true, false, List, [], ◌∷◌, Option, Some, None, refl, sym, ap, ◌∙◌, arith, inl, inr}
use Rattle.std.specs.Ordering.{nat_cmp}
use Rattle.std.specs.BTreeMap.{is_at}
use Rattle.std.specs.FinMap.{nat_cmp-IsAntisymmetric}
use Rattle.std.proofs.lemmas.List.Elements.{All-from_recursion}
use Rattle.asm_formats.specs.Items.{DiskInfo, disk_item, is_item}
use Rattle.extent_map.proofs.Lookups.{put_other}
use Rattle.disk_directory.specs.Disks.{Disk, info_at, with_info}
use Rattle.catalog.specs.Plans.{MayAdd}
use Rattle.catalog_tables.specs.Tables.{Tables}
use Rattle.catalog_tables.proofs.EntryLaws.{either}
use Rattle.catalog_tables.proofs.NumberedLists.{number_is}

pub may_add : (t : Tables) (a b : ℕ) (x y : DiskInfo) → is_item (disk_item a x) ≡ true → is_item (disk_item b y) ≡ true → info_at t.disks a ≡ None → info_at t.disks b ≡ None → (b ≡ a → ⊥) → MayAdd t ((a, x) ∷ (b, y) ∷ [])
may_add t a b x y first second none_a none_b apart = record { items = All-from_recursion (λ (d : Disk). is_item (disk_item d.0 d.1) ≡ true) ((a, x) ∷ (b, y) ∷ []) (first, (second, tt)); new = rw (none_a, still) refl; few = omega arith } where
  other : is_at (nat_cmp b) a ≡ false
  other = elim (either (is_at (nat_cmp b) a)) [ inl hit ↦ absurd (apart (number_is b a hit)) | inr miss ↦ miss ]

  still : info_at (with_info t.disks a x) b ≡ None
  still = put_other nat_cmp nat_cmp-IsAntisymmetric a x b other t.disks ∙ none_b
