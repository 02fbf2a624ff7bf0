-- A mounted group may get the record in which disks have other units.
use Rattle.std.proofs.Common.{◌≡◌, ◌⊎◌, ⊎_elim, inl, inr, ℕ, ◌+◌, ◌/◌, ◌^◌, ◌<◌, ◌≤◌, ◌==◌, Bool, true, false, cond, List, max, min, get_or, Option, Some, None, refl, sym, ap, subst, ◌∙◌, arith}
use Rattle.std.specs.Option.{option_map}
use Rattle.std.proofs.lemmas.Bool.{cases_eq, lt-ltb}
use Rattle.bay.specs.State.{BayState, IsSound}
use Rattle.asm_group.specs.Group.{Group}
use Rattle.asm_group.specs.Shape.{Shape}
use Rattle.asm_formats.specs.Among.{IsAmong}
use Rattle.asm_formats.specs.Regions as regions
use Rattle.asm_formats.specs.Sets.{elements, has_bit}
use Rattle.asm_formats.specs.Status.{Entry, Status, entry_of, is_entry}
use Rattle.asm_placement.specs.Partners.{HasPartners}
use Rattle.asm_placement.proofs.Chosen.{entry_found}
use Rattle.asm_placement.proofs.Membership.{map_among}
use Rattle.asm_images.specs.Kept.{Kept}
use Rattle.asm_images.proofs.UserBytes.{all_of_list}
use Rattle.group_reports.specs.catalog_tables.Rules.{KeepsRules}
use Rattle.record_laws.specs.group_engine.declared.attached.Attached.{Attached}
use Rattle.record_laws.specs.group_engine.Mounts.{MountedGroup, Mounts}
use Rattle.record_laws.specs.group_engine.Own.{IsSameGroup}
use Rattle.record_laws.specs.group_engine.Recorded.{MayGet}
use Rattle.record_laws.specs.group_engine.Statuses.{IsNextOf}
use Rattle.record_laws.proofs.group_engine.Records.{record_parts}
use Rattle.record_laws.specs.Changing.{KeepsPlace}
use Rattle.record_laws.specs.Getting.{ChangesDisks, IsAttachedWith, KeepsEntry}
use Rattle.record_laws.proofs.Entries.{entries_may_be_got}
use Rattle.record_laws.proofs.Modes.{mounted_has_partners}
use Rattle.record_laws.proofs.Partners.{table_stays}
use Rattle.disk_modes.specs.declared.sizes.Asked.{Asked}
use Rattle.disk_sizes.specs.Sizes.{least_units}
use Rattle.disk_modes.specs.Causes.{AreLargeEnough, IsLargeEnough, asked_of, disk_image_units}
use Rattle.disk_modes.specs.Ends.{IsUsedTo}
use Rattle.disk_modes.specs.Sizes.{HasAsked, capped_units, entry_capped, image_units, most, units_asked, whole_units_in, units_of_size}
use Rattle.disk_modes.specs.Stops.{FitImages}
use Rattle.disk_modes.proofs.Ends.{needs_same}
use Rattle.disk_modes.proofs.Naming.{small}

-- ---- the units of an image

units_fit : (s : Shape) (size : ℕ) → min (whole_units_in s size) most ≤ regions.units_in s size
units_fit s size = go (s.au == 0) (size / s.au)
  where
    go : (b : Bool) (q : ℕ) → min (cond b 0 q) most ≤ min q regions.most_units
    go true q = omega arith
    go false q = omega arith

capped_less : (n : ℕ) → capped_units n ≤ n
capped_less n = omega arith

module _ (m : MountedGroup) (asked : Asked) (fit : FitImages asked m) where
  abbrev change : Entry → Entry
  change = entry_capped m.catalog.shape m.disks asked

  -- of the attached disk, or there is no image and the disk is to have no units
  room_of : (o : Option Attached) (e : Entry) (units : ℕ) → get_or m.disks e.number None ≡ o → units ≤ units_of_size m.catalog.shape (option_map (λ (a : Attached). a.size) o)
      → (units ≤ e.units) ⊎ IsAttachedWith m (record e { units = units })
  room_of None e units at le = inl (omega (arith, le))
  room_of (Some a) e units at le = inr (record { image = a; attached = at; units = omega (arith, le, units_fit m.catalog.shape a.size) })

  asked_room : (e : Entry) → e.number < 64 → has_bit asked.disks e.number ≡ true
      → (capped_units (units_asked m.catalog.shape m.disks asked.size e.number) ≤ e.units)
      ⊎ IsAttachedWith m (record e { units = capped_units (units_asked m.catalog.shape m.disks asked.size e.number) })
  asked_room e lt has =
      let o = get_or m.disks e.number None in
      let inside : image_units m.catalog.shape m.disks e.number ≡ units_of_size m.catalog.shape (option_map (λ (a : Attached). a.size) o) =
      ap (λ (b : Bool). cond b (units_of_size m.catalog.shape (option_map (λ (a : Attached). a.size) o)) 0) (lt-ltb e.number 64 lt) in
      room_of o e (capped_units (units_asked m.catalog.shape m.disks asked.size e.number)) refl
      (omega (arith, capped_less (units_asked m.catalog.shape m.disks asked.size e.number), fit e.number lt has, inside))

  keeps_entry : (e f : Entry) → f ≡ change e → e.number < 64 → entry_of m.register.value.entries e.number ≡ Some e → KeepsEntry m f
  keeps_entry e f is lt there = subst (λ (x : Entry). KeepsEntry m x) (sym is) (go (has_bit asked.disks e.number) (asked_room e lt))
    where
      go : (b : Bool) → (b ≡ true → (capped_units (units_asked m.catalog.shape m.disks asked.size e.number) ≤ e.units)
          ⊎ IsAttachedWith m (record e { units = capped_units (units_asked m.catalog.shape m.disks asked.size e.number) }))
          → KeepsEntry m (cond b (record e { units = capped_units (units_asked m.catalog.shape m.disks asked.size e.number) }) e)
      go true room = record { was = e; there = there; birth = refl; quorum = refl; forced = λ forced. forced; room = room refl }
      go false room = record { was = e; there = there; birth = refl; quorum = refl; forced = λ forced. forced; room = inl (omega arith) }

  keeps_place : (e : Entry) → KeepsPlace e (change e)
  keeps_place e = go (has_bit asked.disks e.number)
    where
      go : (b : Bool) → KeepsPlace e (cond b (record e { units = capped_units (units_asked m.catalog.shape m.disks asked.size e.number) }) e)
      go true = record { number = refl; failgroup = refl; quorum = refl; partners = refl; stays = refl }
      go false = record { number = refl; failgroup = refl; quorum = refl; partners = refl; stays = refl }

  -- ---- the record

  module _ (s : BayState) (next : Status) (has : HasAsked asked m next) (rules : KeepsRules m.catalog.shape m.catalog.tables) (n : ℕ) (g : Group) (kept : Kept) (mounts : Mounts n m s g kept) where
    each_keeps : (f : Entry) → IsAmong next.entries f → KeepsEntry m f
    each_keeps f among =
        let parts = record_parts m.register.value mounts.whole.status in
        let x = map_among change m.register.value.entries f (subst (λ (r : Status). IsAmong r.entries f) has among) in
        keeps_entry x.0 f x.2 (small x.0 (all_of_list is_entry m.register.value.entries x.0 parts.entries x.1)) (entry_found 0 m.register.value.entries x.0 parts.order x.1)

    changes : ChangesDisks m next s
    changes = record {
      some = λ d listed. (d, subst (λ (set : ℕ). IsAmong (elements set) d) (sym (ap (λ (r : Status). r.directories) has)) listed);
      births = omega (arith, ap (λ (r : Status). r.births) has);
      each = λ f among. inl (each_keeps f among);
      rules = rules;
      partners = subst (λ (r : Status). HasPartners r.entries) (sym has) (table_stays m.register.value.entries change (λ e among. keeps_place e) (mounted_has_partners s n m g kept mounts));
    }

    pub units_got : IsSound s → IsNextOf m next → m.register.turn + 1 < 2 ^ 64 → MayGet n m next s g kept
    units_got sound is_next turns = entries_may_be_got s sound n m next g kept (record { mounts = mounts; may = is_next; turns = turns }) changes

-- ---- what is large enough

pub large_enough : (m : MountedGroup) (asked : Asked) (d used units image need : ℕ) (s : Shape) → IsUsedTo m.catalog d used → units ≡ asked_of m asked d → image ≡ disk_image_units m d → s ≡ m.catalog.shape
    → need ≡ max (least_units s) used → units ≤ image → need ≤ units → IsLargeEnough m asked d
large_enough m asked d used units image need s to is has same counted fits covers = record {
  image = omega (arith, is, has, fits);
  needed = λ other needs. omega (arith, is, covers, needs_same m.catalog d used need other to (counted ∙ ap (λ (x : Shape). max (least_units x) used) same) needs);
}

-- the first disks are, where the statement has them
abbrev pub LargeSoFar : Asked → MountedGroup → ℕ → Type 0
LargeSoFar asked m i = (d : ℕ) → d < i → has_bit asked.disks d ≡ true → IsLargeEnough m asked d

pub none_large : (asked : Asked) (m : MountedGroup) → LargeSoFar asked m 0
none_large asked m d lt has = absurd (omega (arith, lt))

pub one_large : (asked : Asked) (m : MountedGroup) (i : ℕ) → LargeSoFar asked m i → (has_bit asked.disks i ≡ true → IsLargeEnough m asked i) → LargeSoFar asked m (i + 1)
one_large asked m i so_far here d lt has = ⊎_elim
    (λ same. subst (λ (k : ℕ). IsLargeEnough m asked k) (sym same) (here (ap (has_bit asked.disks) (sym same) ∙ has)))
    (λ differ. so_far d (omega (arith, lt, differ)) has)
    (cases_eq d i)

pub all_large : (asked : Asked) (m : MountedGroup) (i : ℕ) → 64 ≤ i → LargeSoFar asked m i → AreLargeEnough m asked
all_large asked m i le large d lt has = large d (omega (arith, lt, le)) has

pub large_fit : (asked : Asked) (m : MountedGroup) → AreLargeEnough m asked → FitImages asked m
large_fit asked m large d lt has = (large d lt has).image

-- with the same disks the same fits
pub same_fit : (asked : Asked) (a b : MountedGroup) → IsSameGroup a b → FitImages asked a → FitImages asked b
same_fit asked a b same fit d lt has =
    subst (λ (s : Shape). units_asked s b.disks asked.size d ≤ image_units s b.disks d) (sym same.shape)
    (subst (λ (l : List (Option Attached)). units_asked a.catalog.shape l asked.size d ≤ image_units a.catalog.shape l d) (sym same.disks) (fit d lt has))
