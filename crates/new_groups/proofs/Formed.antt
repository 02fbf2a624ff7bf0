-- A new group that was formed takes calls.
use Rattle.std.proofs.Common.{◌≡◌, ℕ, ◌<◌, List, get_or, refl, sym, ap, subst, ◌∙◌, Option, Some, None, IsSome, unwrap_or, arith}
use Rattle.std.specs.Prelude.{IsTrue}
use Rattle.std.specs.List.{list_all}
use Rattle.bay.specs.Image.{ChangesOnly}
use Rattle.bay.specs.Moments.{Runs}
use Rattle.bay.specs.State.{BayState, KeepsAttached}
use Rattle.bay.proofs.Calls.{started}
use Rattle.bay.proofs.Images.{same-refl}
use Rattle.asm_formats.specs.Status.{Status, is_entry, is_status}
use Rattle.asm_group.specs.Names.{Bytes}
use Rattle.asm_group.specs.Shape.{Shape, is_shape}
use Rattle.asm_images.proofs.Members.{member_shape}
use Rattle.asm_formats.specs.Among.{IsAmong}
use Rattle.mounted_groups.specs.catalog_tables.Faults.{IsCatalogOf}
use Rattle.mounted_groups.specs.catalog_tables.Tables.{Catalogued}
use Rattle.mounted_groups.proofs.catalog_laws.ToldRecords.{records_told}
use Rattle.directory_store.specs.change_directory.declared.copy.DirCopy.{DirCopy}
use Rattle.directory_store.specs.Stores.{Keeps, Stored}
use Rattle.directory_store.proofs.Storing.{keeps_elsewhere}
use Rattle.disk_images.specs.Looks.{Looks}
use Rattle.mounted_groups.specs.FirstParts.{IsNewlyMounted}
use Rattle.mounted_groups.specs.Holding.{IsHeldSlot, SparesHeld}
use Rattle.mounted_groups.specs.Mounting.{by_number}
use Rattle.mounted_groups.proofs.Births.{birth_of}
use Rattle.mounted_groups.proofs.Disks.{sizes_are, slots_are}
use Rattle.mounted_groups.proofs.Spared.{change_held, looks_held, spares_on, spares_some}
use Rattle.mounted_groups.proofs.Staying.{stays_keeps, stays_trans}
use Rattle.mounted_groups.specs.group_engine.Frames.{StaysAttached}
use Rattle.mounted_groups.specs.group_engine.Making.{group_of_parts}
use Rattle.mounted_groups.specs.group_engine.Mounts.{AreCopiesOf, IsWhole, MountedGroup}
use Rattle.mounted_groups.specs.group_engine.declared.attached.Attached.{Attached}
use Rattle.mounted_groups.specs.group_recovery.Verdicts.{IsSlotIn}
use Rattle.mounted_groups.specs.group_recovery.Writing.{FrontOf}
use Rattle.mounted_groups.specs.group_recovery.declared.finding.Headed.{Headed}
use Rattle.mounted_groups.proofs.group_recovery.Fronts.{front_region}
use Rattle.mounted_groups.proofs.group_recovery.Searches.{sector_of}
use Rattle.status_table.proofs.Allowed.{parts_of}
use Rattle.status_register.specs.Reaching.{Reaches}
use Rattle.status_register.specs.Registered.{Registered}
use Rattle.status_register.specs.Writes.{first_register}
use Rattle.new_groups.specs.Drafts.{HasAgreeingParts, AreFreeDisks, copy_list, disk_list, member_list}
use Rattle.new_groups.specs.Forming.{AreDisks, AreHeadable, AreLong, AreParts, IsFormed, IsMountedOf, Works}
use Rattle.new_groups.specs.declared.draft.Draft.{Draft}
use Rattle.new_groups.specs.declared.forming.Formed.{Formed}
use Rattle.new_groups.proofs.DiskLists.{copies_are, disks_are, pages_of, placed_disk, placed_entry, placed_number}

-- ---- the record

pub entries_right : (r : Status) → IsTrue (is_status r) → IsTrue (list_all is_entry r.entries)
entries_right r ok = (parts_of r ok).all

-- ---- the disks

pub disks_there : (n : ℕ) (held : List ℕ) (hs : List Headed) (s : BayState) → AreFreeDisks n held hs s → AreDisks hs s
disks_there n held hs s free h among = record { attached = (free h among).attached; long = (free h among).long }

pub disks_stay : (hs : List Headed) {s t : BayState} → KeepsAttached s t → AreDisks hs s → AreDisks hs t
disks_stay hs {s} {t} keeps disks h among = record { attached = keeps.same h.slot ∙ (disks h among).attached; long = (disks h among).long }

-- conditions on what is attached stay
pub long_stays : (s : Shape) (hs : List Headed) {a b : BayState} → KeepsAttached a b → AreLong s hs a → AreLong s hs b
long_stays s hs {a} {b} keeps long h among =
    let r = long h among in
    record { attached = rw (keeps.same h.slot) r.attached; sector_size = r.sector_size; long = r.long; region = rw (keeps.same h.slot) r.region }

pub headable_stays : (hs : List Headed) {a b : BayState} → KeepsAttached a b → AreHeadable hs a → AreHeadable hs b
headable_stays hs {a} {b} keeps can h among =
    let r = can h among in
    record { header = r.header; place = record { attached = rw (keeps.same h.slot) r.place.attached; sector_size = r.place.sector_size; long = rw (keeps.same h.slot) r.place.long } }

module _ (d : Draft) (agrees : HasAgreeingParts d) (s : BayState) (disks : AreDisks d.disks.items s) where
  size_at : (h : Headed) → IsAmong d.disks.items h → unwrap_or (s.attached h.slot) 0 ≡ h.size
  size_at h among = ap (λ (o : Option ℕ). unwrap_or o 0) (disks h among).attached

  pub all_long : AreLong d.shape d.disks.items s
  all_long h among =
      let right = agrees.right h among in
      record {
        attached = subst IsSome (sym (disks h among).attached) refl;
        sector_size = sector_of d.shape agrees.shape;
        long = (pages_of d.shape agrees.shape).0;
        region = omega (arith, size_at h among, (disks h among).long, right.pages);
      }

  pub all_headable : AreHeadable d.disks.items s
  all_headable h among =
      let right = agrees.right h among in
      let shape = member_shape h.header right.header in
      record {
        header = right.header;
        place = record {
          attached = subst IsSome (sym (disks h among).attached) refl;
          sector_size = sector_of h.header.shape shape;
          long = omega (arith, size_at h among, (disks h among).long, (pages_of h.header.shape shape).0);
        };
      }

-- ---- the directories stay over the claims and the record

pub directories_stay : (hs : List Headed) (store : Stored) {s t : BayState} → KeepsAttached s t → Runs (IsSlotIn hs) (ChangesOnly (FrontOf (member_list hs))) s t → Keeps store s → Keeps store t
directories_stay hs store {s} {t} attached run keeps = keeps_elsewhere store (λ x y c among step. front_region (member_list hs) c x y step) attached run keeps

-- ---- the mounted group

module _ (d : Draft) (agrees : HasAgreeingParts d) where
  abbrev hs : List Headed
  hs = d.disks.items

  abbrev register : Registered
  register = first_register d.status (member_list hs)

  module _ (cat : Catalogued) (store : Stored) (copies : store.copies ≡ copy_list d.status.directories hs) (is_catalog : IsCatalogOf store.table.records d.status.entries cat) (shape : cat.shape ≡ d.shape)
      (reached : Reaches register.members register.value) where
    pub whole_of : (state : BayState) → AreDisks hs state → IsWhole (group_of_parts d.name cat store register (by_number (disk_list hs)))
    whole_of state disks = record {
      are_tables = is_catalog.rules.tables;
      tables = records_told store.table.records cat.tables is_catalog.rules.tables is_catalog.records;
      shape = subst (λ (s : Shape). IsTrue (is_shape s)) (sym shape) agrees.shape;
      units = is_catalog.units;
      status = agrees.status;
      alive = agrees.alive;
      written = refl;
      group = refl;
      reached = reached;
      numbers = placed_number d agrees;
      births = λ i m e at is. birth_of d.status.entries i m e (placed_entry d agrees i m at) (placed_number d agrees i m at) is;
      copies = subst (λ (s : Shape). AreCopiesOf d.status register.members s store.copies) (sym shape)
          (subst (λ (l : List DirCopy). AreCopiesOf d.status register.members d.shape l) (sym copies) (copies_are d agrees));
      disks = slots_are (disk_list hs) register state (disks_are d agrees state (λ h among. (disks h among).attached)) (placed_number d agrees);
    }

  -- the parts as the code has them
  pub parts_whole : (f : Formed) (cat : Catalogued) (ds : List (Option Attached)) (state : BayState) → AreParts d f → AreDisks hs state → IsCatalogOf f.store.table.records d.status.entries cat → cat.shape ≡ d.shape
      → Reaches f.register.members f.register.value → ds ≡ by_number (disk_list hs) → IsWhole (group_of_parts d.name cat f.store f.register ds)
  parts_whole f cat ds state parts disks is_catalog shape reached are =
      subst (λ (l : List (Option Attached)). IsWhole (group_of_parts d.name cat f.store f.register l)) (sym are)
      (subst (λ (x : Registered). IsWhole (group_of_parts d.name cat f.store x (by_number (disk_list hs)))) (sym parts.register)
      (whole_of cat f.store parts.copies is_catalog shape (subst (λ (x : Registered). Reaches x.members x.value) parts.register reached) state disks))

  -- it takes calls, and no slot that others hold is one of its disks'
  pub newly : (n : ℕ) (held : List ℕ) (f : Formed) (m : MountedGroup) (s t : BayState) → AreFreeDisks n held hs s → KeepsAttached s t → IsFormed d f t → IsMountedOf d f m → IsWhole m
      → IsNewlyMounted held d.name (Some d.status.id) m t
  newly n held f m s t free attached formed is whole =
      let disks : AreDisks hs t = disks_stay hs attached (disks_there n held hs s free) in
      subst (λ (g : MountedGroup). IsNewlyMounted held d.name (Some d.status.id) g t) (sym is.is) (record {
        mounted = refl;
        name_is = refl;
        id_is = ap (λ (x : Registered). Some x.id) (sym formed.parts.register);
        own = λ slot own is_held.
            let placed = placed_disk d agrees own.0 own.1 (ap (λ (x : Registered). get_or x.members own.0 None) (sym formed.parts.register) ∙ own.2) in
            (free placed.0 placed.1).free (subst (λ (k : ℕ). IsHeldSlot held k) (own.3 ∙ placed.2) is_held);
        whole = subst IsWhole is.is whole;
        ready = record {
          store = formed.keeps;
          register = formed.ready;
          sizes = sizes_are (disk_list hs) register t (disks_are d agrees t (λ h among. (disks h among).attached)) (placed_number d agrees);
        };
      })

-- under other names for the same
pub newly_as : (held wanted : List ℕ) (name other : Bytes) (id own : ℕ) (m : MountedGroup) (s : BayState) → held ≡ wanted → name ≡ other → id ≡ own → IsNewlyMounted held name (Some id) m s → IsNewlyMounted wanted other (Some own) m s
newly_as held wanted name other id own m s same named numbered is =
    subst (λ (k : ℕ). IsNewlyMounted wanted other (Some k) m s) numbered
    (subst (λ (l : List ℕ). IsNewlyMounted l other (Some id) m s) same (subst (λ (n : Bytes). IsNewlyMounted held n (Some id) m s) named is))

-- ---- what others hold stays

pub work_spares : (n : ℕ) (held : List ℕ) (hs : List Headed) {s m t : BayState} → AreFreeDisks n held hs m → SparesHeld held n s m → Works hs m t → SparesHeld held n s t
work_spares n held hs {s} {m} {t} free before works =
    spares_on held n before
    (spares_some held n (λ slot is. subst (λ (k : ℕ). k < n) (sym is.2) (free is.0 is.1).inside)
    (change_held held (IsSlotIn hs) (λ slot is is_held. (free is.0 is.1).free (subst (λ (k : ℕ). IsHeldSlot held k) is.2 is_held))) works.runs)

pub looks_spare : (n most : ℕ) (held : List ℕ) {s t : BayState} → Looks (λ slot. slot < n) most s t → SparesHeld held n s t
looks_spare n most held {s} {t} looks = looks_held held n looks.runs

pub looks_stay : (n most : ℕ) {s t : BayState} → Looks (λ slot. slot < n) most s t → StaysAttached s t
looks_stay n most {s} {t} looks = record { stays = looks.stays }

pub looks_none : (n most : ℕ) (s : BayState) → Looks (λ slot. slot < n) most s s
looks_none n most s = record {
  calls = omega arith;
  runs = started same-refl;
  written = λ slot. refl;
  others = λ slot out. refl;
  stays = λ slot size is. is;
}

pub works_stay : (hs : List Headed) {s m t : BayState} → StaysAttached s m → Works hs m t → StaysAttached s t
works_stay _ {s} {m} {t} before works = stays_trans before (stays_keeps works.attached)
