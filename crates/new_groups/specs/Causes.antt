-- Why a creation is refused once its images were looked at.
use Rattle.std.specs.Prelude.{◌≡◌, ◌⊎◌, ℕ, ◌+◌, ◌/◌, Bool, true, false, ◌&&◌, ◌||◌, ◌==◌, not, nat_lt, List, [], ◌∷◌, ◌++◌, map, get_or, Option, Some, None, if◌then◌else◌}
use Rattle.std.specs.List.{filter_map, list_any}
use Rattle.std.specs.Str.{bytes_eq}
use Rattle.asm_formats.specs.Header.{Header}
use Rattle.asm_formats.specs.Regions.{units_in}
use Rattle.asm_group.specs.declared.GroupKind.{GroupKind}
use Rattle.asm_group.specs.Names.{Bytes}
use Rattle.asm_group.specs.Refusal as r
use Rattle.asm_group.specs.Shape.{Shape}
use Rattle.asm_world.specs.NewDisks.{PlannedDisk, is_name_taken, needed_groups, regular_groups}
use Rattle.asm_world.specs.Statement.{NewDisk, NewFailgroup}
use Rattle.disk_images.specs.declared.looking.Looked.{Looked}
use Rattle.disk_sizes.specs.Sizes.{least_units}
use Rattle.disk_images.specs.declared.looking.Looked.TheVariants.{Absent, Unread, Read}
use Rattle.mounted_groups.specs.group_recovery.Founds.{is_held}
use Rattle.new_groups.specs.declared.asked.Known.{Known}
use Rattle.new_groups.specs.declared.asked.Taken.{Taken}
use Rattle.new_groups.specs.declared.places.Place.{Place}
use Rattle.new_groups.specs.declared.places.Shown.{Shown}
use Rattle.new_groups.specs.declared.places.Shown.TheVariants as shown
use Rattle.new_groups.specs.declared.planned.Terms.{Terms}

-- ---- where the disks are

-- the first slot, counted from n, of an image with the path
abbrev pub slot_from : ℕ → List Bytes → Bytes → Option ℕ
slot_from n [] path = None
slot_from n (p ∷ ps) path = if bytes_eq p path then Some n else slot_from (n + 1) ps path

abbrev pub shown_by_header : Option Header → Shown
shown_by_header None = shown.Free
shown_by_header (Some h) = shown.Member (record { id = h.id; number = h.number; birth = h.birth })

-- the image in a slot, where it could be had
abbrev pub place_in_slot : Looked → ℕ → Option Place
place_in_slot Absent slot = None
place_in_slot (Unread size) slot = Some (record { slot = slot; size = size; shown = shown.Unread })
place_in_slot (Read size header) slot = Some (record { slot = slot; size = size; shown = shown_by_header header })

-- the image at a path, where it could be had
abbrev pub place_at_path : List Bytes → List Looked → Bytes → Option Place
place_at_path paths looked path = elim (slot_from 0 paths path) [
  | None ↦ None
  | Some slot ↦ place_in_slot (get_or looked slot Absent) slot
]

abbrev pub places_at : List Bytes → List Looked → List PlannedDisk → List Place
places_at paths looked disks = filter_map (λ (d : PlannedDisk). place_at_path paths looked d.path) disks

-- ---- what is said of the disks

abbrev pub terms_in : List NewDisk → List Terms
terms_in disks = map (λ (d : NewDisk). record { size = d.size; force = d.force }) disks

abbrev pub terms_of : List NewFailgroup → List Terms
terms_of [] = []
terms_of (g ∷ gs) = terms_in g.disks ++ terms_of gs

-- a disk with what is said of it, and its image
pub record CreationDisk : Type 0 where
  pub disk : PlannedDisk
  pub terms : Terms
  pub place : Place

abbrev pub creation_disk : PlannedDisk → Terms → Place → CreationDisk
creation_disk d t p = record { disk = d; terms = t; place = p }

abbrev pub creation_disks : List PlannedDisk → List Terms → List Place → List CreationDisk
creation_disks [] terms places = []
creation_disks (d ∷ ds) [] places = []
creation_disks (d ∷ ds) (t ∷ ts) [] = []
creation_disks (d ∷ ds) (t ∷ ts) (p ∷ ps) = creation_disk d t p ∷ creation_disks ds ts ps

-- ---- tests of one disk

-- NoDisk: no image of the path could be had
abbrev pub missing_refusal : List Bytes → List Looked → PlannedDisk → Option r.Refusal
missing_refusal paths looked d = elim (place_at_path paths looked d.path) [
  | None ↦ Some (r.NoDisk d.path)
  | Some place ↦ None
]

abbrev pub is_same_disk : Taken → Taken → Bool
is_same_disk a b = (a.id == b.id) && ((a.number == b.number) && (a.birth == b.birth))

-- the header shows a disk that may not be taken: FORCE takes those that are no disks of groups in the session
abbrev pub is_member_taken : List Taken → Bool → Shown → Bool
is_member_taken taken force shown.Unread = false
is_member_taken taken force shown.Free = false
is_member_taken taken force (shown.Member member) = not force || list_any (λ t. is_same_disk t member) taken

-- another group holds the slot, or the header shows such a disk
abbrev pub is_place_taken : Known → Bool → Place → Bool
is_place_taken known force place = is_held known.held.items place.slot || is_member_taken known.taken.items force place.shown

-- the header couldn't be read
abbrev pub is_unread : Shown → Bool
is_unread shown.Unread = true
is_unread shown.Free = false
is_unread (shown.Member member) = false

-- WriteFault where the header couldn't be read, by which alone it can be told whether the disk is taken; else DiskTaken
abbrev pub taken_refusal : Known → CreationDisk → Option r.Refusal
taken_refusal known c =
    if is_unread c.place.shown then Some (r.WriteFault c.disk.name)
    else (if is_place_taken known c.terms.force c.place then Some (r.DiskTaken c.disk.path) else None)

-- the units that the disk is to have: those that are said, or those of its image
abbrev pub units_of_new_disk : Shape → Option ℕ → ℕ → ℕ
units_of_new_disk s None size = units_in s size
units_of_new_disk s (Some said) size = said / s.au

-- TooSmall: the image has fewer, or they are fewer than those without user bytes and 16 more
abbrev pub small_refusal : Shape → CreationDisk → Option r.Refusal
small_refusal s c =
    let units = units_of_new_disk s c.terms.size c.place.size in
    let least = least_units s in
    if nat_lt (units_in s c.place.size) units then Some (r.TooSmall c.disk.name units) else (if nat_lt units least then Some (r.TooSmall c.disk.name least) else None)

-- ---- tests of all

abbrev pub clash_refusal : List PlannedDisk → Option r.Refusal
clash_refusal disks = if is_name_taken [] disks then Some r.NameTaken else None

abbrev pub groups_refusal : GroupKind → List PlannedDisk → Option r.Refusal
groups_refusal kind disks = if nat_lt (regular_groups disks) (needed_groups kind) then Some (r.TooFewGroups (needed_groups kind) (regular_groups disks)) else None

-- the first of these that is one
abbrev pub first_refusal : List (Option r.Refusal) → Option r.Refusal
first_refusal [] = None
first_refusal (None ∷ others) = first_refusal others
first_refusal (Some refusal ∷ others) = Some refusal

-- by the first that is refused
abbrev pub first_refused : {A : Type 0} → (A → Option r.Refusal) → List A → Option r.Refusal
first_refused test xs = first_refusal (map test xs)

-- why the images can't be given to a new group
abbrev pub image_refusals : Known → List Bytes → List Looked → List PlannedDisk → List Terms → List (Option r.Refusal)
image_refusals known paths looked disks terms =
    first_refused (missing_refusal paths looked) disks ∷ first_refused (taken_refusal known) (creation_disks disks terms (places_at paths looked disks)) ∷ []

-- why the disks, on these images, don't make a group of this shape
abbrev pub shape_refusals : Shape → List PlannedDisk → List Terms → List Place → List (Option r.Refusal)
shape_refusals s disks terms places = clash_refusal disks ∷ first_refused (small_refusal s) (creation_disks disks terms places) ∷ groups_refusal s.kind disks ∷ []

-- What stands against a creation of this shape by what was looked at, in this order.
abbrev pub look_refusal : Known → Shape → List Bytes → List Looked → List PlannedDisk → List Terms → Option r.Refusal
look_refusal known s paths looked disks terms =
    first_refusal (image_refusals known paths looked disks terms ++ shape_refusals s disks terms (places_at paths looked disks))

-- the refusal is this one, or there was no memory
abbrev pub IsThisRefusal : Option r.Refusal → r.Refusal → Type 0
IsThisRefusal first refusal = (first ≡ Some refusal) ⊎ (refusal ≡ r.NoMemory)
