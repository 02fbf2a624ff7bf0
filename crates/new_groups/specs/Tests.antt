-- What is tried of a draft before anything is written.
use Rattle.std.specs.Prelude.{ℕ, zero, suc, Bool, true, false, ◌&&◌, ◌||◌, ◌==◌, not, nat_le, List, [], ◌∷◌, length, Option, Some, None, slice_get}
use Rattle.std.specs.List.{list_any}
use Rattle.asm_formats.specs.Header.{is_header}
use Rattle.asm_formats.specs.Regions.{has_region}
use Rattle.asm_formats.specs.Sets.{has_bit}
use Rattle.asm_formats.specs.Status.{Entry, is_status}
use Rattle.asm_group.specs.Shape.{Shape, is_shape}
use Rattle.disk_images.specs.declared.looking.Looked.{Looked}
use Rattle.disk_images.specs.declared.looking.Looked.TheVariants.{Absent, Unread, Read}
use Rattle.mounted_groups.specs.group_recovery.Verdicts.{member_of}
use Rattle.mounted_groups.specs.group_recovery.declared.finding.Headed.{Headed}
use Rattle.status_register.specs.Holders.{is_of}
use Rattle.new_groups.specs.declared.draft.Draft.{Draft}
use Rattle.mounted_groups.specs.group_recovery.Founds.{is_held}

-- the look has shown an image of this size
abbrev pub shows_size : Option Looked → ℕ → Bool
shows_size None size = false
shows_size (Some Absent) size = false
shows_size (Some (Unread shown)) size = false
shows_size (Some (Read shown header)) size = shown == size

-- the header is one that a disk of the group may have, and the disk that of an entry
abbrev pub is_right_disk : Shape → List Entry → Headed → Bool
is_right_disk s entries h = is_header h.header && ((h.header.shape.sector == s.sector) && ((h.header.shape.dir_blocks == s.dir_blocks) && is_of entries (member_of h)))

-- the image is there, is long enough, and is no other group's
abbrev pub is_image_there : List Looked → List ℕ → Headed → Bool
is_image_there looked held h = shows_size (slice_get looked h.slot) h.size && (has_region h.header.shape.dir_blocks h.size && not (is_held held h.slot))

abbrev pub are_fit : Shape → List Entry → List Looked → List ℕ → List Headed → Bool
are_fit s entries looked held [] = true
are_fit s entries looked held (h ∷ hs) = is_right_disk s entries h && (is_image_there looked held h && are_fit s entries looked held hs)

-- none of the others has the disk's slot or number
abbrev pub is_apart : Headed → List Headed → Bool
is_apart h [] = true
is_apart h (k ∷ ks) = not (k.slot == h.slot) && (not (k.header.number == h.header.number) && is_apart h ks)

abbrev pub are_disks_apart : List Headed → Bool
are_disks_apart [] = true
are_disks_apart (h ∷ hs) = is_apart h hs && are_disks_apart hs

-- one of the disks has the number
abbrev pub has_disk_number : List Headed → ℕ → Bool
has_disk_number [] number = false
has_disk_number (h ∷ hs) number = (h.header.number == number) || has_disk_number hs number

-- each number of the set below this one is that of a disk
abbrev pub have_disks : List Headed → ℕ → ℕ → Bool
have_disks hs set zero = true
have_disks hs set (suc number) = (not (has_bit set number) || has_disk_number hs number) && have_disks hs set number

-- the draft may be written on these images, of which none in a slot that is held
abbrev pub may_form : Draft → List Looked → List ℕ → Bool
may_form d looked held =
    is_status d.status && (not d.status.gone && (is_shape d.shape && (nat_le (length d.disks.items) 64
    && (are_fit d.shape d.status.entries looked held d.disks.items && (are_disks_apart d.disks.items
    && (have_disks d.disks.items d.status.holders 64 && have_disks d.disks.items d.status.directories 64))))))
