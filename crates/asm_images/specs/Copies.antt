-- Which copies of an extent count.
use Rattle.std.specs.Prelude.{◌≡◌, ℕ, Bool, false, ◌&&◌, not, List, Option, Some, None, IsTrue}
use Rattle.std.specs.List.{list_any}
use Rattle.asm_group.specs.declared.Mode.{Mode}
use Rattle.asm_formats.specs.Header.{Header}
use Rattle.asm_formats.specs.Status.{Status, Entry, entry_of}
use Rattle.asm_formats.specs.Items.{Item, Home}
use Rattle.asm_images.specs.Members.{Member, is_disk}
use Rattle.asm_placement.specs.Tables.{home_of, is_stale}
use Rattle.asm_placement.specs.Modes.{is_forced, serves}

-- the header is that of disk d with the birth of its entry, whose mode is allowed
abbrev pub is_disk_in : (Mode → Bool) → ℕ → Header → Option Entry → Bool
is_disk_in allowed d h None = false
is_disk_in allowed d h (Some e) = allowed e.mode && is_disk d e.birth h

-- the disk has an entry that isn't Forced
unfoldable pub is_kept : Status → ℕ → Header → Bool
is_kept r d h = is_disk_in (λ mode. not (is_forced mode)) d h (entry_of r.entries d)

-- the disk has an entry whose mode serves
unfoldable pub has_serving_entry : Status → ℕ → Header → Bool
has_serving_entry r d h = is_disk_in serves d h (entry_of r.entries d)

-- a copy of extent i of file f has this home, on this member, and is current: the disk is kept, and the copy isn't marked
pub record IsCurrent (r : Status) (items : List Item) (f i copy : ℕ) (h : Home) (m : Member) : Type 0 where
  pub home : home_of items f i copy ≡ Some h
  pub kept : IsTrue (is_kept r h.disk m.header)
  pub fresh : is_stale items f i copy ≡ false

-- it is usable: its disk can be read and serves besides
pub record IsUsable (r : Status) (items : List Item) (readable : List Member) (f i copy : ℕ) (h : Home) : Type 0 where
  pub home : home_of items f i copy ≡ Some h
  pub serving : IsTrue (list_any (λ (m : Member). has_serving_entry r h.disk m.header) readable)
  pub not_stale : is_stale items f i copy ≡ false
