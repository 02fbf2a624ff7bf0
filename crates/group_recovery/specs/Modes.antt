-- What a mount does to the modes in a record.
use Rattle.std.specs.Prelude.{◌≡◌, ℕ, Bool, true, ◌&&◌, if◌then◌else◌, map}
use Rattle.asm_group.specs.declared.Mode.TheVariants.{Offline, Syncing}
use Rattle.asm_formats.specs.Sets.{has_bit}
use Rattle.asm_formats.specs.Status.{Status, Entry}
use Rattle.asm_placement.specs.Modes.{is_forced, is_online, serves}
use Rattle.asm_placement.specs.Partners.{HasPartners}
use Rattle.asm_images.specs.RecordLaws.{bare}
use Rattle.group_recovery.specs.Renewing.{Renews}

-- A disk that serves and is missing goes Offline, since this second and with this repair time; an Online one that is there and has a stale
-- mark is Syncing.
abbrev pub with_mode_at_mount : (missing marked : ℕ → Bool) → (now repair : ℕ) → Entry → Entry
with_mode_at_mount missing marked now repair e =
    if serves e.mode && missing e.number then record e { mode = Offline; since = now; repair = repair }
    else if is_online e.mode && marked e.number then record e { mode = Syncing }
    else e

-- with the partners that a table gives by number
abbrev pub with_partners_by : (ℕ → ℕ) → Entry → Entry
with_partners_by partners e = record e { partners = partners e.number }

-- the record of a mount, that names these directory copies
abbrev pub mounted_record : (missing marked : ℕ → Bool) → (now repair : ℕ) → (partners : ℕ → ℕ) → (directories : ℕ) → Status → Status
mounted_record missing marked now repair partners directories r =
    record r { entries = map (λ e. with_partners_by partners (with_mode_at_mount missing marked now repair e)) r.entries; directories = directories }

-- A change of entries that keeps disks, births and units, and by which no disk that was Forced serves again, with fewer copies: the record anew.
abbrev pub ChangedIsRenewed : Type 0
ChangedIsRenewed =
    (r : Status) (change : Entry → Entry) (directories : ℕ) → ((e : Entry) → bare (change e) ≡ bare e) → ((e : Entry) → is_forced e.mode ≡ true → is_forced (change e).mode ≡ true)
    → HasPartners (map change r.entries) → ((d : ℕ) → has_bit directories d ≡ true → has_bit r.directories d ≡ true)
    → Renews r (record r { entries = map change r.entries; directories = directories })

-- So the record of a mount is the record that was read anew, where its partners are those of its entries and it names no further copies.
abbrev pub MountedIsRenewed : Type 0
MountedIsRenewed =
    (r : Status) (missing marked : ℕ → Bool) (now repair : ℕ) (partners : ℕ → ℕ) (directories : ℕ)
    → HasPartners (mounted_record missing marked now repair partners directories r).entries → ((d : ℕ) → has_bit directories d ≡ true → has_bit r.directories d ≡ true)
    → Renews r (mounted_record missing marked now repair partners directories r)
