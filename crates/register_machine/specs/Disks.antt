-- The disks of a group, as its status register sees them.
use Rattle.std.specs.Prelude.{ℕ, ◌*◌, Bool, ◌&&◌, List, [], ◌∷◌, length, filter, max, nat_le, nat_lt, if◌then◌else◌, ◌==◌, Option, Some, None, false}
use Rattle.std.specs.List.{list_all, list_any}
use Rattle.asm_formats.specs.Status.{Status}
use Rattle.asm_formats.specs.Following.{Holder, rank, sets, most_pass, later_of}

pub record Disk : Type 0 where
  -- the greatest epoch that was claimed on it
  pub claimed : ℕ
  -- its record of the greatest number
  pub status : Option Status

-- what each disk holds, whether it can be read or not
abbrev pub DisksByHolder : Type 0
DisksByHolder = Holder → Disk

abbrev pub blank : DisksByHolder
blank d = record { claimed = 0; status = None }

abbrev pub is_same : Holder → Holder → Bool
is_same d e = (d.0 == e.0) && (d.1 == e.1)

-- one disk changes
abbrev pub with_disk : DisksByHolder → Holder → Disk → DisksByHolder
with_disk disks d new e = if is_same d e then new else disks e

-- a claim is put on a disk, where a greater one stays
abbrev pub with_claim : DisksByHolder → Holder → ℕ → DisksByHolder
with_claim disks d epoch = with_disk disks d (record { claimed = max epoch (disks d).claimed; status = (disks d).status })

-- a record is put on a disk
abbrev pub with_record : DisksByHolder → Holder → Status → DisksByHolder
with_record disks d r = with_disk disks d (record { claimed = (disks d).claimed; status = Some r })

-- ---- majorities

-- Enough: those that pass the test are a majority of each set of the record
abbrev pub is_enough : (Holder → Bool) → Status → Bool
is_enough test r = list_all (most_pass test) (sets r)

abbrev pub is_in : List Holder → Holder → Bool
is_in read d = list_any (is_same d) read

-- the disk was claimed for this epoch, or for a later one
abbrev pub has_claim : DisksByHolder → ℕ → Holder → Bool
has_claim disks epoch d = nat_le epoch (disks d).claimed

abbrev pub has_number : ℕ → Option Status → Bool
has_number n None = false
has_number n (Some r) = rank r == n

-- the record stands on the disk; it is known by its number
abbrev pub has_record : DisksByHolder → Status → Holder → Bool
has_record disks r d = has_number (rank r) (disks d).status

-- ---- surveys: each reads some of the disks

-- the record of the greater number
abbrev pub greater : Option Status → Option Status → Option Status
greater None s = s
greater (Some r) s = later_of r s

-- the greatest record on these disks
abbrev pub greatest : DisksByHolder → List Holder → Option Status
greatest disks [] = None
greatest disks (d ∷ ds) = greater (disks d).status (greatest disks ds)

abbrev pub where_enough : List Holder → Option Status → Option Status
where_enough read None = None
where_enough read (Some r) = if is_enough (is_in read) r then Some r else None

-- what a survey gives: the greatest record that the disks hold, where they are enough for it
abbrev pub surveyed_record : DisksByHolder → List Holder → Option Status
surveyed_record disks read = where_enough read (greatest disks read)

abbrev pub unless_gone : Option Status → Option Status
unless_gone None = None
unless_gone (Some r) = if r.gone then None else Some r

-- Status: the same, where it isn't marked gone
abbrev pub status : DisksByHolder → List Holder → Option Status
status disks read = unless_gone (surveyed_record disks read)

abbrev pub epoch_of : Option Status → ℕ
epoch_of None = 0
epoch_of (Some r) = r.epoch

-- the greatest epoch that a disk shows, of a claim or of a record
abbrev pub shown_epoch : Disk → ℕ
shown_epoch disk = max disk.claimed (epoch_of disk.status)

-- the greatest epoch that these disks show
abbrev pub seen_epoch : DisksByHolder → List Holder → ℕ
seen_epoch disks [] = 0
seen_epoch disks (d ∷ ds) = max (shown_epoch (disks d)) (seen_epoch disks ds)
