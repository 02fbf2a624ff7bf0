-- What a status record becomes where one thing of it changes.
use Rattle.std.specs.Prelude.{◌≡◌, ◌⊎◌, ℕ, zero, suc, ◌+◌, ◌/◌, ◌==◌, nat_lt, not, if◌then◌else◌, Bool, true, false, List, [], ◌∷◌, filter, map, length}
use Rattle.std.specs.List.{list_any}
use Rattle.asm_formats.specs.asm_group.declared.Mode.{Mode}
use Rattle.asm_formats.specs.asm_group.declared.Mode.TheVariants.{Offline}
use Rattle.asm_formats.specs.Sets.{elements, has_bit}
use Rattle.asm_formats.specs.Status.{Entry, Status}

-- more than half of the disks of a set
abbrev pub majority_of : ℕ → ℕ
majority_of set = length (elements set) / 2 + 1

-- the disk's entry has the mode, since that second
abbrev pub entry_with_mode : ℕ → Mode → ℕ → Entry → Entry
entry_with_mode disk mode since e = if e.number == disk then record e { mode = mode; since = since } else e

abbrev pub status_with_mode : Status → ℕ → Mode → ℕ → Status
status_with_mode r disk mode since = record r { entries = map (entry_with_mode disk mode since) r.entries }

-- the disk's entry is Offline, since that second, for so many seconds until the disk is dropped
abbrev pub entry_with_offline : ℕ → ℕ → ℕ → Entry → Entry
entry_with_offline disk since repair e = if e.number == disk then record e { mode = Offline; since = since; repair = repair } else e

abbrev pub status_with_offline : Status → ℕ → ℕ → ℕ → Status
status_with_offline r disk since repair = record r { entries = map (entry_with_offline disk since repair) r.entries }

-- the disk has so many units
abbrev pub entry_with_units : ℕ → ℕ → Entry → Entry
entry_with_units disk units e = if e.number == disk then record e { units = units } else e

abbrev pub status_with_units : Status → ℕ → ℕ → Status
status_with_units r disk units = record r { entries = map (entry_with_units disk units) r.entries }

-- the disk is dropped after so many seconds offline
abbrev pub entry_with_repair : ℕ → ℕ → Entry → Entry
entry_with_repair disk repair e = if e.number == disk then record e { repair = repair } else e

abbrev pub status_with_repair : Status → ℕ → ℕ → Status
status_with_repair r disk repair = record r { entries = map (entry_with_repair disk repair) r.entries }

-- ---- a disk more, and a disk less

-- an entry in its place among entries by number: the lesser number comes first, and the greater goes on
abbrev pub entries_with : Entry → List Entry → List Entry
entries_with e [] = e ∷ []
entries_with e (x ∷ xs) = if nat_lt e.number x.number then e ∷ entries_with x xs else x ∷ entries_with e xs

abbrev pub status_with_entry : Status → Entry → Status
status_with_entry r e = record r { entries = entries_with e r.entries }

abbrev pub status_without_entry : Status → ℕ → Status
status_without_entry r disk = record r { entries = filter (λ (e : Entry). not (e.number == disk)) r.entries }

-- the disk is in one of the record's sets
abbrev pub IsInSomeSet : Status → ℕ → Type 0
IsInSomeSet r disk = (has_bit r.holders disk ≡ true) ⊎ ((has_bit r.next_holders disk ≡ true) ⊎ (has_bit r.directories disk ≡ true))

abbrev pub has_failgroup : List Entry → ℕ → Bool
has_failgroup es n = list_any (λ (e : Entry). e.failgroup == n) es

-- the least number from n on that is no entry's failure group, of so many that are tried
abbrev pub free_from : ℕ → ℕ → List Entry → ℕ
free_from zero n es = n
free_from (suc tries) n es = if has_failgroup es n then free_from tries (n + 1) es else n

-- Of numbers from 0 on, one for each entry and one more, one is free.
abbrev pub least_free_failgroup : List Entry → ℕ
least_free_failgroup es = free_from (length es) 0 es

-- ---- partners

abbrev pub entry_with_partners : Entry → ℕ → Entry
entry_with_partners e partners = record e { partners = partners }

-- each entry has the set at its place as its partners
abbrev pub entries_with_partners : List Entry → List ℕ → List Entry
entries_with_partners (e ∷ es) (s ∷ sets) = entry_with_partners e s ∷ entries_with_partners es sets
entries_with_partners es sets = []

abbrev pub status_with_partners : Status → List ℕ → Status
status_with_partners r sets = record r { entries = entries_with_partners r.entries sets }

-- the first record of a new group
abbrev pub first_status : ℕ → ℕ → ℕ → ℕ → List Entry → Status
first_status id births holders directories entries =
    record { id = id; epoch = 1; turn = 1; gone = false; births = births; holders = holders; next_holders = 0; directories = directories; entries = entries }

-- no disk's entry: Offline, without partners, each number 0
abbrev pub blank_entry : Entry
blank_entry = record { number = 0; birth = 0; mode = Offline; failgroup = 0; quorum = false; units = 0; since = 0; repair = 0; partners = 0 }
