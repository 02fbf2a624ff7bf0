-- Where new copies go.
use Rattle.std.specs.Prelude.{ℕ, zero, suc, ◌+◌, ◌-◌, Bool, true, false, ◌&&◌, ◌||◌, not, List, [], ◌∷◌, length, map, filter, if◌then◌else◌, nat_le, ◌==◌, Option, Some, None}
use Rattle.std.specs.List.{list_all}
use Rattle.std.specs.Option.{option_and_then, option_map}
use Rattle.asm_formats.specs.asm_group.Shape.{Shape}
use Rattle.asm_formats.specs.Sets.{has_bit}
use Rattle.asm_formats.specs.Status.{Entry, entry_of}
use Rattle.asm_formats.specs.Items.{Item, Home, Homes}
use Rattle.asm_placement.specs.Modes.{stays, is_target}
use Rattle.asm_placement.specs.DiskSets.{is_among, distinct_failgroups}
use Rattle.asm_placement.specs.Space.{lowest_run, has_room, tried_first}

-- the home of a copy of n units on a disk: its lowest run
abbrev pub home_on : Shape → List Item → ℕ → Entry → Option Home
home_on s items n e = option_map (λ u. record { disk = e.number; unit = u }) (lowest_run s items n e)

-- ---- homes for a new extent

-- the disk's partners that may take a copy of n units
abbrev pub partners_with_room : Shape → List Item → List Entry → ℕ → Entry → List Entry
partners_with_room s items es n e = filter (λ (f : Entry). is_target f && has_bit e.partners f.number && has_room s items n f) es

-- the disk may take the first of so many copies
abbrev pub may_be_first : Shape → List Item → List Entry → ℕ → ℕ → Entry → Bool
may_be_first s items es copies n e = is_target e && has_room s items n e && nat_le copies (length (distinct_failgroups (partners_with_room s items es n e)) + 1)

-- so many disks in turn, each the first in order of those whose failure group isn't taken yet
abbrev pub in_turn : Shape → List Item → List Entry → List ℕ → ℕ → List Entry
in_turn s items es taken zero = []
in_turn s items es taken (suc k) =
    next (λ (e : Entry). e ∷ in_turn s items es (e.failgroup ∷ taken) k) (tried_first s items (filter (λ (e : Entry). not (is_among taken e.failgroup)) es))
  where
    next : (Entry → List Entry) → Option Entry → List Entry
    next go None = []
    next go (Some e) = go e

-- the disks of a new extent's copies
unfoldable pub disks_for : Shape → List Item → List Entry → ℕ → ℕ → Option (List Entry)
disks_for s items es copies n =
    option_map (λ (e : Entry). e ∷ in_turn s items (partners_with_room s items es n e) (e.failgroup ∷ []) (copies - 1))
    (tried_first s items (filter (may_be_first s items es copies n) es))

-- the homes of so many copies of n units, or none
unfoldable pub homes_for : Shape → List Item → List Entry → ℕ → ℕ → Option Homes
homes_for s items es copies n = option_map (map (home_on s items n)) (disks_for s items es copies n)

-- ---- a copy in place of one of an extent's copies

-- the disk of a home, where it stays in the group
abbrev pub staying_disk : List Entry → Option Home → Option Entry
staying_disk es None = None
staying_disk es (Some h) = option_and_then (λ (e : Entry). if stays e.mode then Some e else None) (entry_of es h.disk)

-- the disks of the copies that are kept while copy number `replaced` is replaced
abbrev pub kept_from : List Entry → ℕ → ℕ → Homes → List Entry
kept_from es replaced copy [] = []
kept_from es replaced copy (h ∷ hs) = with_kept (staying_disk es h) (kept_from es replaced (suc copy) hs)
  where
    with_kept : Option Entry → List Entry → List Entry
    with_kept None rest = rest
    with_kept (Some e) rest = if copy == replaced then rest else e ∷ rest

abbrev pub kept_disks : List Entry → ℕ → Homes → List Entry
kept_disks es replaced homes = kept_from es replaced 0 homes

abbrev pub holds_copy : Homes → ℕ → Bool
holds_copy [] d = false
holds_copy (None ∷ hs) d = holds_copy hs d
holds_copy (Some h ∷ hs) d = (h.disk == d) || holds_copy hs d

-- a partner of the first kept disk, or any disk where none is kept
abbrev pub is_partner_of_first : List Entry → Entry → Bool
is_partner_of_first [] e = true
is_partner_of_first (k ∷ ks) e = has_bit k.partners e.number

-- the disk may take the place of a copy
unfoldable pub is_eligible : List Entry → ℕ → Homes → Entry → Bool
is_eligible es replaced homes e =
    is_target e && not (holds_copy homes e.number)
    && list_all (λ (k : Entry). not (k.failgroup == e.failgroup)) (kept_disks es replaced homes)
    && is_partner_of_first (kept_disks es replaced homes) e

-- the home that takes the place of a copy of n units: on the first eligible disk with room that passes a test
abbrev pub replacement_on : (Entry → Bool) → Shape → List Entry → List Item → ℕ → ℕ → Homes → Option Home
replacement_on test s es items n replaced homes =
    option_and_then (home_on s items n) (tried_first s items (filter (λ (e : Entry). is_eligible es replaced homes e && has_room s items n e && test e) es))

-- on the first eligible disk with room
unfoldable pub replacement : Shape → List Entry → List Item → ℕ → ℕ → Homes → Option Home
replacement s es items n replaced homes = replacement_on (λ e. true) s es items n replaced homes
