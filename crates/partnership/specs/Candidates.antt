-- Where new copies go, by the disks' entries and maps of units alone.
use Rattle.std.specs.Prelude.{ℕ, zero, suc, ◌+◌, ◌-◌, ◌*◌, Bool, true, false, ◌&&◌, ◌||◌, not, List, [], ◌∷◌, length, map, filter, if◌then◌else◌, nat_lt, nat_le, ◌==◌, Option, Some, None}
use Rattle.std.specs.List.{range_with_len, list_all, list_any, find, cons_option, slice_get}
use Rattle.std.specs.Option.{is_some, option_and_then, option_map}
use Rattle.allocator.specs.asm_base.Homes.{first_home, second_home, third_home}
use Rattle.asm_formats.specs.Sets.{has_bit}
use Rattle.asm_formats.specs.Status.{Entry, entry_of}
use Rattle.asm_formats.specs.Items.{Home, Homes}
use Rattle.allocator.specs.UnitMaps.{UnitMap, is_free, total_of, used_of}
use Rattle.asm_placement.specs.Modes.{is_target}
use Rattle.asm_placement.specs.DiskSets.{is_among, distinct_failgroups}

-- ---- room

abbrev pub is_free_from : UnitMap → ℕ → ℕ → Bool
is_free_from m n at = list_all (is_free m) (range_with_len at n)

-- the lowest run of n free user units
unfoldable pub lowest : ℕ → UnitMap → Option ℕ
lowest n m = find (is_free_from m n) (range_with_len m.first (m.units + 1 - (m.first + n)))

-- A disk that may take a copy: its entry, its used and its user units, and where the copy would go.
pub record Candidate : Type 0 where
  pub entry : Entry
  pub used : ℕ
  pub total : ℕ
  pub home : Option Home

-- the unit of a home
abbrev pub unit_of : Option Home → ℕ
unit_of None = 0
unit_of (Some h) = h.unit

-- the home of a copy of n units on a disk: its lowest run
abbrev pub lowest_home : ℕ → Entry → UnitMap → Option Home
lowest_home n e m = option_map (λ u. record { disk = e.number; unit = u }) (lowest n m)

-- the disk, where it may take a copy of n units: Online, regular and with room
unfoldable pub candidate : ℕ → Entry → UnitMap → Option Candidate
candidate n e m = if is_target e && is_some (lowest n m) then Some (record { entry = e; used = used_of m; total = total_of m; home = lowest_home n e m }) else None

-- the disk, where the copy would begin at this unit
abbrev pub candidate_from : Entry → UnitMap → ℕ → Candidate
candidate_from e m u = record { entry = e; used = used_of m; total = total_of m; home = Some (record { disk = e.number; unit = u }) }

-- the same, where the disk's map stands at the place of its number
unfoldable pub candidate_at : ℕ → Entry → List UnitMap → Option Candidate
candidate_at n e ms = option_and_then (candidate n e) (slice_get ms e.number)

-- the disks that may take a copy of n units, by their entries, and by maps each at the place of its disk's number
abbrev pub candidates : ℕ → List Entry → List UnitMap → List Candidate
candidates n [] ms = []
candidates n (e ∷ es) ms = cons_option (candidate_at n e ms) (candidates n es ms)

-- ---- the fuller-last order

-- a is tried before b: it is less full, by cross products, or as full and of a lower number
unfoldable pub is_less_full : Candidate → Candidate → Bool
is_less_full a b = nat_lt (a.used * b.total) (b.used * a.total) || ((a.used * b.total == b.used * a.total) && nat_lt a.entry.number b.entry.number)

abbrev pub earlier_candidate : Candidate → Option Candidate → Option Candidate
earlier_candidate c None = Some c
earlier_candidate c (Some best) = if is_less_full best c then Some best else Some c

-- the one of these that is tried first
abbrev pub candidate_tried_first : List Candidate → Option Candidate
candidate_tried_first [] = None
candidate_tried_first (c ∷ cs) = earlier_candidate c (candidate_tried_first cs)

-- ---- homes for a new extent

abbrev pub entries : List Candidate → List Entry
entries cs = map (λ (c : Candidate). c.entry) cs

-- those whose entries pass a test
abbrev pub among : (Entry → Bool) → List Candidate → List Candidate
among test cs = filter (λ (c : Candidate). test c.entry) cs

abbrev pub is_disk_in_set : ℕ → Entry → Bool
is_disk_in_set set e = has_bit set e.number

abbrev pub is_outside : List ℕ → Entry → Bool
is_outside taken e = not (is_among taken e.failgroup)

-- in how many failure groups they lie
abbrev pub group_count : List Candidate → ℕ
group_count cs = length (distinct_failgroups (entries cs))

-- it has partners for the other copies among these
unfoldable pub may_be_first_candidate : List Candidate → ℕ → Entry → Bool
may_be_first_candidate cs copies e = nat_le copies (group_count (among (is_disk_in_set e.partners) cs) + 1)

-- so many disks in turn, each the first in order of those whose failure group isn't taken yet
abbrev pub candidates_in_turn : List Candidate → List ℕ → ℕ → List Candidate
candidates_in_turn cs taken zero = []
candidates_in_turn cs taken (suc k) = next (λ (c : Candidate). c ∷ candidates_in_turn cs (c.entry.failgroup ∷ taken) k) (candidate_tried_first (among (is_outside taken) cs))
  where
    next : (Candidate → List Candidate) → Option Candidate → List Candidate
    next go None = []
    next go (Some c) = go c

abbrev pub with_others : List Candidate → ℕ → Candidate → List Candidate
with_others cs copies c = c ∷ candidates_in_turn (among (is_disk_in_set c.entry.partners) cs) (c.entry.failgroup ∷ []) (copies - 1)

-- the disks of a new extent's copies: the first, and partners of it in turn
abbrev pub chosen_candidates : List Candidate → ℕ → Option (List Candidate)
chosen_candidates cs copies = option_map (with_others cs copies) (candidate_tried_first (among (may_be_first_candidate cs copies) cs))

abbrev pub homes : List Candidate → Homes
homes cs = map (λ (c : Candidate). c.home) cs

-- the homes of three copies at most
abbrev pub three : Homes → Homes
three hs = first_home hs ∷ second_home hs ∷ third_home hs ∷ []

-- the homes of a new extent's copies, or none
abbrev pub chosen_homes : List Candidate → ℕ → Option Homes
chosen_homes cs copies = option_map (λ ds. three (homes ds)) (chosen_candidates cs copies)

-- ---- a copy in place of one of an extent's copies

abbrev pub lies_on : ℕ → Home → Bool
lies_on d h = h.disk == d

abbrev pub has_entry_of_failgroup : ℕ → Option Entry → Bool
has_entry_of_failgroup g None = false
has_entry_of_failgroup g (Some e) = e.failgroup == g

-- the home's disk is of the failure group
abbrev pub lies_in_group : List Entry → ℕ → Home → Bool
lies_in_group es g h = has_entry_of_failgroup g (entry_of es h.disk)

abbrev pub has_partner : ℕ → Option Entry → Bool
has_partner d None = false
has_partner d (Some e) = has_bit e.partners d

-- the disk is a partner of that of the first kept home, or there is none
abbrev pub is_partner_of_kept : List Entry → List Home → ℕ → Bool
is_partner_of_kept es [] d = true
is_partner_of_kept es (h ∷ hs) d = has_partner d (entry_of es h.disk)

-- the disk may take a copy of an extent with these copies, of which some are kept
unfoldable pub may_take : List Entry → List Home → List Home → Entry → Bool
may_take es kept holders e =
    is_target e && not (list_any (lies_on e.number) holders)
    && not (list_any (lies_in_group es e.failgroup) kept)
    && is_partner_of_kept es kept e.number

-- so may the disk of a number, where it has an entry
abbrev pub may_take_at : List Entry → List Home → List Home → Option Entry → Bool
may_take_at es kept holders None = false
may_take_at es kept holders (Some e) = may_take es kept holders e

-- the disk is of the set, where one is given
abbrev pub is_allowed : Option ℕ → Entry → Bool
is_allowed None e = true
is_allowed (Some set) e = is_disk_in_set set e

abbrev pub may_take_of : Option ℕ → List Entry → List Home → List Home → Entry → Bool
may_take_of on es kept holders e = is_allowed on e && may_take es kept holders e

abbrev pub candidate_home : Candidate → Option Home
candidate_home c = c.home

-- the home of the copy: on the first of the disks that may take it
abbrev pub chosen_copy : List Entry → List Home → List Home → List Candidate → Option Home
chosen_copy es kept holders cs = option_and_then candidate_home (candidate_tried_first (among (may_take es kept holders) cs))

-- the same on a disk of the set, where one is given
abbrev pub chosen_copy_of : Option ℕ → List Entry → List Home → List Home → List Candidate → Option Home
chosen_copy_of on es kept holders cs = option_and_then candidate_home (candidate_tried_first (among (may_take_of on es kept holders) cs))
