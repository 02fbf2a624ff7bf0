-- The partner table: which disks hold each other's copies.
use Rattle.std.specs.Prelude.{◌≡◌, ℕ, Bool, ◌&&◌, ◌||◌, not, List, [], ◌∷◌, ◌++◌, map, filter, length, if◌then◌else◌, nat_lt, ◌==◌, fold}
use Rattle.std.specs.List.{list_any, range_with_len}
use Rattle.asm_formats.specs.Status.{Entry}
use Rattle.asm_formats.specs.Sets.{has_bit, most_disks}
use Rattle.asm_formats.specs.Among.{IsAmong}
use Rattle.asm_placement.specs.Modes.{stays}
use Rattle.asm_placement.specs.DiskSets.{set_of}

-- the regular disks that stay in the group
abbrev pub table_disks : List Entry → List Entry
table_disks entries = filter (λ (e : Entry). not e.quorum && stays e.mode) entries

abbrev pub Pair : Type 0
Pair = Entry × Entry

abbrev pub are_separate : Entry → Entry → Bool
are_separate a b = not (a.failgroup == b.failgroup)

-- each disk with each later one of another failure group
abbrev pub pairs : List Entry → List Pair
pairs [] = []
pairs (a ∷ es) = map (λ b. (a, b)) (filter (are_separate a) es) ++ pairs es

-- partners at most
abbrev pub most_partners : ℕ
most_partners = 8

abbrev pub touches : ℕ → Pair → Bool
touches d p = (p.0.number == d) || (p.1.number == d)

abbrev pub partner_count : List Pair → ℕ → ℕ
partner_count table d = length (filter (touches d) table)

-- the disk has a partner in the failure group
abbrev pub has_partner_in : List Pair → ℕ → ℕ → Bool
has_partner_in table d failgroup =
    list_any (λ p. ((p.0.number == d) && (p.1.failgroup == failgroup)) || ((p.1.number == d) && (p.0.failgroup == failgroup))) table

unfoldable pub are_partners : List Pair → ℕ → ℕ → Bool
are_partners table a b = list_any (λ p. ((p.0.number == a) && (p.1.number == b)) || ((p.0.number == b) && (p.1.number == a))) table

abbrev pub both_have_room : List Pair → Pair → Bool
both_have_room table p = nat_lt (partner_count table p.0.number) most_partners && nat_lt (partner_count table p.1.number) most_partners

-- first a pair is added where one of the two has no partner in the other's group
abbrev pub first_pass : List Pair → Pair → List Pair
first_pass table p =
    if both_have_room table p && (not (has_partner_in table p.0.number p.1.failgroup) || not (has_partner_in table p.1.number p.0.failgroup))
    then p ∷ table else table

-- then each pair for which both have room
abbrev pub second_pass : List Pair → Pair → List Pair
second_pass table p = if both_have_room table p && not (are_partners table p.0.number p.1.number) then p ∷ table else table

-- the table, from the entries by ascending number
unfoldable pub partners : List Entry → List Pair
partners entries =
    let all = pairs (table_disks entries) in
    fold second_pass (fold first_pass [] all) all

-- the partners of a disk, as a set
unfoldable pub partner_set : List Entry → ℕ → ℕ
partner_set entries d = set_of (filter (are_partners (partners entries) d) (range_with_len 0 most_disks))

-- the entries' sets of partners are those of the table
abbrev pub HasPartners : List Entry → Type 0
HasPartners entries = (e : Entry) (d : ℕ) → IsAmong entries e → has_bit e.partners d ≡ are_partners (partners entries) e.number d

-- the entries with the partners that the table gives them
abbrev pub with_partners : List Entry → List Entry
with_partners entries = map (λ (e : Entry). record e { partners = partner_set entries e.number }) entries
