-- What holds of every partner table.
use Rattle.std.specs.Prelude.{◌≡◌, ℕ, ◌<◌, ◌≤◌, false, List}
use Rattle.asm_formats.specs.Sets.{has_bit}
use Rattle.asm_formats.specs.Status.{Entry}
use Rattle.asm_formats.specs.Among.{IsAmong}
use Rattle.asm_placement.specs.Partners.{Pair, table_disks, partner_count, are_partners, most_partners, partners, partner_set}

abbrev pub PartnersAreSymmetric : Type 0
PartnersAreSymmetric = (entries : List Entry) (a b : ℕ) → are_partners (partners entries) a b ≡ are_partners (partners entries) b a

-- partners are regular disks that stay, of different failure groups
abbrev pub PartnersCross : Type 0
PartnersCross =
    (entries : List Entry) (p : Pair) → IsAmong (partners entries) p
    → IsAmong (table_disks entries) p.0 × IsAmong (table_disks entries) p.1 × (p.0.failgroup ≡ p.1.failgroup → ⊥)

-- each disk has eight partners at most
abbrev pub PartnersAreFew : Type 0
PartnersAreFew = (entries : List Entry) (d : ℕ) → partner_count (partners entries) d ≤ most_partners

-- Where a disk has fewer than eight partners, and another failure group has a disk that isn't one of them, that disk has eight.
abbrev pub PartnersAreSpread : Type 0
PartnersAreSpread =
    (entries : List Entry) (a b : Entry) → IsAmong (table_disks entries) a → IsAmong (table_disks entries) b → (a.failgroup ≡ b.failgroup → ⊥)
    → partner_count (partners entries) a.number < most_partners → are_partners (partners entries) a.number b.number ≡ false
    → partner_count (partners entries) b.number ≡ most_partners

-- the set of partners is that of the table
abbrev pub PartnerSetsAreTheTable : Type 0
PartnerSetsAreTheTable = (entries : List Entry) (d k : ℕ) → k < 64 → has_bit (partner_set entries d) k ≡ are_partners (partners entries) d k
