-- A change of entries that leaves numbers, failure groups and places in the table of partners leaves the partners, and partners made
-- anew are those of the table.
use Rattle.std.proofs.Common.{◌≡◌, ℕ, map, sym, ap, ◌∙◌}
use Rattle.asm_formats.specs.Sets.{has_bit}
use Rattle.asm_formats.specs.Status.{Entry}
use Rattle.asm_placement.specs.Partners.{are_partners, partners}
use Rattle.asm_placement.proofs.Membership.{map_among}
use Rattle.asm_placement.proofs.PartnersAnew.{changed_table, has_partners}
use Rattle.record_laws.specs.Changing.{TableIsMade, TableStays}

pub table_stays : TableStays
table_stays es change each has e d among =
    let x = map_among change es e among in
    let k = each x.0 x.1 in
    ap (λ (y : Entry). has_bit y.partners d) x.2 ∙ ap (λ (set : ℕ). has_bit set d) k.partners ∙ has x.0 d x.1
    ∙ sym (changed_table change es (λ y h. let j = each y h in record { number = j.number; failgroup = j.failgroup; quorum = j.quorum; stays = j.stays }) x.0.number d)
    ∙ ap (λ (n : ℕ). are_partners (partners (map change es)) n d) (sym (ap (λ (y : Entry). y.number) x.2 ∙ k.number))

pub table_is_made : TableIsMade
table_is_made = has_partners
