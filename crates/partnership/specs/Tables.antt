-- The passes by which the partner table is made.
use Rattle.std.specs.Prelude.{ℕ, ◌-◌, Bool, ◌&&◌, ◌||◌, not, List, filter, if◌then◌else◌}
use Rattle.std.specs.List.{range_with_len}
use Rattle.asm_formats.specs.Status.{Entry}
use Rattle.asm_placement.specs.Modes.{stays}
use Rattle.asm_placement.specs.DiskSets.{set_of}
use Rattle.asm_placement.specs.Partners.{Pair, are_separate, first_pass, second_pass, has_partner_in, are_partners}
use Rattle.partnership.specs.declared.partner_table.Pass.{Pass}
use Rattle.partnership.specs.declared.partner_table.Pass.TheVariants.{First, Second}

-- what a pass makes of a pair
abbrev pub step : Pass → List Pair → Pair → List Pair
step First table p = first_pass table p
step Second table p = second_pass table p

-- a pass wants the pair, if both have room
abbrev pub is_wanted : Pass → List Pair → Pair → Bool
is_wanted First table p = not (has_partner_in table p.0.number p.1.failgroup) || not (has_partner_in table p.1.number p.0.failgroup)
is_wanted Second table p = not (are_partners table p.0.number p.1.number)

abbrev pub is_table_disk : Entry → Bool
is_table_disk e = not e.quorum && stays e.mode

-- what a pass makes of two disks
abbrev pub met : Pass → Entry → List Pair → Entry → List Pair
met pass a table b = if is_table_disk b && are_separate a b then step pass table (a, b) else table

-- a disk's partners of a number from k on, as a set
unfoldable pub partners_from : List Pair → ℕ → ℕ → ℕ
partners_from table d k = set_of (filter (are_partners table d) (range_with_len k (64 - k)))
