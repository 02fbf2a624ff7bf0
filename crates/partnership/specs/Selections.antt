-- Which of a group's disks are meant.
use Rattle.std.specs.Prelude.{ℕ, ◌<◌, Bool, ◌&&◌, not, List, All, ◌==◌}
use Rattle.asm_formats.specs.Sets.{has_bit}
use Rattle.asm_formats.specs.Status.{Entry}
use Rattle.asm_placement.specs.Modes.{is_online, stays, is_target}
use Rattle.partnership.specs.declared.disks.Which.{Which}
use Rattle.partnership.specs.declared.disks.Which.TheVariants.{Online, Quorum, Regular, Targets, Staying}

abbrev pub is_meant : Which → Entry → Bool
is_meant Online e = is_online e.mode
is_meant Quorum e = e.quorum
is_meant Regular e = not e.quorum
is_meant Targets e = is_target e
is_meant (Staying set) e = stays e.mode && has_bit set e.number

-- the disk lies in the failure group
abbrev pub lies_in : ℕ → Entry → Bool
lies_in g e = e.failgroup == g

-- a set may have each of the disks
abbrev pub FitInSet : List Entry → Type 0
FitInSet es = All (λ e. e.number < 64) es
