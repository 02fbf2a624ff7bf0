-- What one turn of a search does.
use Rattle.std.specs.Prelude.{ℕ, Bool, false, not, List, [], ◌∷◌, if◌then◌else◌, nat_le, ◌&&◌, ◌==◌, Option, Some, None}
use Rattle.std.specs.List.{list_any}
use Rattle.std.specs.Option.{option_and_then}
use Rattle.asm_formats.specs.Status.{Entry}
use Rattle.allocator.specs.UnitMaps.{UnitMap}
use Rattle.partnership.specs.Candidates.{Candidate, candidate_at, earlier_candidate, candidate_tried_first, among, is_disk_in_set, is_outside}

-- the disk, where it may take a copy and passes a test
unfoldable pub candidate_if : (Entry → Bool) → ℕ → Entry → List UnitMap → Option Candidate
candidate_if test n e ms = if test e then candidate_at n e ms else None

-- the first of those so far, with one more where there is one
abbrev pub with_next : Option Candidate → Option Candidate → Option Candidate
with_next None best = best
with_next (Some c) best = earlier_candidate c best

-- the disk is one of these, outside of the failure groups that are taken
abbrev pub is_free_partner : ℕ → List ℕ → Entry → Bool
is_free_partner set taken e = is_disk_in_set set e && is_outside taken e

-- the disks of the second and the third copy, by the partners of the first, which lies in failure group g
unfoldable pub second_of : List Candidate → ℕ → ℕ → Option Candidate
second_of cs g copies = if nat_le copies 1 then None else candidate_tried_first (among (is_outside (g ∷ [])) cs)

abbrev pub after_second : List Candidate → ℕ → Candidate → Option Candidate
after_second cs g c = candidate_tried_first (among (is_outside (c.entry.failgroup ∷ g ∷ [])) cs)

unfoldable pub third_of : List Candidate → ℕ → ℕ → Option Candidate → Option Candidate
third_of cs g copies second = if nat_le copies 2 then None else option_and_then (after_second cs g) second

-- the disk is of the failure group
abbrev pub is_candidate_of_failgroup : ℕ → Candidate → Bool
is_candidate_of_failgroup g c = c.entry.failgroup == g

-- it is there, and of a failure group of which none of the others is
abbrev pub is_new_group : List Candidate → Option Candidate → Bool
is_new_group cs None = false
is_new_group cs (Some c) = not (list_any (is_candidate_of_failgroup c.entry.failgroup) cs)

-- it is there, and of the failure group
abbrev pub has_candidate_of_failgroup : ℕ → Option Candidate → Bool
has_candidate_of_failgroup g None = false
has_candidate_of_failgroup g (Some c) = is_candidate_of_failgroup g c
