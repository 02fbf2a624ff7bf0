-- What each copy says at each stage of the search for the next move.
use Rattle.std.specs.Prelude.{◌≡◌, ℕ, Bool, ◌&&◌, ◌||◌, not, List, if◌then◌else◌, slice_get, unwrap_or, Option, Some, None}
use Rattle.std.specs.Option.{is_none, is_some, option_map, option_or}
use Rattle.asm_group.specs.Shape.{Shape}
use Rattle.asm_formats.specs.Status.{Status, Entry}
use Rattle.asm_formats.specs.Items.{Item, Home}
use Rattle.allocator.specs.UnitMaps.{UnitMap}
use Rattle.asm_placement.specs.Modes.{is_online}
use Rattle.asm_placement.specs.Copies.{Copy, home, all_copies, entry_at_home, is_on, is_marked, has_source, has_other_source, wants_fill, wants_shift}
use Rattle.asm_placement.specs.Rebalancing.{Next, move, recopy, fill, shift, done, lacks_space, lost_extent, first_of, option_when, new_home, balancing, next_directory, next_tables, next}
use Rattle.partnership.specs.Candidates.{candidates, chosen_copy, chosen_copy_of}
use Rattle.partnership.specs.UnitsOf.{held, homes_kept}
use Rattle.extent_copies.specs.declared.extent.Extent.{Extent}
use Rattle.rebalance.specs.declared.stages.Stage.{Stage}
use Rattle.rebalance.specs.declared.stages.Stage.TheVariants as stage
use Rattle.rebalance.specs.Sums.{Sums, is_above_at, below_set}
use Rattle.extent_copies.specs.Extents.{copy_of}
use Rattle.rebalance.specs.Extents.{is_marked_at, has_source_at, has_other_at}

-- among all copies of files, by the records
abbrev pub records_say : Stage → Shape → List Entry → List Item → List Copy → Copy → Option Next
records_say stage.Recopy s es items all x = option_when (is_marked items x && is_on is_online es x && has_other_source es items all x) (Some (move (recopy x.file x.index x.copy)))
records_say stage.Fill s es items all x = option_when (wants_fill es x && has_source es items all x) (option_map (λ h. move (fill x.file x.index x.copy h)) (new_home s es items x))
records_say stage.Shift s es items all x = option_when (wants_shift es x && has_source es items all x) (option_map (λ h. move (shift x.file x.index x.copy h)) (new_home s es items x))
records_say stage.Lost s es items all x = option_when (not (has_source es items all x)) (Some (lost_extent x.file x.index))
records_say stage.NoSpace s es items all x = option_when ((wants_fill es x || wants_shift es x) && is_none (new_home s es items x)) (Some (lacks_space x.file x.index))
records_say stage.Balance s es items all x = option_map (λ h. move (shift x.file x.index x.copy h)) (balancing s es items x)

-- what the first copy of all says at a stage
abbrev pub first_said_at_stage : Stage → Shape → List Entry → List Item → Option Next
first_said_at_stage at s es items = first_of (records_say at s es items (all_copies items)) (all_copies items)

-- the next move is what the first stage gives, with the directory copies and the status tables between
abbrev pub StagesAreNext : Type 0
StagesAreNext =
    (s : Shape) (r : Status) (items : List Item) →
    next s r items
    ≡ unwrap_or (option_or (first_said_at_stage stage.Recopy s r.entries items) (option_or (first_said_at_stage stage.Fill s r.entries items) (option_or (first_said_at_stage stage.Shift s r.entries items) (option_or (next_directory s r)
    (option_or (next_tables s r) (option_or (first_said_at_stage stage.Lost s r.entries items) (option_or (first_said_at_stage stage.NoSpace s r.entries items) (first_said_at_stage stage.Balance s r.entries items)))))))) done

-- ---- the same for copy k of an extent, by its homes and marks, maps of units and sums

-- the home that it gets in place of its own
abbrev pub home_for : List Entry → List UnitMap → Extent → ℕ → Option Home
home_for es ms x k = chosen_copy es (homes_kept es k x.homes) (held x.homes) (candidates x.units es ms)

abbrev pub home_below : List Entry → List UnitMap → Sums → Extent → ℕ → Option Home
home_below es ms t x k = chosen_copy_of (Some (below_set t x.units ms)) es (homes_kept es k x.homes) (held x.homes) (candidates x.units es ms)

abbrev pub below_if_above : List Entry → List UnitMap → Sums → Extent → ℕ → Option Entry → Option Home
below_if_above es ms t x k None = None
below_if_above es ms t x k (Some e) = if is_above_at t x.units (slice_get ms e.number) then home_below es ms t x k else None

abbrev pub balancing_at : List Entry → List UnitMap → Sums → Extent → ℕ → Option Home
balancing_at es ms t x k = below_if_above es ms t x k (entry_at_home es (home (copy_of x k)))

-- it lacks what the stage is about, whether or not a disk has room for another
abbrev pub is_due_at : Stage → List Entry → List UnitMap → Sums → Extent → ℕ → Bool
is_due_at stage.Recopy es ms t x k = is_marked_at x k && is_on is_online es (copy_of x k) && has_other_at es x k
is_due_at stage.Fill es ms t x k = wants_fill es (copy_of x k) && has_source_at es x
is_due_at stage.Shift es ms t x k = wants_shift es (copy_of x k) && has_source_at es x
is_due_at stage.Lost es ms t x k = not (has_source_at es x)
is_due_at stage.NoSpace es ms t x k = wants_fill es (copy_of x k) || wants_shift es (copy_of x k)
is_due_at stage.Balance es ms t x k = is_some (balancing_at es ms t x k)

-- what is said of it then
abbrev pub answer_at : Stage → List Entry → List UnitMap → Sums → Extent → ℕ → Option Next
answer_at stage.Recopy es ms t x k = Some (move (recopy x.id.file x.id.index k))
answer_at stage.Fill es ms t x k = option_map (λ h. move (fill x.id.file x.id.index k h)) (home_for es ms x k)
answer_at stage.Shift es ms t x k = option_map (λ h. move (shift x.id.file x.id.index k h)) (home_for es ms x k)
answer_at stage.Lost es ms t x k = Some (lost_extent x.id.file x.id.index)
answer_at stage.NoSpace es ms t x k = option_when (is_none (home_for es ms x k)) (Some (lacks_space x.id.file x.id.index))
answer_at stage.Balance es ms t x k = option_map (λ h. move (shift x.id.file x.id.index k h)) (balancing_at es ms t x k)

abbrev pub copy_says : Stage → List Entry → List UnitMap → Sums → Extent → ℕ → Option Next
copy_says at es ms t x k = option_when (is_due_at at es ms t x k) (answer_at at es ms t x k)
