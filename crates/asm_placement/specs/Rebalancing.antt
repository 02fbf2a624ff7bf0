-- The next move of a rebalance.
use Rattle.std.specs.Prelude.{◌≡◌, ℕ, Bool, ◌&&◌, ◌||◌, not, List, [], ◌∷◌, if◌then◌else◌, Option, Some, None}
use Rattle.std.specs.Option.{is_none, option_map, option_or, unwrap_or}
use Rattle.asm_formats.specs.asm_group.Shape.{Shape}
use Rattle.asm_formats.specs.Status.{Status, Entry}
use Rattle.asm_formats.specs.Items.{Item, Home}
use Rattle.asm_placement.specs.Modes.{is_online}
use Rattle.asm_placement.specs.TableDisks.{status_target, directory_target}
use Rattle.asm_placement.specs.Space.{is_above, is_below}
use Rattle.asm_placement.specs.Choices.{replacement, replacement_on}
use Rattle.asm_placement.specs.Copies.{Copy, home, units, all_copies, entry_at_home, is_on, is_marked, has_source, has_other_source, wants_fill, wants_shift}

pub data Move : Type 0 where
  -- the copy is written anew in place
  recopy : (f i copy : ℕ) → Move
  -- an absent copy, or one on a Forced disk, gets this home
  fill : (f i copy : ℕ) → Home → Move
  -- a copy moves to this home
  shift : (f i copy : ℕ) → Home → Move
  -- the disk gets a directory copy
  directory : ℕ → Move
  -- the status tables move to this set of disks
  tables : ℕ → Move

pub data Next : Type 0 where
  move : Move → Next
  done : Next
  lacks_space : (f i : ℕ) → Next
  lost_extent : (f i : ℕ) → Next

-- what the first copy that says something says
abbrev pub first_of : {A : Type 0} → (Copy → Option A) → List Copy → Option A
first_of says [] = None
first_of says (x ∷ xs) = option_or (says x) (first_of says xs)

abbrev pub option_when : {A : Type 0} → Bool → Option A → Option A
option_when b o = if b then o else None

-- 1. a marked copy on an Online disk, with a usable copy elsewhere
abbrev pub next_recopy : List Entry → List Item → List Copy → Option Next
next_recopy es items all = first_of (λ x. option_when (is_marked items x && is_on is_online es x && has_other_source es items all x) (Some (move (recopy x.file x.index x.copy)))) all

-- a new home for the copy
abbrev pub new_home : Shape → List Entry → List Item → Copy → Option Home
new_home s es items x = replacement s es items (units s x) x.copy x.homes

-- 2. an absent copy or one on a Forced disk, with a usable copy and a disk that can take it
abbrev pub next_fill : Shape → List Entry → List Item → List Copy → Option Next
next_fill s es items all = first_of (λ x. option_when (wants_fill es x && has_source es items all x) (option_map (λ h. move (fill x.file x.index x.copy h)) (new_home s es items x))) all

-- 3. in the same way, a copy on a Dropping disk or a doubled copy
abbrev pub next_shift : Shape → List Entry → List Item → List Copy → Option Next
next_shift s es items all = first_of (λ x. option_when (wants_shift es x && has_source es items all x) (option_map (λ h. move (shift x.file x.index x.copy h)) (new_home s es items x))) all

-- 4. a directory copy
abbrev pub next_directory : Shape → Status → Option Next
next_directory s r = option_map (λ d. move (directory d)) (directory_target s.kind r)

-- 5. the status tables
abbrev pub next_tables : Shape → Status → Option Next
next_tables s r = option_map (λ to. move (tables to)) (status_target s.kind r)

-- 6. an extent without a usable copy
abbrev pub next_lost : List Entry → List Item → List Copy → Option Next
next_lost es items all = first_of (λ x. option_when (not (has_source es items all x)) (Some (lost_extent x.file x.index))) all

-- 7. an extent whose copy no disk can take
abbrev pub next_no_space : Shape → List Entry → List Item → List Copy → Option Next
next_no_space s es items all = first_of (λ x. option_when ((wants_fill es x || wants_shift es x) && is_none (new_home s es items x)) (Some (lacks_space x.file x.index))) all

-- the home to which a copy shifts to balance the disks: from a disk above its share to one below
abbrev pub above_or_none : Shape → List Entry → List Item → Copy → Option Entry → Option Home
above_or_none s es items x None = None
above_or_none s es items x (Some e) =
    option_when (is_above s items es (units s x) e) (replacement_on (is_below s items es (units s x)) s es items (units s x) x.copy x.homes)

unfoldable pub balancing : Shape → List Entry → List Item → Copy → Option Home
balancing s es items x = above_or_none s es items x (entry_at_home es (home x))

-- 8. a balancing shift
abbrev pub next_balancing : Shape → List Entry → List Item → List Copy → Option Next
next_balancing s es items all = first_of (λ x. option_map (λ h. move (shift x.file x.index x.copy h)) (balancing s es items x)) all

-- the first of these that there is, else 9. done
unfoldable pub next : Shape → Status → List Item → Next
next s r items =
    let es = r.entries in
    let all = all_copies items in
    unwrap_or (option_or (next_recopy es items all) (option_or (next_fill s es items all) (option_or (next_shift s es items all) (option_or (next_directory s r)
    (option_or (next_tables s r) (option_or (next_lost es items all) (option_or (next_no_space s es items all) (next_balancing s es items all)))))))) done

-- no copy can be shifted from a disk above its share to one below
abbrev pub IsBalanced : Shape → List Entry → List Item → Type 0
IsBalanced s es items = next_balancing s es items (all_copies items) ≡ None
