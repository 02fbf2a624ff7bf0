-- What holds of the homes that are chosen for a new extent.
use Rattle.std.specs.Prelude.{◌≡◌, ℕ, ◌<◌, Bool, true, ◌&&◌, not, List, [], ◌∷◌, map, length, Some, IsTrue}
use Rattle.std.specs.List.{list_all}
use Rattle.asm_formats.specs.asm_group.Shape.{Shape}
use Rattle.asm_formats.specs.Status.{Entry, ascends_from}
use Rattle.asm_formats.specs.Items.{Item, Homes}
use Rattle.asm_formats.specs.Among.{IsAmong}
use Rattle.asm_placement.specs.Modes.{is_target}
use Rattle.asm_placement.specs.DiskSets.{is_among, numbers}
use Rattle.asm_placement.specs.Partners.{HasPartners}
use Rattle.asm_placement.specs.Space.{has_room}
use Rattle.asm_placement.specs.Choices.{home_on, homes_for}

abbrev pub all_differ : List ℕ → Bool
all_differ [] = true
all_differ (n ∷ ns) = not (is_among ns n) && all_differ ns

abbrev pub failgroup_numbers : List Entry → List ℕ
failgroup_numbers es = map (λ (e : Entry). e.failgroup) es

-- so many homes, each on the lowest run of a disk of its own
pub record AreHomes (s : Shape) (items : List Item) (es : List Entry) (copies n : ℕ) (homes : Homes) : Type 0 where
  pub disks : List Entry
  pub homes_are : homes ≡ map (home_on s items n) disks
  pub enough : length disks ≡ copies
  -- the disks are Online and regular, have room, and are of different failure groups
  pub there : (e : Entry) → IsAmong disks e → IsAmong es e
  pub targets : IsTrue (list_all is_target disks)
  pub room : IsTrue (list_all (has_room s items n) disks)
  pub apart : IsTrue (all_differ (failgroup_numbers disks))

-- what is chosen are such homes, where the entries have the partners of their table
abbrev pub ChosenHomesAreApart : Type 0
ChosenHomesAreApart =
    (s : Shape) (items : List Item) (es : List Entry) (copies n : ℕ) (homes : Homes) → IsTrue (ascends_from 0 (numbers es)) → HasPartners es → 0 < copies
    → homes_for s items es copies n ≡ Some homes → AreHomes s items es copies n homes
