-- Worked rebalances and choices of homes.
use Rattle.std.specs.Prelude.{◌≡◌, ℕ, zero, suc, ◌+◌, ◌/◌, Bool, true, false, ◌&&◌, not, List, [], ◌∷◌, ◌++◌, ◌==◌, map, take, replicate, unwrap_or, Option, Some, None, IsTrue, if◌then◌else◌}
use Rattle.std.specs.List.{list_all, range_with_len}
use Rattle.std.specs.Bool.{beq}
use Rattle.asm_formats.specs.asm_group.declared.GroupKind.TheVariants.{External, Normal, High}
use Rattle.asm_formats.specs.asm_group.declared.Stripe.TheVariants.{Coarse}
use Rattle.asm_formats.specs.asm_group.declared.Mode.{Mode}
use Rattle.asm_formats.specs.asm_group.declared.Mode.TheVariants.{Online, Dropping, Forced}
use Rattle.asm_formats.specs.asm_group.Shape.{Shape}
use Rattle.asm_formats.specs.Status.{Status, Entry}
use Rattle.asm_formats.specs.Items.{Item, file_item, chunk_item, Home, Homes}
use Rattle.asm_placement.specs.Partners.{partners, are_partners, with_partners}
use Rattle.asm_placement.specs.TableDisks.{table_set, directory_set}
use Rattle.asm_placement.specs.Choices.{homes_for}
use Rattle.asm_placement.specs.Rebalancing.{Move, Next, move, done, lacks_space, shift, directory, tables, next}
use Rattle.asm_placement.specs.Moves.{record_after, items_after}

-- a NORMAL group with units of 1 MB: 9 units are reserved
abbrev pub usual : Shape
usual = record { kind = Normal; au = 1048576; sector = 512; step = 20000; dir_blocks = 1024 }

abbrev pub disk_entry : ℕ → ℕ → Bool → ℕ → Mode → Entry
disk_entry d failgroup quorum units mode = record { number = d; birth = d + 1; mode = mode; failgroup = failgroup; quorum = quorum; units = units; since = 0; repair = 0; partners = 0 }

-- ---- tables and directory copies of creations

abbrev pub single : ℕ → Entry
single d = disk_entry d d false 64 Online

-- a failure group of disks 0 and 1, one of disk 2, and a quorum group of disk 3
abbrev pub quorum_group : List Entry
quorum_group = disk_entry 0 0 false 64 Online ∷ disk_entry 1 0 false 64 Online ∷ disk_entry 2 1 false 64 Online ∷ disk_entry 3 2 true 64 Online ∷ []

abbrev pub singles : ℕ → List Entry
singles n = map single (range_with_len 0 n)

-- holders 0, 2, 3 and directory copies 0, 2 with the quorum group; 0, 1, 2 of each of four disks; five tables of five disks, three of four
pub record CreationRow : Type 0 where
  pub quorum_holders : table_set Normal quorum_group ≡ 13
  pub quorum_directories : directory_set Normal quorum_group ≡ 5
  pub four_holders : table_set Normal (singles 4) ≡ 7
  pub four_directories : directory_set Normal (singles 4) ≡ 7
  pub external_holders : table_set External (singles 2) ≡ 1
  pub external_directories : directory_set External (singles 2) ≡ 1
  pub two_holders : table_set Normal (singles 2) ≡ 1
  pub high_five : table_set High (singles 5) ≡ 31
  pub high_four : table_set High (singles 4) ≡ 7

-- ---- four disks, each a failure group of its own; disk d in a mode

abbrev pub four_with : ℕ → ℕ → Mode → List Entry
four_with units d mode = with_partners (map (λ k. disk_entry k k false units (if k == d then mode else Online)) (range_with_len 0 4))

abbrev pub four : List Entry
four = four_with 64 0 Online

-- each disk is a partner of each other; of a dropping disk none is
abbrev pub table_is : List Entry → (ℕ → ℕ → Bool) → Bool
table_is entries expected = list_all (λ a. list_all (λ b. beq (are_partners (partners entries) a b) (expected a b)) (range_with_len 0 4)) (range_with_len 0 4)

pub record PartnersRow : Type 0 where
  pub all : IsTrue (table_is four (λ a b. not (a == b)))
  pub as_sets : map (λ (e : Entry). e.partners) four ≡ 14 ∷ 13 ∷ 11 ∷ 7 ∷ []
  pub without_three : IsTrue (table_is (four_with 64 3 Dropping) (λ a b. not (a == b) && not (a == 3) && not (b == 3)))
  pub without_three_as_sets : map (λ (e : Entry). e.partners) (four_with 64 3 Dropping) ≡ 6 ∷ 5 ∷ 3 ∷ 0 ∷ []

-- ---- mirrored files on them

abbrev pub on : ℕ → ℕ → Option Home
on d u = Some (record { disk = d; unit = u })

abbrev pub homes_on_two : ℕ → ℕ → ℕ → ℕ → Homes
homes_on_two d u e v = on d u ∷ on e v ∷ None ∷ []

abbrev pub file_items : ℕ → ℕ → List Homes → List Item
file_items f copies homes = file_item f (record { copies = copies; stripe = Coarse; type_name = []; size = 0; incarnation = 1; system = 1; alias = 0 }) ∷ chunk_item f 0 homes ∷ []

-- extents of a first mirrored file lie on disks 0 and 1 and on disks 2 and 3 in turn
pub record HomesRow : Type 0 where
  pub first : homes_for usual (file_items 256 2 []) four 2 1 ≡ Some (on 0 9 ∷ on 1 9 ∷ [])
  pub second : homes_for usual (file_items 256 2 (homes_on_two 0 9 1 9 ∷ [])) four 2 1 ≡ Some (on 2 9 ∷ on 3 9 ∷ [])
  pub third : homes_for usual (file_items 256 2 (homes_on_two 0 9 1 9 ∷ homes_on_two 2 9 3 9 ∷ [])) four 2 1 ≡ Some (on 0 10 ∷ on 1 10 ∷ [])
  pub one_copy : homes_for usual (file_items 256 1 []) four 1 1 ≡ Some (on 0 9 ∷ [])
  pub five_copies : homes_for usual (file_items 256 2 []) four 5 1 ≡ None

-- so many extents from unit u on, on disks 0 and 1 and on disks 2 and 3 in turn
abbrev pub alternating : ℕ → ℕ → List Homes
alternating u zero = []
alternating u (suc n) = homes_on_two 0 u 1 u ∷ homes_on_two 2 u 3 u ∷ alternating (u + 1) n

abbrev pub status_with : List Entry → Status
status_with entries = record { id = 1; epoch = 1; turn = 1; gone = false; births = 9; holders = 7; next_holders = 0; directories = 7; entries = entries }

-- ---- whole rebalances: how many moves there are, of at most so many, and the end

pub record Ending : Type 0 where
  pub moves : ℕ
  pub end : Next
  pub status : Status
  pub items : List Item

abbrev pub with_one_move_more : Ending → Ending
with_one_move_more e = record e { moves = e.moves + 1 }

abbrev pub rebalanced : ℕ → Shape → Status → List Item → Ending
rebalanced zero s r items = record { moves = 0; end = next s r items; status = r; items = items }
rebalanced (suc most) s r items = by (λ m. rebalanced most s (record_after m r) (items_after m items)) (next s r items)
  where
    by : (Move → Ending) → Next → Ending
    by go (move m) = with_one_move_more (go m)
    by go other = record { moves = 0; end = other; status = r; items = items }

abbrev pub IsEndAfter : Ending → ℕ → Next → Type 0
IsEndAfter e moves end = (e.moves ≡ moves) × (e.end ≡ end)

-- A file of four extents. Disk 3 is dropped: two copies go, to disks 0 and 1.
pub record DropRow : Type 0 where
  pub first : next usual (status_with (four_with 64 3 Dropping)) (file_items 256 2 (alternating 9 2)) ≡ move (shift 256 1 1 (record { disk = 0; unit = 11 }))
  pub second : next usual (status_with (four_with 64 3 Dropping)) (file_items 256 2 (homes_on_two 0 9 1 9 ∷ homes_on_two 2 9 0 11 ∷ homes_on_two 0 10 1 10 ∷ homes_on_two 2 10 3 10 ∷ [])) ≡ move (shift 256 3 1 (record { disk = 1; unit = 11 }))
  pub all : IsEndAfter (rebalanced 9 usual (status_with (four_with 64 3 Dropping)) (file_items 256 2 (alternating 9 2))) 2 done

-- Disk 3 is dropped, one copy goes, and the disk is kept after all: one copy goes back to balance the disks.
abbrev pub UndropRow : Type 0
UndropRow =
    let begun = rebalanced 1 usual (status_with (four_with 64 3 Dropping)) (file_items 256 2 (alternating 9 2)) in
    IsEndAfter (rebalanced 9 usual (status_with four) begun.items) 1 done

-- A fifth disk comes, and takes one copy.
abbrev pub AddRow : Type 0
AddRow = IsEndAfter (rebalanced 9 usual (status_with (with_partners (singles 5))) (file_items 256 2 (alternating 9 2))) 1 done

-- Disk 0 is dropped, with a table and a directory copy: disk 3 takes the directory copy, and the tables move to disks 1, 2 and 3.
pub record TablesRow : Type 0 where
  pub directory_first : next usual (status_with (four_with 64 0 Dropping)) [] ≡ move (directory 3)
  pub then_tables : next usual (record (status_with (four_with 64 0 Dropping)) { directories = 15 }) [] ≡ move (tables 14)
  pub all : IsEndAfter (rebalanced 9 usual (status_with (four_with 64 0 Dropping)) []) 2 done
  -- next holders that stand come first, whatever is due
  pub next_holders_first : next usual (record (status_with four) { next_holders = 14 }) [] ≡ move (tables 14)
  -- a group that began with two disks has one holder, until it has three disks
  pub grown : next usual (record (status_with (with_partners (singles 3))) { holders = 1; directories = 7 }) [] ≡ move (tables 7)

-- Four disks with 16 user units, all but two of each used. Disk 3 is dropped: four copies go, and there is no space for extent 9.
-- Once the second file is removed, three copies go, and two more to balance the disks.
abbrev pub full_files : List Item
full_files = file_items 256 2 (alternating 9 7) ++ file_items 257 2 (alternating 16 7)

pub record FullDisksRow : Type 0 where
  pub stopped : IsEndAfter (rebalanced 20 usual (status_with (four_with 25 3 Dropping)) full_files) 4 (lacks_space 256 9)
  pub ended : IsEndAfter (rebalanced 20 usual (status_with (four_with 25 3 Dropping)) (take 2 (rebalanced 20 usual (status_with (four_with 25 3 Dropping)) full_files).items)) 5 done

-- ---- a usual day: eight disks in four failure groups, disk 7 in a mode

abbrev pub eight_with : Mode → List Entry
eight_with mode = with_partners (map (λ d. disk_entry d (d / 2) false 64 (if d == 7 then mode else Online)) (range_with_len 0 8))

abbrev pub three_homes_of : Homes → Homes
three_homes_of homes = take 3 (homes ++ replicate 3 None)

abbrev pub items_with_extent : ℕ → Homes → List Item → List Item
items_with_extent f homes [] = []
items_with_extent f homes (chunk_item g c hs ∷ items) = if f == g then chunk_item g c (hs ++ (homes ∷ [])) ∷ items else chunk_item g c hs ∷ items_with_extent f homes items
items_with_extent f homes (i ∷ items) = i ∷ items_with_extent f homes items

-- so many extents of a file, each with the homes that are chosen for it
abbrev pub extended : List Entry → ℕ → ℕ → ℕ → List Item → List Item
extended entries f copies zero items = items
extended entries f copies (suc n) items = extended entries f copies n (items_with_extent f (three_homes_of (unwrap_or (homes_for usual items entries copies 1) [])) items)

abbrev pub items_with_file : List Entry → ℕ → ℕ → ℕ → List Item → List Item
items_with_file entries f copies n items = extended entries f copies n (items ++ file_items f copies [])

-- 20 extents, 8 of three copies, and twice 8
abbrev pub usual_files : List Item
usual_files = items_with_file (eight_with Online) 259 2 8 (items_with_file (eight_with Online) 258 2 8 (items_with_file (eight_with Online) 257 3 8 (items_with_file (eight_with Online) 256 2 20 [])))

-- Tables and directory copies are on disks 0, 2 and 4. Disk 7 is lost: twelve copies are filled elsewhere, and one is shifted to balance the disks.
pub record UsualDayRow : Type 0 where
  pub holders : table_set Normal (eight_with Online) ≡ 21
  pub directories : directory_set Normal (eight_with Online) ≡ 21
  pub all : IsEndAfter (rebalanced 20 usual (record (status_with (eight_with Forced)) { holders = 21; directories = 21 }) usual_files) 13 done
