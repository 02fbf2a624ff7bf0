-- What is told of a copy once its log slots and its pages are read.
use Rattle.std.proofs.Common.{◌≡◌, ℕ, List, [], ◌++◌, Option, Some, None, sym, ap, ◌∙◌}
use Rattle.std.specs.Prelude.{if◌then◌else◌}
use Rattle.std.specs.Option.{is_some, option_map, option_or}
use Rattle.bay.specs.Image.{Image, Same}
use Rattle.bay.specs.State.{BayState, IsSound}
use Rattle.bay.specs.Moments.{Runs}
use Rattle.bay.proofs.Calls.{goes_on, stops}
use Rattle.bay.proofs.Images.{same-trans}
use Rattle.asm_group.specs.Names.{Bytes}
use Rattle.asm_formats.specs.Regions.{page_home}
use Rattle.asm_formats.specs.Damage.{directory_damage, log_damage}
use Rattle.change_directory.specs.declared.copy.DirCopy.{DirCopy}
use Rattle.change_directory.specs.declared.copy.LogSlot.{LogSlot}
use Rattle.change_directory.specs.declared.copy.LogSlot.TheVariants.{First, Second}
use Rattle.change_directory.specs.declared.loading.Pages.{Pages}
use Rattle.change_directory.specs.declared.open_log.OpenLog.{OpenLog}
use Rattle.change_directory.specs.declared.open_log.OpenLogs.{OpenLogs}
use Rattle.change_directory.specs.Places.{IsCopy, gate_of}
use Rattle.change_directory.specs.Changes.{copy_disk_bytes}
use Rattle.bay.specs.Told.{Told}
use Rattle.change_directory.specs.Loads.{IsLoaded, newest_slots, slot_in}
use Rattle.change_directory.specs.Slots.{ArePages, IsLogRead, IsPageDamage, all_due, all_filled, all_slots, damage_of, damaged_page, first_bad, has_slots, open_homes, slots_of_log}
use Rattle.change_directory.proofs.Runs.{same_disk}
use Rattle.change_directory.proofs.BlockRows.{blocks_same}
use Rattle.change_directory.proofs.LoadLaws.{damage_is, pages_are_loaded}
use Rattle.bay.proofs.Telling.{told_before, told_later}
use Rattle.change_directory.proofs.Telling.{IsSized, told_both, told_sized}

slot_same : (copy : DirCopy) (log : LogSlot) (read : Option OpenLog) (x y : Image) → Same x y → IsLogRead copy log read y → IsLogRead copy log read x
slot_same copy log read x y same is =
    let here = same_disk copy x y same in
    record {
      slots = is.slots ∙ ap (λ (b : Bytes). slot_in copy.dir_blocks b (gate_of copy log)) here;
      damage = is.damage ∙ ap (λ (b : Bytes). log_damage copy.dir_blocks b (gate_of copy log)) here;
    }

homes_same : (copy : DirCopy) (logs : OpenLogs) (x y : Image) → Same x y → open_homes copy logs y ≡ open_homes copy logs x
homes_same copy logs x y same =
    ap (λ (l : List Bytes). if is_some logs.newest then l else []) (blocks_same (x.byte copy.slot) (y.byte copy.slot) (λ k. same.byte copy.slot k) 10 copy.dir_blocks)

pages_same : (copy : DirCopy) (logs : OpenLogs) (pages : Pages) (x y : Image) → Same x y → ArePages copy logs pages y → ArePages copy logs pages x
pages_same copy logs pages x y same are =
    let here = homes_same copy logs x y same in
    record {
      number = are.number;
      blocks = are.blocks ∙ ap (all_filled (all_slots logs) 0) here;
      due = are.due ∙ ap (all_due (all_slots logs) 0) here;
      sound = sym (ap (first_bad (all_slots logs) 0) here) ∙ are.sound;
    }

damage_same : (copy : DirCopy) (logs : OpenLogs) (block : ℕ) (x y : Image) → Same x y → IsPageDamage copy logs block y → IsPageDamage copy logs block x
damage_same copy logs block x y same is = sym (ap (damaged_page (all_slots logs) 0) (homes_same copy logs x y same)) ∙ is

module _ (copy : DirCopy) (s m n t : BayState) {a c : ℕ → Type 0} (one : Runs a Same s m) (two : Runs a Same m n) (three : Runs c Same n t) (sound : IsSound s) (is : IsCopy s copy)
    (first second : Option OpenLog) (logs : OpenLogs) (order : all_slots logs ≡ newest_slots (slots_of_log first ++ slots_of_log second)) (newest : is_some logs.newest ≡ has_slots (all_slots logs))
    (first_told : Told s m (IsLogRead copy First first)) (second_told : Told m n (IsLogRead copy Second second)) where
  both_run : Runs a Same s n
  both_run = goes_on same-trans one (stops one) two

  abbrev Logs : Image → Type 0
  Logs image = IsLogRead copy First first image × IsLogRead copy Second second image

  logs_told : Told s t Logs
  logs_told =
      told_both s t (IsLogRead copy First first) (IsLogRead copy Second second) Logs (λ image x y. (x, y))
      (told_later s n t (IsLogRead copy First first) three (told_later s m n (IsLogRead copy First first) two first_told))
      (told_later s n t (IsLogRead copy Second second) three (told_before s m n (IsLogRead copy Second second) one two (slot_same copy Second second) second_told))

  with_logs : (P Q : Image → Type 0) → ((x y : Image) → Same x y → P y → P x) → ((image : Image) → IsSized copy image → Logs image → P image → Q image) → Told n t P → Told s t Q
  with_logs P Q keeps gives told =
      let early : Told s t P = told_before s n t P both_run three keeps told in
      told_sized s t (λ image. Logs image × P image) Q copy sound is (λ image sized p. gives image sized p.0 p.1)
      (told_both s t Logs P (λ image. Logs image × P image) (λ image x y. (x, y)) logs_told early)

  pub loaded_told : (pages : Pages) → Told n t (ArePages copy logs pages) → Told s t (IsLoaded copy pages)
  loaded_told pages =
      with_logs (ArePages copy logs pages) (IsLoaded copy pages) (pages_same copy logs pages)
      (λ image sized both are. pages_are_loaded copy is.least image sized first second logs both.0 both.1 order newest pages are)

  pub whole_told : (pages : Pages) → option_or (damage_of first) (damage_of second) ≡ None → Told n t (ArePages copy logs pages) → Told s t (λ image. directory_damage copy.dir_blocks (copy_disk_bytes copy image) ≡ None)
  whole_told pages none =
      with_logs (ArePages copy logs pages) (λ image. directory_damage copy.dir_blocks (copy_disk_bytes copy image) ≡ None) (pages_same copy logs pages)
      (λ image sized both are.
      damage_is copy is.least image sized first second logs both.0 both.1 order newest
      ∙ ap (λ (o : Option ℕ). option_or (option_map page_home o) (option_or (damage_of first) (damage_of second))) are.sound ∙ none)

  pub log_damage_told : (pages : Pages) (block : ℕ) → option_or (damage_of first) (damage_of second) ≡ Some block → Told n t (ArePages copy logs pages) → Told s t (λ image. directory_damage copy.dir_blocks (copy_disk_bytes copy image) ≡ Some block)
  log_damage_told pages block some =
      with_logs (ArePages copy logs pages) (λ image. directory_damage copy.dir_blocks (copy_disk_bytes copy image) ≡ Some block) (pages_same copy logs pages)
      (λ image sized both are.
      damage_is copy is.least image sized first second logs both.0 both.1 order newest
      ∙ ap (λ (o : Option ℕ). option_or (option_map page_home o) (option_or (damage_of first) (damage_of second))) are.sound ∙ some)

  pub page_damage_told : (block : ℕ) → Told n t (IsPageDamage copy logs block) → Told s t (λ image. directory_damage copy.dir_blocks (copy_disk_bytes copy image) ≡ Some block)
  page_damage_told block =
      with_logs (IsPageDamage copy logs block) (λ image. directory_damage copy.dir_blocks (copy_disk_bytes copy image) ≡ Some block) (damage_same copy logs block)
      (λ image sized both damaged.
      damage_is copy is.least image sized first second logs both.0 both.1 order newest
      ∙ ap (λ (o : Option ℕ). option_or o (option_or (damage_of first) (damage_of second))) damaged)
