-- What is loaded is the copy's content, and what is refused its damage.
use Rattle.std.proofs.Common.{◌≡◌, ℕ, zero, suc, ◌+◌, ◌*◌, ◌≤◌, Bool, true, false, cond, ltb, List, [], ◌∷◌, ◌++◌, length, find, Option, Some, None, refl, sym, ap, ◌∙◌, arith}
use Rattle.std.specs.Prelude.{◌||◌}
use Rattle.std.specs.List.{flat_map, range_with_len}
use Rattle.std.specs.Option.{is_some, option_map, option_or}
use Rattle.std.proofs.lemmas.Bool.{le-leb}
use Rattle.bay.specs.Image.{Image}
use Rattle.asm_group.specs.Names.{Bytes}
use Rattle.asm_formats.specs.Bytes.{block_size, is_open}
use Rattle.asm_formats.specs.Regions.{first_log, second_log, has_region, page_home, region_end}
use Rattle.asm_formats.specs.Logs.{blocks_from, log_at, newest_first, open_logs}
use Rattle.asm_formats.specs.Damage.{directory_damage, is_bad_page, log_damage}
use Rattle.asm_images.proofs.Bridges.{bytes_are_listed}
use Rattle.change_directory.specs.declared.copy.DirCopy.{DirCopy}
use Rattle.change_directory.specs.declared.copy.LogSlot.TheVariants.{First, Second}
use Rattle.change_directory.specs.declared.loading.Pages.{Pages}
use Rattle.change_directory.specs.declared.open_log.OpenLog.{OpenLog}
use Rattle.change_directory.specs.declared.open_log.OpenLogs.{OpenLogs}
use Rattle.change_directory.specs.Changes.{copy_disk_bytes}
use Rattle.change_directory.specs.Loads.{IsLoaded, OpenSlot, commit_if_any, due_page, filled_page, filled_pages, newest_slots, open_slots}
use Rattle.change_directory.specs.Slots.{ArePages, IsLogRead, all_due, all_filled, all_slots, damage_of, damaged_page, first_bad, has_slots, home_blocks, logs_of, open_log_number, open_homes, slots_of_log}
use Rattle.change_directory.proofs.BlockRows.{blocks_listed}
use Rattle.change_directory.proofs.PageRows.{filled_all, due_all, bad_all}
use Rattle.change_directory.proofs.Telling.{IsSized}

-- ---- the open log slots

logs_in_order : (a b : Bool) (s t : OpenSlot) → logs_of (newest_slots (cond a (s ∷ []) [] ++ cond b (t ∷ []) [])) ≡ newest_first (cond a (s.log ∷ []) [] ++ cond b (t.log ∷ []) [])
logs_in_order false false s t = refl
logs_in_order true false s t = refl
logs_in_order false true s t = refl
logs_in_order true true s t = go (ltb s.log.commit t.log.commit) where
  go : (c : Bool) → logs_of (cond c (t ∷ s ∷ []) (s ∷ t ∷ [])) ≡ cond c (t.log ∷ s.log ∷ []) (s.log ∷ t.log ∷ [])
  go true = refl
  go false = refl

pub logs_are_open : (d : ℕ) (bytes : Bytes) → logs_of (open_slots d bytes) ≡ open_logs d bytes
unfolding open_slots open_logs
logs_are_open d bytes =
    logs_in_order (is_open bytes (first_log d)) (is_open bytes (second_log d)) (record { gate = first_log d; log = log_at d bytes (first_log d) }) (record { gate = second_log d; log = log_at d bytes (second_log d) })

some_in_order : (a b : Bool) (s t : OpenSlot) → has_slots (newest_slots (cond a (s ∷ []) [] ++ cond b (t ∷ []) [])) ≡ (a || b)
some_in_order false false s t = refl
some_in_order true false s t = refl
some_in_order false true s t = refl
some_in_order true true s t = go (ltb s.log.commit t.log.commit) where
  go : (c : Bool) → has_slots (cond c (t ∷ s ∷ []) (s ∷ t ∷ [])) ≡ true
  go true = refl
  go false = refl

pub some_open : (d : ℕ) (bytes : Bytes) → has_slots (open_slots d bytes) ≡ (is_open bytes (first_log d) || is_open bytes (second_log d))
unfolding open_slots
some_open d bytes =
    some_in_order (is_open bytes (first_log d)) (is_open bytes (second_log d)) (record { gate = first_log d; log = log_at d bytes (first_log d) }) (record { gate = second_log d; log = log_at d bytes (second_log d) })

pub none_due : (p n : ℕ) → flat_map (due_page []) (range_with_len p n) ≡ []
none_due p zero = refl
none_due p (suc n) = none_due (p + 1) n

either_false : (a b : Bool) → (a || b) ≡ false → (a ≡ false) × (b ≡ false)
either_false true b e = absurd cc
either_false false b e = (refl, e)

-- ---- a copy

module _ (copy : DirCopy) (least : 128 ≤ copy.dir_blocks) (image : Image) (sized : IsSized copy image) (first second : Option OpenLog) (logs : OpenLogs)
    (first_read : IsLogRead copy First first image) (second_read : IsLogRead copy Second second image)
    (order : all_slots logs ≡ newest_slots (slots_of_log first ++ slots_of_log second)) (newest : is_some logs.newest ≡ has_slots (all_slots logs)) where
  abbrev d : ℕ
  d = copy.dir_blocks

  abbrev bytes : Bytes
  bytes = copy_disk_bytes copy image

  slots_are : all_slots logs ≡ open_slots d bytes
  unfolding open_slots
  slots_are = order ∙ (λ i. newest_slots (first_read.slots i ++ second_read.slots i))

  logs_are : logs_of (all_slots logs) ≡ open_logs d bytes
  logs_are = ap logs_of slots_are ∙ logs_are_open d bytes

  homes_are : home_blocks copy 0 d image ≡ blocks_from bytes 10 d
  homes_are = blocks_listed image copy.slot 10 d (omega (arith, sized))

  -- whether a log slot is open
  opened : (o : Bool) → is_some logs.newest ≡ o → (is_open bytes (first_log d) || is_open bytes (second_log d)) ≡ o
  opened o e = sym (some_open d bytes) ∙ ap has_slots (sym slots_are) ∙ sym newest ∙ e

  no_slots : (slots : List OpenSlot) → has_slots slots ≡ false → slots ≡ []
  no_slots [] e = refl
  no_slots (s ∷ slots) e = absurd cc

  number_is : open_log_number logs.newest ≡ commit_if_any (all_slots logs)
  number_is = go logs.newest refl where
    go : (o : Option OpenLog) → logs.newest ≡ o → open_log_number o ≡ commit_if_any (all_slots logs)
    go None e = sym (ap commit_if_any (no_slots (all_slots logs) (sym newest ∙ ap is_some e)))
    go (Some log) e = sym (ap (λ (o : Option OpenLog). commit_if_any (slots_of_log o ++ slots_of_log logs.older)) e)

  filled_is : (slots : List OpenSlot) → has_slots slots ≡ true → flat_map (filled_page d bytes) (range_with_len 0 d) ≡ filled_pages d bytes slots
  filled_is [] e = absurd cc
  filled_is (s ∷ slots) e = refl

  pub pages_are_loaded : (pages : Pages) → ArePages copy logs pages image → IsLoaded copy pages image
  unfolding all_filled all_due
  pages_are_loaded pages are = record {
    number = are.number ∙ number_is ∙ ap commit_if_any slots_are;
    blocks = are.blocks ∙ blocks (is_some logs.newest) refl ∙ ap (filled_pages d bytes) slots_are;
    due = are.due ∙ due (is_some logs.newest) refl ∙ ap (λ (ss : List OpenSlot). flat_map (due_page ss) (range_with_len 0 d)) slots_are;
  } where
    blocks : (o : Bool) → is_some logs.newest ≡ o → all_filled (all_slots logs) 0 (cond o (home_blocks copy 0 d image) []) ≡ filled_pages d bytes (all_slots logs)
    blocks true e =
        ap (all_filled (all_slots logs) 0) homes_are ∙ filled_all d bytes (all_slots logs) logs_are 0 d ∙ filled_is (all_slots logs) (sym newest ∙ e)
    blocks false e = ap (filled_pages d bytes) (sym (no_slots (all_slots logs) (sym newest ∙ e)))

    due : (o : Bool) → is_some logs.newest ≡ o → all_due (all_slots logs) 0 (cond o (home_blocks copy 0 d image) []) ≡ flat_map (due_page (all_slots logs)) (range_with_len 0 d)
    due true e = ap (all_due (all_slots logs) 0) homes_are ∙ due_all d bytes (all_slots logs) logs_are 0 10 d
    due false e = sym (none_due 0 d) ∙ ap (λ (ss : List OpenSlot). flat_map (due_page ss) (range_with_len 0 d)) (sym (no_slots (all_slots logs) (sym newest ∙ e)))

  region : has_region d (length bytes) ≡ true
  region = le-leb (region_end d * block_size) (length bytes) (omega (arith, sized, (bytes_are_listed image copy.slot).0))

  -- the damage of the pages, else that of the first log slot, else that of the second
  pub damage_is : directory_damage d bytes ≡ option_or (damaged_page (all_slots logs) 0 (open_homes copy logs image)) (option_or (damage_of first) (damage_of second))
  unfolding directory_damage first_bad
  damage_is = rw region (go (is_some logs.newest) refl) where
    in_logs : option_or (log_damage d bytes (first_log d)) (log_damage d bytes (second_log d)) ≡ option_or (damage_of first) (damage_of second)
    in_logs = λ i. option_or (sym first_read.damage i) (sym second_read.damage i)

    in_pages : option_map page_home (find (is_bad_page d bytes) (range_with_len 0 d)) ≡ damaged_page (all_slots logs) 0 (home_blocks copy 0 d image)
    in_pages = ap (option_map page_home) (sym (ap (first_bad (all_slots logs) 0) homes_are ∙ bad_all d bytes (all_slots logs) logs_are 0 d))

    shut : (k : ℕ) → is_open bytes k ≡ false → log_damage d bytes k ≡ None
    shut k e = rw e refl

    go : (o : Bool) → is_some logs.newest ≡ o
        → cond (is_open bytes (first_log d) || is_open bytes (second_log d)) (option_or (option_map page_home (find (is_bad_page d bytes) (range_with_len 0 d))) (option_or (log_damage d bytes (first_log d)) (log_damage d bytes (second_log d)))) None
        ≡ option_or (damaged_page (all_slots logs) 0 (cond o (home_blocks copy 0 d image) [])) (option_or (damage_of first) (damage_of second))
    go true e = rw (opened true e) (λ i. option_or (in_pages i) (in_logs i))
    go false e =
        let both = either_false (is_open bytes (first_log d)) (is_open bytes (second_log d)) (opened false e) in
        let none : option_or (damage_of first) (damage_of second) ≡ None =
        (λ i. option_or (first_read.damage i) (second_read.damage i)) ∙ (λ i. option_or (shut (first_log d) both.0 i) (shut (second_log d) both.1 i)) in
        rw (opened false e) (sym none)
