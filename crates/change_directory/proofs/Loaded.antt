-- What is loaded of a copy without damage is its content.
use Rattle.std.proofs.Common.{◌≡◌, ◌⊎◌, inl, inr, ⊎_elim, ℕ, ◌*◌, ◌<◌, ◌≤◌, Bool, true, false, List, [], ◌∷◌, length, map, find, replicate, refl, sym, ap, subst, ◌∙◌, Option, Some, None, arith}
use Rattle.std.specs.Prelude.{◌&&◌, ◌||◌, not, nat_lt}
use Rattle.std.specs.List.{flat_map, range_with_len, list_all}
use Rattle.std.specs.Option.{option_map, option_or, unwrap_or}
use Rattle.std.proofs.lemmas.Bool.{cases_Bool, cond-true, le-leb, lt-ltb, and_from, false≢true}
use Rattle.std.proofs.lemmas.Option.{none-some}
use Rattle.bay.specs.Image.{Image}
use Rattle.asm_base.specs.declared.block.Block.{Block}
use Rattle.asm_group.specs.Names.{Bytes}
use Rattle.asm_formats.specs.Among.{IsAmong}
use Rattle.asm_formats.specs.Bytes.{block_size, block, is_open}
use Rattle.asm_formats.specs.Regions.{region_end, first_log, second_log, has_region, page_home}
use Rattle.asm_formats.specs.Content.{is_page, is_empty_page, records_in}
use Rattle.asm_formats.specs.Items.{Item}
use Rattle.asm_formats.specs.Status.{ascends_from}
use Rattle.asm_formats.specs.Logs.{Log, PageImage, log_at, open_logs, logs_decode, logged_image, image_in}
use Rattle.asm_formats.specs.Pages.{home_page, page_at, pages_of, content_by, copy_content}
use Rattle.asm_formats.specs.Damage.{is_bad_page, log_damage, directory_damage}
use Rattle.asm_formats.proofs.Among.{among_map}
use Rattle.asm_formats.proofs.Damaging.{whole_pages}
use Rattle.asm_images.proofs.Bridges.{bytes_are_listed}
use Rattle.change_directory.specs.declared.copy.DirCopy.{DirCopy}
use Rattle.change_directory.specs.declared.copy.LogSlot.{LogSlot}
use Rattle.change_directory.specs.declared.copy.LogSlot.TheVariants.{First, Second}
use Rattle.change_directory.specs.declared.loading.Pages.{Pages}
use Rattle.change_directory.specs.Places.{gate_of}
use Rattle.change_directory.specs.Logs.{is_open_at, commit_number_at, are_pages}
use Rattle.asm_base.specs.Blocks.{image_of_page}
use Rattle.change_directory.specs.Changes.{copy_disk_bytes, content_in}
use Rattle.change_directory.specs.Formatting.{AreShut}
use Rattle.change_directory.specs.Loads.{IsLoaded, OpenSlot, commit_of, commit_if_any, counted_block, due_page, filled_page, filled_pages, open_slots}
use Rattle.change_directory.specs.Slots.{has_slots, logs_of}
use Rattle.change_directory.specs.StoreLaws.{IsShaped, HasRegion, HasOpen, counting_page, shown_by, HasContent, HasDue, IsReadAs, StandAt, due_images}
use Rattle.change_directory.proofs.Afterwards.{same_numbers}
use Rattle.change_directory.proofs.Copies.{content_same, shut_decodes}
use Rattle.change_directory.proofs.LoadLaws.{logs_are_open, none_due, some_open}
use Rattle.change_directory.proofs.LoadRows.{map_among, has_image, shown_row, rows_ascend, all_rows, all_by_images, dues_ascend, due_is, is_due, image_stands, most_open}
use Rattle.change_directory.proofs.Losing.{shut_none}
use Rattle.change_directory.proofs.Regions.{short_sector}
use Rattle.change_directory.proofs.Spares.{gate_listed, number_listed}

no_slots : (slots : List OpenSlot) → has_slots slots ≡ false → slots ≡ []
no_slots [] e = refl
no_slots (s ∷ slots) e = absurd (false≢true (sym e))

no_pages : (pages : List (ℕ × Block)) → map image_of_page pages ≡ [] → pages ≡ []
no_pages [] e = refl
no_pages (p ∷ pages) e = absurd (omega (arith, ap (λ (l : List PageImage). length l) e))

module _ (copy : DirCopy) (shaped : IsShaped copy) (pages : Pages) (x : Image) (sized : HasRegion copy x) (loaded : IsLoaded copy pages x) (none : directory_damage copy.dir_blocks (copy_disk_bytes copy x) ≡ None) where
  abbrev d : ℕ
  d = copy.dir_blocks

  abbrev bytes : Bytes
  bytes = copy_disk_bytes copy x

  abbrev slots : List OpenSlot
  slots = open_slots d bytes

  abbrev a : Bool
  a = is_open bytes (first_log d)

  abbrev b : Bool
  b = is_open bytes (second_log d)

  gate : (log : LogSlot) → is_open bytes (gate_of copy log) ≡ is_open_at copy log x
  gate log = gate_listed copy shaped.least x sized log

  region : has_region d (length bytes) ≡ true
  region = le-leb (region_end d * block_size) (length bytes) (omega (arith, sized, (bytes_are_listed x copy.slot).0))

  -- ---- without an open log slot

  some_shut : AreShut copy x → (a || b) ≡ false
  some_shut shut = λ i. (gate First ∙ shut First) i || (gate Second ∙ shut Second) i

  shut_slots : AreShut copy x → slots ≡ []
  shut_slots shut = no_slots slots (some_open d bytes ∙ some_shut shut)

  shut_dues : AreShut copy x → pages.due.items ≡ []
  shut_dues shut = loaded.due ∙ ap (λ (ss : List OpenSlot). flat_map (due_page ss) (range_with_len 0 d)) (shut_slots shut) ∙ none_due 0 d

  shut_blocks : AreShut copy x → pages.blocks.items ≡ []
  shut_blocks shut = no_pages pages.blocks.items (loaded.blocks ∙ ap (filled_pages d bytes) (shut_slots shut))

  -- ---- with one

  some_opened : HasOpen copy x → (a || b) ≡ true
  some_opened opened = go opened.0 opened.1
    where
      either : (o : Bool) → (o || true) ≡ true
      either true = refl
      either false = refl

      go : (log : LogSlot) → is_open_at copy log x ≡ true → (a || b) ≡ true
      go First e = ap (λ (o : Bool). o || b) (gate First ∙ e)
      go Second e = ap (λ (o : Bool). a || o) (gate Second ∙ e) ∙ either a

  pub shut_or_open : AreShut copy x ⊎ HasOpen copy x
  shut_or_open = ⊎_elim (λ first. inr (First, first))
      (λ no_first. ⊎_elim (λ second. inr (Second, second)) (λ no_second. inl (both no_first no_second)) (cases_Bool (is_open_at copy Second x)))
      (cases_Bool (is_open_at copy First x))
    where
      both : is_open_at copy First x ≡ false → is_open_at copy Second x ≡ false → AreShut copy x
      both one two First = one
      both one two Second = two

  module _ (opened : HasOpen copy x) where
    sound : (logs_decode d bytes ≡ true) × ((page : ℕ) → page < d → is_page (page_at d bytes page) ≡ true)
    unfolding directory_damage
    sound = whole_pages d bytes (sym (cond-true (has_region d (length bytes) && (a || b))
        (option_or (option_map page_home (find (is_bad_page d bytes) (range_with_len 0 d))) (option_or (log_damage d bytes (first_log d)) (log_damage d bytes (second_log d)))) None
        (and_from (has_region d (length bytes)) (a || b) region (some_opened opened))) ∙ none)

    slots_open : has_slots slots ≡ true
    slots_open = some_open d bytes ∙ some_opened opened

    number_is : (ss : List OpenSlot) → has_slots ss ≡ true → commit_if_any ss ≡ Some (commit_of ss)
    number_is [] e = absurd (false≢true e)
    number_is (s ∷ ss) e = refl

    filled_is : (ss : List OpenSlot) → has_slots ss ≡ true → filled_pages d bytes ss ≡ flat_map (filled_page d bytes) (range_with_len 0 d)
    filled_is [] e = absurd (false≢true e)
    filled_is (s ∷ ss) e = refl

    blocks_are : map image_of_page pages.blocks.items ≡ flat_map (filled_page d bytes) (range_with_len 0 d)
    blocks_are = loaded.blocks ∙ filled_is slots slots_open

    pub shown_is : (p : ℕ) → p < d → counting_page copy x p ≡ shown_by pages.blocks.items p
    shown_is p lt = sym (ap (λ (images : List PageImage). unwrap_or (logged_image images p) (replicate block_size 0)) blocks_are ∙ shown_row (page_at d bytes) 0 d p (omega arith) (omega (arith, lt)))

    content_is : (ss : List OpenSlot) → slots ≡ ss → has_slots ss ≡ true → content_in copy x ≡ Some (record { commit = commit_of ss; items = records_in (pages_of d bytes) })
    unfolding copy_content
    content_is [] e some = absurd (false≢true some)
    content_is (s ∷ older) e some =
        let logs : open_logs d bytes ≡ s.log ∷ logs_of older = sym (logs_are_open d bytes) ∙ ap logs_of e in
        cond-true (has_region d (length bytes)) (content_by d bytes (open_logs d bytes)) None region ∙ ap (content_by d bytes) logs
        ∙ ap (λ (o : Option (List Item)). Some (record { commit = s.log.commit; items = o })) (cond-true (logs_decode d bytes) (records_in (pages_of d bytes)) None sound.0)

    lower : (log : LogSlot) → is_open_at copy log x ≡ true → commit_number_at copy log x ≤ commit_of slots
    lower log is = omega (arith, number_listed copy shaped.least x sized log, go log (gate log ∙ is))
      where
        go : (l : LogSlot) → is_open bytes (gate_of copy l) ≡ true → (log_at d bytes (gate_of copy l)).commit ≤ commit_of slots
        go First e = (most_open d bytes).0 e
        go Second e = (most_open d bytes).1 e

    pub has_content : HasContent copy (commit_of slots) (shown_by pages.blocks.items) x
    has_content = record {
      pages = record { sized = sized; decodes = sound.0; pages = shown_is; above = λ n lt log is. omega (arith, lower log is, lt) };
      content = content_is slots refl slots_open
          ∙ content_same copy (commit_of slots) (page_at d bytes) (shown_by pages.blocks.items) shown_is;
    }

  -- ---- the rows

  block_rows : (t : PageImage → Bool) → (HasOpen copy x → (p : ℕ) → p < d → is_empty_page (page_at d bytes p) ≡ false → t (p, page_at d bytes p) ≡ true) → list_all (λ (p : ℕ × Block). t (image_of_page p)) pages.blocks.items ≡ true
  block_rows t each = ⊎_elim
      (λ shut. ap (list_all (λ (p : ℕ × Block). t (image_of_page p))) (shut_blocks shut))
      (λ opened. all_by_images t pages.blocks.items ∙ ap (list_all t) (blocks_are opened)
      ∙ all_rows (page_at d bytes) t 0 d (λ p low high full. each opened p (omega (arith, high)) full))
      shut_or_open

  ascend : are_pages d pages.blocks.items ≡ true
  ascend =
      and_from (ascends_from 0 (map (λ (p : ℕ × Block). p.0) pages.blocks.items)) (list_all (λ (p : ℕ × Block). nat_lt p.0 d) pages.blocks.items) numbers
      (block_rows (λ (i : PageImage). nat_lt i.0 d) (λ opened p lt full. lt-ltb p d lt))
    where
      numbers : ascends_from 0 (map (λ (p : ℕ × Block). p.0) pages.blocks.items) ≡ true
      numbers = ⊎_elim
          (λ shut. ap (λ (l : List (ℕ × Block)). ascends_from 0 (map (λ (p : ℕ × Block). p.0) l)) (shut_blocks shut))
          (λ opened. ap (ascends_from 0) (sym (same_numbers pages.blocks.items)) ∙ ap (λ (l : List PageImage). ascends_from 0 (map (λ (i : PageImage). i.0) l)) (blocks_are opened)
          ∙ rows_ascend (page_at d bytes) 0 0 d (omega arith))
          shut_or_open

  pub loaded_is_content : IsReadAs copy pages x
  loaded_is_content = record {
    decodes = ⊎_elim (λ shut. shut_decodes copy shaped x sized shut) (λ opened. (sound opened).0) shut_or_open;
    either = shut_or_open;
    shut = λ shut. (shut_none copy shaped.least (short_sector copy shaped) x sized shut, loaded.number ∙ ap commit_if_any (shut_slots shut), shut_blocks shut, shut_dues shut);
    opened = λ opened. (commit_of slots, loaded.number ∙ number_is opened slots (slots_open opened), has_content opened);
    ascend = ascend;
    decode = block_rows (λ (i : PageImage). is_page i.1) (λ opened p lt full. (sound opened).1 p lt);
    filled = block_rows (λ (i : PageImage). not (is_empty_page i.1)) (λ opened p lt full. ap not full);
  }

  -- ---- the due pages

  images_are : (p : ℕ) → option_map (block bytes) (counted_block slots p) ≡ image_in (open_logs d bytes) p
  images_are p = image_stands d bytes p ∙ ap (λ (ls : List Log). image_in ls p) (logs_are_open d bytes)

  each : (p q : ℕ) → IsAmong pages.due.items (p, q) → (p < d) × (image_in (open_logs d bytes) p ≡ Some (counting_page copy x p)) × (block bytes q ≡ counting_page copy x p)
  unfolding page_at
  each p q among =
      let is = due_is slots 0 d p q (subst (λ (l : List (ℕ × ℕ)). IsAmong l (p, q)) loaded.due among) in
      let image : image_in (open_logs d bytes) p ≡ Some (block bytes q) = sym (images_are p) ∙ ap (option_map (block bytes)) is.1 in
      let here : block bytes q ≡ counting_page copy x p = ap (λ (o : Option Bytes). unwrap_or o (home_page bytes p)) (sym image) in
      (omega (arith, is.0), image ∙ ap Some here, here)

  all : (p : ℕ) (image : Bytes) → p < d → image_in (open_logs d bytes) p ≡ Some image → (q : ℕ) × IsAmong pages.due.items (p, q)
  all p image lt is = go (counted_block slots p) refl
    where
      go : (o : Option ℕ) → counted_block slots p ≡ o → (q : ℕ) × IsAmong pages.due.items (p, q)
      go None e = absurd (none-some image (ap (option_map (block bytes)) (sym e) ∙ images_are p ∙ is))
      go (Some q) e = (q, subst (λ (l : List (ℕ × ℕ)). IsAmong l (p, q)) (sym loaded.due) (is_due slots 0 d p q (omega arith) (omega (arith, lt)) e))

  pub dues_stand : StandAt copy pages x
  dues_stand = record { each = each; all = all }

  module _ (dues : List (ℕ × Block)) (are : map image_of_page dues ≡ due_images pages) where
    -- a page among these, with its image
    from_due : (p : ℕ × Block) → IsAmong dues p → (q : ℕ) × IsAmong pages.due.items (p.0, q) × (p.1.bytes ≡ shown_by pages.blocks.items p.0)
    from_due p among =
        let there = map_among (λ (e : ℕ × ℕ). (e.0, shown_by pages.blocks.items e.0)) pages.due.items (image_of_page p)
        (subst (λ (l : List PageImage). IsAmong l (image_of_page p)) are (among_map image_of_page dues p among)) in
        let number : p.0 ≡ there.0.0 = ap (λ (i : PageImage). i.0) there.2 in
        let image : p.1.bytes ≡ shown_by pages.blocks.items there.0.0 = ap (λ (i : PageImage). i.1) there.2 in
        (there.0.1, subst (λ (n : ℕ). IsAmong pages.due.items (n, there.0.1)) (sym number) there.1, image ∙ ap (shown_by pages.blocks.items) (sym number))

    absent : (p : ℕ) → logged_image (map image_of_page dues) p ≡ None → (q : ℕ) → IsAmong pages.due.items (p, q) → ⊥
    absent p without q among =
        has_image (map image_of_page dues) p (p, shown_by pages.blocks.items p)
        (subst (λ (l : List PageImage). IsAmong l (p, shown_by pages.blocks.items p)) (sym are) (among_map (λ (e : ℕ × ℕ). (e.0, shown_by pages.blocks.items e.0)) pages.due.items (p, q) among)) refl without

    numbers_are : map (λ (p : ℕ × Block). p.0) dues ≡ map (λ (e : ℕ × ℕ). e.0) pages.due.items
    numbers_are = sym (same_numbers dues) ∙ ap (map (λ (i : PageImage). i.0)) are ∙ go pages.due.items
      where
        go : (es : List (ℕ × ℕ)) → map (λ (i : PageImage). i.0) (map (λ (e : ℕ × ℕ). (e.0, shown_by pages.blocks.items e.0)) es) ≡ map (λ (e : ℕ × ℕ). e.0) es
        go [] = refl
        go (e ∷ es) = ap (λ (l : List ℕ). e.0 ∷ l) (go es)

    dues_ok : are_pages d dues ≡ true
    dues_ok =
        and_from (ascends_from 0 (map (λ (p : ℕ × Block). p.0) dues)) (list_all (λ (p : ℕ × Block). nat_lt p.0 d) dues)
        (ap (ascends_from 0) numbers_are ∙ ap (λ (l : List (ℕ × ℕ)). ascends_from 0 (map (λ (e : ℕ × ℕ). e.0) l)) loaded.due ∙ dues_ascend slots 0 0 d (omega arith))
        (all_pass dues (λ p among. lt-ltb p.0 d (each p.0 (from_due p among).0 (from_due p among).1).0))
      where
        all_pass : (ps : List (ℕ × Block)) → ((p : ℕ × Block) → IsAmong ps p → nat_lt p.0 d ≡ true) → list_all (λ (p : ℕ × Block). nat_lt p.0 d) ps ≡ true
        all_pass [] passes = refl
        all_pass (p ∷ ps) passes = and_from (nat_lt p.0 d) (list_all (λ (p : ℕ × Block). nat_lt p.0 d) ps) (passes p (inl refl)) (all_pass ps (λ q among. passes q (inr among)))

    pub loaded_is_due : HasDue copy dues x
    unfolding page_at
    loaded_is_due = record {
      ascend = dues_ok;
      due = ⊎_elim inl (λ opened. inr (λ p among.
          let from = from_due p among in
          let here = each p.0 from.0 from.1 in
          here.1 ∙ ap Some (shown_is opened p.0 here.0 ∙ sym from.2))) shut_or_open;
      others = λ p lt without. go p lt without (image_in (open_logs d bytes) p) refl;
    } where
      go : (p : ℕ) → p < d → logged_image (map image_of_page dues) p ≡ None → (o : Option Bytes) → image_in (open_logs d bytes) p ≡ o → unwrap_or (image_in (open_logs d bytes) p) (home_page bytes p) ≡ home_page bytes p
      go p lt without None e = ap (λ (o : Option Bytes). unwrap_or o (home_page bytes p)) e
      go p lt without (Some image) e = let there = all p image lt e in absurd (absent p without there.0 there.1)
