-- What a checkpoint, a commit and a copy made anew do to the pages that count.
use Rattle.std.proofs.Common.{◌≡◌, ◌⊎◌, inl, inr, ⊎_elim, ℕ, zero, suc, ◌+◌, ◌*◌, ◌<◌, ◌≤◌, true, false, List, [], ◌∷◌, length, map, replicate, refl, sym, ap, ◌∙◌, Option, Some, None, arith, ◌==◌}
use Rattle.std.specs.List.{range_with_len}
use Rattle.std.specs.Option.{unwrap_or}
use Rattle.std.proofs.lemmas.Bool.{le-leb, false≢true}
use Rattle.std.proofs.lemmas.Option.{none-some}
use Rattle.bay.specs.Image.{Image, ChangesOnly, window}
use Rattle.bay.proofs.Images.{window-same}
use Rattle.asm_base.specs.declared.block.Block.{Block}
use Rattle.asm_group.specs.Names.{Bytes}
use Rattle.asm_formats.specs.Among.{IsAmong}
use Rattle.asm_formats.specs.Bytes.{block_size, is_open}
use Rattle.asm_formats.specs.Regions.{region_start, region_end, has_region}
use Rattle.asm_formats.specs.Content.{records_in}
use Rattle.asm_formats.specs.Logs.{Log, PageImage, log_head_at, log_at, open_logs, logged_image, image_in}
use Rattle.asm_formats.specs.Pages.{home_page, page_at, with_images, committed}
use Rattle.asm_formats.specs.LogSlots.{IsLogPut}
use Rattle.asm_formats.specs.Commits.{HoldsLog}
use Rattle.asm_formats.proofs.Among.{map_range_same}
use Rattle.asm_formats.proofs.SameLogs.{log_at_same, open_logs_same, logs_decode_same, page_same, closed_logs}
use Rattle.asm_formats.proofs.LogPuts.{log_read}
use Rattle.asm_formats.proofs.Committing.{home_same, other_slot, put_page, put_decode, put_commits}
use Rattle.asm_formats.proofs.Checkpoints.{closed_may_close}
use Rattle.asm_images.proofs.Bridges.{bytes_are_listed}
use Rattle.change_directory.specs.declared.copy.DirCopy.{DirCopy}
use Rattle.change_directory.specs.declared.copy.LogSlot.{LogSlot}
use Rattle.change_directory.specs.declared.copy.LogSlot.TheVariants.{First, Second}
use Rattle.change_directory.specs.Places.{gate_of, other_of}
use Rattle.change_directory.specs.Logs.{is_open_at, commit_number_at, spare_in, log_of, are_pages}
use Rattle.asm_base.specs.Blocks.{image_of_page}
use Rattle.change_directory.specs.Changes.{copy_disk_bytes, content_in, IsAtHome, DecodesIn, IsAbove, MayLog, HasLogged}
use Rattle.change_directory.specs.Homes.{HomesOf, HasHomed}
use Rattle.change_directory.specs.Formatting.{AreShut, HasFormatted}
use Rattle.change_directory.specs.Laws.{IsCopyReady, ArePut}
use Rattle.change_directory.specs.StoreLaws.{IsShaped, HasRegion, counting_page, zero_page, content_with, HasPages, HasContent, HasDue, IsUnopened}
use Rattle.change_directory.proofs.Afterwards.{image_case, head_pages, logged_is_put, logged_are_due, logging_is_put}
use Rattle.change_directory.proofs.Contents.{moment_content}
use Rattle.change_directory.proofs.Keeping.{in_homes, logs_same, listed, other_page, keeps_content}
use Rattle.change_directory.proofs.Losing.{shut_none}
use Rattle.change_directory.proofs.Regions.{short_sector, some_sector}
use Rattle.change_directory.proofs.Runs.{same_content}
use Rattle.change_directory.proofs.Shutting.{either_log, still_shut}
use Rattle.change_directory.proofs.Spares.{pair_of, gate_listed, number_listed}

-- the same pages have the same records
pub content_same : (copy : DirCopy) (number : ℕ) (f g : ℕ → Bytes) → ((p : ℕ) → p < copy.dir_blocks → f p ≡ g p) → content_with copy number f ≡ content_with copy number g
content_same copy number f g same =
    let pages = map_range_same f g 0 copy.dir_blocks (λ p low high. same p (omega (arith, high))) in
    λ i. Some (record { commit = number; items = records_in (pages i) })

-- images that lie over the same pages
pub over_same : (images : List PageImage) (f g : ℕ → Bytes) (p : ℕ) → f p ≡ g p → with_images images f p ≡ with_images images g p
over_same images f g p same = ap (λ (b : Bytes). unwrap_or (logged_image images p) b) same

-- what has a content has an open log slot
pub not_shut : (copy : DirCopy) → IsShaped copy → (number : ℕ) (page : ℕ → Bytes) (x : Image) → HasContent copy number page x → AreShut copy x → ⊥
not_shut copy shaped number page x has shut =
    none-some (record { commit = number; items = records_in (map page (range_with_len 0 copy.dir_blocks)) })
    (sym (shut_none copy shaped.least (short_sector copy shaped) x has.pages.sized shut) ∙ has.content)

-- the log slots where bytes behind the pages are the same
gates_behind : (copy : DirCopy) (x y : Image) → ((k : ℕ) → (region_start + copy.dir_blocks) * block_size ≤ k → y.byte copy.slot k ≡ x.byte copy.slot k) → (log : LogSlot)
    → (is_open_at copy log y ≡ is_open_at copy log x) × (commit_number_at copy log y ≡ commit_number_at copy log x)
gates_behind copy x y same log = (
  ap (λ (b : ℕ). b == 165) (same (gate_of copy log * block_size) (omega (arith, low log))),
  ap (λ (l : List ℕ). (log_head_at l).commit)
      (window-same (x.byte copy.slot) (y.byte copy.slot) ((gate_of copy log + 1) * block_size) block_size (λ k from to. same k (omega (arith, from, low log)))),
)
  where
    low : (l : LogSlot) → region_start + copy.dir_blocks ≤ gate_of copy l
    low First = omega arith
    low Second = omega arith

pub still_above : (copy : DirCopy) (n : ℕ) (x y : Image) → ((log : LogSlot) → (is_open_at copy log y ≡ is_open_at copy log x) × (commit_number_at copy log y ≡ commit_number_at copy log x))
    → IsAbove copy n x → IsAbove copy n y
still_above copy n x y same above log opened = omega (arith, above log (sym (same log).0 ∙ opened), (same log).1)

-- ---- a checkpoint

module _ (copy : DirCopy) (shaped : IsShaped copy) (pages : List (ℕ × Block)) (number : ℕ) (page : ℕ → Bytes) (x y : Image)
    (has : HasContent copy number page x) (due : HasDue copy pages x) (step : ChangesOnly (HomesOf copy pages) x y) where
  abbrev d : ℕ
  d = copy.dir_blocks

  images : (p : ℕ × Block) → IsAmong pages p → image_in (open_logs d (copy_disk_bytes copy x)) p.0 ≡ Some p.1.bytes
  images = ⊎_elim (λ shut. absurd (not_shut copy shaped number page x has shut)) (λ each. each) due.due

  same_logs : open_logs d (copy_disk_bytes copy y) ≡ open_logs d (copy_disk_bytes copy x)
  same_logs = open_logs_same d (copy_disk_bytes copy x) (copy_disk_bytes copy y) (logs_same copy pages due.ascend shaped.least x y has.pages.sized step)

  images_after : (p : ℕ × Block) → IsAmong pages p → image_in (open_logs d (copy_disk_bytes copy y)) p.0 ≡ Some p.1.bytes
  images_after p among = ap (λ (l : List Log). image_in l p.0) same_logs ∙ images p among

  home_stays : (p : ℕ) → p < d → ((q : ℕ × Block) → IsAmong pages q → q.0 ≡ p → ⊥) → home_page (copy_disk_bytes copy y) p ≡ home_page (copy_disk_bytes copy x) p
  home_stays p lt none = other_page copy pages due.ascend shaped.least x y has.pages.sized step p lt none

  counts_same : (p : ℕ) → p < d → counting_page copy y p ≡ counting_page copy x p
  counts_same p lt = page_same d (copy_disk_bytes copy x) (copy_disk_bytes copy y) same_logs p (λ none. home_stays p lt (λ q among same.
      none-some q.1.bytes (sym none ∙ ap (image_in (open_logs d (copy_disk_bytes copy x))) (sym same) ∙ images q among)))

  behind : (k : ℕ) → (region_start + d) * block_size ≤ k → y.byte copy.slot k ≡ x.byte copy.slot k
  behind k far = (in_homes copy pages due.ascend x y step).byte copy.slot k (λ inside. omega (arith, far, inside.2))

  pub homing_keeps : HasContent copy number page y × HasDue copy pages y
  homing_keeps = (
    record {
      pages = record {
        sized = omega (arith, has.pages.sized, step.size copy.slot);
        decodes = logs_decode_same d (copy_disk_bytes copy x) (copy_disk_bytes copy y) (logs_same copy pages due.ascend shaped.least x y has.pages.sized step) ∙ has.pages.decodes;
        pages = λ p lt. counts_same p lt ∙ has.pages.pages p lt;
        above = λ n lt. still_above copy n x y (gates_behind copy x y behind) (has.pages.above n lt);
      };
      content = keeps_content copy pages due.ascend shaped.least x y has.pages.sized step due.due ∙ has.content;
    },
    record {
      ascend = due.ascend;
      due = inr images_after;
      others = λ p lt none. counts_same p lt ∙ due.others p lt none ∙ sym (home_stays p lt (absent p none));
    },
  ) where
    absent : (p : ℕ) → logged_image (map image_of_page pages) p ≡ None → (q : ℕ × Block) → IsAmong pages q → q.0 ≡ p → ⊥
    absent p none = ⊎_elim (λ found. absurd (none-some found.0.1.bytes (sym none ∙ found.3))) (λ n. n.1) (image_case pages p)

  -- once they are written
  pub homed_settles : HasHomed copy pages x y → IsAtHome copy y
  unfolding page_at
  homed_settles homed p lt = ⊎_elim
      (λ found.
      let q : ℕ × Block = found.0 in
      let here : home_page (copy_disk_bytes copy y) p ≡ q.1.bytes =
      listed copy pages due.ascend shaped.least x y has.pages.sized step y (step.size copy.slot) p lt
      ∙ ap (λ (n : ℕ). window (y.byte copy.slot) ((region_start + n) * block_size) block_size) (sym found.2) ∙ homed.homes q found.1 in
      let image : image_in (open_logs d (copy_disk_bytes copy y)) p ≡ Some q.1.bytes = ap (image_in (open_logs d (copy_disk_bytes copy y))) (sym found.2) ∙ images_after q found.1 in
      ap (λ (o : Option Bytes). unwrap_or o (home_page (copy_disk_bytes copy y) p)) image ∙ sym here)
      (λ none. homing_keeps.1.others p lt none.0)
      (image_case pages p)

-- ---- a commit

module _ (copy : DirCopy) (number : ℕ) (pages : List (ℕ × Block)) (put : ArePut copy number pages) (page : ℕ → Bytes) (x y : Image)
    (ready : IsCopyReady copy number x) (are : (p : ℕ) → p < copy.dir_blocks → counting_page copy x p ≡ page p) where
  abbrev e : ℕ
  e = copy.dir_blocks

  abbrev after : ℕ → Bytes
  after = with_images (map image_of_page pages) page

  abbrev log : Log
  log = log_of number pages

  small : e ≤ 4294967296
  small = omega (arith, put.most)

  committed_is : Some (committed e (copy_disk_bytes copy x) log) ≡ content_with copy number after
  committed_is = content_same copy number (with_images (map image_of_page pages) (page_at e (copy_disk_bytes copy x))) after
      (λ p lt. over_same (map image_of_page pages) (page_at e (copy_disk_bytes copy x)) page p (are p lt))

  whole : has_region e (length (copy_disk_bytes copy x)) ≡ true
  whole = le-leb (region_end e * block_size) (length (copy_disk_bytes copy x)) (omega (arith, ready.sized, (bytes_are_listed x copy.slot).0))

  -- while the log is put
  pub logging_keeps : MayLog copy number pages x y → (content_in copy y ≡ content_in copy x) ⊎ (content_in copy y ≡ content_with copy number after)
  logging_keeps step = ⊎_elim
      (λ same. inl (same_content copy x y same))
      (λ is_put. ⊎_elim inl (λ c. inr (c ∙ committed_is))
      (moment_content e (copy_disk_bytes copy x) (copy_disk_bytes copy y) (gate_of copy (spare_in copy x)) (gate_of copy (other_of (spare_in copy x))) log small is_put whole is_put.moment))
      (logging_is_put copy number pages put x y ready step)

  module _ (logged : HasLogged copy number pages x y) where
    abbrev k : ℕ
    k = gate_of copy (spare_in copy x)

    abbrev other : ℕ
    other = gate_of copy (other_of (spare_in copy x))

    is_put : IsLogPut e (copy_disk_bytes copy x) (copy_disk_bytes copy y) k other log
    is_put = (logged_is_put copy number pages put x y ready logged).0

    holds : HoldsLog (copy_disk_bytes copy y) k log
    holds = (logged_is_put copy number pages put x y ready logged).1

    sized_after : HasRegion copy y
    sized_after = omega (arith, ready.sized, logged.elsewhere.size copy.slot)

    counts_after : (p : ℕ) → p < e → counting_page copy y p ≡ with_images (map image_of_page pages) (page_at e (copy_disk_bytes copy x)) p
    counts_after p lt = put_page e (copy_disk_bytes copy x) k other is_put.may_close (copy_disk_bytes copy y) is_put.elsewhere log small is_put.is_log is_put.above holds p lt

    -- the numbers of the open log slots
    spare_number : commit_number_at copy (spare_in copy x) y ≡ number
    spare_number = sym (number_listed copy put.least y sized_after (spare_in copy x)) ∙ ap (λ (l : Log). l.commit) (log_read e (copy_disk_bytes copy y) k log small is_put.is_log holds)

    other_lower : is_open_at copy (other_of (spare_in copy x)) y ≡ true → commit_number_at copy (other_of (spare_in copy x)) y < number
    other_lower opened =
        let slot = other_slot e (copy_disk_bytes copy x) k other is_put.may_close (copy_disk_bytes copy y) is_put.elsewhere is_put.may_close.pair in
        let was : is_open (copy_disk_bytes copy x) other ≡ true = sym slot.gate ∙ gate_listed copy put.least y sized_after (other_of (spare_in copy x)) ∙ opened in
        let same : (log_at e (copy_disk_bytes copy y) other).commit ≡ (log_at e (copy_disk_bytes copy x) other).commit = ap (λ (l : Log). l.commit) (log_at_same e (copy_disk_bytes copy x) (copy_disk_bytes copy y) other (slot.body was)) in
        omega (arith, same, is_put.above was, number_listed copy put.least y sized_after (other_of (spare_in copy x)))

    pub logged_has : HasContent copy number after y × HasDue copy pages y
    logged_has = (
      record {
        pages = record {
          sized = sized_after;
          decodes = put_decode e (copy_disk_bytes copy x) k other is_put.may_close (copy_disk_bytes copy y) is_put.elsewhere log small is_put.is_log is_put.above holds;
          pages = λ p lt. counts_after p lt ∙ over_same (map image_of_page pages) (page_at e (copy_disk_bytes copy x)) page p (are p lt);
          above = λ n lt. either_log (λ (l : LogSlot). is_open_at copy l y ≡ true → commit_number_at copy l y < n) (spare_in copy x)
              (λ opened. omega (arith, spare_number, lt)) (λ opened. omega (arith, other_lower opened, lt));
        };
        content = put_commits e (copy_disk_bytes copy x) k other is_put.may_close (copy_disk_bytes copy y) is_put.elsewhere log small is_put.is_log is_put.above holds whole ∙ committed_is;
      },
      record {
        ascend = head_pages e number pages put.head;
        due = logged_are_due copy number pages put x y ready logged;
        others = λ p lt none.
            counts_after p lt ∙ ap (λ (o : Option Bytes). unwrap_or o (page_at e (copy_disk_bytes copy x) p)) none ∙ ready.home p lt
            ∙ sym (home_same e (copy_disk_bytes copy x) k other is_put.may_close (copy_disk_bytes copy y) is_put.elsewhere p lt);
      },
    )

pub is_ready : (copy : DirCopy) (number before : ℕ) (page : ℕ → Bytes) (x : Image) → HasPages copy before page x → IsAtHome copy x → before < number → IsCopyReady copy number x
is_ready copy number before page x has home lt = record { sized = has.sized; home = home; decodes = has.decodes; above = has.above number lt }

-- ---- a copy made anew

-- a window of zeros
zero_window : (byte : ℕ → ℕ) (from n : ℕ) → ((k : ℕ) → from ≤ k → k < from + n → byte k ≡ 0) → window byte from n ≡ replicate n 0
unfolding window
zero_window byte from zero none = refl
zero_window byte from (suc n) none = λ i. none from (omega arith) (omega arith) i ∷ zero_window byte (suc from) n (λ k low high. none k (omega arith) (omega arith)) i

module _ (copy : DirCopy) (shaped : IsShaped copy) (x : Image) (sized : HasRegion copy x) (shut : AreShut copy x) where
  abbrev f : ℕ
  f = copy.dir_blocks

  gate : (log : LogSlot) → is_open (copy_disk_bytes copy x) (gate_of copy log) ≡ false
  gate log = gate_listed copy shaped.least x sized log ∙ shut log

  shut_pages : (p : ℕ) → counting_page copy x p ≡ home_page (copy_disk_bytes copy x) p
  unfolding page_at
  shut_pages p = ap (λ (l : List Log). unwrap_or (image_in l p) (home_page (copy_disk_bytes copy x) p)) (closed_logs f (copy_disk_bytes copy x) (gate First) (gate Second))

  pub shut_decodes : DecodesIn copy x
  shut_decodes = (closed_may_close f (copy_disk_bytes copy x) (gate_of copy First) (gate_of copy Second) (pair_of copy First) (gate First) (gate Second)).decode

  pub unopened : (page : ℕ → Bytes) → ((p : ℕ) → p < f → home_page (copy_disk_bytes copy x) p ≡ page p) → IsUnopened copy page x
  unopened page are = record {
    shut = shut;
    none = shut_none copy shaped.least (short_sector copy shaped) x sized shut;
    home = λ p lt. shut_pages p;
    pages = λ number. record {
      sized = sized;
      decodes = shut_decodes;
      pages = λ p lt. shut_pages p ∙ are p lt;
      above = λ n lt log opened. absurd (false≢true (sym (shut log) ∙ opened));
    };
  }

  module _ (pages : List (ℕ × Block)) (ok : are_pages copy.dir_blocks pages ≡ true) (y : Image) (step : ChangesOnly (HomesOf copy pages) x y) where
    sized_then : HasRegion copy y
    sized_then = omega (arith, sized, step.size copy.slot)

    shut_then : AreShut copy y
    shut_then = still_shut copy (short_sector copy shaped) (some_sector copy shaped) x y shut (in_homes copy pages ok x y step)

    pub unopened_stays : AreShut copy y × (content_in copy y ≡ None)
    unopened_stays = (shut_then, shut_none copy shaped.least (short_sector copy shaped) y sized_then shut_then)

    -- the pages at home
    pub homes_then : HasHomed copy pages x y → (page : ℕ → Bytes) → ((p : ℕ) → p < f → home_page (copy_disk_bytes copy x) p ≡ page p) → (p : ℕ) → p < f
        → home_page (copy_disk_bytes copy y) p ≡ with_images (map image_of_page pages) page p
    homes_then homed page are p lt = ⊎_elim
        (λ found. listed copy pages ok shaped.least x y sized step y (step.size copy.slot) p lt
        ∙ ap (λ (n : ℕ). window (y.byte copy.slot) ((region_start + n) * block_size) block_size) (sym found.2) ∙ homed.homes found.0 found.1
        ∙ sym (ap (λ (o : Option Bytes). unwrap_or o (page p)) found.3))
        (λ none. other_page copy pages ok shaped.least x y sized step p lt none.1 ∙ are p lt ∙ sym (ap (λ (o : Option Bytes). unwrap_or o (page p)) none.0))
        (image_case pages p)

pub formatted_is_empty : (copy : DirCopy) (x y : Image) → IsShaped copy → HasRegion copy x → HasFormatted copy x y → IsUnopened copy zero_page y
formatted_is_empty copy x y shaped sized did =
    let sized_after : HasRegion copy y = omega (arith, sized, did.elsewhere.size copy.slot) in
    unopened copy shaped y sized_after did.shut zero_page (λ p lt.
    (bytes_are_listed y copy.slot).2 ((region_start + p) * block_size) block_size (omega (arith, sized_after, lt))
    ∙ zero_window (y.byte copy.slot) ((region_start + p) * block_size) block_size (λ k low high. did.zeros k (omega (arith, low)) (omega (arith, high, lt))))

pub unopened_homed : (copy : DirCopy) (pages : List (ℕ × Block)) (page : ℕ → Bytes) (x y : Image) → IsShaped copy → IsUnopened copy page x → are_pages copy.dir_blocks pages ≡ true
    → HasHomed copy pages x y → IsUnopened copy (with_images (map image_of_page pages) page) y
unopened_homed copy pages page x y shaped is ok homed =
    let has = is.pages 0 in
    let then_ = unopened_stays copy shaped x has.sized is.shut pages ok y homed.elsewhere in
    unopened copy shaped y (omega (arith, has.sized, homed.elsewhere.size copy.slot)) then_.0 (with_images (map image_of_page pages) page)
    (homes_then copy shaped x has.sized is.shut pages ok y homed.elsewhere homed page (λ p lt. sym (is.home p lt) ∙ has.pages p lt))

module _ (copy : DirCopy) (number : ℕ) (page : ℕ → Bytes) (x y : Image) (put : ArePut copy number []) (is : IsUnopened copy page x) where
  open_ready : IsCopyReady copy number x
  open_ready =
      let has = is.pages number in
      record { sized = has.sized; home = is.home; decodes = has.decodes; above = λ log opened. absurd (false≢true (sym (is.shut log) ∙ opened)) }

  pub unopened_opens : HasLogged copy number [] x y → HasContent copy number page y × IsAtHome copy y
  unopened_opens logged =
      let has = logged_has copy number [] put page x y open_ready (is.pages number).pages logged in
      (has.0, λ p lt. has.1.others p lt refl)

  pub opening_has : MayLog copy number [] x y → (content_in copy y ≡ None) ⊎ (content_in copy y ≡ content_with copy number page)
  opening_has step = ⊎_elim (λ same. inl (same ∙ is.none)) inr (logging_keeps copy number [] put page x y open_ready (is.pages number).pages step)
