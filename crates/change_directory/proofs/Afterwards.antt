-- What a commit leaves for its checkpoint, and both for the next commit.
use Rattle.std.proofs.Common.{◌≡◌, ◌⊎◌, inl, inr, ⊎_elim, ℕ, ◌+◌, ◌*◌, ◌^◌, ◌<◌, ◌≤◌, Bool, true, cond, List, [], ◌∷◌, length, map, refl, sym, ap, ◌∙◌, Option, Some, None, arith}
use Rattle.std.specs.Prelude.{find, nat_le, nat_lt, ◌==◌}
use Rattle.std.specs.List.{list_all}
use Rattle.std.specs.Option.{option_map, option_or, unwrap_or}
use Rattle.std.proofs.lemmas.Bool.{and_parts, and_from, cases_eq, eq-eqb, ne_eqb}
use Rattle.bay.specs.Image.{Image, Same, window}
use Rattle.asm_base.specs.declared.block.Block.{Block}
use Rattle.asm_group.specs.Names.{Bytes}
use Rattle.asm_formats.specs.Bytes.{block_size}
use Rattle.asm_formats.specs.Among.{IsAmong}
use Rattle.asm_formats.specs.Content.{is_page}
use Rattle.asm_formats.specs.Regions.{region_start, region_end, log_pages}
use Rattle.asm_formats.specs.Status.{ascends_from}
use Rattle.asm_formats.specs.Logs.{Log, PageImage, head_of_log, is_log_head, in_log, open_logs, logged_image, image_in}
use Rattle.asm_formats.specs.Pages.{home_page, with_images}
use Rattle.asm_formats.specs.LogSlots.{IsLog, IsLogPut}
use Rattle.asm_formats.specs.Commits.{HoldsLog}
use Rattle.asm_formats.proofs.Committing.{put_logs, home_same}
use Rattle.asm_formats.proofs.Checkpoints.{commit_is_checkpointed}
use Rattle.asm_images.proofs.Bridges.{range_change}
use Rattle.change_directory.specs.declared.copy.DirCopy.{DirCopy}
use Rattle.change_directory.specs.Places.{gate_of, other_of}
use Rattle.change_directory.specs.Logs.{bytes_of_page, log_of, spare_in, are_pages}
use Rattle.asm_base.specs.Blocks.{image_of_page}
use Rattle.change_directory.specs.Changes.{copy_disk_bytes, IsAtHome, MayLog, HasLogged}
use Rattle.change_directory.specs.Homes.{AreDue, HasHomed}
use Rattle.change_directory.specs.Laws.{IsCopyReady, ArePut}
use Rattle.change_directory.proofs.Homing.{above}
use Rattle.change_directory.proofs.Keeping.{in_homes, listed, other_page}
use Rattle.change_directory.proofs.Runs.{holds_logged, put_logged, put_logging}

abbrev Page : Type 0
Page = ℕ × Block

-- ---- the image of a page

find_image : Bool → Page → List Page → ℕ → Option Bytes
find_image b q pages n = option_map (λ (i : PageImage). i.1) (cond b (Some (image_of_page q)) (find (λ (i : PageImage). i.0 == n) (map image_of_page pages)))

pub image_case : (pages : List Page) (n : ℕ)
    → ((p : Page) × IsAmong pages p × (p.0 ≡ n) × (logged_image (map image_of_page pages) n ≡ Some p.1.bytes))
    ⊎ ((logged_image (map image_of_page pages) n ≡ None) × ((p : Page) → IsAmong pages p → p.0 ≡ n → ⊥))
unfolding find_image
image_case [] n = inr (refl, λ p among e. among)
image_case (q ∷ pages) n = ⊎_elim
    (λ (same : q.0 ≡ n). inl (q, inl refl, same, ap (λ (b : Bool). find_image b q pages n) (eq-eqb q.0 n same)))
    (λ (differ : q.0 ≡ n → ⊥).
    let miss : logged_image (map image_of_page (q ∷ pages)) n ≡ logged_image (map image_of_page pages) n = ap (λ (b : Bool). find_image b q pages n) (ne_eqb q.0 n differ) in
    ⊎_elim
    (λ (found : (p : Page) × IsAmong pages p × (p.0 ≡ n) × (logged_image (map image_of_page pages) n ≡ Some p.1.bytes)). inl (found.0, inr found.1, found.2, miss ∙ found.3))
    (λ (none : (logged_image (map image_of_page pages) n ≡ None) × ((p : Page) → IsAmong pages p → p.0 ≡ n → ⊥)).
    inr (miss ∙ none.0, λ p among e. ⊎_elim (λ (here : p ≡ q). differ (sym (ap (λ (r : Page). r.0) here) ∙ e)) (λ there. none.1 p there e) among))
    (image_case pages n))
    (cases_eq q.0 n)

-- one number is one page, where it is so behind the first
one_of : (x : Page) (pages : List Page) (p q : Page) → ascends_from (x.0 + 1) (map (λ (p : Page). p.0) pages) ≡ true → p.0 ≡ q.0 → (IsAmong pages p → IsAmong pages q → p ≡ q)
    → (p ≡ x) ⊎ IsAmong pages p → (q ≡ x) ⊎ IsAmong pages q → p ≡ q
one_of x pages p q rest e both (inl a) (inl b) = a ∙ sym b
one_of x pages p q rest e both (inl a) (inr there) = absurd (omega (arith, above (x.0 + 1) pages rest q there, ap (λ (r : Page). r.0) a, e))
one_of x pages p q rest e both (inr there) (inl b) = absurd (omega (arith, above (x.0 + 1) pages rest p there, ap (λ (r : Page). r.0) b, e))
one_of x pages p q rest e both (inr there) (inr yonder) = both there yonder

one_page : (m : ℕ) (pages : List Page) → ascends_from m (map (λ (p : Page). p.0) pages) ≡ true → (p q : Page) → IsAmong pages p → IsAmong pages q → p.0 ≡ q.0 → p ≡ q
one_page m [] up p q mine yours e = absurd mine
one_page m (x ∷ pages) up p q mine yours e =
    let rest = (and_parts (nat_le m x.0) (ascends_from (x.0 + 1) (map (λ (p : Page). p.0) pages)) up).1 in
    one_of x pages p q rest e (λ there yonder. one_page (x.0 + 1) pages rest p q there yonder e) mine yours

-- ---- the pages of a log

pub same_numbers : (pages : List Page) → map (λ (i : PageImage). i.0) (map image_of_page pages) ≡ map (λ (p : Page). p.0) pages
same_numbers [] = refl
same_numbers (p ∷ pages) = ap (λ (l : List ℕ). p.0 ∷ l) (same_numbers pages)

all_numbers : (test : ℕ → Bool) (pages : List Page) → list_all test (map (λ (p : Page). p.0) pages) ≡ true → list_all (λ (p : Page). test p.0) pages ≡ true
all_numbers test [] ok = refl
all_numbers test (p ∷ pages) ok =
    let parts = and_parts (test p.0) (list_all test (map (λ (p : Page). p.0) pages)) ok in
    and_from (test p.0) (list_all (λ (p : Page). test p.0) pages) parts.0 (all_numbers test pages parts.1)

pub all_images : (pages : List Page) → list_all (λ (p : Page). is_page (bytes_of_page p)) pages ≡ true → list_all (λ (i : PageImage). is_page i.1) (map image_of_page pages) ≡ true
all_images [] ok = refl
all_images (p ∷ pages) ok =
    let parts = and_parts (is_page (bytes_of_page p)) (list_all (λ (p : Page). is_page (bytes_of_page p)) pages) ok in
    and_from (is_page (bytes_of_page p)) (list_all (λ (i : PageImage). is_page i.1) (map image_of_page pages)) parts.0 (all_images pages parts.1)

-- the pages of a log's head are pages of the copy
pub head_pages : (d number : ℕ) (pages : List Page) → is_log_head d (head_of_log (log_of number pages)) ≡ true → are_pages d pages ≡ true
unfolding is_log_head
head_pages d number pages ok =
    let numbers = map (λ (i : PageImage). i.0) (map image_of_page pages) in
    let a = and_parts (nat_lt number (2 ^ 64)) _ ok in
    let b = and_parts (nat_le (length numbers) log_pages) _ a.1 in
    let c = and_parts (ascends_from 0 numbers) (list_all (λ p. nat_lt p d) numbers) b.1 in
    and_from (ascends_from 0 (map (λ (p : Page). p.0) pages)) (list_all (λ (p : Page). nat_lt p.0 d) pages)
    (ap (ascends_from 0) (sym (same_numbers pages)) ∙ c.0)
    (all_numbers (λ p. nat_lt p d) pages (ap (list_all (λ p. nat_lt p d)) (sym (same_numbers pages)) ∙ c.1))

module _ (copy : DirCopy) (number : ℕ) (pages : List Page) (put : ArePut copy number pages) where
  is_log : IsLog copy.dir_blocks (log_of number pages)
  is_log = (put.head, all_images pages put.decode)

  ok : are_pages copy.dir_blocks pages ≡ true
  ok = head_pages copy.dir_blocks number pages put.head

  up : ascends_from 0 (map (λ (p : Page). p.0) pages) ≡ true
  up = (and_parts (ascends_from 0 (map (λ (p : Page). p.0) pages)) (list_all (λ (p : Page). nat_lt p.0 copy.dir_blocks) pages) ok).0

  image_is : (p : Page) → IsAmong pages p → logged_image (log_of number pages).images p.0 ≡ Some p.1.bytes
  image_is p among = ⊎_elim
      (λ (found : (q : Page) × IsAmong pages q × (q.0 ≡ p.0) × (logged_image (map image_of_page pages) p.0 ≡ Some q.1.bytes)).
      found.3 ∙ ap (λ (r : Page). Some r.1.bytes) (one_page 0 pages up found.0 p found.1 among found.2))
      (λ (none : (logged_image (map image_of_page pages) p.0 ≡ None) × ((q : Page) → IsAmong pages q → q.0 ≡ p.0 → ⊥)). absurd (none.1 p among refl))
      (image_case pages p.0)

  pub logging_is_put : (x y : Image) → IsCopyReady copy number x → MayLog copy number pages x y
      → Same x y ⊎ IsLogPut copy.dir_blocks (copy_disk_bytes copy x) (copy_disk_bytes copy y) (gate_of copy (spare_in copy x)) (gate_of copy (other_of (spare_in copy x))) (log_of number pages)
  logging_is_put x y ready (inl same) = inl same
  logging_is_put x y ready (inr step) = inr (put_logging copy put.least put.most put.sector number pages is_log x y ready step)

  module _ (x y : Image) (ready : IsCopyReady copy number x) (logged : HasLogged copy number pages x y) where
    abbrev k : ℕ
    k = gate_of copy (spare_in copy x)

    abbrev other : ℕ
    other = gate_of copy (other_of (spare_in copy x))

    holds : HoldsLog (copy_disk_bytes copy y) k (log_of number pages)
    holds = holds_logged copy put.least put.most put.sector number pages is_log x y ready logged

    is_put : IsLogPut copy.dir_blocks (copy_disk_bytes copy x) (copy_disk_bytes copy y) k other (log_of number pages)
    is_put = put_logged copy put.least put.most put.sector number pages is_log x y ready logged

    pub logged_is_put : IsLogPut copy.dir_blocks (copy_disk_bytes copy x) (copy_disk_bytes copy y) k other (log_of number pages) × HoldsLog (copy_disk_bytes copy y) k (log_of number pages)
    logged_is_put = (is_put, holds)

    logs : open_logs copy.dir_blocks (copy_disk_bytes copy y) ≡ log_of number pages ∷ in_log copy.dir_blocks (copy_disk_bytes copy x) other
    logs = put_logs copy.dir_blocks (copy_disk_bytes copy x) k other is_put.may_close (copy_disk_bytes copy y) is_put.elsewhere (log_of number pages) (omega (arith, put.most)) is_log is_put.above holds

    pub logged_are_due : AreDue copy pages y
    logged_are_due = inr (λ p among. ap (λ (l : List Log). image_in l p.0) logs
        ∙ ap (λ (o : Option Bytes). option_or o (image_in (in_log copy.dir_blocks (copy_disk_bytes copy x) other) p.0)) (image_is p among))

    module _ (z : Image) (homed : HasHomed copy pages y z) where
      sized : region_end copy.dir_blocks * block_size ≤ y.size copy.slot
      sized = omega (arith, ready.sized, logged.elsewhere.size copy.slot)

      home_is : (page : ℕ) → page < copy.dir_blocks → home_page (copy_disk_bytes copy z) page ≡ with_images (log_of number pages).images (home_page (copy_disk_bytes copy x)) page
      home_is page lt = ⊎_elim
          (λ (found : (p : Page) × IsAmong pages p × (p.0 ≡ page) × (logged_image (map image_of_page pages) page ≡ Some p.1.bytes)).
          listed copy pages ok put.least y z sized homed.elsewhere z (homed.elsewhere.size copy.slot) page lt
          ∙ ap (λ (n : ℕ). window (z.byte copy.slot) ((region_start + n) * block_size) block_size) (sym found.2) ∙ homed.homes found.0 found.1
          ∙ sym (ap (λ (o : Option Bytes). unwrap_or o (home_page (copy_disk_bytes copy x) page)) found.3))
          (λ (none : (logged_image (map image_of_page pages) page ≡ None) × ((p : Page) → IsAmong pages p → p.0 ≡ page → ⊥)).
          other_page copy pages ok put.least y z sized homed.elsewhere page lt none.1
          ∙ home_same copy.dir_blocks (copy_disk_bytes copy x) k other is_put.may_close (copy_disk_bytes copy y) is_put.elsewhere page lt
          ∙ sym (ap (λ (o : Option Bytes). unwrap_or o (home_page (copy_disk_bytes copy x) page)) none.0))
          (image_case pages page)

      pub homed_are_at_home : IsAtHome copy z
      homed_are_at_home = commit_is_checkpointed copy.dir_blocks (copy_disk_bytes copy x) (copy_disk_bytes copy y) (copy_disk_bytes copy z) k other (log_of number pages) (omega (arith, put.most)) ready.home is_put holds
          (range_change 0 copy.slot (region_start * block_size) (copy.dir_blocks * block_size) y z (in_homes copy pages ok y z homed.elsewhere)).1 home_is
