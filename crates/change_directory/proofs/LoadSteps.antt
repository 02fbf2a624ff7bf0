-- What is told of the pages after one read more.
use Rattle.std.proofs.Common.{◌≡◌, ℕ, ◌+◌, ◌-◌, ◌*◌, ◌≤◌, Bool, true, false, cond, List, [], ◌++◌, length, map, Some, sym, ap, subst, ◌∙◌, arith}
use Rattle.std.specs.Option.{ForSome, is_some}
use Rattle.bay.specs.Image.{Image, Same, window}
use Rattle.bay.specs.State.{BayState}
use Rattle.bay.specs.Moments.{Runs}
use Rattle.asm_group.specs.Names.{Bytes}
use Rattle.change_directory.specs.declared.copy.DirCopy.{DirCopy}
use Rattle.change_directory.specs.declared.loading.Pages.{Pages}
use Rattle.change_directory.specs.declared.open_log.OpenLogs.{OpenLogs}
use Rattle.asm_base.specs.Blocks.{image_of_page}
use Rattle.bay.specs.Told.{Told}
use Rattle.change_directory.specs.Loads.{OpenSlot}
use Rattle.change_directory.specs.Slots.{ArePages, AreTaken, IsPageDamage, all_due, all_filled, all_slots, blocks_at, blocks_of, damaged_page, first_bad, home_blocks, open_log_number, open_homes}
use Rattle.change_directory.proofs.BlockRows.{blocks_len, blocks_more, blocks_same, cut_window}
use Rattle.change_directory.proofs.PageRows.{damage_behind, damage_front, taken_more, taken_none}
use Rattle.bay.proofs.Telling.{told_before, told_later}
use Rattle.change_directory.proofs.Telling.{told_both}

module _ (copy : DirCopy) (slots : List OpenSlot) where
  homes_same : (first count : ℕ) (x y : Image) → Same x y → home_blocks copy first count y ≡ home_blocks copy first count x
  homes_same first count x y same = blocks_same (x.byte copy.slot) (y.byte copy.slot) (λ k. same.byte copy.slot k) (10 + first) count

  homes_more : (first count : ℕ) (image : Image) → home_blocks copy 0 (first + count) image ≡ home_blocks copy 0 first image ++ home_blocks copy first count image
  homes_more first count image = blocks_more (image.byte copy.slot) 10 first count

  from_zero : (first : ℕ) (image : Image) → 0 + length (home_blocks copy 0 first image) ≡ first
  from_zero first image = omega (arith, blocks_len (image.byte copy.slot) 10 first)

  taken_on : (first count n : ℕ) (a b c : Pages) → first + count ≡ n → (image : Image)
      → AreTaken slots 0 (home_blocks copy 0 first image) a b → AreTaken slots first (home_blocks copy first count image) b c → AreTaken slots 0 (home_blocks copy 0 n image) a c
  taken_on first count n a b c at image one two =
      let more : home_blocks copy 0 n image ≡ home_blocks copy 0 first image ++ home_blocks copy first count image = ap (λ (m : ℕ). home_blocks copy 0 m image) (sym at) ∙ homes_more first count image in
      subst (λ (l : List Bytes). AreTaken slots 0 l a c) (sym more)
      (taken_more slots 0 first (home_blocks copy 0 first image) (home_blocks copy first count image) a b c (from_zero first image) one two)

  pub taken_step : (s m t : BayState) {early late : ℕ → Type 0} (first count n : ℕ) (a b c : Pages) → first + count ≡ n → Runs early Same s m → Runs late Same m t
      → Told s m (λ image. AreTaken slots 0 (home_blocks copy 0 first image) a b) → Told m t (λ image. AreTaken slots first (home_blocks copy first count image) b c)
      → Told s t (λ image. AreTaken slots 0 (home_blocks copy 0 n image) a c)
  taken_step s m t first count n a b c at run next one two =
      told_both s t (λ image. AreTaken slots 0 (home_blocks copy 0 first image) a b) (λ image. AreTaken slots first (home_blocks copy first count image) b c) (λ image. AreTaken slots 0 (home_blocks copy 0 n image) a c)
      (taken_on first count n a b c at)
      (told_later s m t (λ image. AreTaken slots 0 (home_blocks copy 0 first image) a b) next one)
      (told_before s m t (λ image. AreTaken slots first (home_blocks copy first count image) b c) run next
      (λ x y same. subst (λ (l : List Bytes). AreTaken slots first l b c) (homes_same first count x y same)) two)

  damage_on : (first count block : ℕ) (a b : Pages) → first + count ≤ copy.dir_blocks → (image : Image)
      → AreTaken slots 0 (home_blocks copy 0 first image) a b → damaged_page slots first (home_blocks copy first count image) ≡ Some block → damaged_page slots 0 (home_blocks copy 0 copy.dir_blocks image) ≡ Some block
  damage_on first count block a b inside image one damage =
      let d : ℕ = copy.dir_blocks in
      let byte = image.byte copy.slot in
      let all : first + count + (d - (first + count)) ≡ d = omega (arith, inside) in
      let front : List Bytes = home_blocks copy 0 first image in
      let piece : List Bytes = home_blocks copy first count image in
      let both : damaged_page slots 0 (front ++ piece) ≡ Some block = damage_behind slots 0 first block front piece (from_zero first image) one.sound damage in
      let split : home_blocks copy 0 d image ≡ (front ++ piece) ++ blocks_at byte (10 + (first + count)) (d - (first + count)) =
      ap (λ (n : ℕ). home_blocks copy 0 n image) (sym all) ∙ blocks_more byte 10 (first + count) (d - (first + count))
      ∙ ap (λ (l : List Bytes). l ++ blocks_at byte (10 + (first + count)) (d - (first + count))) (homes_more first count image) in
      subst (λ (l : List Bytes). damaged_page slots 0 l ≡ Some block) (sym split) (damage_front slots 0 block (front ++ piece) (blocks_at byte (10 + (first + count)) (d - (first + count))) both)

  pub damage_step : (s m t : BayState) {early late : ℕ → Type 0} (first count block : ℕ) (a b : Pages) → first + count ≤ copy.dir_blocks → Runs early Same s m → Runs late Same m t
      → Told s m (λ image. AreTaken slots 0 (home_blocks copy 0 first image) a b) → Told m t (λ image. damaged_page slots first (home_blocks copy first count image) ≡ Some block)
      → Told s t (λ image. damaged_page slots 0 (home_blocks copy 0 copy.dir_blocks image) ≡ Some block)
  damage_step s m t first count block a b inside run next one two =
      told_both s t (λ image. AreTaken slots 0 (home_blocks copy 0 first image) a b) (λ image. damaged_page slots first (home_blocks copy first count image) ≡ Some block) (λ image. damaged_page slots 0 (home_blocks copy 0 copy.dir_blocks image) ≡ Some block)
      (damage_on first count block a b inside)
      (told_later s m t (λ image. AreTaken slots 0 (home_blocks copy 0 first image) a b) next one)
      (told_before s m t (λ image. damaged_page slots first (home_blocks copy first count image) ≡ Some block) run next
      (λ x y same d. ap (damaged_page slots first) (sym (homes_same first count x y same)) ∙ d) two)

  -- at the start
  pub start_told : (s t : BayState) (m : ℕ) (a : Pages) → m ≡ 0 → Told s t (λ image. AreTaken slots 0 (home_blocks copy 0 m image) a a)
  unfolding blocks_at
  start_told s t m a none = λ now holds image was. subst (λ (n : ℕ). AreTaken slots 0 (home_blocks copy 0 n image) a a) (sym none) (taken_none slots 0 a)

-- ---- all pages

module _ (copy : DirCopy) (logs : OpenLogs) (s t : BayState) (start : Pages) (number : start.number ≡ open_log_number logs.newest) (no_blocks : start.blocks.items ≡ []) (no_due : start.due.items ≡ []) where
  pub pages_told : (pages : Pages) → is_some logs.newest ≡ true → Told s t (λ image. AreTaken (all_slots logs) 0 (home_blocks copy 0 copy.dir_blocks image) start pages) → Told s t (ArePages copy logs pages)
  pages_told pages opened told = λ now holds image was.
      let taken = told now holds image was in
      let homes : home_blocks copy 0 copy.dir_blocks image ≡ open_homes copy logs image = ap (λ (b : Bool). cond b (home_blocks copy 0 copy.dir_blocks image) []) (sym opened) in
      record {
        number = taken.takes.number ∙ number;
        blocks = taken.takes.blocks_are ∙ (λ i. map image_of_page (no_blocks i) ++ all_filled (all_slots logs) 0 (homes i));
        due = taken.takes.due_are ∙ (λ i. no_due i ++ all_due (all_slots logs) 0 (homes i));
        sound = sym (ap (first_bad (all_slots logs) 0) homes) ∙ taken.sound;
      }

  pub no_pages_told : is_some logs.newest ≡ false → Told s t (ArePages copy logs start)
  unfolding all_filled all_due first_bad
  no_pages_told shut = λ now holds image was.
      let homes : [] ≡ open_homes copy logs image = ap (λ (b : Bool). cond b (home_blocks copy 0 copy.dir_blocks image) []) (sym shut) in
      record {
        number = number;
        blocks = ap (map image_of_page) no_blocks ∙ ap (all_filled (all_slots logs) 0) homes;
        due = no_due ∙ ap (all_due (all_slots logs) 0) homes;
        sound = sym (ap (first_bad (all_slots logs) 0) homes);
      }

pub page_damage : (copy : DirCopy) (logs : OpenLogs) (s t : BayState) (block : ℕ) → is_some logs.newest ≡ true → Told s t (λ image. damaged_page (all_slots logs) 0 (home_blocks copy 0 copy.dir_blocks image) ≡ Some block) → Told s t (IsPageDamage copy logs block)
page_damage copy logs s t block opened told = λ now holds image was.
    ap (λ (b : Bool). damaged_page (all_slots logs) 0 (cond b (home_blocks copy 0 copy.dir_blocks image) [])) opened ∙ told now holds image was

-- ---- blocks that were read

-- the blocks of what was read
pub read_blocks : (s t : BayState) (slot k at n : ℕ) (bytes : Bytes) → at ≡ k * 4096 → length bytes ≡ n * 4096
    → (len : ℕ) → len ≡ n * 4096 → ForSome s.holds (λ image. bytes ≡ window (image.byte slot) at len) → Told s t (λ image. blocks_of n bytes ≡ blocks_at (image.byte slot) k n)
read_blocks s t slot k at n bytes at_is long len len_is read = λ now holds image was.
    ap (blocks_of n) (read image was ∙ (λ i. window (image.byte slot) (at_is i) (len_is i))) ∙ cut_window (image.byte slot) k n
