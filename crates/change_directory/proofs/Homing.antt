-- Pages that are written home.
use Rattle.std.proofs.Common.{◌≡◌, ◌⊎◌, inl, inr, ⊎_elim, ℕ, zero, suc, ◌+◌, ◌-◌, ◌*◌, ◌<◌, ◌≤◌, Bool, true, List, [], ◌∷◌, ◌++◌, length, map, take, drop, get_or, refl, sym, ap, subst, ◌∙◌, arith, length-append, length-drop}
use Rattle.std.specs.Prelude.{nat_lt, nat_le, ◌==◌, Result}
use Rattle.std.specs.List.{list_all, flat_map, All}
use Rattle.std.proofs.lemmas.Bool.{cases_lt, and_parts, and_from, leb-true, ltb-true, eqb-true, eq-eqb}
use Rattle.std.proofs.lemmas.List.{take-append-drop, length-take-le, take_all}
use Rattle.bay.specs.Image.{Image, ChangesOnly, Range, Puts, window}
use Rattle.bay.specs.State.{BayState}
use Rattle.bay.specs.Moments.{Holds}
use Rattle.bay.specs.Calls.{Call, Held, cost}
use Rattle.bay.proofs.Calls.{both_held}
use Rattle.bay.proofs.OneCall.{afforded, on_region, wider}
use Rattle.bay.proofs.Images.{changes-within, changes-trans, changes-window}
use Rattle.asm_base.specs.declared.block.Block.{Block}
use Rattle.asm_group.specs.Names.{Bytes}
use Rattle.asm_formats.specs.Among.{IsAmong}
use Rattle.asm_formats.specs.Bytes.{block_size}
use Rattle.asm_formats.specs.Regions.{region_start}
use Rattle.asm_formats.specs.Status.{ascends_from}
use Rattle.change_directory.specs.declared.copy.DirCopy.{DirCopy}
use Rattle.change_directory.specs.Logs.{bytes_of_page, are_pages}
use Rattle.change_directory.specs.Homes.{HomesOf, AreHome, HasHomed, is_row, first_number}
use Rattle.change_directory.specs.Works.{WentHeld}
use Rattle.change_directory.proofs.Windows.{window-parts}

abbrev pub Page : Type 0
Page = ℕ × Block

-- each page is a block
abbrev pub AreBlocks : List Page → Type 0
AreBlocks pages = All (λ (p : Page). length (bytes_of_page p) ≡ 4096) pages

others : (p : Page) (pages : List Page) → AreBlocks (p ∷ pages) → AreBlocks pages
others p pages blocks = λ k d lt. blocks (suc k) d (omega arith)

-- what the disks hold, in fewer words
pub holds_less : {done less : Image → Image → Type 0} {a b : BayState} → ((x y : Image) → done x y → less x y) → Holds done a b → Holds less a b
holds_less {done} {less} {a} {b} within holds = record {
  held = λ image now. let from = holds.held image now in (from.0, from.1, within from.0 image from.2);
}

-- ---- lists

among_front : (xs ys : List Page) (p : Page) → IsAmong xs p → IsAmong (xs ++ ys) p
among_front [] ys p among = absurd among
among_front (x ∷ xs) ys p (inl here) = inl here
among_front (x ∷ xs) ys p (inr there) = inr (among_front xs ys p there)

among_behind : (xs ys : List Page) (p : Page) → IsAmong ys p → IsAmong (xs ++ ys) p
among_behind [] ys p among = among
among_behind (x ∷ xs) ys p among = inr (among_behind xs ys p among)

among_either : (xs ys : List Page) (p : Page) → IsAmong (xs ++ ys) p → IsAmong xs p ⊎ IsAmong ys p
among_either [] ys p among = inr among
among_either (x ∷ xs) ys p (inl here) = inl (inl here)
among_either (x ∷ xs) ys p (inr there) = ⊎_elim (λ a. inl (inr a)) inr (among_either xs ys p there)

abbrev none : List Page
none = []

take_none : (n : ℕ) → take n none ≡ none
take_none zero = refl
take_none (suc n) = refl

-- a front is a front and the next ones
pub front_more : (at count : ℕ) (pages : List Page) → take (at + count) pages ≡ take at pages ++ take count (drop at pages)
front_more zero count pages = ap (λ (n : ℕ). take n pages) (omega arith)
front_more (suc at) count [] = take_none (suc at + count) ∙ sym (take_none count)
front_more (suc at) count (p ∷ pages) =
    let more : suc at + count ≡ suc (at + count) = omega arith in
    ap (λ (n : ℕ). take n (p ∷ pages)) more ∙ ap (λ (l : List Page). p ∷ l) (front_more at count pages)

-- ---- rows

-- one more page in a row
row_next : (n i : ℕ) (pages : List Page) (d : Page) → i < length pages → (get_or pages i d).0 ≡ n + i → is_row n (take i pages) ≡ true → is_row n (take (suc i) pages) ≡ true
row_next n i [] d lt number row = absurd (omega arith)
row_next n zero (q ∷ pages) d lt number row =
    let same : q.0 ≡ n = omega (arith, number) in
    and_from (q.0 == n) true (eq-eqb q.0 n same) refl
row_next n (suc i) (q ∷ pages) d lt number row =
    let parts = and_parts (q.0 == n) (is_row (n + 1) (take i pages)) row in
    and_from (q.0 == n) (is_row (n + 1) (take (suc i) pages)) parts.0 (row_next (n + 1) i pages d (omega arith) (omega (arith, number)) parts.1)

pub row_more : (n i j : ℕ) (pages : List Page) (d : Page) → j ≡ i → j < length pages → (get_or pages j d).0 ≡ n + i → is_row n (take i pages) ≡ true → is_row n (take (i + 1) pages) ≡ true
row_more n i j pages d same lt number row =
    let next : suc i ≡ i + 1 = omega arith in
    let here : (get_or pages i d).0 ≡ n + i = ap (λ (k : ℕ). (get_or pages k d).0) (sym same) ∙ number in
    subst (λ (m : ℕ). is_row n (take m pages) ≡ true) next (row_next n i pages d (omega arith) here row)

-- the pages of a row lie below the copy's end
pub row_inside : (d n : ℕ) (run : List Page) → is_row n run ≡ true → list_all (λ (p : Page). nat_lt p.0 d) run ≡ true → 0 < length run → n + length run ≤ d
row_inside d n [] row below some = absurd (omega arith)
row_inside d n (p ∷ []) row below some =
    let first = and_parts (p.0 == n) true row in
    let under = and_parts (nat_lt p.0 d) true below in
    omega (arith, eqb-true p.0 n first.0, ltb-true p.0 d under.0)
row_inside d n (p ∷ q ∷ run) row below some =
    let first = and_parts (p.0 == n) (is_row (n + 1) (q ∷ run)) row in
    let under = and_parts (nat_lt p.0 d) (list_all (λ (p : Page). nat_lt p.0 d) (q ∷ run)) below in
    omega (arith, row_inside d (n + 1) (q ∷ run) first.1 under.1 (omega arith))

-- the bytes of a row are the homes of its pages
pub row_region : (copy : DirCopy) (n : ℕ) (run : List Page) → is_row n run ≡ true
    → (s k : ℕ) → Range copy.slot ((region_start + n) * block_size) (length run * block_size) s k → HomesOf copy run s k
row_region copy n [] row s k inside = absurd (omega (arith, inside.1, inside.2))
row_region copy n (p ∷ run) row s k inside =
    let first = and_parts (p.0 == n) (is_row (n + 1) run) row in
    let number : p.0 ≡ n = eqb-true p.0 n first.0 in
    ⊎_elim
    (λ (here : k < (region_start + n) * block_size + block_size). (p, inl refl, (inside.0, omega (arith, inside.1, number), omega (arith, here, number))))
    (λ (behind : (region_start + n) * block_size + block_size ≤ k).
    let there = row_region copy (n + 1) run first.1 s k (inside.0, omega (arith, behind), omega (arith, inside.2)) in
    (there.0, inr there.1, there.2))
    (cases_lt k ((region_start + n) * block_size + block_size))

-- the pages of a row that is stored stand at home
pub row_homes : (copy : DirCopy) (n : ℕ) (run : List Page) → AreBlocks run → is_row n run ≡ true → (image : Image)
    → window (image.byte copy.slot) ((region_start + n) * block_size) (length (flat_map bytes_of_page run)) ≡ flat_map bytes_of_page run → AreHome copy run image
row_homes copy n [] blocks row image here q among = absurd among
row_homes copy n (p ∷ run) blocks row image here q among =
    let first = and_parts (p.0 == n) (is_row (n + 1) run) row in
    let number : p.0 ≡ n = eqb-true p.0 n first.0 in
    let long : length p.1.bytes ≡ 4096 = blocks 0 p (omega arith) in
    let parts = window-parts (image.byte copy.slot) ((region_start + n) * block_size) p.1.bytes (flat_map bytes_of_page run) here in
    let next : (region_start + n) * 4096 + length p.1.bytes ≡ (region_start + (n + 1)) * 4096 = omega arith in
    let this : window (image.byte copy.slot) ((region_start + p.0) * block_size) block_size ≡ p.1.bytes =
    (λ i. window (image.byte copy.slot) ((region_start + number i) * block_size) (sym long i)) ∙ parts.0 in
    ⊎_elim
    (λ (same : q ≡ p). subst (λ (r : Page). window (image.byte copy.slot) ((region_start + r.0) * block_size) block_size ≡ r.1.bytes) (sym same) this)
    (λ there. row_homes copy (n + 1) run (others p run blocks) first.1 image (ap (λ (a : ℕ). window (image.byte copy.slot) a (length (flat_map bytes_of_page run))) (sym next) ∙ parts.1) q there)
    among

pub gathered_len : (run : List Page) → AreBlocks run → length (flat_map bytes_of_page run) ≡ length run * 4096
gathered_len [] blocks = omega arith
gathered_len (p ∷ run) blocks =
    omega (arith, length-append p.1.bytes (flat_map bytes_of_page run), blocks 0 p (omega arith), gathered_len run (others p run blocks))

-- ---- run after run

-- where numbers ascend, none is below the least
pub above : (m : ℕ) (zs : List Page) → ascends_from m (map (λ (p : Page). p.0) zs) ≡ true → (q : Page) → IsAmong zs q → m ≤ q.0
above m [] up q among = absurd among
above m (z ∷ zs) up q (inl same) = omega (arith, ap (λ (r : Page). r.0) same, leb-true m z.0 (and_parts (nat_le m z.0) (ascends_from (z.0 + 1) (map (λ (p : Page). p.0) zs)) up).0)
above m (z ∷ zs) up q (inr there) =
    let parts = and_parts (nat_le m z.0) (ascends_from (z.0 + 1) (map (λ (p : Page). p.0) zs)) up in
    omega (arith, leb-true m z.0 parts.0, above (z.0 + 1) zs parts.1 q there)

-- numbers ascend from front to back
ascends_over : (least : ℕ) (xs ys : List Page) → ascends_from least (map (λ (p : Page). p.0) (xs ++ ys)) ≡ true → (p q : Page) → IsAmong xs p → IsAmong ys q → p.0 < q.0
ascends_over least [] ys up p q mine yours = absurd mine
ascends_over least (x ∷ xs) ys up p q (inl same) yours =
    let parts = and_parts (nat_le least x.0) (ascends_from (x.0 + 1) (map (λ (p : Page). p.0) (xs ++ ys))) up in
    omega (arith, ap (λ (r : Page). r.0) same, above (x.0 + 1) (xs ++ ys) parts.1 q (among_behind xs ys q yours))
ascends_over least (x ∷ xs) ys up p q (inr there) yours =
    let parts = and_parts (nat_le least x.0) (ascends_from (x.0 + 1) (map (λ (p : Page). p.0) (xs ++ ys))) up in
    ascends_over (x.0 + 1) xs ys parts.1 p q there yours

pub homes_front : (copy : DirCopy) (xs ys : List Page) (s k : ℕ) → HomesOf copy xs s k → HomesOf copy (xs ++ ys) s k
homes_front copy xs ys s k inside = (inside.0, among_front xs ys inside.0 inside.1, inside.2)

pub homes_behind : (copy : DirCopy) (xs ys : List Page) (s k : ℕ) → HomesOf copy ys s k → HomesOf copy (xs ++ ys) s k
homes_behind copy xs ys s k inside = (inside.0, among_behind xs ys inside.0 inside.1, inside.2)

-- pages are written after others
pub homed_more : (copy : DirCopy) (xs ys : List Page) → ascends_from 0 (map (λ (p : Page). p.0) (xs ++ ys)) ≡ true
    → (x y z : Image) → HasHomed copy xs x y → HasHomed copy ys y z → HasHomed copy (xs ++ ys) x z
homed_more copy xs ys up x y z first second = record {
  homes = λ p among. ⊎_elim
      (λ (mine : IsAmong xs p). changes-window (HomesOf copy ys) y z copy.slot ((region_start + p.0) * block_size) block_size
      (λ k low high inside. let lower = ascends_over 0 xs ys up p inside.0 mine inside.1 in omega (arith, lower, inside.2.1, high)) second.elsewhere ∙ first.homes p mine)
      (λ (yours : IsAmong ys p). second.homes p yours)
      (among_either xs ys p among);
  elsewhere = changes-trans (HomesOf copy (xs ++ ys)) x y z
      (changes-within (HomesOf copy (xs ++ ys)) (HomesOf copy xs) x y (homes_front copy xs ys) first.elsewhere)
      (changes-within (HomesOf copy (xs ++ ys)) (HomesOf copy ys) y z (homes_behind copy xs ys) second.elsewhere);
}

-- ---- a write of a row

module _ (copy : DirCopy) (run : List Page) (row : is_row (first_number run) run ≡ true) (at : ℕ) (bytes : Bytes) (place : at ≡ (region_start + first_number run) * block_size)
    (long : length bytes ≡ length run * block_size) where
  in_row : (s k : ℕ) → Range copy.slot at (length bytes) s k → HomesOf copy run s k
  in_row s k inside = row_region copy (first_number run) run row s k (inside.0, omega (arith, inside.1, place), omega (arith, inside.2, place, long))

  pub row_changes : (x y : Image) → ChangesOnly (Range copy.slot at (length bytes)) x y → ChangesOnly (HomesOf copy run) x y
  row_changes x y step = changes-within (HomesOf copy run) (Range copy.slot at (length bytes)) x y in_row step

  pub row_homed : AreBlocks run → bytes ≡ flat_map bytes_of_page run → (x y : Image) → Puts copy.slot at bytes x y → HasHomed copy run x y
  row_homed blocks is x y step = record {
    homes = row_homes copy (first_number run) run blocks row y
        (ap (λ (a : ℕ). window (y.byte copy.slot) a (length (flat_map bytes_of_page run))) (sym place) ∙ ap (λ (l : Bytes). window (y.byte copy.slot) at (length l)) (sym is) ∙ step.here ∙ is);
    elsewhere = row_changes x y step.elsewhere;
  }

-- ---- one run more

-- a front lies among all
pub in_all : (copy : DirCopy) (n : ℕ) (pages : List Page) (x y : Image) → ChangesOnly (HomesOf copy (take n pages)) x y → ChangesOnly (HomesOf copy pages) x y
in_all copy n pages x y step =
    subst (λ (l : List Page). ChangesOnly (HomesOf copy l) x y) (take-append-drop n pages)
    (changes-within (HomesOf copy (take n pages ++ drop n pages)) (HomesOf copy (take n pages)) x y (homes_front copy (take n pages) (drop n pages)) step)

-- numbers that ascend do so up to a place
ascends_front : (m n : ℕ) (pages : List Page) → ascends_from m (map (λ (p : Page). p.0) pages) ≡ true → ascends_from m (map (λ (p : Page). p.0) (take n pages)) ≡ true
ascends_front m zero pages up = refl
ascends_front m (suc n) [] up = refl
ascends_front m (suc n) (p ∷ pages) up =
    let parts = and_parts (nat_le m p.0) (ascends_from (p.0 + 1) (map (λ (p : Page). p.0) pages)) up in
    and_from (nat_le m p.0) (ascends_from (p.0 + 1) (map (λ (p : Page). p.0) (take n pages))) parts.0 (ascends_front (p.0 + 1) n pages parts.1)

pub run_homed : (copy : DirCopy) (d at count : ℕ) (pages : List Page) → are_pages d pages ≡ true
    → (x y z : Image) → HasHomed copy (take at pages) x y → HasHomed copy (take count (drop at pages)) y z → HasHomed copy (take (at + count) pages) x z
run_homed copy d at count pages ok x y z first second =
    let up = (and_parts (ascends_from 0 (map (λ (p : Page). p.0) pages)) (list_all (λ (p : Page). nat_lt p.0 d) pages) ok).0 in
    let front = front_more at count pages in
    let ascends = ap (λ (l : List Page). ascends_from 0 (map (λ (p : Page). p.0) l)) (sym front) ∙ ascends_front 0 (at + count) pages up in
    subst (λ (l : List Page). HasHomed copy l x z) (sym front) (homed_more copy (take at pages) (take count (drop at pages)) ascends x y z first second)

-- no page yet
pub homed_none : (copy : DirCopy) (x : Image) → HasHomed copy [] x x
homed_none copy x = record { homes = λ p among. absurd among; elsewhere = record { size = λ s. refl; byte = λ s k outside. refl } }

-- the pages of a run lie below the copy's end
all_front : (test : Page → Bool) (n : ℕ) (pages : List Page) → list_all test pages ≡ true → list_all test (take n pages) ≡ true
all_front test zero pages ok = refl
all_front test (suc n) [] ok = refl
all_front test (suc n) (p ∷ pages) ok =
    let parts = and_parts (test p) (list_all test pages) ok in
    and_from (test p) (list_all test (take n pages)) parts.0 (all_front test n pages parts.1)

all_behind : (test : Page → Bool) (n : ℕ) (pages : List Page) → list_all test pages ≡ true → list_all test (drop n pages) ≡ true
all_behind test zero pages ok = ok
all_behind test (suc n) [] ok = refl
all_behind test (suc n) (p ∷ pages) ok = all_behind test n pages (and_parts (test p) (list_all test pages) ok).1

first_of_front : (n : ℕ) (pages : List Page) → 0 < n → first_number (take n pages) ≡ first_number pages
first_of_front zero pages some = absurd (omega arith)
first_of_front (suc n) [] some = refl
first_of_front (suc n) (p ∷ pages) some = refl

pub record IsRun (d : ℕ) (run : List Page) : Type 0 where
  pub row : is_row (first_number run) run ≡ true
  pub inside : first_number run + length run ≤ d

pub is_run : (d at count : ℕ) (pages : List Page) → are_pages d pages ≡ true → 0 < count → count ≤ length (drop at pages) → is_row (first_number (drop at pages)) (take count (drop at pages)) ≡ true
    → IsRun d (take count (drop at pages))
is_run d at count pages ok some inside row =
    let below = (and_parts (ascends_from 0 (map (λ (p : Page). p.0) pages)) (list_all (λ (p : Page). nat_lt p.0 d) pages) ok).1 in
    let run : List Page = take count (drop at pages) in
    let same : first_number (take count (drop at pages)) ≡ first_number (drop at pages) = first_of_front count (drop at pages) some in
    let here : is_row (first_number (take count (drop at pages))) (take count (drop at pages)) ≡ true = ap (λ (n : ℕ). is_row n (take count (drop at pages))) same ∙ row in
    let long : length (take count (drop at pages)) ≡ count = length-take-le count (drop at pages) inside in
    record {
      row = here;
      inside = row_inside d (first_number (take count (drop at pages))) (take count (drop at pages)) here
          (all_front (λ (p : Page). nat_lt p.0 d) count (drop at pages) (all_behind (λ (p : Page). nat_lt p.0 d) at pages below)) (omega arith);
    }

-- the run that begins at a place
pub record NextRun (d at count : ℕ) (pages : List Page) : Type 0 where
  pub some : 0 < count
  pub inside : count ≤ length pages - at
  pub among : count ≤ length (drop at pages)
  pub run : IsRun d (take count (drop at pages))

pub next_run : (d at count : ℕ) (pages : List Page) → are_pages d pages ≡ true → at < length pages → (0 < length (take (length pages - at) (drop at pages)) → 0 < count)
    → count ≤ length (take (length pages - at) (drop at pages))
    → is_row (first_number (take (length pages - at) (drop at pages))) (take count (take (length pages - at) (drop at pages))) ≡ true → NextRun d at count pages
next_run d at count pages ok lt some inside row =
    let left : length (drop at pages) ≡ length pages - at = length-drop at pages in
    let whole : take (length pages - at) (drop at pages) ≡ drop at pages = take_all (length pages - at) (drop at pages) (omega arith) in
    let long : length (take (length pages - at) (drop at pages)) ≡ length pages - at = ap (λ (l : List Page). length l) whole ∙ left in
    let more : 0 < length (take (length pages - at) (drop at pages)) = omega arith in
    let positive : 0 < count = some more in
    let within : count ≤ length (drop at pages) = omega arith in
    record {
      some = positive;
      inside = omega arith;
      among = within;
      run = is_run d at count pages ok positive within (subst (λ (l : List Page). is_row (first_number l) (take count l) ≡ true) whole row);
    }

-- a run lies among all pages
run_in : (copy : DirCopy) (at count : ℕ) (pages : List Page) (x y : Image) → ChangesOnly (HomesOf copy (take count (drop at pages))) x y → ChangesOnly (HomesOf copy pages) x y
run_in copy at count pages x y step =
    subst (λ (l : List Page). ChangesOnly (HomesOf copy l) x y) (take-append-drop at pages)
    (changes-within (HomesOf copy (take at pages ++ drop at pages)) (HomesOf copy (drop at pages)) x y (homes_behind copy (take at pages) (drop at pages)) (in_all copy count (drop at pages) x y step))

-- the pages up to a place were written, and then the next run
pub one_run : {E : Type 0} {result : Result (Unit {0}) E} (copy : DirCopy) (d at count n : ℕ) (pages : List Page) → n ≡ count → are_pages d pages ≡ true → NextRun d at count pages → {a b c : BayState}
    → WentHeld copy.slot (ChangesOnly (HomesOf copy pages)) (HasHomed copy (take at pages)) (cost at (at * 4096)) a b
    → Call result copy.slot (ChangesOnly (HomesOf copy (take n (drop at pages)))) (Held (HasHomed copy (take n (drop at pages)))) (cost 1 (length (take n (drop at pages)) * 4096)) b c
    → Call result copy.slot (ChangesOnly (HomesOf copy pages)) (Held (HasHomed copy (take (at + count) pages))) (cost (at + count) ((at + count) * 4096)) a c
one_run {result = result} copy d at count n pages same ok next {a} {b} {c} went call =
    let run = subst (λ (m : ℕ). Call result copy.slot (ChangesOnly (HomesOf copy (take m (drop at pages)))) (Held (HasHomed copy (take m (drop at pages)))) (cost 1 (length (take m (drop at pages)) * 4096)) b c) same call in
    let long : length (take count (drop at pages)) ≡ count = length-take-le count (drop at pages) next.among in
    afforded (record { calls = omega (arith, next.some); bytes = λ s. omega (arith, long) })
    (on_region {last = Held (HasHomed copy (take count (drop at pages)))} {does = Held (HasHomed copy (take (at + count) pages))} went.calls
    (λ value homed. both_held (run_homed copy d at count pages ok) went.done homed)
    (record { calls = wider (run_in copy at count pages) run.calls; done = run.done; cause = run.cause }))
