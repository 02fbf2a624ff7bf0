-- What a copy says rests on the bytes of its directory region alone.
use Rattle.std.proofs.Common.{◌≡◌, ◌≢◌, inl, inr, ⊎_elim, ℕ, zero, suc, ◌+◌, ◌*◌, ◌<◌, ◌≤◌, Bool, cond, List, length, find, refl, sym, ap, ◌∙◌, Option, Some, None, arith}
use Rattle.std.specs.Prelude.{◌&&◌, ◌||◌, not}
use Rattle.std.specs.List.{range_with_len}
use Rattle.std.specs.Option.{is_some, option_map, option_or}
use Rattle.bay.specs.Image.{Image, ChangesOnly}
use Rattle.bay.proofs.Images.{window-same}
use Rattle.asm_base.specs.declared.block.Block.{Block}
use Rattle.asm_group.specs.Names.{Bytes}
use Rattle.asm_formats.specs.Bytes.{block_size, block, is_open}
use Rattle.asm_formats.specs.Regions.{region_start, region_end, first_log, second_log, log_blocks, page_home, has_region}
use Rattle.asm_formats.specs.Content.{is_page}
use Rattle.asm_formats.specs.Logs.{Log, LogHead, decoded_log_head, open_logs, image_in}
use Rattle.asm_formats.specs.Pages.{home_page}
use Rattle.asm_formats.specs.Damage.{is_bad_page, head_damage, log_damage, directory_damage}
use Rattle.asm_formats.proofs.Among.{cond_same}
use Rattle.asm_formats.proofs.Blocks.{SameSlot}
use Rattle.asm_formats.proofs.LogReading.{log_head_spelled, log_head_len}
use Rattle.asm_formats.proofs.SameLogs as same_logs
use Rattle.asm_formats.proofs.SameLogs.{SameLogs, open_logs_same, logs_decode_same, page_same}
use Rattle.asm_images.proofs.Bridges.{bytes_are_listed}
use Rattle.change_directory.specs.declared.copy.DirCopy.{DirCopy}
use Rattle.change_directory.specs.declared.copy.LogSlot.{LogSlot}
use Rattle.change_directory.specs.declared.copy.LogSlot.TheVariants.{First, Second}
use Rattle.change_directory.specs.Places.{gate_of}
use Rattle.change_directory.specs.Logs.{SameLogSlots, is_open_at, commit_number_at}
use Rattle.change_directory.specs.Changes.{copy_disk_bytes, content_in, IsAtHome, DecodesIn}
use Rattle.change_directory.specs.StoreLaws.{IsShaped, HasRegion, RegionOf, counting_page, HasPages, HasDue, SameRegion, SameCopy}
use Rattle.change_directory.proofs.Copies.{still_above}
use Rattle.change_directory.proofs.Spares.{gate_listed, low_gate, region_logs, slot_inside}

-- two searches of a range that agree
find_same : (f g : ℕ → Bool) (a n : ℕ) → ((k : ℕ) → a ≤ k → k < a + n → f k ≡ g k) → find f (range_with_len a n) ≡ find g (range_with_len a n)
find_same f g a zero same = refl
find_same f g a (suc n) same =
    let here = same a (omega arith) (omega arith) in
    let others = find_same f g (a + 1) n (λ k low high. same k (omega arith) (omega arith)) in
    λ i. cond (here i) (Some a) (others i)

module _ (d : ℕ) (old new : Bytes) (k : ℕ) (gate : is_open new k ≡ is_open old k) (same : (j : ℕ) → k < j → j < k + log_blocks → block new j ≡ block old j) where
  head_same : (o : Option LogHead) → decoded_log_head d (block old (k + 1)) ≡ o → head_damage new k o ≡ head_damage old k o
  head_same None is = refl
  head_same (Some h) is =
      let few = log_head_len d h (log_head_spelled d (block old (k + 1)) h is).allowed in
      find_same (λ b. not (is_page (block new b))) (λ b. not (is_page (block old b))) (k + 2) (length h.pages)
      (λ b low high. ap (λ (bytes : Bytes). not (is_page bytes)) (same b (omega (arith, low)) (omega (arith, high, few))))

  log_damage_same : log_damage d new k ≡ log_damage d old k
  log_damage_same =
      cond_same (is_open new k) (is_open old k) (head_damage new k (decoded_log_head d (block new (k + 1)))) (head_damage old k (decoded_log_head d (block old (k + 1)))) None gate
      (λ opened. ap (λ (b : Bytes). head_damage new k (decoded_log_head d b)) (same (k + 1) (omega arith) (omega arith)) ∙ head_same (decoded_log_head d (block old (k + 1))) refl)

module _ (copy : DirCopy) (shaped : IsShaped copy) (x y : Image) (sized : HasRegion copy x) (same : SameRegion copy x y) where
  abbrev d : ℕ
  d = copy.dir_blocks

  sized_after : HasRegion copy y
  sized_after = omega (arith, sized, same.size)

  block_same : (j : ℕ) → region_start ≤ j → j < region_end d → block (copy_disk_bytes copy y) j ≡ block (copy_disk_bytes copy x) j
  block_same j low high =
      (bytes_are_listed y copy.slot).2 (j * block_size) block_size (omega (arith, sized_after, high))
      ∙ window-same (x.byte copy.slot) (y.byte copy.slot) (j * block_size) block_size (λ k from to. same.bytes k (omega (arith, low, from)) (omega (arith, high, to)))
      ∙ sym ((bytes_are_listed x copy.slot).2 (j * block_size) block_size (omega (arith, sized, high)))

  slots_same : SameLogSlots copy x y
  slots_same = region_logs copy x y shaped.least same

  gates : (log : LogSlot) → is_open_at copy log y ≡ is_open_at copy log x
  gates = slots_same.gates

  numbers : (log : LogSlot) → commit_number_at copy log y ≡ commit_number_at copy log x
  numbers = slots_same.numbers

  in_slot : (log : LogSlot) (j : ℕ) → gate_of copy log < j → j < gate_of copy log + log_blocks → block (copy_disk_bytes copy y) j ≡ block (copy_disk_bytes copy x) j
  in_slot log j low high = block_same j (omega (arith, low_gate copy log, low)) (omega (arith, slot_inside copy log shaped.least, high))

  gate_same : (log : LogSlot) → is_open (copy_disk_bytes copy y) (gate_of copy log) ≡ is_open (copy_disk_bytes copy x) (gate_of copy log)
  gate_same log = gate_listed copy shaped.least y sized_after log ∙ gates log ∙ sym (gate_listed copy shaped.least x sized log)

  slot_same : (log : LogSlot) → SameSlot (copy_disk_bytes copy x) (copy_disk_bytes copy y) (gate_of copy log) log_blocks
  slot_same log = record { gate = gate_same log; body = λ opened j low high. in_slot log j low high }

  logs : SameLogs d (copy_disk_bytes copy x) (copy_disk_bytes copy y)
  logs = record { first = slot_same First; second = slot_same Second }

  open_same : open_logs d (copy_disk_bytes copy y) ≡ open_logs d (copy_disk_bytes copy x)
  open_same = open_logs_same d (copy_disk_bytes copy x) (copy_disk_bytes copy y) logs

  homes : (p : ℕ) → p < d → home_page (copy_disk_bytes copy y) p ≡ home_page (copy_disk_bytes copy x) p
  homes p lt = block_same (region_start + p) (omega arith) (omega (arith, lt))

  pages : (p : ℕ) → p < d → counting_page copy y p ≡ counting_page copy x p
  pages p lt = page_same d (copy_disk_bytes copy x) (copy_disk_bytes copy y) open_same p (λ none. homes p lt)

  long : length (copy_disk_bytes copy y) ≡ length (copy_disk_bytes copy x)
  long = (bytes_are_listed y copy.slot).0 ∙ same.size ∙ sym (bytes_are_listed x copy.slot).0

  content : content_in copy y ≡ content_in copy x
  content = same_logs.content_same d (copy_disk_bytes copy x) (copy_disk_bytes copy y) long open_same (logs_decode_same d (copy_disk_bytes copy x) (copy_disk_bytes copy y) logs) pages

  bad_same : find (is_bad_page d (copy_disk_bytes copy y)) (range_with_len 0 d) ≡ find (is_bad_page d (copy_disk_bytes copy x)) (range_with_len 0 d)
  bad_same = find_same (is_bad_page d (copy_disk_bytes copy y)) (is_bad_page d (copy_disk_bytes copy x)) 0 d
      (λ p low high. let home = homes p (omega (arith, high)) in λ i. not (is_some (image_in (open_same i) p)) && not (is_page (home i)))

  damage : directory_damage d (copy_disk_bytes copy y) ≡ directory_damage d (copy_disk_bytes copy x)
  unfolding directory_damage
  damage =
      let first = gate_same First in
      let second = gate_same Second in
      let in_first = log_damage_same d (copy_disk_bytes copy x) (copy_disk_bytes copy y) (first_log d) first (in_slot First) in
      let in_second = log_damage_same d (copy_disk_bytes copy x) (copy_disk_bytes copy y) (second_log d) second (in_slot Second) in
      λ i. cond (has_region d (long i) && (first i || second i)) (option_or (option_map page_home (bad_same i)) (option_or (in_first i) (in_second i))) None

  decodes : DecodesIn copy x → DecodesIn copy y
  decodes ok = logs_decode_same d (copy_disk_bytes copy x) (copy_disk_bytes copy y) logs ∙ ok

  at_home : IsAtHome copy x → IsAtHome copy y
  at_home home p lt = pages p lt ∙ home p lt ∙ sym (homes p lt)

  has_pages : (number : ℕ) (page : ℕ → Bytes) → HasPages copy number page x → HasPages copy number page y
  has_pages number page has = record {
    sized = sized_after;
    decodes = decodes has.decodes;
    pages = λ p lt. pages p lt ∙ has.pages p lt;
    above = λ n lt. still_above copy n x y (λ log. (gates log, numbers log)) (has.above n lt);
  }

  has_due : (dues : List (ℕ × Block)) → HasDue copy dues x → HasDue copy dues y
  has_due dues due = record {
    ascend = due.ascend;
    due = ⊎_elim (λ shut. inl (λ log. gates log ∙ shut log)) (λ each. inr (λ p among. ap (λ (l : List Log). image_in l p.0) open_same ∙ each p among)) due.due;
    others = λ p lt none. pages p lt ∙ due.others p lt none ∙ sym (homes p lt);
  }

  pub region_is_same : SameCopy copy x y
  region_is_same = record {
    content = content;
    damage = damage;
    pages = pages;
    homes = homes;
    gates = gates;
    numbers = numbers;
    decodes = decodes;
    at_home = at_home;
    has_pages = has_pages;
    has_content = λ number page has. record { pages = has_pages number page has.pages; content = content ∙ has.content };
    has_due = has_due;
    unopened = λ page is. record {
      shut = λ log. gates log ∙ is.shut log;
      none = content ∙ is.none;
      home = at_home is.home;
      pages = λ number. has_pages number page (is.pages number);
    };
  }

pub other_copy_is_same : (copy other : DirCopy) (x y : Image) → IsShaped copy → HasRegion copy x → copy.slot ≢ other.slot → ChangesOnly (RegionOf other) x y → SameCopy copy x y
other_copy_is_same copy other x y shaped sized differ step =
    region_is_same copy shaped x y sized (record { size = step.size copy.slot; bytes = λ k low high. step.byte copy.slot k (λ inside. differ inside.0) })
