-- The laws of a commit, a checkpoint and a format over the metadata of a disk.
use Rattle.std.proofs.Common.{◌≡◌, inl, inr, ⊎_elim, ℕ, ◌+◌, ◌*◌, ◌^◌, ◌<◌, ◌≤◌, Bool, true, false, cond, ◌&&◌, List, [], ◌∷◌, ◌++◌, length, refl, sym, ap, ◌∙◌, subst, Option, Some, None, arith}
use Rattle.std.specs.Prelude.{nat_lt}
use Rattle.std.specs.Option.{is_some, unwrap_or, option_or}
use Rattle.std.proofs.lemmas.Bool.{cases_Bool, cond-true, cond-false, and_from, false≢true}
use Rattle.asm_group.specs.Names.{Bytes}
use Rattle.asm_formats.specs.Bytes.{block_size, block, is_open}
use Rattle.asm_formats.specs.Regions.{region_start, log_blocks, first_log, second_log, has_region}
use Rattle.asm_formats.specs.Header.{Header}
use Rattle.asm_formats.specs.Content.{Content, records_in}
use Rattle.asm_formats.specs.Logs.{Log, log_at, log_decodes, newest_first, open_logs, logs_decode, slot_decodes, logged_image, image_in, in_log}
use Rattle.asm_formats.specs.Pages.{home_page, page_at, pages_of, content_by, copy_content, decodes_in, IsCheckpointed, with_images, committed}
use Rattle.asm_formats.specs.Metadata.{metadata, header_of, content_of}
use Rattle.asm_formats.specs.Places.{SameElsewhere, SameButBlocks}
use Rattle.asm_formats.specs.Slots.{ArePair}
use Rattle.asm_formats.specs.LogSlots.{LogMoment, log_as_before, log_closed, log_put, MayCloseLog, IsLogPut, IsLogClose, IsCheckpoint}
use Rattle.asm_formats.specs.Commits.{Commits, not_committed, is_committed, HoldsLog}
use Rattle.asm_formats.proofs.Blocks.{SameSlot, open_out, block_out, slot_before, slot_behind}
use Rattle.asm_formats.proofs.SameLogs.{SameLogs, open_logs_same, logs_decode_same, page_same, content_same, closed_content}
use Rattle.asm_formats.proofs.Framing.{header_allowed, header_blocks, header_before, directory_write, directory_same, copy_same}
use Rattle.asm_formats.proofs.LogPuts.{decode_pair}
use Rattle.asm_formats.proofs.Committing.{pair_closed, closed_keeps, put_commits, other_slot, home_same, put_logs, rest_page}

-- ---- from the copy to the metadata

module _ (h : Header) (old new : Bytes) (at n : ℕ) (is : header_of old ≡ Some h) (same : SameElsewhere old new at n) (low : region_start * block_size ≤ at) where
  abbrev d : ℕ
  d = h.shape.dir_blocks

  keeps : copy_content d new ≡ copy_content d old → metadata new ≡ metadata old
  keeps e = directory_same old new at n same low (ap (λ (o : Option Header). content_of o new) is ∙ e ∙ sym (ap (λ (o : Option Header). content_of o old) is))

  becomes : (c : Option Content) → copy_content d new ≡ c → metadata new ≡ record (metadata old) { content = c; decodes = decodes_in c }
  unfolding metadata
  becomes c e =
      let content : content_of (header_of new) new ≡ c = ap (λ (o : Option Header). content_of o new) (header_before old new at n same (omega (arith, low)) ∙ is) ∙ e in
      directory_write old new at n same low ∙ (λ i. record (metadata old) { content = content i; decodes = decodes_in (content i) })

small : (bytes : Bytes) (h : Header) → header_of bytes ≡ Some h → h.shape.dir_blocks ≤ 2 ^ 32
small bytes h is = omega (arith, (header_blocks h (header_allowed bytes h is)).1)

low_slot : (d k other : ℕ) → ArePair (first_log d) (second_log d) k other → region_start * block_size ≤ k * block_size
low_slot d k other (inl p) = omega (arith, p.0)
low_slot d k other (inr p) = omega (arith, p.0)

-- ---- a commit

pub log_put_is_committed : (h : Header) (old new : Bytes) (k other : ℕ) (log : Log) → header_of old ≡ Some h → IsLogPut h.shape.dir_blocks old new k other log → HoldsLog new k log
    → has_region h.shape.dir_blocks (length old) ≡ true
    → metadata new ≡ record (metadata old) { content = Some (committed h.shape.dir_blocks old log); decodes = is_some (committed h.shape.dir_blocks old log).items }
log_put_is_committed h old new k other log is p holds whole =
    let d = h.shape.dir_blocks in
    becomes h old new (k * block_size) (log_blocks * block_size) is p.elsewhere (low_slot d k other p.may_close.pair) (Some (committed d old log))
    (put_commits d old k other p.may_close new p.elsewhere log (small old h is) p.is_log p.above holds whole)

-- a copy that is cut short has no content
short_content : (d : ℕ) (bytes : Bytes) → has_region d (length bytes) ≡ false → copy_content d bytes ≡ None
unfolding copy_content
short_content d bytes short = cond-false (has_region d (length bytes)) (content_by d bytes (open_logs d bytes)) None short

pub log_put_commits : (h : Header) (old new : Bytes) (k other : ℕ) (log : Log) → header_of old ≡ Some h → IsLogPut h.shape.dir_blocks old new k other log
    → Commits h.shape.dir_blocks old new log
log_put_commits h old new k other log is p = go p.moment
  where
    d : ℕ
    d = h.shape.dir_blocks

    low : region_start * block_size ≤ k * block_size
    low = low_slot d k other p.may_close.pair

    unchanged : copy_content d new ≡ copy_content d old → Commits d old new log
    unchanged e = not_committed (keeps h old new (k * block_size) (log_blocks * block_size) is p.elsewhere low e)

    this_slot : is_open new k ≡ is_open old k → ((j : ℕ) → k < j → j < k + log_blocks → block new j ≡ block old j) → SameSlot old new k log_blocks
    this_slot gate body = record { gate = gate; body = λ opened j first last. body j first last }

    both : SameSlot old new k log_blocks → SameSlot old new other log_blocks → ArePair (first_log d) (second_log d) k other → SameLogs d old new
    both here there (inl q) = record { first = at_gate k (first_log d) q.0 here; second = at_gate other (second_log d) q.1 there }
      where
        at_gate : (a b : ℕ) → a ≡ b → SameSlot old new a log_blocks → SameSlot old new b log_blocks
        at_gate a b e s = subst (λ (x : ℕ). SameSlot old new x log_blocks) e s
    both here there (inr q) = record { first = at_gate other (first_log d) q.1 there; second = at_gate k (second_log d) q.0 here }
      where
        at_gate : (a b : ℕ) → a ≡ b → SameSlot old new a log_blocks → SameSlot old new b log_blocks
        at_gate a b e s = subst (λ (x : ℕ). SameSlot old new x log_blocks) e s

    go : LogMoment old new k log → Commits d old new log
    go (log_as_before gate body) = unchanged (copy_same old new (k * block_size) (log_blocks * block_size) p.elsewhere d
        (both (this_slot gate body) (other_slot d old k other p.may_close new p.elsewhere p.may_close.pair) p.may_close.pair)
        (λ page lt. home_same d old k other p.may_close new p.elsewhere page lt))
    go (log_closed shut) = unchanged (closed_keeps d old k other p.may_close new p.elsewhere shut)
    go (log_put gate head images) = ⊎_elim
        (λ whole. is_committed (log_put_is_committed h old new k other log is p (record { gate = gate; head = head; images = images }) whole))
        (λ short. unchanged (short_content d new (ap (has_region d) p.elsewhere.size ∙ short) ∙ sym (short_content d old short)))
        (cases_Bool (has_region d (length old)))

-- without an open log slot there is none that doesn't decode
no_logs : (d : ℕ) (bytes : Bytes) → open_logs d bytes ≡ [] → logs_decode d bytes ≡ true
unfolding open_logs logs_decode
no_logs d bytes = go (is_open bytes (first_log d)) (is_open bytes (second_log d))
  where
    a : Log
    a = log_at d bytes (first_log d)

    b : Log
    b = log_at d bytes (second_log d)

    two : (x : Bool) → length (cond x (b ∷ a ∷ []) (a ∷ b ∷ [])) ≡ 2
    two true = refl
    two false = refl

    go : (x y : Bool) → newest_first (cond x (a ∷ []) [] ++ cond y (b ∷ []) []) ≡ []
        → (cond x (log_decodes d bytes (first_log d)) true && cond y (log_decodes d bytes (second_log d)) true) ≡ true
    go true true none = absurd (omega (arith, two (nat_lt a.commit b.commit), ap (λ (l : List Log). length l) none))
    go true false none = absurd (omega (arith, ap (λ (l : List Log). length l) none))
    go false true none = absurd (omega (arith, ap (λ (l : List Log). length l) none))
    go false false none = refl

content_decodes : (d : ℕ) (bytes : Bytes) (logs : List Log) → open_logs d bytes ≡ logs → decodes_in (content_by d bytes logs) ≡ true → logs_decode d bytes ≡ true
content_decodes d bytes [] none ok = no_logs d bytes none
content_decodes d bytes (log ∷ older) some ok = go (logs_decode d bytes) ok
  where
    go : (x : Bool) → is_some (cond x (records_in (pages_of d bytes)) None) ≡ true → x ≡ true
    go true e = refl
    go false e = e

pub open_logs_decode : (h : Header) (bytes : Bytes) → header_of bytes ≡ Some h → has_region h.shape.dir_blocks (length bytes) ≡ true → (metadata bytes).decodes ≡ true → logs_decode h.shape.dir_blocks bytes ≡ true
unfolding metadata copy_content
open_logs_decode h bytes is whole ok =
    let d = h.shape.dir_blocks in
    content_decodes d bytes (open_logs d bytes) refl
    (sym (ap decodes_in (cond-true (has_region d (length bytes)) (content_by d bytes (open_logs d bytes)) None whole)) ∙ sym (ap (λ (o : Option Header). decodes_in (content_of o bytes)) is) ∙ ok)

pub closed_may_close : (d : ℕ) (bytes : Bytes) (k other : ℕ) → ArePair (first_log d) (second_log d) k other → is_open bytes k ≡ false → is_open bytes other ≡ false → MayCloseLog d bytes k other
closed_may_close d bytes k other pair shut other_shut = record {
  pair = pair;
  free = inl shut;
  decode = decode_pair d bytes k other pair
      ∙ and_from (slot_decodes d bytes other) (slot_decodes d bytes k) (cond-false (is_open bytes other) (log_decodes d bytes other) true other_shut) (cond-false (is_open bytes k) (log_decodes d bytes k) true shut);
  checkpointed = λ opened. absurd (false≢true (sym shut ∙ opened));
}

-- ---- a checkpoint

module _ (d : ℕ) (old new : Bytes) (p : IsCheckpoint d old new) where
  logs_same : SameLogs d old new
  logs_same = record {
    first = slot_behind old new (region_start * block_size) (d * block_size) p.elsewhere (first_log d) log_blocks (omega arith);
    second = slot_behind old new (region_start * block_size) (d * block_size) p.elsewhere (second_log d) log_blocks (omega arith);
  }

  checkpoint_content : copy_content d new ≡ copy_content d old
  checkpoint_content =
      let logs = open_logs_same d old new logs_same in
      content_same d old new p.elsewhere.size logs (logs_decode_same d old new logs_same) (λ page lt. page_same d old new logs page (p.pages page lt))

  pub checkpoint_is_done : ((page : ℕ) (image : Bytes) → page < d → image_in (open_logs d old) page ≡ Some image → home_page new page ≡ image) → IsCheckpointed d new
  unfolding page_at
  checkpoint_is_done written page lt = ap (λ (l : List Log). unwrap_or (image_in l page) (home_page new page)) (open_logs_same d old new logs_same) ∙ go (image_in (open_logs d old) page) refl
    where
      go : (o : Option Bytes) → image_in (open_logs d old) page ≡ o → unwrap_or o (home_page new page) ≡ home_page new page
      go None e = refl
      go (Some image) e = sym (written page image lt e)

pub checkpoint_keeps : (h : Header) (old new : Bytes) → header_of old ≡ Some h → IsCheckpoint h.shape.dir_blocks old new → metadata new ≡ metadata old
checkpoint_keeps h old new is p =
    keeps h old new (region_start * block_size) (h.shape.dir_blocks * block_size) is p.elsewhere (omega arith) (checkpoint_content h.shape.dir_blocks old new p)

-- ---- a commit with its checkpoint

pub commit_is_checkpointed : (d : ℕ) (old new later : Bytes) (k other : ℕ) (log : Log) → d ≤ 2 ^ 32 → IsCheckpointed d old
    → IsLogPut d old new k other log → HoldsLog new k log → SameButBlocks new later region_start d
    → ((page : ℕ) → page < d → home_page later page ≡ with_images log.images (home_page old) page) → IsCheckpointed d later
unfolding page_at
commit_is_checkpointed d old new later k other log few checked p holds same homes page lt =
    let logs : SameLogs d new later = record {
      first = slot_behind new later (region_start * block_size) (d * block_size) same (first_log d) log_blocks (omega arith);
      second = slot_behind new later (region_start * block_size) (d * block_size) same (second_log d) log_blocks (omega arith);
    } in
    let logs_are = open_logs_same d new later logs ∙ put_logs d old k other p.may_close new p.elsewhere log few p.is_log p.above holds in
    ap (λ (l : List Log). unwrap_or (image_in l page) (home_page later page)) logs_are
    ∙ go (logged_image log.images page) (homes page lt)
  where
    go : (o : Option Bytes) → home_page later page ≡ unwrap_or o (home_page old page)
        → unwrap_or (option_or o (image_in (in_log d old other) page)) (home_page later page) ≡ home_page later page
    go None home = (λ i. unwrap_or (image_in (in_log d old other) page) (home i)) ∙ rest_page d old k other p.may_close page lt ∙ checked page lt ∙ sym home
    go (Some image) home = sym home

-- ---- a format

-- a write to one block, as one to the whole slot
widen : (old new : Bytes) (at n m : ℕ) → n ≤ m → SameElsewhere old new at n → SameElsewhere old new at m
widen old new at n m le same = record { size = same.size; before = same.before; behind = λ k far. same.behind k (omega (arith, far)) }

module _ (h : Header) (old new : Bytes) (k other : ℕ) (is : header_of old ≡ Some h) (pair : ArePair (first_log h.shape.dir_blocks) (second_log h.shape.dir_blocks) k other) (p : IsLogClose old new k) where
  abbrev e : ℕ
  e = h.shape.dir_blocks

  -- the gate reads open still
  not_closed : is_open new k ≡ true → copy_content e new ≡ copy_content e old
  not_closed opened = copy_same old new (k * block_size) (1 * block_size) p.elsewhere e (both pair) (λ page lt. block_out old new (k * block_size) (1 * block_size) p.elsewhere (region_start + page) (inr (omega (arith, below pair))))
    where
      below : ArePair (first_log e) (second_log e) k other → region_start + e ≤ k
      below (inl q) = omega (arith, q.0)
      below (inr q) = omega (arith, q.0)

      here : SameSlot old new k log_blocks
      here = record {
        gate = opened ∙ sym p.was_open;
        body = λ was j first last. block_out old new (k * block_size) (1 * block_size) p.elsewhere j (inl (omega arith));
      }

      both : ArePair (first_log e) (second_log e) k other → SameLogs e old new
      both (inl q) = record {
        first = subst (λ (x : ℕ). SameSlot old new x log_blocks) q.0 here;
        second = slot_behind old new (k * block_size) (1 * block_size) p.elsewhere (second_log e) log_blocks (omega (arith, q.0));
      }
      both (inr q) = record {
        first = slot_before old new (k * block_size) (1 * block_size) p.elsewhere (first_log e) log_blocks (omega (arith, q.0)) (omega arith);
        second = subst (λ (x : ℕ). SameSlot old new x log_blocks) q.0 here;
      }

  low_gate : region_start * block_size ≤ k * block_size
  low_gate = low_slot e k other pair

  still_open : is_open new k ≡ true → metadata new ≡ metadata old
  still_open opened = keeps h old new (k * block_size) (1 * block_size) is p.elsewhere low_gate (not_closed opened)

  pub close_keeps : MayCloseLog e old k other → metadata new ≡ metadata old
  close_keeps may = ⊎_elim still_open
      (λ shut. keeps h old new (k * block_size) (1 * block_size) is p.elsewhere low_gate
      (closed_keeps e old k other may new (widen old new (k * block_size) (1 * block_size) (log_blocks * block_size) (omega arith) p.elsewhere) shut))
      (cases_Bool (is_open new k))

  other_gate : ArePair (first_log e) (second_log e) k other → is_open new other ≡ is_open old other
  other_gate (inl q) = open_out old new (k * block_size) (1 * block_size) p.elsewhere other (inl (omega (arith, q.0, q.1)))
  other_gate (inr q) = open_out old new (k * block_size) (1 * block_size) p.elsewhere other (inr (omega (arith, q.0, q.1)))

  pub last_close : is_open old other ≡ false → (is_open new k ≡ true → metadata new ≡ metadata old) × (is_open new k ≡ false → metadata new ≡ record (metadata old) { content = None; decodes = true })
  last_close other_shut = (
    still_open,
    λ shut. becomes h old new (k * block_size) (1 * block_size) is p.elsewhere low_gate None (pair_closed e new k other pair shut (other_gate pair ∙ other_shut)),
  )

pub closed_copy : (h : Header) (bytes : Bytes) → header_of bytes ≡ Some h → is_open bytes (first_log h.shape.dir_blocks) ≡ false → is_open bytes (second_log h.shape.dir_blocks) ≡ false
    → ((metadata bytes).content ≡ None) × ((metadata bytes).decodes ≡ true)
unfolding metadata
closed_copy h bytes is first second =
    let none : content_of (header_of bytes) bytes ≡ None = ap (λ (o : Option Header). content_of o bytes) is ∙ closed_content h.shape.dir_blocks bytes first second in
    (none, ap decodes_in none)
