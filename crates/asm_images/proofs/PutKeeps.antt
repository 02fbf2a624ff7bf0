-- While a slot is put, the image is sound.
use Rattle.std.proofs.Common.{◌≡◌, inl, inr, ⊎_elim, ℕ, ◌+◌, ◌*◌, ◌<◌, ◌≤◌, false, List, [], ◌∷◌, ◌++◌, length, set, get_or, refl, sym, ap, subst, ◌∙◌, Option, Some, None, IsTrue, arith}
use Rattle.std.specs.Option.{is_some}
use Rattle.std.proofs.lemmas.Bool.{cond-false, cases_Bool}
use Rattle.std.proofs.lemmas.Option.{same_Some, none-some}
use Rattle.std.proofs.lemmas.List.{map-set, set-get_or, get_or-map, get_or-set_same}
use Rattle.asm_group.specs.Group.{Group}
use Rattle.asm_formats.specs.Bytes.{block_size, block, is_open}
use Rattle.asm_formats.specs.Regions.{least_size, header_gate, region_start, region_end, first_log, second_log}
use Rattle.asm_formats.specs.Header.{Header, is_header, header_spelling}
use Rattle.asm_formats.specs.Claim.{Claim, is_claim, claim_spelling, decoded_claim}
use Rattle.asm_formats.specs.Status.{Status, is_status, status_spelling, decoded_status}
use Rattle.asm_formats.specs.Logs.{Log}
use Rattle.asm_formats.specs.Pages.{committed, copy_content, decodes_in}
use Rattle.asm_formats.specs.Metadata.{Metadata, metadata, header_of, in_slot}
use Rattle.asm_formats.specs.Places.{SameElsewhere, SameButBlocks}
use Rattle.asm_formats.specs.Slots.{IsPut, ArePair}
use Rattle.asm_formats.specs.LogSlots.{IsLogPut, MayCloseLog, IsLogClose, IsCheckpoint}
use Rattle.asm_formats.specs.Puts.{PutsHeader, header_as_before, no_header, new_header}
use Rattle.asm_formats.specs.Commits.{Commits, not_committed, is_committed}
use Rattle.asm_formats.proofs.SameLogs.{closed_content}
use Rattle.asm_formats.proofs.Framing.{header_allowed, header_blocks, user_write, claims_by_slot, statuses_by_slot, closed_write}
use Rattle.asm_formats.proofs.Putting.{header_put}
use Rattle.asm_formats.proofs.Checkpoints.{log_put_commits, checkpoint_keeps, close_keeps, last_close}
use Rattle.asm_formats.specs.Among.{IsAmong}
use Rattle.asm_images.specs.Members.{ImageBytes, Member, members, written, metadata_of, disk_of, all_members, IsOutside}
use Rattle.asm_images.specs.Sound.{SoundBy}
use Rattle.asm_images.specs.ContentLaws.{IsContentReady}
use Rattle.asm_images.proofs.OneContent.{ready_is_known}
use Rattle.asm_images.specs.Steps.{ChangesContent, IsLast, CoversBirths, IsKnown, MayJoin, KeepsCopies, loses_content, gains_content}
use Rattle.asm_images.specs.PutLaws.{bytes_of, OtherClaims, OtherHolds, OthersClosed}
use Rattle.asm_images.proofs.Members.{member_is}
use Rattle.asm_images.proofs.UserBytes.{metadata_write_keeps_copies}
use Rattle.asm_images.proofs.Putting.{put_raises_claims, put_raises_records}
use Rattle.asm_images.proofs.Claiming.{claim_keeps}
use Rattle.asm_images.proofs.Recording.{store_keeps}
use Rattle.asm_images.proofs.Committing.{commit_keeps}
use Rattle.asm_images.proofs.Describing.{spare_keeps}
use Rattle.asm_images.proofs.Joining.{leave_keeps, join_keeps, outside_keeps}

-- a disk whose metadata stays
same_metadata : (old : ImageBytes) (slot : ℕ) (bytes : List ℕ) → slot < length old → metadata bytes ≡ disk_of old slot → metadata_of (written old slot bytes) ≡ metadata_of old
same_metadata old slot bytes inside same =
    map-set metadata old slot bytes
    ∙ ap (λ (d : Metadata). set (metadata_of old) slot d) (same ∙ sym (get_or-map metadata old slot [] (metadata []) inside))
    ∙ set-get_or (metadata_of old) slot (metadata [])

pub user_write_keeps_metadata : (old : ImageBytes) (slot : ℕ) (bytes : List ℕ) (h : Header) (at n : ℕ) → slot < length old → SameElsewhere (bytes_of old slot) bytes at n
    → header_of (bytes_of old slot) ≡ Some h → region_end h.shape.dir_blocks * block_size ≤ at → metadata_of (written old slot bytes) ≡ metadata_of old
user_write_keeps_metadata old slot bytes h at n inside same header behind = same_metadata old slot bytes inside (user_write (bytes_of old slot) bytes h at n same header behind)

-- ---- claims and records

pub claim_put_keeps : (id : ℕ) (old : ImageBytes) (groups : List Group) (completed : Option Status) (begun : List Status) → SoundBy id old groups completed begun
    → (c : Claim) (slot : ℕ) (bytes : List ℕ) (k other : ℕ) → IsTrue (is_claim c) → slot < length old → ArePair 2 4 k other → OtherClaims id (bytes_of old slot) k other
    → IsPut (bytes_of old slot) bytes k (claim_spelling c) → SoundBy id (written old slot bytes) groups completed begun
claim_put_keeps id old groups completed begun sound c slot bytes k other ok inside pair rule put =
    claim_keeps id old groups completed begun sound slot bytes (record {
      inside = inside;
      claims = put_raises_claims id (bytes_of old slot) bytes k other c pair ok rule put;
      copies = metadata_write_keeps_copies id old groups completed begun sound slot bytes (k * block_size) (2 * block_size) inside put.elsewhere
          (λ m among at. ⊎_elim (λ x. omega (arith, x.0)) (λ x. omega (arith, x.0)) pair);
    })

pub record_put_keeps : (id : ℕ) (old : ImageBytes) (groups : List Group) (completed : Option Status) (begun : List Status) → SoundBy id old groups completed begun
    → (r : Status) (slot : ℕ) (bytes : List ℕ) (k other : ℕ) → IsLast completed begun r → IsTrue (is_status r) → CoversBirths completed begun r
    → slot < length old → ArePair 6 8 k other → OtherHolds id (bytes_of old slot) k other
    → IsPut (bytes_of old slot) bytes k (status_spelling r) → SoundBy id (written old slot bytes) groups completed begun
record_put_keeps id old groups completed begun sound r slot bytes k other last ok births inside pair rule put =
    store_keeps id old groups completed begun sound r slot bytes (record {
      last = last;
      inside = inside;
      records = put_raises_records id (bytes_of old slot) bytes k other r pair ok rule put;
      births = births;
      copies = metadata_write_keeps_copies id old groups completed begun sound slot bytes (k * block_size) (2 * block_size) inside put.elsewhere
          (λ m among at. ⊎_elim (λ x. omega (arith, x.0)) (λ x. omega (arith, x.0)) pair);
    })

-- ---- the directory copy

module _ (id : ℕ) (old : ImageBytes) (groups : List Group) (completed : Option Status) (begun : List Status) (sound : SoundBy id old groups completed begun) (h : Header) (slot : ℕ) (bytes : List ℕ) (inside : slot < length old)
    (header : header_of (bytes_of old slot) ≡ Some h) where
  header_is : (m : Member) → IsAmong (all_members id old) m → m.slot ≡ slot → m.header ≡ h
  header_is m among at = same_Some m.header h (sym (member_is id old m among).header ∙ ap (λ (j : ℕ). header_of (get_or old j [])) at ∙ header)

  blocks : (128 ≤ h.shape.dir_blocks) × (h.shape.dir_blocks ≤ 16384)
  blocks = header_blocks h (header_allowed (bytes_of old slot) h header)

  -- a write inside the directory region
  region_write : (at n : ℕ) → SameElsewhere (bytes_of old slot) bytes at n → at + n ≤ region_end h.shape.dir_blocks * block_size → KeepsCopies id old (written old slot bytes) completed begun
  region_write at n same le = metadata_write_keeps_copies id old groups completed begun sound slot bytes at n inside same
      (λ m among here. subst (λ (x : Header). at + n ≤ region_end x.shape.dir_blocks * block_size) (sym (header_is m among here)) le)

  spare : (at n : ℕ) → SameElsewhere (bytes_of old slot) bytes at n → at + n ≤ region_end h.shape.dir_blocks * block_size → metadata bytes ≡ disk_of old slot → SoundBy id (written old slot bytes) groups completed begun
  spare at n same le is = spare_keeps id old (written old slot bytes) groups completed begun sound (record { metadata = same_metadata old slot bytes inside is; bytes = region_write at n same le })

  -- the blocks of a log slot
  log_range : (k other count : ℕ) → ArePair (first_log h.shape.dir_blocks) (second_log h.shape.dir_blocks) k other → count ≤ 66 → k * block_size + count * block_size ≤ region_end h.shape.dir_blocks * block_size
  log_range k other count pair le = ⊎_elim (λ x. omega (arith, x.0, blocks.0)) (λ x. omega (arith, x.0, blocks.0)) pair

  -- while a log is put whose content is known once it counts
  put_log : (log : Log) (k other : ℕ) → IsLogPut h.shape.dir_blocks (bytes_of old slot) bytes k other log
      → IsTrue (is_some (committed h.shape.dir_blocks (bytes_of old slot) log).items)
      → (ChangesContent (disk_of old slot) (metadata bytes) → IsKnown id old (written old slot bytes) groups completed begun slot (committed h.shape.dir_blocks (bytes_of old slot) log))
      → SoundBy id (written old slot bytes) groups completed begun
  put_log log k other put decodes known = go (log_put_commits h (bytes_of old slot) bytes k other log header put)
    where
      range : k * block_size + 66 * block_size ≤ region_end h.shape.dir_blocks * block_size
      range = log_range k other 66 put.may_close.pair (omega arith)

      go : Commits h.shape.dir_blocks (bytes_of old slot) bytes log → SoundBy id (written old slot bytes) groups completed begun
      go (not_committed same) = spare (k * block_size) (66 * block_size) put.elsewhere range same
      go (is_committed new) =
          let change : ChangesContent (disk_of old slot) (metadata bytes) = record {
            others = new ∙ (λ i. record (disk_of old slot) { content = (sym new i).content; decodes = (sym new i).decodes });
            decode = λ before. ap (λ (d : Metadata). d.decodes) new ∙ decodes;
          } in
          commit_keeps id old groups completed begun sound slot bytes (record {
            inside = inside;
            change = change;
            outcome = gains_content (committed h.shape.dir_blocks (bytes_of old slot) log) (ap (λ (d : Metadata). d.content) new) (known change);
            copies = region_write (k * block_size) (66 * block_size) put.elsewhere range;
          })

  pub log_put_keeps : (log : Log) (k other : ℕ) → IsLogPut h.shape.dir_blocks (bytes_of old slot) bytes k other log
      → IsTrue (is_some (committed h.shape.dir_blocks (bytes_of old slot) log).items)
      → IsKnown id old (written old slot bytes) groups completed begun slot (committed h.shape.dir_blocks (bytes_of old slot) log)
      → SoundBy id (written old slot bytes) groups completed begun
  log_put_keeps log k other put decodes known = put_log log k other put decodes (λ change. known)

  pub ready_put_keeps : (log : Log) (k other : ℕ) → IsLogPut h.shape.dir_blocks (bytes_of old slot) bytes k other log
      → IsTrue (is_some (committed h.shape.dir_blocks (bytes_of old slot) log).items)
      → IsContentReady id old groups completed begun slot (committed h.shape.dir_blocks (bytes_of old slot) log)
      → SoundBy id (written old slot bytes) groups completed begun
  ready_put_keeps log k other put decodes ready = put_log log k other put decodes (λ change.
      ready_is_known id old groups completed begun slot bytes (committed h.shape.dir_blocks (bytes_of old slot) log) (k * block_size) (66 * block_size) inside change put.elsewhere
      (λ m among here. subst (λ (x : Header). k * block_size + 66 * block_size ≤ region_end x.shape.dir_blocks * block_size) (sym (header_is m among here))
      (log_range k other 66 put.may_close.pair (omega arith))) ready)

  pub checkpoint_keeps_image : IsCheckpoint h.shape.dir_blocks (bytes_of old slot) bytes → SoundBy id (written old slot bytes) groups completed begun
  checkpoint_keeps_image check = spare (region_start * block_size) (h.shape.dir_blocks * block_size) check.elsewhere (omega arith) (checkpoint_keeps h (bytes_of old slot) bytes header check)

  pub log_close_keeps : (k other : ℕ) → MayCloseLog h.shape.dir_blocks (bytes_of old slot) k other → IsLogClose (bytes_of old slot) bytes k → SoundBy id (written old slot bytes) groups completed begun
  log_close_keeps k other may close = spare (k * block_size) (1 * block_size) close.elsewhere (log_range k other 1 may.pair (omega arith))
      (close_keeps h (bytes_of old slot) bytes k other header may.pair close may)

  pub last_log_close_keeps : (k other : ℕ) → ArePair (first_log h.shape.dir_blocks) (second_log h.shape.dir_blocks) k other → is_open (bytes_of old slot) other ≡ false
      → IsLogClose (bytes_of old slot) bytes k → SoundBy id (written old slot bytes) groups completed begun
  last_log_close_keeps k other pair shut close =
      let range = log_range k other 1 pair (omega arith) in
      let last = last_close h (bytes_of old slot) bytes k other header pair close shut in ⊎_elim
      (λ opened. spare (k * block_size) (1 * block_size) close.elsewhere range (last.0 opened))
      (λ closed. let new = last.1 closed in commit_keeps id old groups completed begun sound slot bytes (record {
        inside = inside;
        change = record {
          others = new ∙ (λ i. record (disk_of old slot) { content = (sym new i).content; decodes = (sym new i).decodes });
          decode = λ before. ap (λ (d : Metadata). d.decodes) new;
        };
        outcome = loses_content (ap (λ (d : Metadata). d.content) new);
        copies = region_write (k * block_size) (1 * block_size) close.elsewhere range;
      }))
      (cases_Bool (is_open bytes k))

  pub closed_copy_write_keeps : is_open (bytes_of old slot) (first_log h.shape.dir_blocks) ≡ false → is_open (bytes_of old slot) (second_log h.shape.dir_blocks) ≡ false
      → SameButBlocks (bytes_of old slot) bytes region_start h.shape.dir_blocks → SoundBy id (written old slot bytes) groups completed begun
  closed_copy_write_keeps first second same = spare (region_start * block_size) (h.shape.dir_blocks * block_size) same (omega arith)
      (closed_write (bytes_of old slot) bytes h header first second same)

-- ---- headers

pub header_close_keeps : (id : ℕ) (old : ImageBytes) (groups : List Group) (completed : Option Status) (begun : List Status) → SoundBy id old groups completed begun
    → (slot : ℕ) (bytes : List ℕ) → slot < length old → SameButBlocks (bytes_of old slot) bytes header_gate 2 → header_of bytes ≡ None
    → SoundBy id (written old slot bytes) groups completed begun
unfolding metadata
header_close_keeps id old groups completed begun sound slot bytes inside same none =
    leave_keeps id old groups completed begun sound slot bytes (record {
      inside = inside;
      closed = none;
      copies = metadata_write_keeps_copies id old groups completed begun sound slot bytes (header_gate * block_size) (2 * block_size) inside same (λ m among at. omega arith);
    })

-- a slot without an open header has no member
headless : (id : ℕ) (image : ImageBytes) (slot : ℕ) → (disk_of image slot).header ≡ None → IsOutside (all_members id image) slot
unfolding metadata
headless id image slot none m among at = none-some m.header (sym none ∙ ap (λ (j : ℕ). header_of (get_or image j [])) (sym at) ∙ (member_is id image m among).header)

module _ (bytes : List ℕ) (h : Header) (shut : OthersClosed h bytes) where
  no_slot : {A : Type 0} (decoded : List ℕ → Option A) (k : ℕ) → is_open bytes k ≡ false → in_slot decoded bytes k ≡ []
  no_slot decoded k out = cond-false (is_open bytes k) (decoded (block bytes (k + 1)) ∷ []) [] out

  no_claims : (metadata bytes).claims ≡ []
  no_claims =
      let a = no_slot decoded_claim 2 (shut 2 (inl refl)) in
      let b = no_slot decoded_claim 4 (shut 4 (inr (inl refl))) in
      claims_by_slot bytes ∙ (λ i. a i ++ b i)

  no_statuses : (metadata bytes).statuses ≡ []
  no_statuses =
      let a = no_slot decoded_status 6 (shut 6 (inr (inr (inl refl)))) in
      let b = no_slot decoded_status 8 (shut 8 (inr (inr (inr (inl refl))))) in
      statuses_by_slot bytes ∙ (λ i. a i ++ b i)

  no_content : copy_content h.shape.dir_blocks bytes ≡ None
  no_content =
      let d = h.shape.dir_blocks in
      closed_content d bytes (shut (first_log d) (inr (inr (inr (inr (inl refl)))))) (shut (second_log d) (inr (inr (inr (inr (inr (inl refl)))))))

pub header_put_keeps : (id : ℕ) (old : ImageBytes) (groups : List Group) (completed : Option Status) (begun : List Status) → SoundBy id old groups completed begun
    → (h : Header) (slot : ℕ) (bytes : List ℕ) → slot < length old → least_size ≤ length (bytes_of old slot) → IsTrue (is_header h) → OthersClosed h (bytes_of old slot)
    → IsOutside (all_members id old) slot → MayJoin id (all_members id old) groups completed begun h
    → IsPut (bytes_of old slot) bytes header_gate (header_spelling h) → SoundBy id (written old slot bytes) groups completed begun
header_put_keeps id old groups completed begun sound h slot bytes inside long ok shut outside may_join put = go (header_put (bytes_of old slot) bytes h long ok put)
  where
    there : disk_of (written old slot bytes) slot ≡ metadata bytes
    there = ap metadata (get_or-set_same old slot bytes [] inside)

    stays : IsOutside (all_members id (written old slot bytes)) slot → SoundBy id (written old slot bytes) groups completed begun
    stays after = outside_keeps id old groups completed begun sound slot bytes (record { before = outside; after = after })

    go : PutsHeader (bytes_of old slot) bytes h → SoundBy id (written old slot bytes) groups completed begun
    go (header_as_before same) = stays (subst (λ (ds : List Metadata). IsOutside (members id ds) slot) (sym (same_metadata old slot bytes inside same)) outside)
    go (no_header is) = stays (headless id (written old slot bytes) slot (ap (λ (d : Metadata). d.header) (there ∙ is)))
    go (new_header is) =
        let before = bytes_of old slot in
        let none = no_content before h shut in
        join_keeps id old groups completed begun sound slot bytes h (record {
          inside = inside;
          outside = outside;
          header = ap (λ (d : Metadata). d.header) is;
          claims = ap (λ (d : Metadata). d.claims) is ∙ no_claims before h shut;
          statuses = ap (λ (d : Metadata). d.statuses) is ∙ no_statuses before h shut;
          content = ap (λ (d : Metadata). d.content) is ∙ none;
          decodes = ap (λ (d : Metadata). d.decodes) is ∙ ap decodes_in none;
          may_join = may_join;
          copies = metadata_write_keeps_copies id old groups completed begun sound slot bytes (header_gate * block_size) (2 * block_size) inside put.elsewhere (λ m among at. omega arith);
        })
