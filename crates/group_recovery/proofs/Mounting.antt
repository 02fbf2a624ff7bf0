-- A mount keeps what each image may stand for, and leaves one group in the end.
use Rattle.std.proofs.Common.{◌≡◌, inr, ⊎_elim, ℕ, ◌+◌, ◌-◌, ◌*◌, ◌<◌, ◌≤◌, Bool, true, false, List, [], ◌∷◌, ◌++◌, get_or, replicate, refl, sym, ap, subst, ◌∙◌, Option, Some, None, arith, ◌==◌}
use Rattle.std.specs.List.{range_with_len}
use Rattle.std.specs.Option.{option_map}
use Rattle.std.proofs.lemmas.Bool.{cases_lt, eqb-true, eq-eqb}
use Rattle.std.proofs.lemmas.Option.{same_Some, none-some}
use Rattle.std.proofs.lemmas.List.{get_or-map, length-map}
use Rattle.bay.specs.Image.{Image, Same}
use Rattle.bay.proofs.Images.{same-refl}
use Rattle.asm_group.specs.Group.{Group}
use Rattle.asm_formats.specs.Bytes.{block_size}
use Rattle.asm_formats.specs.Claim.{claim_spelling}
use Rattle.asm_formats.specs.Following.{Follows}
use Rattle.asm_formats.specs.Header.{Header}
use Rattle.asm_formats.specs.Metadata.{Metadata, metadata, header_of}
use Rattle.asm_formats.specs.Regions.{region_start, region_end}
use Rattle.asm_formats.specs.Sets.{elements, has_bit}
use Rattle.asm_formats.specs.Pages.{copy_content}
use Rattle.asm_formats.specs.Places.{SameElsewhere}
use Rattle.asm_formats.specs.Status.{Status, Entry, entry_of, status_spelling}
use Rattle.asm_formats.specs.Among.{IsAmong}
use Rattle.asm_images.specs.Bridge.{disk_bytes, disks_in}
use Rattle.asm_images.specs.ContentLaws.{HaveContent}
use Rattle.asm_images.specs.Directories.{IsNamed}
use Rattle.asm_images.specs.Kept.{header_in, IsMemberIn}
use Rattle.asm_images.specs.Members as images
use Rattle.asm_images.specs.Members.{all_members, members, within, statuses, of_group, metadata_of}
use Rattle.asm_images.specs.Register.{base}
use Rattle.asm_images.specs.Sound.{Sound, SoundBy}
use Rattle.asm_images.specs.Stands.{Describes, Standing}
use Rattle.asm_images.specs.Steps.{IsBegun, IsLast, CoversBirths}
use Rattle.asm_images.proofs.Bridges.{disks_are_listed, same_is_same, same_disk, range_change}
use Rattle.asm_images.proofs.Completing.{complete_keeps}
use Rattle.asm_images.proofs.History.{greatest_is, among_statuses}
use Rattle.asm_images.proofs.Members.{member_is, among_members}
use Rattle.asm_images.proofs.Membership.{among_within, among_filter, among_filtered, filter_out}
use Rattle.asm_images.proofs.OneContent.{begun_is_last}
use Rattle.asm_images.proofs.Recording.{begin_keeps, current_split}
use Rattle.status_register.specs.Holders.{is_of, attached_to}
use Rattle.status_register.specs.History.{FitsHistory}
use Rattle.status_register.specs.Keeping.{HasHistory}
use Rattle.status_register.specs.Registered.{Registered, all_placed}
use Rattle.status_register.specs.Rows.{PutsRow}
use Rattle.status_register.specs.Slots.{claim_gate, status_gate}
use Rattle.status_register.specs.SurveyLaws.{IsMemberOn, slots_of}
use Rattle.status_register.specs.Surveys.{records_on, disk_in, missing, shortfall}
use Rattle.status_register.specs.declared.member.Member.{Member}
use Rattle.status_register.proofs.Holding.{entry_birth, among_below}
use Rattle.status_register.proofs.Reaching.{placed_reach}
use Rattle.status_register.proofs.Meeting.{found, to_image, enough_there, long_enough, any_among, surveyed_record_counts, surveyed_epoch_above, shown_claim_is_seen}
use Rattle.status_register.proofs.RowFits.{AreLong}
use Rattle.status_register.proofs.Seeing.{shows_record}
use Rattle.group_recovery.specs.Bringing.{MayTake}
use Rattle.group_recovery.specs.Histories.{IsSoundBelow}
use Rattle.group_recovery.specs.Leaving.{LeavesUsers}
use Rattle.group_recovery.specs.Mounting.{MountReading, mount_claim, NamesCopy, IsMount, HasTakenContent, IsMountRead, HasClaimed, HasRecorded, BringsUp, BringsAll, none_brought_up, one_more_copy, members_with_entry, IsCopying, MayMount, claiming, recording, copying, HasMounted, IsSource, Allows, MountingKeeps, DescribesIn, MountedIsHeld, ReadMeansOne, OneGroupIsMeant, IsRegisterOf, RecordedHasHistory, RecordedIsMounted}
use Rattle.group_recovery.specs.Narrowing.{HasCopy}
use Rattle.group_recovery.specs.Renewing.{Renews}
use Rattle.asm_images.proofs.Bare.{births_in, has_bare}
use Rattle.group_recovery.proofs.Bringing.{bringing_keeps}
use Rattle.asm_images.proofs.Enough.{more_enough}
use Rattle.asm_images.proofs.Held.{complete_stands}
use Rattle.group_recovery.proofs.Histories.{any_below}
use Rattle.group_recovery.proofs.Reaching.{attached_among}
use Rattle.group_recovery.proofs.Leaving.{leaves_same, leaves_then, left_users_are_kept}
use Rattle.group_recovery.proofs.Narrowing.{mount_narrows}
use Rattle.group_recovery.proofs.Renewing.{renewed_follows, renewed_is_covered, follows_base}
use Rattle.group_recovery.proofs.Rows.{member_stays, claims_leave, claims_keep, claims_content, records_leave, records_keep, records_content}
use Rattle.asm_images.proofs.Slots.{fewer_slots_are_sound}
use Rattle.group_recovery.proofs.Taking.{at_slot, found_alone}

-- ---- members of an image

-- the disk of a register's member, as a member of the image
pub record IsThere (slots id : ℕ) (image : Image) (m : Member) : Type 0 where
  pub member : images.Member
  pub among : IsAmong (all_members id (disks_in slots image)) member
  pub slot : member.slot ≡ m.slot
  pub disk : member.disk ≡ disk_in image m.slot
  pub header_is : header_in image m.slot ≡ Some member.header
  pub number : member.header.number ≡ m.number
  pub birth : member.header.birth ≡ m.birth

pub is_there : (slots id : ℕ) (image : Image) (m : Member) → IsMemberOn slots id image m → IsThere slots id image m
unfolding members metadata
is_there slots id image m on =
    let disks = metadata_of (disks_in slots image) in
    let in_list = disks_are_listed slots m.slot image on.inside in
    let disk : get_or disks m.slot (metadata []) ≡ disk_in image m.slot = get_or-map metadata (disks_in slots image) m.slot [] (metadata []) (omega (arith, on.inside, in_list.0)) ∙ ap metadata in_list.1 in
    record {
      member = record { slot = m.slot; header = on.header; disk = get_or disks m.slot (metadata []) };
      among = among_members id 0 m.slot m.slot disks (metadata []) on.header (omega arith) (omega (arith, on.inside, length-map (disks_in slots image) metadata, in_list.0))
          (ap (λ (d : Metadata). d.header) disk ∙ on.header_is) on.group;
      slot = refl;
      disk = disk;
      header_is = on.header_is;
      number = on.number;
      birth = on.birth;
    }

pub in_slots : (ms : List Member) (m : Member) → IsAmong ms m → slots_of ms m.slot ≡ true
in_slots ms m h = any_among (λ (k : Member). k.slot == m.slot) ms m h (eq-eqb m.slot m.slot refl)

-- the slots of some members are those of more of them
also_in : (some all : List Member) (slot : ℕ) → ((m : Member) → IsAmong some m → IsAmong all m) → slots_of some slot ≡ true → slots_of all slot ≡ true
also_in some all slot among has =
    let m = found (λ (k : Member). k.slot == slot) some has in
    ap (slots_of all) (sym (eqb-true m.0.slot slot m.2)) ∙ in_slots all m.0 (among m.0 m.1)

with_more : (n slots id : ℕ) (image : Image) (m : Member) → n ≤ slots → IsMemberOn n id image m → IsMemberOn slots id image m
with_more n slots id image m le on = record { inside = omega (arith, on.inside, le); header = on.header; header_is = on.header_is; group = on.group; number = on.number; birth = on.birth }

-- the copy of a disk that a record names was named by the one before it
renewed_named : (r s : Status) (h : Header) → Renews r s → IsNamed s h → IsNamed r h
unfolding elements
renewed_named r s h n named =
    let e = has_bare s.entries r.entries h.number named.entry n.entries named.entry_is in
    record {
      named = among_filtered (has_bit r.directories) (range_with_len 0 64) h.number (among_filter (has_bit s.directories) (range_with_len 0 64) h.number named.named)
          (n.fewer h.number (filter_out (has_bit s.directories) (range_with_len 0 64) h.number named.named));
      entry = e.entry;
      entry_is = e.is;
      birth = sym (ap (λ (b : ℕ × ℕ × ℕ × Bool). b.1) e.same) ∙ named.birth;
    }

-- the record names the copy on a disk with this header
pub is_named : (r : Status) (m : Member) (h : Header) → NamesCopy r m → h.number ≡ m.number → h.birth ≡ m.birth → IsNamed r h
is_named r m h named number birth = go (entry_of r.entries m.number) refl (entry_birth r.entries m named.1)
  where
    go : (o : Option Entry) → entry_of r.entries m.number ≡ o → option_map (λ (e : Entry). e.birth) (entry_of r.entries m.number) ≡ Some m.birth → IsNamed r h
    go None e has = absurd (none-some m.birth (sym (ap (option_map (λ (e : Entry). e.birth)) e) ∙ has))
    go (Some x) e has = record {
      named = subst (λ (k : ℕ). IsAmong (elements r.directories) k) (sym number) named.0;
      entry = x;
      entry_is = ap (entry_of r.entries) number ∙ e;
      birth = same_Some x.birth m.birth (sym (ap (option_map (λ (e : Entry). e.birth)) e) ∙ has) ∙ sym birth;
    }

-- a named disk of an entry has its birth
named_birth : (r : Status) (m : Member) (h : Header) → IsNamed r h → NamesCopy r m → m.number ≡ h.number → m.birth ≡ h.birth
named_birth r m h named names number =
    let entry : entry_of r.entries m.number ≡ Some named.entry = ap (entry_of r.entries) number ∙ named.entry_is in
    same_Some m.birth named.entry.birth (sym (entry_birth r.entries m names.1) ∙ ap (option_map (λ (e : Entry). e.birth)) entry) ∙ named.birth

-- ---- one mount

module _ (n : ℕ) (mount : MountReading) (source : Member) (groups : List Group) (old : Image) (is : IsMount mount) (read : IsMountRead n mount old) (src : IsSource mount source old) where
  abbrev id : ℕ
  id = mount.id

  abbrev next : Status
  next = mount.next

  alive : next.gone ≡ false
  alive = is.renews.gone ∙ is.not_gone

  long : AreLong mount.members old
  long m h = long_enough n id old mount.members read.members m h

  -- so it is on each image with the same sizes
  long_on : (x : Image) → LeavesUsers old x → AreLong mount.members x
  long_on x leaves m h = omega (arith, long m h, leaves.size m.slot)

  module _ (slots : ℕ) (many : n ≤ slots) (sound : Sound id (disks_in slots old) groups) where
    on_old : (m : Member) → IsAmong mount.members m → IsMemberOn slots id old m
    on_old m h = with_more n slots id old m many (read.members m h)

    inside : (m : Member) → IsAmong mount.members m → m.slot < slots
    inside m h = (on_old m h).inside

    on_seen : (m : Member) → IsAmong mount.seen m → IsMemberOn slots id old m
    on_seen m h = on_old m (read.among m h)

    on : (x : Image) → LeavesUsers old x → (m : Member) → IsAmong mount.members m → IsMemberOn slots id x m
    on x leaves m h = member_stays slots id old x leaves m (on_old m h)

    all_old : List images.Member
    all_old = all_members id (disks_in slots old)

    stored : IsAmong (statuses id (all_members id (disks_in slots old))) mount.read
    stored = among_statuses id (slots_of mount.seen) (all_members id (disks_in slots old)) mount.read
        (to_image slots id old mount.seen on_seen mount.read (greatest_is (records_on id old mount.seen) mount.read read.greatest_is).among)

    history : IsSoundBelow id (disks_in slots old) groups mount.read next.epoch
    history = any_below id (disks_in slots old) groups mount.read next.epoch stored
        (λ completed begun fits. surveyed_record_counts slots id completed begun old mount.seen mount.read fits on_seen read.greatest_is read.enough)
        (λ completed begun fits t h. surveyed_epoch_above slots id completed begun old mount.seen mount.read next.epoch fits on_seen read.greatest_is read.enough read.claims_below read.record_below t h)
        sound.completed sound.begun sound.holds

    abbrev completed : Option Status
    completed = history.completed

    abbrev begun : List Status
    begun = history.begun

    -- ---- while claims are put

    claimed_sound : (x : Image) → PutsRow (claim_gate id) mount.members (claim_spelling (mount_claim mount)) old x → SoundBy id (disks_in slots x) groups completed begun
    claimed_sound x row = claims_keep id (mount_claim mount) is.is_a_claim mount.members slots inside groups completed begun old x long row history.sound

    -- ---- while the record is put

    -- the births of its entries are covered
    own_births : (e : Entry) → IsAmong next.entries e → e.birth ≤ next.births
    own_births e h =
        let f = births_in next.entries mount.read.entries is.renews.entries e h in
        omega (arith, f.2, is.renews.births, (history.sound.covered mount.read history.counts is.not_gone).entry_births mount.read f.0 stored f.1)

    births : CoversBirths completed (begun ++ next ∷ []) next
    births t e counts not_gone h = ⊎_elim
        (λ before. let f = births_in next.entries mount.read.entries is.renews.entries e h in
        omega (arith, f.2, (history.sound.covered t before not_gone).entry_births mount.read f.0 stored f.1))
        (λ (same : t ≡ next). omega (arith, own_births e h, ap (λ (r : Status). r.births) same))
        (current_split completed begun next t counts)

    module _ (x : Image) (claims : HasClaimed mount old x) where
      left_claims : LeavesUsers old x
      left_claims = claims_leave id (mount_claim mount) is.is_a_claim mount.members old x long claims.row

      sound_x : SoundBy id (disks_in slots x) groups completed begun
      sound_x = claimed_sound x claims.row

      follows : (v : Status) → base completed begun ≡ Some v → Follows v next
      follows v e = follows_base id (all_members id (disks_in slots x)) completed begun mount.read next v sound_x.fits (renewed_follows mount.read next is.renews) e history.counts

      begins : IsBegun id (disks_in slots x) groups completed begun next
      begins = record {
        allowed = is.is_record;
        above = λ t h. omega (arith, history.below t h);
        follows = follows;
        claimed = shown_claim_is_seen slots id completed begun x claims.took mount.read next sound_x.fits (λ m h. on x left_claims m (claims.among m h)) is.is_a_claim claims.shown history.counts claims.enough follows;
        covered = λ gone. renewed_is_covered id (disks_in slots x) groups mount.read next is.renews (sound_x.covered mount.read history.counts is.not_gone);
      }

      last : IsLast completed (begun ++ next ∷ []) next
      last = begun_is_last id (disks_in slots x) groups completed begun next begins

      recording_sound : (y : Image) → PutsRow (status_gate id) mount.members (status_spelling next) x y → SoundBy id (disks_in slots y) groups completed (begun ++ next ∷ [])
      recording_sound y row = records_keep id next is.is_record mount.members slots inside groups completed (begun ++ next ∷ []) last births x y (long_on x left_claims) row
          (begin_keeps id (disks_in slots x) groups completed begun sound_x next begins)

      left_records : (y : Image) → PutsRow (status_gate id) mount.members (status_spelling next) x y → LeavesUsers old y
      left_records y row = leaves_then old x y left_claims (records_leave id next is.is_record mount.members x y (long_on x left_claims) row)

    -- ---- once it is complete

    module _ (y : Image) (records : HasRecorded mount old y) where
      left_recorded : LeavesUsers old y
      left_recorded = left_records records.between records.claimed y records.row

      on_y : (m : Member) → IsAmong records.took m → IsMemberOn slots id y m
      on_y m h = on y left_recorded m (records.among m h)

      sound_begun : SoundBy id (disks_in slots y) groups completed (begun ++ next ∷ [])
      sound_begun = recording_sound records.between records.claimed y records.row

      stands_on : (k : images.Member) → IsAmong (within (slots_of records.took) (all_members id (disks_in slots y))) k → IsAmong (of_group id k.disk.statuses) next
      unfolding within
      stands_on k h =
          let of = member_is id (disks_in slots y) k (among_within (slots_of records.took) (all_members id (disks_in slots y)) k h) in
          let m = found (λ (j : Member). j.slot == k.slot) records.took (filter_out (λ (j : images.Member). slots_of records.took j.slot) (all_members id (disks_in slots y)) k h) in
          let same : m.0.slot ≡ k.slot = eqb-true m.0.slot k.slot m.2 in
          let bytes = (disks_are_listed slots m.0.slot y (on_y m.0 m.1).inside).1 in
          let disk : k.disk ≡ disk_in y m.0.slot = of.disk ∙ ap (λ (j : ℕ). metadata (get_or (disks_in slots y) j [])) (sym same) ∙ ap metadata bytes in
          subst (λ (d : Metadata). IsAmong (of_group id d.statuses) next) (sym disk) (shows_record slots id y m.0 (on_y m.0 m.1) next is.is_record is.group (records.shown m.0 m.1))

      recorded_sound : SoundBy id (disks_in slots y) groups (Some next) []
      recorded_sound = complete_keeps id (disks_in slots y) groups completed (begun ++ next ∷ []) sound_begun next (record {
        last = last records.between records.claimed;
        holders = slots_of records.took;
        enough = enough_there slots id y records.took on_y next records.enough;
        stored = stands_on;
      })

    -- ---- while copies are brought up

    -- the copies that the record names on attached disks
    named_there : (x : Image) → LeavesUsers old x → (m : Member) → IsAmong mount.members m → NamesCopy next m → (t : IsThere slots id x m) × IsNamed next t.member.header
    named_there x leaves m h named =
        let t = is_there slots id x m (on x leaves m h) in
        (t, is_named next m t.member.header named t.number t.birth)

    -- what lasts while copies are brought up
    record Lasts (x : Image) : Type 0 where
      sound_now : SoundBy id (disks_in slots x) groups (Some next) []
      leaves : LeavesUsers old x
      taken : HasTakenContent mount source x

    same_lasts : (x y : Image) → Same x y → Lasts x → Lasts y
    same_lasts x y same lasts = record {
      sound_now = subst (λ (i : images.ImageBytes). SoundBy id i groups (Some next) []) (sym (same_is_same slots x y same)) lasts.sound_now;
      leaves = leaves_then old x y lasts.leaves (leaves_same x y same);
      taken = ap (λ (bytes : List ℕ). (metadata bytes).content) (same_disk x y source.slot (same.size source.slot) (same.byte source.slot)) ∙ lasts.taken;
    }

    module _ (x y : Image) (m : Member) (among : IsAmong mount.members m) (brings : BringsUp mount m source x y) (lasts : Lasts x) where
      abbrev region : ℕ
      region = (region_end brings.header.shape.dir_blocks - region_start) * block_size

      brought_leaves : LeavesUsers x y
      brought_leaves = record {
        size = brings.elsewhere.size;
        front = λ s k lt. brings.elsewhere.byte s k (λ inside. omega (arith, inside.1, lt));
        behind = λ s k h at le. brings.elsewhere.byte s k (λ inside. past h (sym (ap (header_in x) (sym inside.0) ∙ at) ∙ brings.header_is) k le inside.2);
      }
        where
          past : (h : Header) → Some h ≡ Some brings.header → (k : ℕ) → region_end h.shape.dir_blocks * block_size ≤ k → k < region_start * block_size + region → ⊥
          past h e k le lt = omega (arith, ap (λ (z : Header). z.shape.dir_blocks) (same_Some h brings.header e), le, lt)

      brought_sound : SoundBy id (disks_in slots y) groups (Some next) []
      brought_sound =
          let listed = disks_are_listed slots m.slot x (inside m among) in
          let change = range_change slots m.slot (region_start * block_size) region x y brings.elsewhere in
          let t = named_there x lasts.leaves source src.among src.named in
          subst (λ (i : images.ImageBytes). SoundBy id i groups (Some next) []) (sym change.0)
          (bringing_keeps id (disks_in slots x) groups next mount.content t.0.member m.slot (region_start * block_size) region brings.header (disk_bytes y m.slot)
          lasts.sound_now alive t.0.among t.1 (ap (λ (d : Metadata). d.content) t.0.disk ∙ lasts.taken) (λ same. brings.apart (sym t.0.slot ∙ same))
          (omega (arith, inside m among, listed.0)) (ap header_of listed.1 ∙ brings.header_is) (omega arith) (omega arith)
          (subst (λ (bytes : List ℕ). SameElsewhere bytes (disk_bytes y m.slot) (region_start * block_size) region) (sym listed.1) change.1)
          (subst (λ (bytes : List ℕ). MayTake mount.content (copy_content brings.header.shape.dir_blocks bytes) (copy_content brings.header.shape.dir_blocks (disk_bytes y m.slot))) (sym listed.1) brings.content))

      brought_lasts : Lasts y
      brought_lasts = record {
        sound_now = brought_sound;
        leaves = leaves_then old x y lasts.leaves brought_leaves;
        taken = ap (λ (bytes : List ℕ). (metadata bytes).content)
            (same_disk x y source.slot (brings.elsewhere.size source.slot) (λ k. brings.elsewhere.byte source.slot k (λ inside. brings.apart inside.0))) ∙ lasts.taken;
      }

    all_last : (x y : Image) → BringsAll mount source x y → Lasts x → Lasts y
    all_last x y (none_brought_up z same) lasts = same_lasts x z same lasts
    all_last x z (one_more_copy a b m among row brings) lasts = brought_lasts a b m among brings (all_last x a row lasts)

    -- the record is complete on an image: the content is still there
    recorded_lasts : (y : Image) → HasRecorded mount old y → Lasts y
    recorded_lasts y records =
        let x = records.between in
        record {
          sound_now = recorded_sound y records;
          leaves = left_recorded y records;
          taken = records_content id next is.is_record mount.members x y (long_on x (left_claims x records.claimed)) records.row source.slot
              ∙ claims_content id (mount_claim mount) is.is_a_claim mount.members old x long records.claimed.row source.slot ∙ src.taken;
        }

    copying_lasts : (y : Image) → IsCopying mount source old y → Lasts y
    copying_lasts y copies = all_last copies.between y copies.row (recorded_lasts copies.between copies.recorded)

    -- the register's history begins with the record
    pub recorded_history : (y : Image) → HasRecorded mount old y → (register : Registered) → IsRegisterOf mount register → HasHistory slots register (Some next) [] y
    recorded_history y records register of =
        let on_took : (m : Member) → IsAmong records.took m → IsMemberOn slots register.id y m = λ m h.
        subst (λ (k : ℕ). IsMemberOn slots k y m) (sym of.group) (on_y y records m h) in
        record {
          fits = subst (λ (k : ℕ). FitsHistory slots k (Some next) [] y) (sym of.group) (recorded_sound y records).fits;
          members = λ i m e. subst (λ (k : ℕ). IsMemberOn slots k y m) (sym of.group) (on y (left_recorded y records) m (of.members i m e));
          claimed = record {
            on = records.took;
            members = on_took;
            shown = λ m h. inr (next, shows_record slots register.id y m (on_took m h) next is.is_record (is.group ∙ sym of.group) (records.shown m h), omega (arith, of.epoch));
            enough = subst (λ (r : Status). missing records.took (Some r) ≡ None) (sym of.value) records.enough;
          };
        }

    -- ---- at each moment

    pub moment_sound : (y : Image) → MayMount mount source old y → Sound id (disks_in slots y) groups
    moment_sound y (claiming row) = record { completed = completed; begun = begun; holds = claimed_sound y row }
    moment_sound y (recording x claims row) = record { completed = completed; begun = begun ++ next ∷ []; holds = recording_sound x claims y row }
    moment_sound y (copying copies) = record { completed = Some next; begun = []; holds = (copying_lasts y copies).sound_now }

    -- ---- in the end

    -- the content describes a group of the list
    pub read_means_one : (g : Group) × IsAmong groups g × Describes (disks_in slots old) (all_members id (disks_in slots old)) (all_members id (disks_in slots old)) mount.read mount.content g
    read_means_one =
        let t = is_there slots id old source (on_old source src.among) in
        let named : IsNamed mount.read t.member.header = renewed_named mount.read next t.member.header is.renews (is_named next source t.member.header src.named t.number t.birth) in
        (history.sound.covered mount.read history.counts is.not_gone).described (at_slot t.member.slot) mount.content
        (found_alone id (disks_in slots old) mount.read t.member mount.content t.among named (ap (λ (d : Metadata). d.content) t.disk ∙ src.taken))

    module _ (y : Image) (done : HasMounted mount source old y) (g : Group) (among_g : IsAmong groups g)
        (means : Describes (disks_in slots old) (all_members id (disks_in slots old)) (all_members id (disks_in slots old)) mount.read mount.content g) where
      lasts : Lasts y
      lasts = copying_lasts y done.copying

      -- each copy that the record names is on an attached disk, and has the content
      have : HaveContent next (all_members id (disks_in slots y)) mount.content
      have k d h named is_d =
          let m = is.on_attached k.header.number named.named in
          let t = is_there slots id y m.0 (on y lasts.leaves m.0 m.1) in
          let birth : m.0.birth ≡ k.header.birth = named_birth next m.0 k.header named m.2 m.3 in
          let slot : k.slot ≡ t.member.slot = lasts.sound_now.fits.distinct k t.member h t.among (sym (t.number ∙ m.3)) (sym (t.birth ∙ birth)) in
          let disk : k.disk ≡ disk_in y m.0.slot =
          (member_is id (disks_in slots y) k h).disk ∙ ap (λ (j : ℕ). metadata (get_or (disks_in slots y) j [])) slot ∙ sym (member_is id (disks_in slots y) t.member t.among).disk ∙ t.disk in
          same_Some d mount.content (sym is_d ∙ ap (λ (x : Metadata). x.content) disk ∙ done.contents m.0 m.1 m.2)

      pub has_copy : HasCopy id (disks_in slots y) next mount.content
      has_copy = let t = named_there y lasts.leaves source src.among src.named in (t.0.member, t.0.among, t.1, ap (λ (d : Metadata). d.content) t.0.disk ∙ lasts.taken)

      pub mounted_sound : SoundBy id (disks_in slots y) (g ∷ []) (Some next) []
      mounted_sound = mount_narrows id (disks_in slots old) (disks_in slots y) groups completed begun mount.read next mount.content g history.sound among_g means is.renews
          (left_users_are_kept slots id old y lasts.leaves) lasts.sound_now alive has_copy have

      abbrev owned : List Member
      owned = members_with_entry next.entries mount.members

      owned_among : (m : Member) → IsAmong owned m → IsAmong mount.members m
      owned_among m h = among_filter (is_of next.entries) mount.members m h

      -- the attached disks of the record's sets are enough for it
      abbrev holders : List Member
      holders = attached_to (all_placed next.entries (replicate 64 None) mount.members) next

      holders_reach : missing holders (Some next) ≡ None
      holders_reach = placed_reach next mount.members mount.seen is.numbers read.among
          (ap (shortfall mount.seen) (renewed_follows mount.read next is.renews) ∙ read.enough)

      holders_owned : (m : Member) → IsAmong holders m → IsAmong owned m
      holders_owned m h = among_filtered (is_of next.entries) mount.members m (attached_among next next mount.members is.numbers m h)
          (among_below (all_placed next.entries (replicate 64 None) mount.members) next 64 m h).2.entry

      -- with the attached disks alone it stands
      pub mounted_stands : Standing id (disks_in slots y) (slots_of owned)
      unfolding within
      mounted_stands =
          let t = named_there y lasts.leaves source src.among src.named in
          let named = among_filtered (is_of next.entries) mount.members source src.among src.named.1 in
          complete_stands id (disks_in slots y) (g ∷ []) next (slots_of owned) t.0.member mount.content mounted_sound alive
          (more_enough next (slots_of holders) (slots_of owned) (all_members id (disks_in slots y)) (λ slot has. also_in holders owned slot holders_owned has)
          (enough_there slots id y holders (λ m h. on y lasts.leaves m (owned_among m (holders_owned m h))) next holders_reach))
          (among_filtered (λ (k : images.Member). slots_of owned k.slot) (all_members id (disks_in slots y)) t.0.member t.0.among (ap (slots_of owned) t.0.slot ∙ in_slots owned source named))
          t.1 (ap (λ (d : Metadata). d.content) t.0.disk ∙ lasts.taken)

      pub attached_there : (slot : ℕ) → slots_of owned slot ≡ true → IsMemberIn id y slot
      attached_there slot has =
          let m = found (λ (k : Member). k.slot == slot) owned has in
          let on_m = on y lasts.leaves m.0 (owned_among m.0 m.1) in
          subst (λ (s : ℕ). IsMemberIn id y s) (eqb-true m.0.slot slot m.2) (on_m.header, on_m.header_is, on_m.group)

-- ---- the laws

-- what may be said of n slots and of more may be said of fewer
from_least : (n id : ℕ) (groups : List Group) (image : Image) → ((slots : ℕ) → n ≤ slots → Sound id (disks_in slots image) groups) → Allows id groups image
from_least n id groups image from slots = ⊎_elim
    (λ (few : slots < n). let all = from n (omega arith) in
    record { completed = all.completed; begun = all.begun; holds = fewer_slots_are_sound id slots n image groups all.completed all.begun (omega (arith, few)) all.holds })
    (λ (at_least : n ≤ slots). from slots at_least) (cases_lt slots n)

pub mounting_keeps : MountingKeeps
mounting_keeps = λ n mount source groups old new is read src allows may.
    from_least n mount.id groups new (λ slots many. moment_sound n mount source groups old is read src slots many (allows slots) new may)

pub read_means : ReadMeansOne
read_means = λ slots n mount source groups old is read src many sound. read_means_one n mount source groups old is read src slots many sound

pub one_is_meant : OneGroupIsMeant
one_is_meant = λ n mount source g old is read src allows slots many.
    let one = read_means_one n mount source (g ∷ []) old is read src slots many (allows slots) in
    subst (λ (x : Group). DescribesIn slots mount.id old mount.read mount.content x) (⊎_elim (λ same. same) (λ none. absurd none) one.1) one.2

pub recorded_has_history : RecordedHasHistory
recorded_has_history = λ slots n mount source groups register old new is read src many sound records of.
    recorded_history n mount source groups old is read src slots many sound new records register of

pub recorded_is_mounted : RecordedIsMounted
recorded_is_mounted = λ n mount source old new is read all records.
    let long : AreLong mount.members old = λ m h. long_enough n mount.id old mount.members read.members m h in
    let x = records.between in
    let left = claims_leave mount.id (mount_claim mount) is.is_a_claim mount.members old x long records.claimed.row in
    let long_x : AreLong mount.members x = λ m h. omega (arith, long m h, left.size m.slot) in
    record {
      copying = record { between = new; recorded = records; row = none_brought_up new (same-refl new) };
      contents = λ m h named. records_content mount.id mount.next is.is_record mount.members x new long_x records.row m.slot
          ∙ claims_content mount.id (mount_claim mount) is.is_a_claim mount.members old x long records.claimed.row m.slot ∙ all m h named;
    }

pub mounted_is_held : MountedIsHeld
mounted_is_held = λ n mount source groups g old new is read src allows among means done.
    let from : (slots : ℕ) → n ≤ slots → SoundBy mount.id (disks_in slots new) (g ∷ []) (Some mount.next) [] =
    λ slots many. mounted_sound n mount source groups old is read src slots many (allows slots) new done g among (means slots many) in
    let many : n ≤ n = omega arith in
    record {
      sound = λ slots. ⊎_elim
          (λ (few : slots < n). fewer_slots_are_sound mount.id slots n new (g ∷ []) (Some mount.next) [] (omega (arith, few)) (from n many))
          (λ (at_least : n ≤ slots). from slots at_least) (cases_lt slots n);
      standing = mounted_stands n mount source groups old is read src n many (allows n) new done g among (means n many);
      there = attached_there n mount source groups old is read src n many (allows n) new done g among (means n many);
    }
