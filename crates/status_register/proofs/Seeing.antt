-- What the disks of members show stays while claims and records are put, and enough of them are seen by every set that is enough.
use Rattle.std.proofs.Common.{◌≡◌, ◌≢◌, inl, inr, ⊎_elim, ℕ, ◌*◌, ◌<◌, ◌≤◌, Bool, true, List, [], ◌∷◌, get_or, Option, Some, None, refl, sym, ap, subst, ◌∙◌, arith, IsTrue}
use Rattle.std.specs.Prelude.{◌==◌}
use Rattle.std.specs.Option.{option_map}
use Rattle.std.proofs.lemmas.Bool.{cases_eq, cond-true, eqb-true, eq-eqb}
use Rattle.bay.specs.Image as bay
use Rattle.bay.specs.Image.{Range, ChangesOnly, Same}
use Rattle.asm_formats.specs.Among.{IsAmong}
use Rattle.asm_images.proofs.asm_placement.Membership.{among_left, among_right, filter_out, flat_map_among}
use Rattle.asm_formats.specs.Claim.{Claim, is_claim, claim_spelling}
use Rattle.asm_formats.specs.Metadata.{Metadata, metadata}
use Rattle.asm_formats.specs.Status.{Status, is_status, status_spelling, decoded_status}
use Rattle.asm_formats.proofs.Bodies.{status_codec}
use Rattle.asm_images.specs.Bridge.{disks_in, shown_block}
use Rattle.asm_images.specs.Laws.{ShareASet}
use Rattle.asm_images.specs.Members as a
use Rattle.asm_images.specs.Members.{all_members, within, statuses, claims, of_group, claims_of_group, AreDistinct}
use Rattle.asm_images.specs.Register.{is_enough, HasEpoch}
use Rattle.asm_images.specs.Steps.{RaisesRecords}
use Rattle.asm_images.proofs.Bridges.{disks_are_listed, same_disk}
use Rattle.asm_images.proofs.History.{among_statuses}
use Rattle.asm_images.proofs.Members.{member_is}
use Rattle.asm_images.proofs.Membership.{among_within}
use Rattle.asm_images.proofs.Recording.{status_allowed, turn_below, epoch_le, those_append}
use Rattle.asm_images.proofs.Sharing.{enough_meet}
use Rattle.status_register.specs.Keeping.{ShowsEpoch, EpochStands}
use Rattle.status_register.specs.Rows.{HasStatus, PutsRow, no_put, one_put}
use Rattle.status_register.specs.Sayings.{none_or_one}
use Rattle.status_register.specs.Slots.{MayPutNext, body_says, claim_gate, status_gate}
use Rattle.status_register.specs.SurveyLaws.{IsMemberOn, slots_of}
use Rattle.status_register.specs.Surveys.{disk_in, records_on, missing}
use Rattle.status_register.specs.declared.member.Member.{Member}
use Rattle.status_register.proofs.Meeting.{found, to_image, enough_there, long_enough}
use Rattle.status_register.proofs.RowFits.{AreLong, row_sizes}
use Rattle.status_register.proofs.Surveying.{statuses_said}
use Rattle.status_register.proofs.Raising.{raises as raises_claims}
use Rattle.status_register.proofs.RaisingRecords.{raises as raises_records}

-- ---- sets that are enough meet

-- a member in the set whose disk is that of one of those that are there
pub record Met (slots id : ℕ) (image : bay.Image) (P : ℕ → Bool) (on : List Member) : Type 0 where
  pub member : a.Member
  pub inside : IsAmong (within P (all_members id (disks_in slots image))) member
  pub disk : Member
  pub among : IsAmong on disk
  pub same : member.disk ≡ disk_in image disk.slot

pub meets : (slots id : ℕ) (image : bay.Image) (on : List Member) (are : (m : Member) → IsAmong on m → IsMemberOn slots id image m) (g s : Status) (P : ℕ → Bool) → AreDistinct (all_members id (disks_in slots image))
    → missing on (Some g) ≡ None → ShareASet g s → IsTrue (is_enough s (within P (all_members id (disks_in slots image)))) → Met slots id image P on
unfolding within
meets slots id image on are g s P distinct enough share also =
    let all = all_members id (disks_in slots image) in
    let both = enough_meet g s (within (slots_of on) all) (within P all) share (enough_there slots id image on are g enough) also in
    let n = both.0 in
    let m = both.1 in
    let n_there = among_within (slots_of on) all n both.2 in
    let m_there = among_within P all m both.3 in
    let slot : n.slot ≡ m.slot = distinct n m n_there m_there both.4 both.5 in
    let f = found (λ (k : Member). k.slot == n.slot) on (filter_out (λ (k : a.Member). slots_of on k.slot) all n both.2) in
    let k = f.0 in
    let same : m.slot ≡ k.slot = sym slot ∙ sym (eqb-true k.slot n.slot f.2) in
    let bytes = (disks_are_listed slots k.slot image (are k f.1).inside).1 in
    record {
      member = m;
      inside = both.3;
      disk = k;
      among = f.1;
      same = (member_is id (disks_in slots image) m m_there).disk ∙ ap (λ (j : ℕ). metadata (get_or (disks_in slots image) j [])) same ∙ ap metadata bytes;
    }

met_epoch : (slots id epoch : ℕ) (image : bay.Image) (P : ℕ → Bool) (m : a.Member) → IsAmong (within P (all_members id (disks_in slots image))) m → ShowsEpoch id epoch m.disk
    → HasEpoch id (within P (all_members id (disks_in slots image))) epoch
unfolding statuses claims
met_epoch slots id epoch image P m inside (inl c) = inl (c.0, flat_map_among (λ (m : a.Member). claims_of_group id m.disk.claims) (within P (all_members id (disks_in slots image))) m c.0 inside c.1, c.2)
met_epoch slots id epoch image P m inside (inr r) = inr (r.0, flat_map_among (λ (m : a.Member). of_group id m.disk.statuses) (within P (all_members id (disks_in slots image))) m r.0 inside r.1, r.2)

pub epoch_is_seen : (slots id epoch : ℕ) (image : bay.Image) (g s : Status) (P : ℕ → Bool) → AreDistinct (all_members id (disks_in slots image)) → EpochStands slots id epoch g image → ShareASet g s
    → IsTrue (is_enough s (within P (all_members id (disks_in slots image)))) → HasEpoch id (within P (all_members id (disks_in slots image))) epoch
epoch_is_seen slots id epoch image g s P distinct stands share also =
    let met = meets slots id image stands.on stands.members g s P distinct stands.enough share also in
    met_epoch slots id epoch image P met.member met.inside (subst (λ (d : Metadata). ShowsEpoch id epoch d) (sym met.same) (stands.shown met.disk met.among))

-- ---- one disk

only : (slots id : ℕ) (image : bay.Image) (m : Member) → IsMemberOn slots id image m → (k : Member) → IsAmong (m ∷ []) k → IsMemberOn slots id image k
only slots id image m on k (inl same) = subst (λ (n : Member). IsMemberOn slots id image n) (sym same) on
only slots id image m on k (inr none) = absurd none

pub record_allowed : (slots id : ℕ) (image : bay.Image) (m : Member) → IsMemberOn slots id image m → (r : Status) → IsAmong (of_group id (disk_in image m.slot).statuses) r → is_status r ≡ true
unfolding records_on
record_allowed slots id image m on r h =
    status_allowed id (disks_in slots image) r (among_statuses id (slots_of (m ∷ [])) (all_members id (disks_in slots image)) r
    (to_image slots id image (m ∷ []) (only slots id image m on) r (flat_map_among (λ (k : Member). of_group id (disk_in image k.slot).statuses) (m ∷ []) m r (inl refl) h)))

-- a record that a disk shows is one of its records
pub shows_record : (slots id : ℕ) (image : bay.Image) (m : Member) → IsMemberOn slots id image m → (r : Status) → IsTrue (is_status r) → r.id ≡ id → HasStatus (status_spelling r) m.slot image
    → IsAmong (of_group id (disk_in image m.slot).statuses) r
shows_record slots id image m on r allowed group has =
    let first = none_or_one (body_says decoded_status image m.slot 6) in
    let second = none_or_one (body_says decoded_status image m.slot 8) in
    subst (λ (os : List (Option Status)). IsAmong (of_group id os) r) (sym (statuses_said image m.slot (long_enough slots id image (m ∷ []) (only slots id image m on) m (inl refl))))
    (subst (λ (l : List Status). IsAmong l r) (sym (those_append (λ (s : Status). s.id == id) first second))
    (⊎_elim
    (λ one. among_left (of_group id first) (of_group id second) r (of_listed (body_says decoded_status image m.slot 6) (says m.slot 6 one)))
    (λ two. among_right (of_group id first) (of_group id second) r (of_listed (body_says decoded_status image m.slot 8) (says m.slot 8 two))) has))
  where
    of_listed : (o : Option (Option Status)) → o ≡ Some (Some r) → IsAmong (of_group id (none_or_one o)) r
    of_listed o is = subst (λ (p : Option (Option Status)). IsAmong (of_group id (none_or_one p)) r) (sym is)
        (subst (λ (l : List Status). IsAmong l r) (sym (cond-true (r.id == id) (r ∷ []) [] (eq-eqb r.id id group))) (inl refl))

    says : (slot gate : ℕ) → shown_block image slot gate ≡ Some (status_spelling r) → body_says decoded_status image slot gate ≡ Some (Some r)
    says slot gate is = ap (λ (o : Option (List ℕ)). option_map decoded_status o) is ∙ ap (λ (o : Option Status). Some o) (status_codec.again r allowed)

-- ---- what stays

pub same_header : (slots id : ℕ) (x y : bay.Image) (m : Member) → (disk_in y m.slot).header ≡ (disk_in x m.slot).header → IsMemberOn slots id x m → IsMemberOn slots id y m
unfolding metadata
same_header slots id x y m same on = record { inside = on.inside; header = on.header; header_is = same ∙ on.header_is; group = on.group; number = on.number; birth = on.birth }

-- another disk is as it was
other_disk : (slot at n : ℕ) (x y : bay.Image) → ChangesOnly (Range slot at n) x y → (s : ℕ) → s ≢ slot → disk_in y s ≡ disk_in x s
other_disk slot at n x y step s differ = ap metadata (same_disk x y s (step.size s) (λ k. step.byte s k (λ inside. differ inside.0)))

same_disks : (x y : bay.Image) → Same x y → (s : ℕ) → disk_in y s ≡ disk_in x s
same_disks x y same s = ap metadata (same_disk x y s (same.size s) (same.byte s))

-- over puts of a claim
module _ (slots id : ℕ) (c : Claim) (allowed : IsTrue (is_claim c)) where
  claim_header : (slot : ℕ) (x y : bay.Image) → slot < slots → 40960 ≤ x.size slot → MayPutNext (claim_gate id) slot (claim_spelling c) x y → (s : ℕ) → (disk_in y s).header ≡ (disk_in x s).header
  claim_header slot x y inside long step s = elim (cases_eq s slot) [
    | inl same ↦ subst (λ (k : ℕ). (disk_in y k).header ≡ (disk_in x k).header) (sym same) (ap (λ (d : Metadata). d.header) (raises_claims slots id slot c allowed inside x y long step).others)
    | inr other ↦ ap (λ (d : Metadata). d.header) (other_disk slot (claim_gate id slot x * 4096) (2 * 4096) x y step.elsewhere s other)
  ]

  pub claim_row_member : (ms : List Member) → ((m : Member) → IsAmong ms m → m.slot < slots) → (x y : bay.Image) → AreLong ms x → PutsRow (claim_gate id) ms (claim_spelling c) x y
      → (m : Member) → IsMemberOn slots id x m → IsMemberOn slots id y m
  claim_row_member ms inside x y long (no_put a b same) m on = same_header slots id a b m (ap (λ (d : Metadata). d.header) (same_disks a b same m.slot)) on
  claim_row_member ms inside x z long (one_put a y b k among row step) m on =
      same_header slots id y b m (claim_header k.slot y b (inside k among) (omega (arith, long k among, row_sizes (claim_gate id) ms (claim_spelling c) a y row k.slot)) step m.slot)
      (claim_row_member ms inside a y long row m on)

-- over puts of a record
module _ (slots id : ℕ) (r : Status) (allowed : IsTrue (is_status r)) where
  record_header : (slot : ℕ) (x y : bay.Image) → slot < slots → 40960 ≤ x.size slot → MayPutNext (status_gate id) slot (status_spelling r) x y → (s : ℕ) → (disk_in y s).header ≡ (disk_in x s).header
  record_header slot x y inside long step s = elim (cases_eq s slot) [
    | inl same ↦ subst (λ (k : ℕ). (disk_in y k).header ≡ (disk_in x k).header) (sym same) (ap (λ (d : Metadata). d.header) (raises_records slots id slot r allowed inside x y long step).others)
    | inr other ↦ ap (λ (d : Metadata). d.header) (other_disk slot (status_gate id slot x * 4096) (2 * 4096) x y step.elsewhere s other)
  ]

  raised_epoch : (epoch : ℕ) (old new : Metadata) → RaisesRecords id old new r → ((t : Status) → IsAmong (of_group id new.statuses) t → is_status t ≡ true) → ShowsEpoch id epoch old → ShowsEpoch id epoch new
  raised_epoch epoch old new raises fine (inl c) = inl (c.0, subst (λ (d : Metadata). IsAmong (claims_of_group id d.claims) c.0) (sym raises.others) c.1, c.2)
  raised_epoch epoch old new raises fine (inr s) =
      let t = raises.raised s.0 s.1 in
      inr (t.0, t.1, omega (arith, s.2, epoch_le s.0 t.0 t.2 (turn_below t.0 (fine t.0 t.1))))

  record_epoch : (epoch slot : ℕ) (x y : bay.Image) → slot < slots → 40960 ≤ x.size slot → MayPutNext (status_gate id) slot (status_spelling r) x y
      → (m : Member) → IsMemberOn slots id y m → ShowsEpoch id epoch (disk_in x m.slot) → ShowsEpoch id epoch (disk_in y m.slot)
  record_epoch epoch slot x y inside long step m on = elim (cases_eq m.slot slot) [
    | inl same ↦ raised_epoch epoch (disk_in x m.slot) (disk_in y m.slot)
        (subst (λ (k : ℕ). RaisesRecords id (disk_in x k) (disk_in y k) r) (sym same) (raises_records slots id slot r allowed inside x y long step)) (record_allowed slots id y m on)
    | inr other ↦ λ shows. subst (λ (d : Metadata). ShowsEpoch id epoch d) (sym (other_disk slot (status_gate id slot x * 4096) (2 * 4096) x y step.elsewhere m.slot other)) shows
  ]

  module _ (ms : List Member) (inside : (m : Member) → IsAmong ms m → m.slot < slots) where
    pub row_member : (x y : bay.Image) → AreLong ms x → PutsRow (status_gate id) ms (status_spelling r) x y → (m : Member) → IsMemberOn slots id x m → IsMemberOn slots id y m
    row_member x y long (no_put a b same) m on = same_header slots id a b m (ap (λ (d : Metadata). d.header) (same_disks a b same m.slot)) on
    row_member x z long (one_put a y b k among row step) m on =
        same_header slots id y b m (record_header k.slot y b (inside k among) (omega (arith, long k among, row_sizes (status_gate id) ms (status_spelling r) a y row k.slot)) step m.slot)
        (row_member a y long row m on)

    pub row_epoch : (epoch : ℕ) (x y : bay.Image) → AreLong ms x → PutsRow (status_gate id) ms (status_spelling r) x y → (m : Member) → IsMemberOn slots id x m → ShowsEpoch id epoch (disk_in x m.slot) → ShowsEpoch id epoch (disk_in y m.slot)
    row_epoch epoch x y long (no_put a b same) m on shows = subst (λ (d : Metadata). ShowsEpoch id epoch d) (sym (same_disks a b same m.slot)) shows
    row_epoch epoch x z long (one_put a y b k among row step) m on shows =
        record_epoch epoch k.slot y b (inside k among) (omega (arith, long k among, row_sizes (status_gate id) ms (status_spelling r) a y row k.slot)) step m
        (row_member a b long (one_put a y b k among row step) m on) (row_epoch epoch a y long row m on shows)

    pub row_stands : (epoch : ℕ) (g : Status) (x y : bay.Image) → AreLong ms x → PutsRow (status_gate id) ms (status_spelling r) x y → EpochStands slots id epoch g x → EpochStands slots id epoch g y
    row_stands epoch g x y long row stands = record {
      on = stands.on;
      members = λ m h. row_member x y long row m (stands.members m h);
      shown = λ m h. row_epoch epoch x y long row m (stands.members m h) (stands.shown m h);
      enough = stands.enough;
    }
