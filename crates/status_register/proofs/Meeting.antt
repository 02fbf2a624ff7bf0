-- What a survey finds is what the members of the image hold.
use Rattle.std.proofs.Common.{◌≡◌, inl, inr, ⊎_elim, ℕ, ◌+◌, ◌*◌, ◌<◌, ◌≤◌, Bool, true, false, List, [], ◌∷◌, length, filter, get_or, nat_lt, Option, Some, None, refl, sym, ap, subst, ◌∙◌, arith, IsTrue}
use Rattle.std.specs.Prelude.{flat_map, nat_le, ◌++◌, ◌==◌, ◌&&◌, ◌||◌, ◌/◌}
use Rattle.std.specs.List.{list_any, list_all}
use Rattle.std.proofs.lemmas.Bool.{cond_both, leb-true, cond-true, false≢true, eqb-true, eq-eqb, ltb-true, lt-ltb, and_parts, or_cases}
use Rattle.std.proofs.lemmas.Option.{none-some}
use Rattle.std.proofs.lemmas.List.{get_or-map, length-map}
use Rattle.bay.specs.Image as bay
use Rattle.asm_formats.specs.Among.{IsAmong}
use Rattle.asm_images.proofs.asm_placement.Membership.{among_filtered, among_left, among_right, filter_out, among_flat_map, flat_map_among}
use Rattle.asm_formats.specs.Metadata.{Metadata, metadata}
use Rattle.asm_formats.specs.Claim.{Claim}
use Rattle.asm_formats.specs.Status.{Status, is_status}
use Rattle.asm_formats.specs.Bytes.{block, is_open}
use Rattle.asm_formats.specs.Claim.{is_claim, claim_spelling, decoded_claim}
use Rattle.asm_formats.specs.Header.{Header, decoded_header}
use Rattle.asm_formats.specs.Regions.{least_size, header_gate}
use Rattle.asm_formats.proofs.Bodies.{claim_codec}
use Rattle.asm_images.specs.MountLaws.{HaveClaimed}
use Rattle.asm_images.proofs.Bridges.{bytes_are_listed}
use Rattle.asm_images.proofs.Mounts.{surveyed_epoch_is_above, claim_is_seen}
use Rattle.status_register.specs.Rows.{HasClaim}
use Rattle.status_register.specs.Sayings.{none_or_one}
use Rattle.status_register.specs.Slots.{body_says}
use Rattle.status_register.proofs.Surveying.{claims_said}
use Rattle.std.specs.Option.{option_map}
use Rattle.asm_images.proofs.Recording.{begin_history, epoch_le, status_allowed, those_append, turn_below}
use Rattle.asm_formats.specs.Following.{Follows, Holder, sets, rank}
use Rattle.asm_images.specs.Bridge.{disk_bytes, shown_block, disks_in}
use Rattle.asm_images.specs.Members as a
use Rattle.asm_images.specs.Members.{ImageBytes, all_members, members, metadata_of, within, statuses, of_group, is_disk, has_disk, claims, claims_of_group}
use Rattle.asm_images.specs.Register.{base, HasEpoch, current_records, greatest, is_enough, is_majority}
use Rattle.asm_images.proofs.Bridges.{disks_are_listed}
use Rattle.asm_images.proofs.Members.{among_members, member_is}
use Rattle.asm_images.proofs.Membership.{among_within}
use Rattle.asm_images.proofs.History.{greatest_is, nothing_greatest, among_statuses, surveyed_counts}
use Rattle.status_register.specs.History.{FitsHistory}
use Rattle.status_register.specs.Surveys.{disk_in, records_on, is_holder_there, seen_of, shortfall, missing, claims_on, greatest_epoch}
use Rattle.status_register.specs.SurveyLaws.{IsMemberOn, slots_of}
use Rattle.status_register.specs.declared.member.Member.{Member}

-- ---- tests of lists

or_later : (b c : Bool) → c ≡ true → (b || c) ≡ true
or_later true c is = refl
or_later false c is = is

pub any_among : {A : Type 0} (p : A → Bool) (xs : List A) (x : A) → IsAmong xs x → p x ≡ true → list_any p xs ≡ true
any_among p [] x h pass = absurd h
any_among p (y ∷ xs) x (inl same) pass = by (p y) (ap p (sym same) ∙ pass) where
  by : (b : Bool) → b ≡ true → (b || list_any p xs) ≡ true
  by true e = refl
  by false e = absurd (false≢true e)
any_among p (y ∷ xs) x (inr h) pass = or_later (p y) (list_any p xs) (any_among p xs x h pass)

epoch_most : (cs : List Claim) (c : Claim) → IsAmong cs c → c.epoch ≤ greatest_epoch cs
epoch_most [] c h = absurd h
epoch_most (x ∷ xs) c (inl same) = omega (arith, ap (λ (d : Claim). d.epoch) same)
epoch_most (x ∷ xs) c (inr h) = omega (arith, epoch_most xs c h)

pub found : {A : Type 0} (p : A → Bool) (xs : List A) → list_any p xs ≡ true → (x : A) × IsAmong xs x × (p x ≡ true)
found p [] e = absurd (false≢true e)
found p (x ∷ xs) e = ⊎_elim (λ here. (x, inl refl, here)) (λ later. let f = found p xs later in (f.0, inr f.1, f.2)) (or_cases (p x) (list_any p xs) e)

more_pass : {A : Type 0} (p q : A → Bool) (xs : List A) → ((x : A) → p x ≡ true → q x ≡ true) → length (filter p xs) ≤ length (filter q xs)
more_pass p q [] within_ = omega arith
more_pass {A} p q (x ∷ xs) within_ =
    let rest = more_pass p q xs within_ in
    cond_both (p x) (x ∷ filter p xs) (filter p xs) (λ (l : List A). length l ≤ length (filter q (x ∷ xs)))
    (λ yes. subst (λ (l : List A). length (x ∷ filter p xs) ≤ length l) (sym (kept (within_ x yes))) (omega (arith, rest)))
    (λ out. cond_both (q x) (x ∷ filter q xs) (filter q xs) (λ (l : List A). length (filter p xs) ≤ length l) (λ also. omega (arith, rest)) (λ no. rest))
  where
    kept : q x ≡ true → filter q (x ∷ xs) ≡ x ∷ filter q xs
    kept pass = cond-true (q x) (x ∷ filter q xs) (filter q xs) pass

module _ (slots id : ℕ) (image : bay.Image) (read : List Member) (are : (m : Member) → IsAmong read m → IsMemberOn slots id image m) where
  abbrev all : List a.Member
  all = all_members id (disks_in slots image)

  abbrev chosen : List a.Member
  chosen = within (slots_of read) all

  listed_disk : (slot : ℕ) → slot < slots → get_or (metadata_of (disks_in slots image)) slot (metadata []) ≡ disk_in image slot
  listed_disk slot lt =
      let slots_of_disk = disks_are_listed slots slot image lt in
      get_or-map metadata (disks_in slots image) slot [] (metadata []) (omega (arith, lt, slots_of_disk.0)) ∙ ap metadata slots_of_disk.1

  -- the member of the image that was read
  abbrev There : Member → Type 0
  There m = (n : a.Member) × IsAmong chosen n × (n.disk ≡ disk_in image m.slot) × (n.header.number ≡ m.number) × (n.header.birth ≡ m.birth)

  there : (m : Member) → IsAmong read m → There m
  unfolding members metadata within
  there m h =
      let on = are m h in
      let disks = metadata_of (disks_in slots image) in
      let disk = listed_disk m.slot on.inside in
      let short : m.slot < length disks = omega (arith, on.inside, length-map (disks_in slots image) metadata, (disks_are_listed slots m.slot image on.inside).0) in
      let one = among_members id 0 m.slot m.slot disks (metadata []) on.header (omega arith) short (ap (λ (d : Metadata). d.header) disk ∙ on.header_is) on.group in
      let n : a.Member = record { slot = m.slot; header = on.header; disk = get_or disks m.slot (metadata []) } in
      (n, among_filtered (λ (k : a.Member). slots_of read k.slot) all n one (any_among (λ (k : Member). k.slot == m.slot) read m h (eq-eqb m.slot m.slot refl)), disk, on.number, on.birth)

  pub to_image : (r : Status) → IsAmong (records_on id image read) r → IsAmong (statuses id chosen) r
  unfolding records_on statuses
  to_image r h =
      let f = among_flat_map (λ (m : Member). of_group id (disk_in image m.slot).statuses) read r h in
      let n = there f.0 f.1 in
      flat_map_among (λ (m : a.Member). of_group id m.disk.statuses) chosen n.0 r n.1 (subst (λ (d : Metadata). IsAmong (of_group id d.statuses) r) (sym n.2) f.2)

  -- the member that was read, of a member of the image in its slot
  read_of : (n : a.Member) → IsAmong chosen n → (m : Member) × IsAmong read m × (n.disk ≡ disk_in image m.slot)
  unfolding within
  read_of n h =
      let is = member_is id (disks_in slots image) n (among_within (slots_of read) all n h) in
      let m = found (λ (k : Member). k.slot == n.slot) read (filter_out (λ (k : a.Member). slots_of read k.slot) all n h) in
      let same : m.0.slot ≡ n.slot = eqb-true m.0.slot n.slot m.2 in
      let bytes = (disks_are_listed slots m.0.slot image (are m.0 m.1).inside).1 in
      (m.0, m.1, is.disk ∙ (ap (λ (k : ℕ). metadata (get_or (disks_in slots image) k [])) (sym same) ∙ ap metadata bytes))

  -- what the disks of those say, the disks that were read say
  from_chosen : {A : Type 0} (of : Metadata → List A) (x : A) → IsAmong (flat_map (λ (m : a.Member). of m.disk) chosen) x → IsAmong (flat_map (λ (m : Member). of (disk_in image m.slot)) read) x
  from_chosen {A} of x h =
      let f = among_flat_map (λ (m : a.Member). of m.disk) chosen x h in
      let m = read_of f.0 f.1 in
      flat_map_among (λ (k : Member). of (disk_in image k.slot)) read m.0 x m.1 (subst (λ (d : Metadata). IsAmong (of d) x) m.2 f.2)

  from_image : (r : Status) → IsAmong (statuses id chosen) r → IsAmong (records_on id image read) r
  unfolding records_on statuses
  from_image r h = from_chosen (λ (d : Metadata). of_group id d.statuses) r h

  claims_from_image : (c : Claim) → IsAmong (claims id chosen) c → IsAmong (claims_on id image read) c
  unfolding claims_on claims
  claims_from_image c h = from_chosen (λ (d : Metadata). claims_of_group id d.claims) c h

  -- a disk with a header has its slots
  pub long_enough : (m : Member) → IsAmong read m → 40960 ≤ image.size m.slot
  long_enough m h =
      let on = are m h in
      let bytes = disk_bytes image m.slot in
      cond_both (nat_le least_size (length bytes) && is_open bytes header_gate) (decoded_header (block bytes 1)) None (λ (o : Option Header). o ≡ Some on.header → 40960 ≤ image.size m.slot)
      (λ whole some. omega (arith, leb-true least_size (length bytes) (and_parts (nat_le least_size (length bytes)) (is_open bytes header_gate) whole).0, (bytes_are_listed image m.slot).0))
      (λ short none. absurd (none-some on.header none)) on.header_is

  -- a claim that a disk shows is one of its claims
  module _ (c : Claim) (allowed : IsTrue (is_claim c)) (group : c.id ≡ id) where
    of_listed : (o : Option (Option Claim)) → o ≡ Some (Some c) → IsAmong (claims_of_group id (none_or_one o)) c
    of_listed o is = subst (λ (p : Option (Option Claim)). IsAmong (claims_of_group id (none_or_one p)) c) (sym is)
        (subst (λ (l : List Claim). IsAmong l c) (sym (cond-true (c.id == id) (c ∷ []) [] (eq-eqb c.id id group))) (inl refl))

    says_claim : (slot gate : ℕ) → shown_block image slot gate ≡ Some (claim_spelling c) → body_says decoded_claim image slot gate ≡ Some (Some c)
    says_claim slot gate is = ap (λ (o : Option (List ℕ)). option_map decoded_claim o) is ∙ ap (λ (o : Option Claim). Some o) (claim_codec.1 c allowed)

    pub shows_claim : (m : Member) → IsAmong read m → HasClaim (claim_spelling c) m.slot image → IsAmong (claims_of_group id (disk_in image m.slot).claims) c
    shows_claim m h has =
        let first = none_or_one (body_says decoded_claim image m.slot 2) in
        let second = none_or_one (body_says decoded_claim image m.slot 4) in
        subst (λ (os : List (Option Claim)). IsAmong (claims_of_group id os) c) (sym (claims_said image m.slot (long_enough m h)))
        (subst (λ (l : List Claim). IsAmong l c) (sym (those_append (λ (d : Claim). d.id == id) first second))
        (⊎_elim
        (λ one. among_left (claims_of_group id first) (claims_of_group id second) c (of_listed (body_says decoded_claim image m.slot 2) (says_claim m.slot 2 one)))
        (λ two. among_right (claims_of_group id first) (claims_of_group id second) c (of_listed (body_says decoded_claim image m.slot 4) (says_claim m.slot 4 two))) has))

    have_claimed : ((m : Member) → IsAmong read m → HasClaim (claim_spelling c) m.slot image) → HaveClaimed id chosen c.epoch
    have_claimed show n h =
        let m = read_of n h in
        (c, subst (λ (d : Metadata). IsAmong (claims_of_group id d.claims) c) (sym m.2) (shows_claim m.0 m.1 (show m.0 m.1)), omega arith)

  has_there : (h : Holder) → is_holder_there read h ≡ true → has_disk chosen h.0 h.1 ≡ true
  has_there h e =
      let m = found (λ (k : Member). (k.number == h.0) && (k.birth == h.1)) read e in
      let parts = and_parts (m.0.number == h.0) (m.0.birth == h.1) m.2 in
      let n = there m.0 m.1 in
      any_among (λ (k : a.Member). is_disk h.0 h.1 k.header) chosen n.0 n.1
      (λ i. eq-eqb n.0.header.number h.0 (n.3 ∙ eqb-true m.0.number h.0 parts.0) i && eq-eqb n.0.header.birth h.1 (n.4 ∙ eqb-true m.0.birth h.1 parts.1) i)

  majority_there : (set : List Holder) → nat_lt (length set) (2 * seen_of read set) ≡ true → is_majority chosen set ≡ true
  unfolding seen_of
  majority_there set e =
      lt-ltb (length set) (2 * length (filter (λ (h : Holder). has_disk chosen h.0 h.1) set))
      (omega (arith, ltb-true (length set) (2 * length (filter (is_holder_there read) set)) e, more_pass (is_holder_there read) (λ (h : Holder). has_disk chosen h.0 h.1) set has_there))

  all_there : (all_sets : List (List Holder)) → shortfall read all_sets ≡ None → list_all (is_majority chosen) all_sets ≡ true
  all_there [] none = refl
  all_there (set ∷ others) none = cond_both (nat_lt (length set) (2 * seen_of read set)) (shortfall read others) (Some (seen_of read set, length set / 2 + 1))
      (λ (o : Option (ℕ × ℕ)). o ≡ None → list_all (is_majority chosen) (set ∷ others) ≡ true)
      (λ yes rest. λ i. majority_there set yes i && all_there others rest i)
      (λ out some. absurd (none-some _ (sym some))) none

  pub enough_there : (r : Status) → missing read (Some r) ≡ None → IsTrue (is_enough r chosen)
  unfolding is_enough
  enough_there r none = all_there (sets r) none

  -- the members that were read hold the same greatest record
  module _ (completed : Option Status) (begun : List Status) (r : Status) (fits : FitsHistory slots id completed begun image) (is : greatest (records_on id image read) ≡ Some r) where
    same_greatest : greatest (statuses id chosen) ≡ Some r
    same_greatest = by (greatest (statuses id chosen)) refl
      where
        by : (o : Option Status) → greatest (statuses id chosen) ≡ o → greatest (statuses id chosen) ≡ Some r
        by None nothing = absurd (subst (λ (l : List Status). IsAmong l r) (nothing_greatest (statuses id chosen) nothing) (to_image r (greatest_is (records_on id image read) r is).among))
        by (Some g) some =
            let top = greatest_is (statuses id chosen) g some in
            let mine = greatest_is (records_on id image read) r is in
            let rank_same : rank g ≡ rank r = omega (arith, top.most r (to_image r mine.among), mine.most g (from_image g top.among)) in
            let one : g ≡ r = fits.numbers g r (among_statuses id (slots_of read) all g top.among) (among_statuses id (slots_of read) all r (to_image r mine.among)) rank_same in
            some ∙ ap (λ (s : Status). Some s) one

    pub counts : missing read (Some r) ≡ None → IsAmong (current_records completed begun) r
    counts none = surveyed_counts id all completed begun (slots_of read) r fits same_greatest (enough_there r none)

    record_below : (epoch : ℕ) → r.epoch < epoch → (s : Status) → IsAmong (statuses id chosen) s → s.epoch < epoch
    record_below epoch lt s h =
        let top = greatest_is (statuses id chosen) r same_greatest in
        let turn = turn_below r (status_allowed id (disks_in slots image) r (among_statuses id (slots_of read) all r top.among)) in
        omega (arith, lt, epoch_le s r (top.most s h) turn)

    pub above : (epoch : ℕ) → missing read (Some r) ≡ None → greatest_epoch (claims_on id image read) < epoch → r.epoch < epoch → (s : Status) → IsAmong (current_records completed begun) s → s.epoch < epoch
    above epoch none claims_lt record_lt s h = surveyed_epoch_is_above id (disks_in slots image) completed begun (slots_of read) r epoch fits same_greatest (enough_there r none)
        (λ c among. omega (arith, claims_lt, epoch_most (claims_on id image read) c (claims_from_image c among))) (record_below epoch record_lt) s h

pub surveyed_record_counts : (slots id : ℕ) (completed : Option Status) (begun : List Status) (image : bay.Image) (read : List Member) (r : Status) → FitsHistory slots id completed begun image
    → ((m : Member) → IsAmong read m → IsMemberOn slots id image m)
    → greatest (records_on id image read) ≡ Some r → missing read (Some r) ≡ None → IsAmong (current_records completed begun) r
surveyed_record_counts slots id completed begun image read r fits are is none = counts slots id image read are completed begun r fits is none

pub surveyed_epoch_above : (slots id : ℕ) (completed : Option Status) (begun : List Status) (image : bay.Image) (read : List Member) (r : Status) (epoch : ℕ) → FitsHistory slots id completed begun image
    → ((m : Member) → IsAmong read m → IsMemberOn slots id image m) → greatest (records_on id image read) ≡ Some r → missing read (Some r) ≡ None
    → greatest_epoch (claims_on id image read) < epoch → r.epoch < epoch → (s : Status) → IsAmong (current_records completed begun) s → s.epoch < epoch
surveyed_epoch_above slots id completed begun image read r epoch fits are is none claims_lt record_lt s h = above slots id image read are completed begun r fits is epoch none claims_lt record_lt s h

-- a claim that a majority of each set shows is seen by every set that is enough
pub shown_claim_is_seen : (slots id : ℕ) (completed : Option Status) (begun : List Status) (image : bay.Image) (took : List Member) (g r : Status) → FitsHistory slots id completed begun image
    → ((m : Member) → IsAmong took m → IsMemberOn slots id image m) → IsTrue (is_claim (record { id = id; epoch = r.epoch }))
    → ((m : Member) → IsAmong took m → HasClaim (claim_spelling (record { id = id; epoch = r.epoch })) m.slot image)
    → IsAmong (current_records completed begun) g → missing took (Some g) ≡ None → ((v : Status) → base completed begun ≡ Some v → Follows v r)
    → (P : ℕ → Bool) (s : Status) → IsAmong (r ∷ current_records completed begun) s → IsTrue (is_enough s (within P (all_members id (disks_in slots image))))
    → HasEpoch id (within P (all_members id (disks_in slots image))) r.epoch
shown_claim_is_seen slots id completed begun image took g r fits are allowed show counted none follows P s among enough =
    claim_is_seen id (disks_in slots image) completed begun fits g r (slots_of took) counted (enough_there slots id image took are g none)
    (have_claimed slots id image took are (record { id = id; epoch = r.epoch }) allowed refl show) follows P s among enough

pub claimed_record_begins : (slots id : ℕ) (completed : Option Status) (begun : List Status) (image : bay.Image) (took : List Member) (g r : Status) → FitsHistory slots id completed begun image
    → ((m : Member) → IsAmong took m → IsMemberOn slots id image m) → IsTrue (is_claim (record { id = id; epoch = r.epoch }))
    → ((m : Member) → IsAmong took m → HasClaim (claim_spelling (record { id = id; epoch = r.epoch })) m.slot image)
    → IsAmong (current_records completed begun) g → missing took (Some g) ≡ None → ((v : Status) → base completed begun ≡ Some v → Follows v r)
    → IsTrue (is_status r) → ((s : Status) → IsAmong (current_records completed begun) s → rank s < rank r) → FitsHistory slots id completed (begun ++ (r ∷ [])) image
claimed_record_begins slots id completed begun image took g r fits are claim show counted none follows allowed above_all =
    begin_history id (disks_in slots image) completed begun fits r allowed above_all follows (shown_claim_is_seen slots id completed begun image took g r fits are claim show counted none follows)
