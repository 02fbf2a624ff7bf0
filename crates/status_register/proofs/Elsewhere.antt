-- The history of a register over steps that leave its members' first ten blocks, and over a disk that is attached.
use Rattle.std.proofs.Common.{◌≡◌, ◌⊎◌, inl, inr, ⊎_elim, ℕ, zero, suc, ◌+◌, ◌<◌, ◌≤◌, Bool, true, false, cond, List, [], ◌∷◌, length, map, get_or, set, slice_index, refl, sym, ap, subst, ◌∙◌, Option, Some, None, arith, ◌==◌}
use Rattle.std.proofs.lemmas.Bool.{cond-false, ne_eqb, cases_lt}
use Rattle.std.proofs.lemmas.List.{get_or_past}
use Rattle.std.proofs.lemmas.Option.{same_Some, none-some}
use Rattle.bay.specs.Image as bay
use Rattle.bay.specs.State.{BayState, KeepsAttached}
use Rattle.bay.specs.Moments.{Runs, NowOnly, Within}
use Rattle.bay.proofs.Calls.{now_only, stops}
use Rattle.bay.proofs.Images.{length-window}
use Rattle.asm_formats.specs.Among.{IsAmong}
use Rattle.asm_formats.specs.Header.{Header}
use Rattle.asm_formats.specs.Claim.{Claim}
use Rattle.asm_formats.specs.Metadata.{Metadata, metadata, header_of}
use Rattle.asm_formats.specs.Places.{SameElsewhere}
use Rattle.asm_formats.specs.Status.{Status}
use Rattle.asm_formats.proofs.Framing.{directory_write}
use Rattle.asm_images.specs.Bridge.{disk_bytes, disks_in}
use Rattle.asm_images.specs.Members as a
use Rattle.asm_images.specs.Members.{ImageBytes, AreDistinct, all_members, claims_of_group, disk_of, members, members_from, of_group, statuses, with_member, within}
use Rattle.asm_images.specs.Register.{Fits, greatest}
use Rattle.asm_images.proofs.Bridges.{bytes_are_listed, disks_are_listed, listed}
use Rattle.asm_images.proofs.Claiming.{fits_raised}
use Rattle.asm_images.proofs.Members.{member_is}
use Rattle.asm_images.proofs.Membership.{among_flat_map, flat_map_among, among_within}
use Rattle.asm_images.proofs.Replacing.{Keeps as KeepsMembers}
use Rattle.status_register.specs.Elsewhere.{SameFront, LeavesRegister, with_attached, IsApartFrom}
use Rattle.status_register.specs.History.{FitsHistory}
use Rattle.status_register.specs.Keeping.{EpochStands, FitsWith, HasHistory, IsRegisterReady, FitsRegister, ShowsEpoch}
use Rattle.status_register.specs.Places.{HasSlots}
use Rattle.status_register.specs.Registered.{Registered}
use Rattle.status_register.specs.SurveyLaws.{IsMemberOn}
use Rattle.status_register.specs.Surveys.{disk_in}
use Rattle.status_register.specs.declared.member.Member.{Member}
use Rattle.status_register.proofs.Filling.{still_slots}

-- ---- one disk

-- what a disk says in front of its directory region
record SaysTheSame (old new : Metadata) : Type 0 where
  header : new.header ≡ old.header
  claims : new.claims ≡ old.claims
  statuses : new.statuses ≡ old.statuses

same_front : (slot : ℕ) (x y : bay.Image) → SameFront slot x y → SameElsewhere (disk_bytes x slot) (disk_bytes y slot) 40960 (x.size slot)
same_front slot x y same =
    let old = bytes_are_listed x slot in
    let new = bytes_are_listed y slot in
    record {
      size = new.0 ∙ same.size ∙ sym old.0;
      before = λ k low. ⊎_elim
          (λ (inside : k < x.size slot). new.1 k (omega (arith, inside, same.size)) ∙ same.byte k low ∙ sym (old.1 k inside))
          (λ (past : x.size slot ≤ k). beyond k past)
          (cases_lt k (x.size slot));
      behind = λ k high. beyond k (omega (arith, high));
    }
  where
    beyond : (k : ℕ) → x.size slot ≤ k → slice_index (disk_bytes y slot) k ≡ slice_index (disk_bytes x slot) k
    beyond k past =
        get_or_past (disk_bytes y slot) k 0 (omega (arith, past, same.size, length-window (y.byte slot) 0 (y.size slot)))
        ∙ sym (get_or_past (disk_bytes x slot) k 0 (omega (arith, past, length-window (x.byte slot) 0 (x.size slot))))

front_says : (slot : ℕ) (x y : bay.Image) → SameFront slot x y → SaysTheSame (disk_in x slot) (disk_in y slot)
front_says slot x y same =
    let is = directory_write (disk_bytes x slot) (disk_bytes y slot) 40960 (x.size slot) (same_front slot x y same) (omega arith) in
    record { header = ap (λ (d : Metadata). d.header) is; claims = ap (λ (d : Metadata). d.claims) is; statuses = ap (λ (d : Metadata). d.statuses) is }

-- ---- all members

-- the header of a slot is as it was, or isn't of the group before and after
abbrev SameMember : ℕ → Option Header → Option Header → Type 0
SameMember id old new = (new ≡ old) ⊎ (((h : Header) → old ≡ Some h → h.id ≡ id → ⊥) × ((h : Header) → new ≡ Some h → h.id ≡ id → ⊥))

-- the member's disk as it is on another image
abbrev renewed : ImageBytes → a.Member → a.Member
renewed image m = record m { disk = disk_of image m.slot }

renewed_keeps : (image : ImageBytes) → KeepsMembers (renewed image)
renewed_keeps image = record { slot = λ m. refl; header = λ m. refl }

no_member : (id slot : ℕ) (d : Metadata) (o : Option Header) (others : List a.Member) → ((h : Header) → o ≡ Some h → h.id ≡ id → ⊥) → with_member id slot d o others ≡ others
no_member id slot d None others none = refl
no_member id slot d (Some h) others none = cond-false (h.id == id) (record { slot = slot; header = h; disk = d } ∷ others) others (ne_eqb h.id id (none h refl))

both_lists : (f : a.Member → a.Member) (b : Bool) (x y : a.Member) (others rest : List a.Member) → x ≡ f y → others ≡ map f rest → cond b (x ∷ others) others ≡ map f (cond b (y ∷ rest) rest)
both_lists f true x y others rest e same = λ i. e i ∷ same i
both_lists f false x y others rest e same = same

one_renewed : (id slot : ℕ) (new : ImageBytes) (x y : Metadata) (o : Option Header) (others rest : List a.Member) → disk_of new slot ≡ y → others ≡ map (renewed new) rest
    → with_member id slot y o others ≡ map (renewed new) (with_member id slot x o rest)
one_renewed id slot new x y None others rest is same = same
one_renewed id slot new x y (Some h) others rest is same =
    both_lists (renewed new) (h.id == id) (record { slot = slot; header = h; disk = y }) (record { slot = slot; header = h; disk = x }) others rest
    (ap (λ (d : Metadata). record { slot = slot; header = h; disk = d }) (sym is)) same

member_renewed : (id slot : ℕ) (new : ImageBytes) (x y : Metadata) (others rest : List a.Member) → SameMember id x.header y.header → disk_of new slot ≡ y → others ≡ map (renewed new) rest
    → with_member id slot y y.header others ≡ map (renewed new) (with_member id slot x x.header rest)
member_renewed id slot new x y others rest (inl header) is same = ap (λ (o : Option Header). with_member id slot y o others) header ∙ one_renewed id slot new x y x.header others rest is same
member_renewed id slot new x y others rest (inr none) is same =
    no_member id slot y y.header others none.1 ∙ same ∙ ap (λ (l : List a.Member). map (renewed new) l) (sym (no_member id slot x x.header rest none.0))

renewed_from : (id slot : ℕ) (new : ImageBytes) (olds news : ImageBytes) → length news ≡ length olds
    → ((k : ℕ) → k < length olds → SameMember id (metadata (get_or olds k [])).header (metadata (get_or news k [])).header)
    → ((k n : ℕ) → n ≡ k + slot → k < length olds → get_or new n [] ≡ get_or news k [])
    → members_from id slot (map metadata news) ≡ map (renewed new) (members_from id slot (map metadata olds))
renewed_from id slot new [] [] size header at = refl
renewed_from id slot new [] (y ∷ news) size header at = absurd (omega arith)
renewed_from id slot new (x ∷ olds) [] size header at = absurd (omega arith)
renewed_from id slot new (x ∷ olds) (y ∷ news) size header at =
    let rest : members_from id (suc slot) (map metadata news) ≡ map (renewed new) (members_from id (suc slot) (map metadata olds)) =
    renewed_from id (suc slot) new olds news (omega arith) (λ k lt. header (suc k) (omega arith)) (λ k n is lt. at (suc k) n (omega arith) (omega arith)) in
    member_renewed id slot new (metadata x) (metadata y) (members_from id (suc slot) (map metadata news)) (members_from id (suc slot) (map metadata olds)) (header 0 (omega arith))
    (ap metadata (at 0 slot (omega arith) (omega arith))) rest

module _ (slots id : ℕ) (x y : bay.Image) (leaves : LeavesRegister slots id x y) where
  abbrev olds : List a.Member
  olds = all_members id (disks_in slots x)

  bytes_at : (image : bay.Image) (slot : ℕ) → slot < slots → disk_of (disks_in slots image) slot ≡ disk_in image slot
  bytes_at image slot lt = ap metadata (disks_are_listed slots slot image lt).1

  same_member : (slot : ℕ) → slot < slots → SameMember id (disk_of (disks_in slots x) slot).header (disk_of (disks_in slots y) slot).header
  unfolding metadata
  same_member slot lt =
      let old = ap (λ (d : Metadata). d.header) (bytes_at x slot lt) in
      let new = ap (λ (d : Metadata). d.header) (bytes_at y slot lt) in
      ⊎_elim
      (λ front. inl (new ∙ (front_says slot x y front).header ∙ sym old))
      (λ none. inr ((λ h is group. none.0 h (sym old ∙ is) group), (λ h is group. none.1 h (sym new ∙ is) group)))
      (leaves slot lt)

  members_renewed : all_members id (disks_in slots y) ≡ map (renewed (disks_in slots y)) olds
  unfolding members
  members_renewed =
      let old = listed slots x in
      let new = listed slots y in
      renewed_from id 0 (disks_in slots y) (disks_in slots x) (disks_in slots y) (new ∙ sym old) (λ k lt. same_member k (omega (arith, lt, old)))
      (λ k n is lt. ap (λ (j : ℕ). get_or (disks_in slots y) j []) (omega (arith, is)))

  -- a disk of the group keeps its front
  group_front : (slot : ℕ) (h : Header) → slot < slots → header_of (disk_bytes x slot) ≡ Some h → h.id ≡ id → SameFront slot x y
  group_front slot h lt is group = ⊎_elim (λ front. front) (λ none. absurd (none.0 h is group)) (leaves slot lt)

  renewed_says : (m : a.Member) → IsAmong olds m → SaysTheSame m.disk (renewed (disks_in slots y) m).disk
  renewed_says m among =
      let is = member_is id (disks_in slots x) m among in
      let lt : m.slot < slots = omega (arith, is.slot, listed slots x) in
      let bytes = (disks_are_listed slots m.slot x lt).1 in
      let front = group_front m.slot m.header lt (ap header_of (sym bytes) ∙ is.header) is.group in
      let says = front_says m.slot x y front in
      let old : m.disk ≡ disk_in x m.slot = is.disk ∙ ap metadata bytes in
      let new = bytes_at y m.slot lt in
      record {
        header = ap (λ (d : Metadata). d.header) new ∙ says.header ∙ ap (λ (d : Metadata). d.header) (sym old);
        claims = ap (λ (d : Metadata). d.claims) new ∙ says.claims ∙ ap (λ (d : Metadata). d.claims) (sym old);
        statuses = ap (λ (d : Metadata). d.statuses) new ∙ says.statuses ∙ ap (λ (d : Metadata). d.statuses) (sym old);
      }

  pub fits_stay : (completed : Option Status) (begun : List Status) → FitsHistory slots id completed begun x → FitsHistory slots id completed begun y
  fits_stay completed begun fits = subst (λ (l : List a.Member). Fits id l completed begun) (sym members_renewed)
      (fits_raised id (renewed (disks_in slots y)) (renewed_keeps (disks_in slots y)) olds
      (λ m c among h. (c, subst (λ (cs : List (Option Claim)). IsAmong (claims_of_group id cs) c) (sym (renewed_says m among).claims) h, omega arith))
      (λ m among. (renewed_says m among).statuses) completed begun fits)

  on_front : (m : Member) → IsMemberOn slots id x m → SameFront m.slot x y
  on_front m on = group_front m.slot on.header on.inside on.header_is on.group

  pub member_stays : (m : Member) → IsMemberOn slots id x m → IsMemberOn slots id y m
  unfolding metadata
  member_stays m on = record {
    inside = on.inside;
    header = on.header;
    header_is = (front_says m.slot x y (on_front m on)).header ∙ on.header_is;
    group = on.group;
    number = on.number;
    birth = on.birth;
  }

  epoch_stays : (epoch : ℕ) (m : Member) → IsMemberOn slots id x m → ShowsEpoch id epoch (disk_in x m.slot) → ShowsEpoch id epoch (disk_in y m.slot)
  epoch_stays epoch m on (inl c) =
      inl (c.0, subst (λ (cs : List (Option Claim)). IsAmong (claims_of_group id cs) c.0) (sym (front_says m.slot x y (on_front m on)).claims) c.1, c.2)
  epoch_stays epoch m on (inr r) =
      inr (r.0, subst (λ (rs : List (Option Status)). IsAmong (of_group id rs) r.0) (sym (front_says m.slot x y (on_front m on)).statuses) r.1, r.2)

  pub stands_stay : (epoch : ℕ) (r : Status) → EpochStands slots id epoch r x → EpochStands slots id epoch r y
  stands_stay epoch r stands = record {
    on = stands.on;
    members = λ m h. member_stays m (stands.members m h);
    shown = λ m h. epoch_stays epoch m (stands.members m h) (stands.shown m h);
    enough = stands.enough;
  }

pub history_stays : (slots : ℕ) (register : Registered) (completed : Option Status) (begun : List Status) (x y : bay.Image) → LeavesRegister slots register.id x y
    → HasHistory slots register completed begun x → HasHistory slots register completed begun y
history_stays slots register completed begun x y leaves has = record {
  fits = fits_stay slots register.id x y leaves completed begun has.fits;
  members = λ i m is. member_stays slots register.id x y leaves m (has.members i m is);
  claimed = stands_stay slots register.id x y leaves register.epoch register.value has.claimed;
}

pub fits_with_stay : (slots id : ℕ) (ms : List Member) (completed : Option Status) (begun : List Status) (x y : bay.Image) → LeavesRegister slots id x y
    → FitsWith slots id ms completed begun x → FitsWith slots id ms completed begun y
fits_with_stay slots id ms completed begun x y leaves has = record {
  fits = fits_stay slots id x y leaves completed begun has.fits;
  members = λ m h. member_stays slots id x y leaves m (has.members m h);
}

-- ---- over calls

pub keeps_elsewhere : {on : ℕ → Type 0} {step : bay.Image → bay.Image → Type 0} {s t : BayState} (slots : ℕ) (register : Registered) (completed : Option Status) (begun : List Status)
    → Within step (LeavesRegister slots register.id) → Runs on step s t → FitsRegister slots register completed begun s → FitsRegister slots register completed begun t
keeps_elsewhere {on} {step} {s} {t} slots register completed begun leaves run keeps = record {
  continues = keeps.continues;
  now = now_only {P = HasHistory slots register completed begun} {Q = HasHistory slots register completed begun}
      (λ x y has there. history_stays slots register completed begun x y (leaves x y there) has) (stops run) keeps.now;
}

pub ready_elsewhere : {s t : BayState} (register : Registered) → KeepsAttached s t → IsRegisterReady register s → IsRegisterReady register t
ready_elsewhere {s} {t} register same ready = record { slots = λ i m is. still_slots (ready.slots i m is) same; apart = ready.apart }

-- ---- a disk is attached

placed_or_was : {A : Type 0} (xs : List (Option A)) (i j : ℕ) (x y : A) → get_or (set xs i (Some x)) j None ≡ Some y → (get_or xs j None ≡ Some y) ⊎ ((y ≡ x) × (j ≡ i))
placed_or_was [] i j x y is = absurd (none-some y is)
placed_or_was (o ∷ xs) zero zero x y is = inr (sym (same_Some x y is), refl)
placed_or_was (o ∷ xs) zero (suc j) x y is = inl is
placed_or_was (o ∷ xs) (suc i) zero x y is = inl is
placed_or_was (o ∷ xs) (suc i) (suc j) x y is = ⊎_elim (λ was. inl was) (λ new. inr (new.0, ap suc new.1)) (placed_or_was xs i j x y is)

pub attached_keeps : {s : BayState} (slots : ℕ) (register : Registered) (completed : Option Status) (begun : List Status) (m : Member) → NowOnly s (λ image. IsMemberOn slots register.id image m)
    → FitsRegister slots register completed begun s → FitsRegister slots (with_attached register m) completed begun s
attached_keeps {s} slots register completed begun m on keeps = record {
  continues = record { group = keeps.continues.group; counts = keeps.continues.counts; holds = keeps.continues.holds; below = keeps.continues.below };
  now = record {
    now = λ image left.
        let has = keeps.now.now image left in
        record {
          fits = has.fits;
          members = λ i n is. ⊎_elim (λ was. has.members i n was) (λ new. subst (λ (k : Member). IsMemberOn slots register.id image k) (sym new.0) (on.now image left))
              (placed_or_was register.members m.number i m n is);
          claimed = has.claimed;
        };
  };
}

pub attached_ready : {s : BayState} (register : Registered) (m : Member) → HasSlots s m.slot m.sector → IsApartFrom register m → IsRegisterReady register s → IsRegisterReady (with_attached register m) s
attached_ready {s} register m has apart ready = record {
  slots = λ i n is. ⊎_elim (λ was. ready.slots i n was) (λ new. subst (λ (k : Member). HasSlots s k.slot k.sector) (sym new.0) has) (placed_or_was register.members m.number i m n is);
  apart = λ i j n k is also same.
      ⊎_elim
      (λ was. ⊎_elim
      (λ too. ready.apart i j n k was too same)
      (λ new. apart i n was (same ∙ ap (λ (o : Member). o.slot) new.0) ∙ sym new.1)
      (placed_or_was register.members m.number j m k also))
      (λ new. ⊎_elim
      (λ was. new.1 ∙ sym (apart j k was (sym same ∙ ap (λ (o : Member). o.slot) new.0)))
      (λ too. new.1 ∙ sym too.1)
      (placed_or_was register.members m.number j m k also))
      (placed_or_was register.members m.number i m n is);
}

-- ---- how a history begins

none_within : (id : ℕ) (ms : List a.Member) (P : ℕ → Bool) → ((r : Status) → IsAmong (statuses id ms) r → ⊥) → (r : Status) → IsAmong (statuses id (within P ms)) r → ⊥
unfolding statuses
none_within id ms P none r h =
    let f = among_flat_map (λ (m : a.Member). of_group id m.disk.statuses) (within P ms) r h in
    none r (flat_map_among (λ (m : a.Member). of_group id m.disk.statuses) ms f.0 r (among_within P ms f.0 f.1) f.2)

greatest_among : (rs : List Status) (g : Status) → greatest rs ≡ Some g → ((r : Status) → IsAmong rs r → ⊥) → ⊥
greatest_among [] g is none = none-some g is
greatest_among (r ∷ rs) g is none = none r (inl refl)

pub no_records_fit : (slots id : ℕ) (ms : List Member) (image : bay.Image) → AreDistinct (all_members id (disks_in slots image))
    → ((r : Status) → IsAmong (statuses id (all_members id (disks_in slots image))) r → ⊥)
    → ((m : Member) → IsAmong ms m → IsMemberOn slots id image m) → FitsWith slots id ms None [] image
no_records_fit slots id ms image distinct none are = record {
  fits = record {
    distinct = distinct;
    greater = λ v r is h. absurd h;
    slots = λ r h. absurd (none r h);
    numbers = λ r s h k e. absurd (none r h);
    follow = λ v r is h. absurd h;
    surveyed = λ P g is also. absurd (greatest_among (statuses id (within P (all_members id (disks_in slots image)))) g is (none_within id (all_members id (disks_in slots image)) P none));
    completed_found = λ P v is also. absurd (none-some v is);
    claimed = λ P r s h k also. absurd h;
  };
  members = are;
}
