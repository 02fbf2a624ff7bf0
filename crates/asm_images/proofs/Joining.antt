-- A disk that leaves or joins keeps what the image stands for.
use Rattle.std.proofs.Common.{◌≡◌, ◌⊎◌, inl, inr, ⊎_elim, ℕ, zero, suc, ◌+◌, ◌*◌, ◌<◌, ◌≤◌, Bool, true, false, cond, not, ltb, ◌&&◌, ◌||◌, List, [], ◌∷◌, ◌++◌, length, set, get_or, filter, refl, sym, ap, subst, ◌∙◌, Option, Some, None, arith, IsTrue, ◌==◌}
use Rattle.std.specs.Prelude.{find}
use Rattle.std.specs.List.{flat_map, list_all, list_any}
use Rattle.std.specs.Option.{is_some}
use Rattle.std.proofs.lemmas.Bool.{cond_both, cond-true, cond-false, cases_eq, eq-eqb, ne_eqb, eqb-true, and_parts, not-false, and_right, false≢true}
use Rattle.std.proofs.lemmas.Option.{same_Some, none-some}
use Rattle.std.proofs.lemmas.List.{map-set, get_or-set_same, get_or-set_other}
use Rattle.std.proofs.Common.{slice_index}
use Rattle.asm_formats.specs.Among.{IsAmong}
use Rattle.asm_group.specs.Shape.{Shape}
use Rattle.asm_formats.specs.Sets.{elements}
use Rattle.asm_formats.specs.Header.{Header}
use Rattle.asm_formats.specs.Claim.{Claim}
use Rattle.asm_formats.specs.Status.{Status, Entry, entry_of}
use Rattle.asm_formats.specs.Following.{Holder, holder_of, disks_of, sets_of, sets}
use Rattle.asm_formats.specs.Metadata.{Metadata, metadata, header_of}
use Rattle.asm_formats.specs.Content.{Content}
use Rattle.asm_formats.specs.Items.{Item, Home}
use Rattle.asm_images.specs.Describing.{extent_size}
use Rattle.asm_images.specs.Directories.{newest, copies, copy_on, member_contents, directories}
use Rattle.asm_images.specs.Members.{ImageBytes, Member, with_member, members_from, members, metadata_of, within, is_disk, has_disk, of_group, statuses, claims, claims_of_group, AreDistinct, all_members, byte, written}
use Rattle.asm_images.specs.Register.{Fits, current_records, HoldsOne, HasEpoch, greatest, is_majority, is_enough}
use Rattle.asm_images.specs.Stands.{Describes, IsDiskOf}
use Rattle.asm_images.specs.Copies.{IsCurrent, is_kept, is_disk_in}
use Rattle.asm_placement.specs.Modes.{is_forced}
use Rattle.asm_group.specs.Group.{Group}
use Rattle.asm_images.specs.Sound.{IsCovered, SoundBy}
use Rattle.asm_images.specs.Steps.{IsLeaving, IsJoining, IsElsewhere}
use Rattle.asm_images.proofs.Membership.{among_filtered, among_flat_map, flat_map_among, among_filter, among_within}
use Rattle.asm_images.proofs.History.{greatest_is, among_statuses}
use Rattle.asm_images.proofs.Members.{member_is}
use Rattle.asm_images.proofs.Replacing.{found_among}
use Rattle.asm_images.proofs.Committing.{filter_and, but}

abbrev elsewhere : ℕ → Member → Bool
elsewhere slot m = not (m.slot == slot)

filter_all : {A : Type 0} (q : A → Bool) (xs : List A) → ((x : A) → IsAmong xs x → q x ≡ true) → filter q xs ≡ xs
filter_all q [] each = refl
filter_all {A} q (x ∷ xs) each = cond-true (q x) (x ∷ filter q xs) (filter q xs) (each x (inl refl)) ∙ ap (λ (l : List A). x ∷ l) (filter_all q xs (λ y h. each y (inr h)))

-- ---- a write to one slot leaves the members elsewhere

head_out : (id slot : ℕ) (d : Metadata) (o : Option Header) (others : List Member) → filter (elsewhere slot) (with_member id slot d o others) ≡ filter (elsewhere slot) others
head_out id slot d None others = refl
head_out id slot d (Some h) others = cond_both (h.id == id) (record { slot = slot; header = h; disk = d } ∷ others) others (λ (l : List Member). filter (elsewhere slot) l ≡ filter (elsewhere slot) others)
    (λ yes. cond-false (not (slot == slot)) (record { slot = slot; header = h; disk = d } ∷ filter (elsewhere slot) others) (filter (elsewhere slot) others) (ap not (eq-eqb slot slot refl))) (λ out. refl)

head_same : (id slot n : ℕ) (d : Metadata) (o : Option Header) (others rest : List Member) → filter (elsewhere n) others ≡ filter (elsewhere n) rest
    → filter (elsewhere n) (with_member id slot d o others) ≡ filter (elsewhere n) (with_member id slot d o rest)
head_same id slot n d None others rest e = e
head_same id slot n d (Some h) others rest e = go (h.id == id)
  where
    m : Member
    m = record { slot = slot; header = h; disk = d }

    go : (b : Bool) → filter (elsewhere n) (cond b (record { slot = slot; header = h; disk = d } ∷ others) others) ≡ filter (elsewhere n) (cond b (record { slot = slot; header = h; disk = d } ∷ rest) rest)
    go true = ap (λ (l : List Member). cond (not (slot == n)) (record { slot = slot; header = h; disk = d } ∷ l) l) e
    go false = e

others_from : (id slot k n : ℕ) (d : Metadata) (disks : List Metadata) → n ≡ k + slot → filter (elsewhere n) (members_from id slot (set disks k d)) ≡ filter (elsewhere n) (members_from id slot disks)
others_from id slot k n d [] is = refl
others_from id slot zero n d (disk ∷ disks) is =
    let at : slot ≡ n = omega arith in
    let out : (x : Metadata) → filter (elsewhere n) (with_member id slot x x.header (members_from id (suc slot) disks)) ≡ filter (elsewhere n) (members_from id (suc slot) disks) =
    λ x. subst (λ (j : ℕ). filter (elsewhere j) (with_member id slot x x.header (members_from id (suc slot) disks)) ≡ filter (elsewhere j) (members_from id (suc slot) disks)) at
    (head_out id slot x x.header (members_from id (suc slot) disks)) in
    out d ∙ sym (out disk)
others_from id slot (suc k) n d (disk ∷ disks) is = head_same id slot n disk disk.header (members_from id (suc slot) (set disks k d)) (members_from id (suc slot) disks) (others_from id (suc slot) k n d disks (omega arith))

others_same : (id : ℕ) (old : ImageBytes) (slot : ℕ) (bytes : List ℕ) → filter (elsewhere slot) (all_members id (written old slot bytes)) ≡ filter (elsewhere slot) (all_members id old)
unfolding members
others_same id old slot bytes = ap (λ (l : List Metadata). filter (elsewhere slot) (members_from id 0 l)) (map-set metadata old slot bytes)
    ∙ others_from id 0 slot slot (metadata bytes) (metadata_of old) (omega arith)

-- the members of a set of slots, with that slot left out
within_elsewhere : (slot : ℕ) (P : ℕ → Bool) (ms : List Member) → filter (elsewhere slot) (within P ms) ≡ within P (filter (elsewhere slot) ms)
unfolding within
within_elsewhere slot P ms =
    sym (filter_and (λ (m : Member). P m.slot) (elsewhere slot) ms)
    ∙ (λ i. filter (λ (m : Member). and_swap (P m.slot) (elsewhere slot m) i) ms)
    ∙ filter_and (elsewhere slot) (λ (m : Member). P m.slot) ms
  where
    and_swap : (a b : Bool) → (a && b) ≡ (b && a)
    and_swap true true = refl
    and_swap true false = refl
    and_swap false true = refl
    and_swap false false = refl

within_but : (slot : ℕ) (P : ℕ → Bool) (ms : List Member) → within (but slot P) ms ≡ filter (elsewhere slot) (within P ms)
unfolding within
within_but slot P ms = filter_and (λ (m : Member). P m.slot) (elsewhere slot) ms

-- ---- fewer members

-- What described all members describes some of them.
pub described_fewer : (old new : ImageBytes) (ms ns : List Member) (r : Status) (c : Content) (g : Group) → ((m : Member) → IsAmong ns m → IsAmong ms m)
    → ((items : List Item) → c.items ≡ Some items → (f i copy inner : ℕ) (h : Home) (m : Member) → IsAmong ms m → IsCurrent r items f i copy h m → inner < extent_size m.header.shape i
    → byte new m.slot (h.unit * m.header.shape.au + inner) ≡ byte old m.slot (h.unit * m.header.shape.au + inner))
    → Describes old ms ms r c g → Describes new ns ns r c g
described_fewer old new ms ns r c g fewer kept d = record {
  distinct = λ m n hm hn number birth. d.distinct m n (fewer m hm) (fewer n hn) number birth;
  disks = λ m h. d.disks m (fewer m h);
  items = d.items;
  decodes = d.decodes;
  describes = d.describes;
  bytes = λ f o b i inner copy file h m is_file cell lies is_member current.
      let shape = (d.disks m (fewer m is_member)).shape in
      let within_extent : inner < extent_size m.header.shape i = subst (λ (s : Shape). inner < extent_size s i) (sym shape) lies.inside in
      let same : byte new m.slot (h.unit * g.shape.au + inner) ≡ byte old m.slot (h.unit * g.shape.au + inner) =
      subst (λ (s : Shape). byte new m.slot (h.unit * s.au + inner) ≡ byte old m.slot (h.unit * s.au + inner)) shape (kept d.items d.decodes f i copy inner h m (fewer m is_member) current within_extent) in
      same ∙ d.bytes f o b i inner copy file h m is_file cell lies (fewer m is_member) current;
}

module _ (id : ℕ) (old : ImageBytes) (groups : List Group) (completed : Option Status) (begun : List Status) (sound : SoundBy id old groups completed begun) (slot : ℕ) (bytes : List ℕ)
    (step : IsLeaving id old completed begun slot bytes) where
  abbrev before : List Member
  before = all_members id old

  abbrev after : List Member
  after = all_members id (written old slot bytes)

  none_there : (m : Member) → IsAmong after m → m.slot ≡ slot → ⊥
  unfolding metadata
  none_there m h at =
      let is = member_is id (written old slot bytes) m h in
      let here : get_or (written old slot bytes) m.slot [] ≡ bytes = ap (λ (k : ℕ). get_or (written old slot bytes) k []) at ∙ get_or-set_same old slot bytes [] step.inside in
      none-some m.header (sym step.closed ∙ ap (λ (l : List ℕ). header_of l) (sym here) ∙ is.header)

  after_is : after ≡ filter (elsewhere slot) before
  after_is = sym (filter_all (elsewhere slot) after (λ m h. ap not (ne_eqb m.slot slot (none_there m h)))) ∙ others_same id old slot bytes

  was_member : (m : Member) → IsAmong after m → IsAmong before m
  was_member m h = among_filter (elsewhere slot) before m (subst (λ (l : List Member). IsAmong l m) after_is h)

  within_after : (P : ℕ → Bool) → within P after ≡ within (but slot P) before
  within_after P = ap (λ (l : List Member). within P l) after_is ∙ sym (within_elsewhere slot P before) ∙ sym (within_but slot P before)

  was_status : (r : Status) → IsAmong (statuses id after) r → IsAmong (statuses id before) r
  unfolding statuses
  was_status r h =
      let m = among_flat_map (λ (m : Member). of_group id m.disk.statuses) after r h in
      flat_map_among (λ (m : Member). of_group id m.disk.statuses) before m.0 r (was_member m.0 m.1) m.2

  leave_fits : Fits id after completed begun
  leave_fits =
      let fits = sound.fits in
      record {
        distinct = λ m n hm hn number birth. fits.distinct m n (was_member m hm) (was_member n hn) number birth;
        greater = fits.greater;
        slots = λ r h. fits.slots r (was_status r h);
        numbers = λ r s h k e. fits.numbers r s (was_status r h) (was_status s k) e;
        follow = fits.follow;
        surveyed = λ P g is enough. subst (λ (l : List Member). HoldsOne id (current_records completed begun) l) (sym (within_after P))
            (fits.surveyed (but slot P) g (ap (λ (l : List Member). greatest (statuses id l)) (sym (within_after P)) ∙ is) (ap (λ (l : List Member). is_enough g l) (sym (within_after P)) ∙ enough));
        completed_found = λ P v is enough. subst (λ (l : List Member). HoldsOne id (v ∷ begun) l) (sym (within_after P))
            (fits.completed_found (but slot P) v is (ap (λ (l : List Member). is_enough v l) (sym (within_after P)) ∙ enough));
        claimed = λ P r s h k enough. subst (λ (l : List Member). HasEpoch id l r.epoch) (sym (within_after P))
            (fits.claimed (but slot P) r s h k (ap (λ (l : List Member). is_enough s l) (sym (within_after P)) ∙ enough));
      }

  leave_cover : (r : Status) → IsAmong (current_records completed begun) r → r.gone ≡ false → IsCovered id (written old slot bytes) after groups r
  leave_cover r counts not_gone =
      let cover = sound.covered r counts not_gone in
      record {
        one_content = λ m n c d hm hn named_m named_n is_c is_d e. cover.one_content m n c d (was_member m hm) (was_member n hn) named_m named_n is_c is_d e;
        member_births = λ m h. cover.member_births m (was_member m h);
        entry_births = λ s e h k. cover.entry_births s e (was_status s h) k;
        described = λ P c is.
            let found : directories r (within (but slot P) before) ≡ Some c = ap (λ (l : List Member). directories r l) (sym (within_after P)) ∙ is in
            let g = cover.described (but slot P) c found in (
              g.0,
              g.1,
              described_fewer old (written old slot bytes) before after r c g.0 was_member (λ items decodes f i copy inner h m is_member current lt.
                  step.copies r items f i copy inner h m (record { counts = counts; not_gone = not_gone; readable = but slot P; content = c; found = found; decodes = decodes }) is_member current lt) g.2,
            );
      }

  pub leave_keeps : SoundBy id (written old slot bytes) groups completed begun
  leave_keeps = record { fits = leave_fits; covered = leave_cover }

-- ---- one member more

flat_map_filter : {A B : Type 0} (g : A → List B) (q : A → Bool) (xs : List A) → ((x : A) → IsAmong xs x → q x ≡ false → g x ≡ []) → flat_map g xs ≡ flat_map g (filter q xs)
flat_map_filter g q [] none = refl
flat_map_filter {A} {B} g q (x ∷ xs) none =
    let rest : flat_map g xs ≡ flat_map g (filter q xs) = flat_map_filter g q xs (λ y h. none y (inr h)) in
    cond_both (q x) (x ∷ filter q xs) (filter q xs) (λ (l : List A). flat_map g (x ∷ xs) ≡ flat_map g l)
    (λ yes. ap (λ (l : List B). g x ++ l) rest) (λ out. ap (λ (l : List B). l ++ flat_map g xs) (none x (inl refl) out) ∙ rest)

any_filter : {A : Type 0} (t q : A → Bool) (xs : List A) → ((x : A) → IsAmong xs x → q x ≡ false → t x ≡ false) → list_any t xs ≡ list_any t (filter q xs)
any_filter t q [] never = refl
any_filter {A} t q (x ∷ xs) never =
    let rest : list_any t xs ≡ list_any t (filter q xs) = any_filter t q xs (λ y h. never y (inr h)) in
    cond_both (q x) (x ∷ filter q xs) (filter q xs) (λ (l : List A). list_any t (x ∷ xs) ≡ list_any t l)
    (λ yes. ap (λ (b : Bool). t x || b) rest) (λ out. ap (λ (b : Bool). b || list_any t xs) (never x (inl refl) out) ∙ rest)

pub find_filter : {A : Type 0} (t q : A → Bool) (xs : List A) → ((x : A) → IsAmong xs x → q x ≡ false → t x ≡ false) → find t xs ≡ find t (filter q xs)
find_filter t q [] never = refl
find_filter {A} t q (x ∷ xs) never =
    let rest : find t xs ≡ find t (filter q xs) = find_filter t q xs (λ y h. never y (inr h)) in
    cond_both (q x) (x ∷ filter q xs) (filter q xs) (λ (l : List A). find t (x ∷ xs) ≡ find t l)
    (λ yes. ap (λ (o : Option A). cond (t x) (Some x) o) rest) (λ out. cond-false (t x) (Some x) (find t xs) (never x (inl refl) out) ∙ rest)

pub filter_length : {A : Type 0} (p q : A → Bool) (xs : List A) → ((x : A) → IsAmong xs x → p x ≡ q x) → filter p xs ≡ filter q xs
filter_length p q [] same = refl
filter_length {A} p q (x ∷ xs) same = λ i. cond (same x (inl refl) i) (x ∷ filter_length p q xs (λ y h. same y (inr h)) i) (filter_length p q xs (λ y h. same y (inr h)) i)

all_same : {A : Type 0} (p q : A → Bool) (xs : List A) → ((x : A) → IsAmong xs x → p x ≡ q x) → list_all p xs ≡ list_all q xs
all_same p q [] same = refl
all_same p q (x ∷ xs) same = λ i. same x (inl refl) i && all_same p q xs (λ y h. same y (inr h)) i

entry_among : (es : List Entry) (d : ℕ) (e : Entry) → find (λ (e : Entry). e.number == d) es ≡ Some e → IsAmong es e
entry_among es d e is = found_among (λ (e : Entry). e.number == d) es e is

pub entry_is_among : (entries : List Entry) (d : ℕ) (e : Entry) → entry_of entries d ≡ Some e → IsAmong entries e
unfolding entry_of
entry_is_among entries d e is = entry_among entries d e is

-- a holder's birth is that of an entry
holder_birth : (entries : List Entry) (d : ℕ) (h : Holder) (o : Option Entry) → entry_of entries d ≡ o → IsAmong (holder_of d o) h → (e : Entry) × IsAmong entries e × (e.birth ≡ h.1)
holder_birth entries d h None is among = absurd among
holder_birth entries d h (Some e) is (inl same) = (e, entry_is_among entries d e is, ap (λ (p : Holder). p.1) (sym same))
holder_birth entries d h (Some e) is (inr none) = absurd none

birth_in : (entries : List Entry) (numbers : ℕ) (h : Holder) → IsAmong (disks_of entries numbers) h → (e : Entry) × IsAmong entries e × (e.birth ≡ h.1)
unfolding disks_of
birth_in entries numbers h k =
    let from = among_flat_map (λ (d : ℕ). holder_of d (entry_of entries d)) (elements numbers) h k in
    holder_birth entries from.0 h (entry_of entries from.0) refl from.2

birth_in_sets : (entries : List Entry) (holders next : ℕ) (set : List Holder) (h : Holder) → IsAmong (sets_of entries holders next) set → IsAmong set h → (e : Entry) × IsAmong entries e × (e.birth ≡ h.1)
unfolding sets_of
birth_in_sets entries holders next set h among k = cond_both (next == 0) [] (disks_of entries next ∷ [])
    (λ (l : List (List Holder)). IsAmong (disks_of entries holders ∷ l) set → (e : Entry) × IsAmong entries e × (e.birth ≡ h.1))
    (λ yes a. ⊎_elim (λ same. birth_in entries holders h (subst (λ (s : List Holder). IsAmong s h) same k)) (λ none. absurd none) a)
    (λ no a. ⊎_elim (λ same. birth_in entries holders h (subst (λ (s : List Holder). IsAmong s h) same k))
    (λ more. ⊎_elim (λ same. birth_in entries next h (subst (λ (s : List Holder). IsAmong s h) same k)) (λ none. absurd none) more) a) among

module _ (id : ℕ) (old : ImageBytes) (groups : List Group) (completed : Option Status) (begun : List Status) (sound : SoundBy id old groups completed begun) (slot : ℕ) (bytes : List ℕ) (h : Header)
    (step : IsJoining id old groups completed begun slot bytes h) where
  abbrev olds : List Member
  olds = all_members id old

  abbrev news : List Member
  news = all_members id (written old slot bytes)

  news_but : filter (elsewhere slot) news ≡ olds
  news_but = others_same id old slot bytes ∙ filter_all (elsewhere slot) olds (λ m k. ap not (ne_eqb m.slot slot (step.outside m k)))

  at_slot : (m : Member) → elsewhere slot m ≡ false → m.slot ≡ slot
  at_slot m out = eqb-true m.slot slot (not-false (m.slot == slot) out)

  disk_there : (m : Member) → IsAmong news m → m.slot ≡ slot → m.disk ≡ metadata bytes
  disk_there m k at = (member_is id (written old slot bytes) m k).disk ∙ ap (λ (j : ℕ). metadata (get_or (written old slot bytes) j [])) at ∙ ap metadata (get_or-set_same old slot bytes [] step.inside)

  header_there : (m : Member) → IsAmong news m → m.slot ≡ slot → m.header ≡ h
  unfolding metadata
  header_there m k at =
      let is = member_is id (written old slot bytes) m k in
      let here : get_or (written old slot bytes) m.slot [] ≡ bytes = ap (λ (j : ℕ). get_or (written old slot bytes) j []) at ∙ get_or-set_same old slot bytes [] step.inside in
      same_Some m.header h (sym is.header ∙ ap (λ (l : List ℕ). header_of l) here ∙ step.header)

  old_or_new : (m : Member) → IsAmong news m → (m.slot ≡ slot) ⊎ IsAmong olds m
  old_or_new m k = ⊎_elim (λ at. inl at)
      (λ differ. inr (subst (λ (l : List Member). IsAmong l m) news_but (among_filtered (elsewhere slot) news m k (ap not (ne_eqb m.slot slot differ)))))
      (cases_eq m.slot slot)

  within_news : (P : ℕ → Bool) → filter (elsewhere slot) (within P news) ≡ within P olds
  within_news P = within_elsewhere slot P news ∙ ap (λ (l : List Member). within P l) news_but

  no_status : (m : Member) → IsAmong news m → elsewhere slot m ≡ false → of_group id m.disk.statuses ≡ []
  no_status m k out = ap (λ (d : Metadata). of_group id d.statuses) (disk_there m k (at_slot m out)) ∙ ap (λ (l : List (Option Status)). of_group id l) step.statuses

  no_claim : (m : Member) → IsAmong news m → elsewhere slot m ≡ false → claims_of_group id m.disk.claims ≡ []
  no_claim m k out = ap (λ (d : Metadata). claims_of_group id d.claims) (disk_there m k (at_slot m out)) ∙ ap (λ (l : List (Option Claim)). claims_of_group id l) step.claims

  statuses_within : (P : ℕ → Bool) → statuses id (within P news) ≡ statuses id (within P olds)
  unfolding statuses
  statuses_within P = flat_map_filter (λ (m : Member). of_group id m.disk.statuses) (elsewhere slot) (within P news) (λ m k out. no_status m (among_within P news m k) out)
      ∙ ap (λ (l : List Member). flat_map (λ (m : Member). of_group id m.disk.statuses) l) (within_news P)

  statuses_news : statuses id news ≡ statuses id olds
  unfolding statuses
  statuses_news = flat_map_filter (λ (m : Member). of_group id m.disk.statuses) (elsewhere slot) news no_status
      ∙ ap (λ (l : List Member). flat_map (λ (m : Member). of_group id m.disk.statuses) l) news_but

  claims_within : (P : ℕ → Bool) → claims id (within P news) ≡ claims id (within P olds)
  unfolding claims
  claims_within P = flat_map_filter (λ (m : Member). claims_of_group id m.disk.claims) (elsewhere slot) (within P news) (λ m k out. no_claim m (among_within P news m k) out)
      ∙ ap (λ (l : List Member). flat_map (λ (m : Member). claims_of_group id m.disk.claims) l) (within_news P)

  -- none of the record's entries has the new birth
  abbrev IsOther : Status → Type 0
  IsOther r = (e : Entry) → IsAmong r.entries e → e.birth ≡ h.birth → ⊥

  not_disk : (d birth : ℕ) (m : Member) → IsAmong news m → elsewhere slot m ≡ false → (birth ≡ h.birth → ⊥) → is_disk d birth m.header ≡ false
  not_disk d birth m k out other = ap (λ (x : Header). is_disk d birth x) (header_there m k (at_slot m out))
      ∙ and_right (h.number == d) (h.birth == birth) (ne_eqb h.birth birth (λ e. other (sym e)))

  has_within : (P : ℕ → Bool) (d birth : ℕ) → (birth ≡ h.birth → ⊥) → has_disk (within P news) d birth ≡ has_disk (within P olds) d birth
  has_within P d birth other = any_filter (λ (m : Member). is_disk d birth m.header) (elsewhere slot) (within P news) (λ m k out. not_disk d birth m (among_within P news m k) out other)
      ∙ ap (λ (l : List Member). has_disk l d birth) (within_news P)

  majority_within : (P : ℕ → Bool) (set : List Holder) → ((x : Holder) → IsAmong set x → has_disk (within P news) x.0 x.1 ≡ has_disk (within P olds) x.0 x.1)
      → is_majority (within P news) set ≡ is_majority (within P olds) set
  majority_within P set each = ap (λ (l : List Holder). ltb (length set) (2 * length l))
      (filter_length (λ (x : Holder). has_disk (within P news) x.0 x.1) (λ (x : Holder). has_disk (within P olds) x.0 x.1) set each)

  enough_within : (P : ℕ → Bool) (r : Status) → IsOther r → is_enough r (within P news) ≡ is_enough r (within P olds)
  unfolding is_enough
  enough_within P r other = all_same (is_majority (within P news)) (is_majority (within P olds)) (sets r) (λ set k. majority_within P set (λ x j.
      let e = birth_in_sets r.entries r.holders r.next_holders set x k j in has_within P x.0 x.1 (λ same. other e.0 e.1 (e.2 ∙ same))))

  copy_within : (P : ℕ → Bool) (r : Status) → IsOther r → (x : ℕ) (o : Option Entry) → entry_of r.entries x ≡ o → copy_on (within P news) x o ≡ copy_on (within P olds) x o
  copy_within P r other x None is = refl
  copy_within P r other x (Some e) is = ap member_contents (find_filter (λ (m : Member). is_disk x e.birth m.header) (elsewhere slot) (within P news)
      (λ m k out. not_disk x e.birth m (among_within P news m k) out (other e (entry_is_among r.entries x e is)))
      ∙ ap (λ (l : List Member). find (λ (m : Member). is_disk x e.birth m.header) l) (within_news P))

  copies_within : (P : ℕ → Bool) (r : Status) → IsOther r → copies r (within P news) ≡ copies r (within P olds)
  unfolding copies
  copies_within P r other = λ i. flat_map (λ (x : ℕ). copy_within P r other x (entry_of r.entries x) refl i) (elements r.directories)

  distinct_news : AreDistinct olds → AreDistinct news
  distinct_news distinct m n hm hn number birth = ⊎_elim
      (λ at_m. ⊎_elim (λ at_n. at_m ∙ sym at_n)
      (λ was_n. absurd (step.may_join.fresh.members n was_n (sym birth ∙ ap (λ (x : Header). x.birth) (header_there m hm at_m)))) (old_or_new n hn))
      (λ was_m. ⊎_elim (λ at_n. absurd (step.may_join.fresh.members m was_m (birth ∙ ap (λ (x : Header). x.birth) (header_there n hn at_n))))
      (λ was_n. distinct m n was_m was_n number birth) (old_or_new n hn))
      (old_or_new m hm)

  other_counts : (r : Status) → IsAmong (current_records completed begun) r → IsOther r
  other_counts r counts e k = step.may_join.fresh.counted r e counts k

  holds_within : (P : ℕ → Bool) (rs : List Status) → HoldsOne id rs (within P olds) → HoldsOne id rs (within P news)
  holds_within P rs one = (one.0, subst (λ (l : List Status). IsAmong l one.0) (sym (statuses_within P)) one.1, one.2)

  epoch_within : (P : ℕ → Bool) (epoch : ℕ) → HasEpoch id (within P olds) epoch → HasEpoch id (within P news) epoch
  epoch_within P epoch (inl c) = inl (c.0, subst (λ (l : List Claim). IsAmong l c.0) (sym (claims_within P)) c.1, c.2)
  epoch_within P epoch (inr r) = inr (r.0, subst (λ (l : List Status). IsAmong l r.0) (sym (statuses_within P)) r.1, r.2)

  join_fits : Fits id news completed begun
  join_fits =
      let fits = sound.fits in
      record {
        distinct = distinct_news fits.distinct;
        greater = fits.greater;
        slots = λ r k. fits.slots r (subst (λ (l : List Status). IsAmong l r) statuses_news k);
        numbers = λ r s k l e. fits.numbers r s (subst (λ (x : List Status). IsAmong x r) statuses_news k) (subst (λ (x : List Status). IsAmong x s) statuses_news l) e;
        follow = fits.follow;
        surveyed = λ P g is enough.
            let found : greatest (statuses id (within P olds)) ≡ Some g = ap greatest (sym (statuses_within P)) ∙ is in
            let there : IsAmong (statuses id olds) g = among_statuses id P olds g (greatest_is (statuses id (within P olds)) g found).among in
            holds_within P (current_records completed begun) (fits.surveyed P g found (sym (enough_within P g (λ e k. step.may_join.fresh.stored g e there k)) ∙ enough));
        completed_found = λ P v is enough.
            let counts : IsAmong (current_records completed begun) v = subst (λ (o : Option Status). IsAmong (current_records o begun) v) (sym is) (inl refl) in
            holds_within P (v ∷ begun) (fits.completed_found P v is (sym (enough_within P v (other_counts v counts)) ∙ enough));
        claimed = λ P r s k counts enough. epoch_within P r.epoch (fits.claimed P r s k counts (sym (enough_within P s (other_counts s counts)) ∙ enough));
      }

  -- the new disk is one of the group
  new_disk : (g : Group) (r : Status) (m : Member) → IsAmong groups g → IsOther r → IsAmong news m → m.slot ≡ slot → IsDiskOf g r m
  new_disk g r m among other k at =
      let disk = disk_there m k at in
      let header = header_there m k at in
      let attributes = step.may_join.attributes g among in
      record {
        claims = subst (λ (d : Metadata). IsTrue (list_all is_some d.claims)) (sym disk) (ap (λ (l : List (Option Claim)). list_all is_some l) step.claims);
        statuses = subst (λ (d : Metadata). IsTrue (list_all is_some d.statuses)) (sym disk) (ap (λ (l : List (Option Status)). list_all is_some l) step.statuses);
        directories = subst (λ (d : Metadata). IsTrue d.decodes) (sym disk) step.decodes;
        name = ap (λ (x : Header). x.group) header ∙ attributes.0;
        shape = ap (λ (x : Header). x.shape) header ∙ attributes.1;
        units = λ e entry birth. absurd (other e (entry_is_among r.entries m.header.number e entry) (birth ∙ ap (λ (x : Header). x.birth) header));
      }

  -- nothing is kept on it yet
  not_kept : (r : Status) (d : ℕ) (o : Option Entry) → entry_of r.entries d ≡ o → IsOther r → (x : Header) → x ≡ h → is_disk_in (λ mode. not (is_forced mode)) d x o ≡ true → ⊥
  not_kept r d None is other x same kept = false≢true kept
  not_kept r d (Some e) is other x same kept =
      let p = and_parts (not (is_forced e.mode)) (is_disk d e.birth x) kept in
      let q = and_parts (x.number == d) (x.birth == e.birth) p.1 in
      other e (entry_is_among r.entries d e is) (sym (eqb-true x.birth e.birth q.1) ∙ ap (λ (y : Header). y.birth) same)

  not_current : (r : Status) (items : List Item) (f i copy : ℕ) (home : Home) (m : Member) → IsOther r → IsAmong news m → m.slot ≡ slot → IsCurrent r items f i copy home m → ⊥
  unfolding is_kept
  not_current r items f i copy home m other k at current = not_kept r home.disk (entry_of r.entries home.disk) refl other m.header (header_there m k at) current.kept

  described_more : (r : Status) (c : Content) (g : Group) → IsAmong groups g → IsOther r
      → ((items : List Item) → c.items ≡ Some items → (f i copy inner : ℕ) (home : Home) (m : Member) → IsAmong olds m → IsCurrent r items f i copy home m → inner < extent_size m.header.shape i
      → byte (written old slot bytes) m.slot (home.unit * m.header.shape.au + inner) ≡ byte old m.slot (home.unit * m.header.shape.au + inner))
      → Describes old olds olds r c g → Describes (written old slot bytes) news news r c g
  described_more r c g among other kept d = record {
    distinct = distinct_news d.distinct;
    disks = λ m k. ⊎_elim (λ at. new_disk g r m among other k at) (λ was. d.disks m was) (old_or_new m k);
    items = d.items;
    decodes = d.decodes;
    describes = d.describes;
    bytes = λ f o b i inner copy file home m is_file cell lies k current. ⊎_elim
        (λ at. absurd (not_current r d.items f i copy home m other k at current))
        (λ was.
        let shape = (d.disks m was).shape in
        let within_extent : inner < extent_size m.header.shape i = subst (λ (s : Shape). inner < extent_size s i) (sym shape) lies.inside in
        let same : byte (written old slot bytes) m.slot (home.unit * g.shape.au + inner) ≡ byte old m.slot (home.unit * g.shape.au + inner) =
        subst (λ (s : Shape). byte (written old slot bytes) m.slot (home.unit * s.au + inner) ≡ byte old m.slot (home.unit * s.au + inner)) shape (kept d.items d.decodes f i copy inner home m was current within_extent) in
        same ∙ d.bytes f o b i inner copy file home m is_file cell lies was current)
        (old_or_new m k);
  }

  no_content : (m : Member) (c : Content) → IsAmong news m → m.slot ≡ slot → m.disk.content ≡ Some c → ⊥
  no_content m c k at is = none-some c (sym step.content ∙ ap (λ (d : Metadata). d.content) (sym (disk_there m k at)) ∙ is)

  was_there : (m : Member) (c : Content) → IsAmong news m → m.disk.content ≡ Some c → IsAmong olds m
  was_there m c k is = ⊎_elim (λ at. absurd (no_content m c k at is)) (λ was. was) (old_or_new m k)

  join_cover : (r : Status) → IsAmong (current_records completed begun) r → r.gone ≡ false → IsCovered id (written old slot bytes) news groups r
  join_cover r counts not_gone =
      let cover = sound.covered r counts not_gone in
      record {
        one_content = λ m n c d hm hn named_m named_n is_c is_d e. cover.one_content m n c d (was_there m c hm is_c) (was_there n d hn is_d) named_m named_n is_c is_d e;
        member_births = λ m k. ⊎_elim (λ at. subst (λ (x : Header). x.birth ≤ r.births) (sym (header_there m k at)) (step.may_join.births r counts not_gone)) (λ was. cover.member_births m was) (old_or_new m k);
        entry_births = λ s e k l. cover.entry_births s e (subst (λ (x : List Status). IsAmong x s) statuses_news k) l;
        described = λ P c is.
            let found : directories r (within P olds) ≡ Some c = ap newest (sym (copies_within P r (other_counts r counts))) ∙ is in
            let g = cover.described P c found in (
              g.0,
              g.1,
              described_more r c g.0 g.1 (other_counts r counts) (λ items decodes f i copy inner home m is_member current lt.
                  step.copies r items f i copy inner home m (record { counts = counts; not_gone = not_gone; readable = P; content = c; found = found; decodes = decodes }) is_member current lt) g.2,
            );
      }

  pub join_keeps : SoundBy id (written old slot bytes) groups completed begun
  join_keeps = record { fits = join_fits; covered = join_cover }

-- ---- a disk that is no member

pub outside_members : (id : ℕ) (old : ImageBytes) (slot : ℕ) (bytes : List ℕ) → IsElsewhere id old slot bytes → all_members id (written old slot bytes) ≡ all_members id old
outside_members id old slot bytes step =
    sym (filter_all (elsewhere slot) (all_members id (written old slot bytes)) (λ m h. ap not (ne_eqb m.slot slot (step.after m h)))) ∙ others_same id old slot bytes
    ∙ filter_all (elsewhere slot) (all_members id old) (λ m h. ap not (ne_eqb m.slot slot (step.before m h)))

pub outside_keeps : (id : ℕ) (old : ImageBytes) (groups : List Group) (completed : Option Status) (begun : List Status) → SoundBy id old groups completed begun
    → (slot : ℕ) (bytes : List ℕ) → IsElsewhere id old slot bytes → SoundBy id (written old slot bytes) groups completed begun
outside_keeps id old groups completed begun sound slot bytes step =
    let new = written old slot bytes in
    let ms = all_members id old in
    let members_same : all_members id new ≡ ms = outside_members id old slot bytes step in
    let cover : (r : Status) → IsAmong (current_records completed begun) r → r.gone ≡ false → IsCovered id new ms groups r = λ r counts not_gone.
    let was = sound.covered r counts not_gone in
    record {
      one_content = was.one_content;
      member_births = was.member_births;
      entry_births = was.entry_births;
      described = λ P c is. let g = was.described P c is in (
        g.0,
        g.1,
        described_fewer old new ms ms r c g.0 (λ m h. h) (λ items decodes f i copy inner h m is_member current lt.
            ap (λ (l : List ℕ). slice_index l (h.unit * m.header.shape.au + inner)) (get_or-set_other old slot m.slot bytes [] (step.before m is_member))) g.2,
      );
    } in
    record {
      fits = subst (λ (l : List Member). Fits id l completed begun) (sym members_same) sound.fits;
      covered = λ r counts not_gone. subst (λ (l : List Member). IsCovered id new l groups r) (sym members_same) (cover r counts not_gone);
    }
