-- Where with all disks an image stands for a group, each member of the id is a disk of the group, whose open bodies decode.
use Rattle.std.proofs.Common.{◌≡◌, ℕ, Bool, true, false, List, [], ◌∷◌, None, refl, sym, ap, subst, ◌∙◌, inl, inr}
use Rattle.std.specs.Prelude.{◌&&◌, ◌==◌, find, is_some}
use Rattle.std.specs.List.{list_all}
use Rattle.std.proofs.lemmas.Bool.{and_from, eqb-true, eq-eqb}
use Rattle.std.proofs.lemmas.Option.{none-some, same_Some}
use Rattle.std.proofs.lemmas.Slice.Eq.{bytes_eq-Decides}
use Rattle.bay.specs.Image.{Image}
use Rattle.bay.specs.State.{BayState}
use Rattle.asm_group.specs.Names.{Bytes, folded, is_same_name}
use Rattle.asm_group.specs.Group.{Group}
use Rattle.asm_group.specs.Shape.{Shape}
use Rattle.asm_group.specs.declared.GroupKind.{GroupKind}
use Rattle.asm_group.specs.declared.GroupKind.TheVariants.{External, Normal, High}
use Rattle.asm_formats.specs.Among.{IsAmong}
use Rattle.asm_formats.specs.Damage.{body_damage}
use Rattle.asm_formats.specs.Header.{Header}
use Rattle.asm_formats.specs.Metadata.{Metadata}
use Rattle.asm_formats.proofs.Damaging.{body_damage_is_exact}
use Rattle.asm_images.specs.Bridge.{disk_bytes, disks_in}
use Rattle.asm_images.specs.Members as images
use Rattle.asm_images.specs.Members.{all_members, readable_members, within}
use Rattle.asm_images.specs.Stands.{IsDiskOf, Stands}
use Rattle.asm_images.proofs.Describing.{standing_stands}
use Rattle.asm_images.proofs.Membership.{among_filtered}
use Rattle.status_register.specs.SurveyLaws.{IsMemberOn}
use Rattle.status_register.specs.Surveys.{first_damage}
use Rattle.status_register.specs.declared.member.Member.{Member}
use Rattle.status_register.proofs.Taking.{kept_among}
use Rattle.group_recovery.specs.Alike.{are_alike, clashes, first_stranger, is_same_kind, is_same_shape}
use Rattle.group_recovery.specs.Finding.{AreInOwnSlots}
use Rattle.group_recovery.specs.Verdicts.{member_of}
use Rattle.group_recovery.specs.declared.finding.Headed.{Headed}
use Rattle.group_recovery.proofs.Mounting.{IsThere, is_there}
use Rattle.group_recovery.proofs.Recovered.{own_among}
use Rattle.group_recovery.proofs.Surveyed.{member_on}
use Rattle.fault_laws.specs.Damage.{StandingHasNoStranger, StandingHasWholeBodies, StandsForOne}

-- ---- the group that the image stands for

module _ (n id : ℕ) (groups : List Group) (image : Image) (one : StandsForOne n id groups image) where
  pub stands : (g : Group) × IsAmong groups g × Stands id (disks_in n image) (λ slot. true) one.standing g
  stands = standing_stands id (disks_in n image) groups (λ slot. true) (one.allows n) one.standing

  -- each member is a disk of it
  pub disk_of : (m : images.Member) → IsAmong (all_members id (disks_in n image)) m → IsDiskOf stands.0 one.standing.record_ m
  unfolding within
  disk_of m h = stands.2.disks m (among_filtered (λ (k : images.Member). true) (all_members id (disks_in n image)) m h refl)

-- ---- open bodies

none_damaged : (image : Image) (ms : List Member) → ((m : Member) → IsAmong ms m → body_damage (disk_bytes image m.slot) ≡ None) → first_damage image ms ≡ None
unfolding first_damage
none_damaged image [] each = refl
none_damaged image (m ∷ ms) each = rw (each m (inl refl)) (none_damaged image ms (λ k h. each k (inr h)))

body_whole : (n id : ℕ) (groups : List Group) (image : Image) → StandsForOne n id groups image → (m : Member) → IsMemberOn n id image m → body_damage (disk_bytes image m.slot) ≡ None
body_whole n id groups image one m on =
    let i = is_there n id image m on in
    let disk = disk_of n id groups image one i.member i.among in
    body_damage_is_exact.some (disk_bytes image m.slot)
    (subst (λ (d : Metadata). list_all is_some d.claims ≡ true) i.disk disk.claims)
    (subst (λ (d : Metadata). list_all is_some d.statuses ≡ true) i.disk disk.statuses)

pub whole_bodies : (s t : BayState) → StandingHasWholeBodies s t
whole_bodies s t n id ms groups slot block held later now then one on cause =
    let damage = cause.2 later then held now in
    none-some (slot, block) (sym (none_damaged held cause.0 (λ m h. body_whole n id groups held one m (on m (kept_among _ ms cause.0 cause.1 m h)))) ∙ damage.1)

-- ---- strangers

same_kind : (k : GroupKind) → is_same_kind k k ≡ true
same_kind External = refl
same_kind Normal = refl
same_kind High = refl

same_shape : (s : Shape) → is_same_shape s s ≡ true
same_shape s = rw (same_kind s.kind, eq-eqb s.au s.au refl, eq-eqb s.sector s.sector refl, eq-eqb s.step s.step refl, eq-eqb s.dir_blocks s.dir_blocks refl) refl

same_name : (name : Bytes) → is_same_name name name ≡ true
same_name name = (bytes_eq-Decides (folded name) (folded name)).1 refl

alike : (h k : Header) → h.group ≡ k.group → h.shape ≡ k.shape → are_alike h k ≡ true
alike h k name shape =
    and_from (is_same_name h.group k.group) (is_same_shape h.shape k.shape) (ap (is_same_name h.group) (sym name) ∙ same_name h.group) (ap (is_same_shape h.shape) (sym shape) ∙ same_shape h.shape)

-- two disks of one group, which is named and shaped alike on both
record AreOfOne (h k : Headed) : Type 0 where
  name : h.header.group ≡ k.header.group
  shape : h.header.shape ≡ k.header.shape
  apart : k.header.number ≡ h.header.number → k.header.birth ≡ h.header.birth → ⊥

no_clash : (h k : Headed) → (k.header.id ≡ h.header.id → AreOfOne h k) → clashes h k ≡ false
no_clash h k of = by (k.header.id == h.header.id) refl where
  twins : AreOfOne h k → (a b : Bool) → (k.header.number == h.header.number) ≡ a → (k.header.birth == h.header.birth) ≡ b → (a && b) ≡ false
  twins are true true e f = absurd (are.apart (eqb-true k.header.number h.header.number e) (eqb-true k.header.birth h.header.birth f))
  twins are true false e f = refl
  twins are false b e f = refl

  by : (b : Bool) → (k.header.id == h.header.id) ≡ b → clashes h k ≡ false
  by false e = rw e refl
  by true e =
      let are = of (eqb-true k.header.id h.header.id e) in
      rw (e, alike h.header k.header are.name are.shape) (twins are (k.header.number == h.header.number) (k.header.birth == h.header.birth) refl refl)

none_clashes : (h : Headed) (hs : List Headed) → ((k : Headed) → IsAmong hs k → clashes h k ≡ false) → find (clashes h) hs ≡ None
none_clashes h [] each = refl
none_clashes h (k ∷ hs) each = rw (each k (inl refl)) (none_clashes h hs (λ x m. each x (inr m)))

none_strange : (id : ℕ) (hs : List Headed) → AreInOwnSlots hs
    → ((h k : Headed) → IsAmong hs h → IsAmong hs k → (k.slot ≡ h.slot → ⊥) → h.header.id ≡ id → k.header.id ≡ id → AreOfOne h k) → first_stranger id hs ≡ None
none_strange id [] apart of = refl
none_strange id (h ∷ hs) (here, rest) of = by (h.header.id == id) refl (none_strange id hs rest (λ x y a b. of x y (inr a) (inr b))) where
  by : (b : Bool) → (h.header.id == id) ≡ b → first_stranger id hs ≡ None → first_stranger id (h ∷ hs) ≡ None
  by false e later = rw e later
  by true e later =
      let own = eqb-true h.header.id id e in
      rw (e, none_clashes h hs (λ k m. no_clash h k (λ same. of h k (inl refl) (inr m) (here k m) own (same ∙ own)))) later

pub no_stranger : (t : BayState) → StandingHasNoStranger t
no_stranger t found groups slot block image there left one refusal = none-some slot (sym (none_strange found.id found.headed there.apart of) ∙ refusal.0) where
  at : (k : Headed) → IsAmong found.headed k → k.header.id ≡ found.id → IsThere found.slots found.id image (member_of k)
  at k among own = is_there found.slots found.id image (member_of k) (member_on found.slots found.id found.headed t there (member_of k) (own_among found.id found.headed k among own) image left)

  header_is : (k : Headed) (among : IsAmong found.headed k) (own : k.header.id ≡ found.id) → (at k among own).member.header ≡ k.header
  header_is k among own = let i = at k among own in same_Some i.member.header k.header (sym i.header_is ∙ (there.now k among).now image left)

  of : (h k : Headed) → IsAmong found.headed h → IsAmong found.headed k → (k.slot ≡ h.slot → ⊥) → h.header.id ≡ found.id → k.header.id ≡ found.id → AreOfOne h k
  of h k a b other own its =
      let i = at h a own in
      let j = at k b its in
      let first = header_is h a own in
      let second = header_is k b its in
      let d = disk_of found.slots found.id groups image one i.member i.among in
      let e = disk_of found.slots found.id groups image one j.member j.among in
      record {
        name = ap (λ (x : Header). x.group) (sym first) ∙ d.name ∙ sym e.name ∙ ap (λ (x : Header). x.group) second;
        shape = ap (λ (x : Header). x.shape) (sym first) ∙ d.shape ∙ sym e.shape ∙ ap (λ (x : Header). x.shape) second;
        apart = λ number birth. other (sym j.slot ∙ (stands found.slots found.id groups image one).2.distinct j.member i.member j.among i.among
            (j.number ∙ number ∙ sym i.number) (j.birth ∙ birth ∙ sym i.birth) ∙ i.slot);
      }
