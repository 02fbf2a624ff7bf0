-- What is known of a member.
use Rattle.std.proofs.Common.{◌≡◌, inl, inr, ⊎_elim, ℕ, zero, suc, ◌+◌, ◌<◌, true, ◌&&◌, leb, List, [], ◌∷◌, length, get_or, refl, sym, ap, subst, ◌∙◌, Option, Some, None, arith, ◌==◌}
use Rattle.std.proofs.lemmas.Bool.{cond_both, eqb-true, eq-eqb, and_parts, cond-true}
use Rattle.std.proofs.lemmas.List.{length-map, get_or-map}
use Rattle.asm_formats.specs.Among.{IsAmong}
use Rattle.asm_formats.specs.Bytes.{block, is_open}
use Rattle.asm_formats.specs.Regions.{least_size}
use Rattle.asm_group.specs.Shape.{is_shape}
use Rattle.asm_formats.specs.Header.{Header, decoded_header, is_header}
use Rattle.asm_formats.specs.Metadata.{Metadata, metadata, header_of}
use Rattle.asm_images.specs.Members.{ImageBytes, Member, with_member, members_from, members, metadata_of, all_members}
use Rattle.asm_images.proofs.Codecs.{header_spelled}

-- the member is the disk of slot k of the list, whose first slot is this one
pub record IsFrom (id slot : ℕ) (disks : List Metadata) (m : Member) : Type 0 where
  pub place : ℕ
  pub inside : place < length disks
  pub slot_is : m.slot ≡ place + slot
  pub disk : (d : Metadata) → get_or disks place d ≡ m.disk
  pub header : m.disk.header ≡ Some m.header
  pub group : m.header.id ≡ id

further : (id slot : ℕ) (disk : Metadata) (disks : List Metadata) (m : Member) → IsFrom id (suc slot) disks m → IsFrom id slot (disk ∷ disks) m
further id slot disk disks m f = record { place = suc f.place; inside = omega (arith, f.inside); slot_is = omega (arith, f.slot_is); disk = f.disk; header = f.header; group = f.group }

here : (id slot : ℕ) (disk : Metadata) (disks : List Metadata) (h : Header) (m : Member) → disk.header ≡ Some h → h.id ≡ id → m ≡ record { slot = slot; header = h; disk = disk } → IsFrom id slot (disk ∷ disks) m
here id slot disk disks h m header group e = subst (λ (n : Member). IsFrom id slot (disk ∷ disks) n) (sym e)
    (record { place = 0; inside = omega arith; slot_is = omega arith; disk = λ d. refl; header = header; group = group })

pub from_members : (id slot : ℕ) (disks : List Metadata) (m : Member) → IsAmong (members_from id slot disks) m → IsFrom id slot disks m
from_members id slot [] m h = absurd h
from_members id slot (disk ∷ disks) m h =
    let later : IsAmong (members_from id (suc slot) disks) m → IsFrom id (suc slot) disks m = from_members id (suc slot) disks m in
    go disk.header refl later h
  where
    go : (o : Option Header) → disk.header ≡ o → (IsAmong (members_from id (suc slot) disks) m → IsFrom id (suc slot) disks m) → IsAmong (with_member id slot disk o (members_from id (suc slot) disks)) m → IsFrom id slot (disk ∷ disks) m
    go None e later h = further id slot disk disks m (later h)
    go (Some x) e later h = cond_both (x.id == id) (record { slot = slot; header = x; disk = disk } ∷ members_from id (suc slot) disks) (members_from id (suc slot) disks)
        (λ (l : List Member). IsAmong l m → IsFrom id slot (disk ∷ disks) m)
        (λ yes k. ⊎_elim (λ same. here id slot disk disks x m e (eqb-true x.id id yes) same) (λ there. further id slot disk disks m (later there)) k)
        (λ no k. further id slot disk disks m (later k)) h

-- a disk with an open header of the group is a member
first_member : (id slot : ℕ) (disk : Metadata) (others : List Member) (h : Header) → disk.header ≡ Some h → h.id ≡ id → with_member id slot disk disk.header others ≡ record { slot = slot; header = h; disk = disk } ∷ others
first_member id slot disk others h e group = ap (λ (o : Option Header). with_member id slot disk o others) e
    ∙ cond-true (h.id == id) (record { slot = slot; header = h; disk = disk } ∷ others) others (eq-eqb h.id id group)

later_member : (id slot : ℕ) (disk : Metadata) (o : Option Header) (others : List Member) (m : Member) → IsAmong others m → IsAmong (with_member id slot disk o others) m
later_member id slot disk None others m h = h
later_member id slot disk (Some x) others m h = cond_both (x.id == id) (record { slot = slot; header = x; disk = disk } ∷ others) others (λ (l : List Member). IsAmong l m) (λ yes. inr h) (λ no. h)

pub among_members : (id slot k n : ℕ) (disks : List Metadata) (d : Metadata) (h : Header) → n ≡ k + slot → k < length disks → (get_or disks k d).header ≡ Some h → h.id ≡ id
    → IsAmong (members_from id slot disks) (record { slot = n; header = h; disk = get_or disks k d })
among_members id slot k n [] d h is lt e group = absurd (omega arith)
among_members id slot zero n (disk ∷ disks) d h is lt e group =
    let same : n ≡ slot = omega arith in
    let made : ℕ → Member = λ (j : ℕ). record { slot = j; header = h; disk = disk } in
    subst (λ (l : List Member). IsAmong l (made n)) (sym (first_member id slot disk (members_from id (suc slot) disks) h e group)) (inl (ap made same))
among_members id slot (suc k) n (disk ∷ disks) d h is lt e group =
    later_member id slot disk disk.header (members_from id (suc slot) disks) (record { slot = n; header = h; disk = get_or disks k d })
    (among_members id (suc slot) k n disks d h (omega arith) (omega arith) e group)

-- the member is the disk of its slot
pub record IsMember (id : ℕ) (image : ImageBytes) (m : Member) : Type 0 where
  pub slot : m.slot < length image
  pub disk : m.disk ≡ metadata (get_or image m.slot [])
  pub header : header_of (get_or image m.slot []) ≡ Some m.header
  pub group : m.header.id ≡ id
  pub allowed : is_header m.header ≡ true

decoded_is_header : (bytes : List ℕ) (h : Header) → header_of bytes ≡ Some h → is_header h ≡ true
decoded_is_header bytes h e = cond_both (leb least_size (length bytes) && is_open bytes 0) (decoded_header (block bytes 1)) None (λ (o : Option Header). o ≡ Some h → is_header h ≡ true)
    (λ yes is. (header_spelled (block bytes 1) h is).allowed) (λ no is. absurd cc) e

pub member_is : (id : ℕ) (image : ImageBytes) (m : Member) → IsAmong (all_members id image) m → IsMember id image m
unfolding members metadata
member_is id image m h =
    let f = from_members id 0 (metadata_of image) m h in
    let slot_is : m.slot ≡ f.place = omega (arith, f.slot_is) in
    let inside : f.place < length image = omega (arith, f.inside, length-map image metadata) in
    let disk : m.disk ≡ metadata (get_or image m.slot []) =
    sym (f.disk (metadata [])) ∙ get_or-map metadata image f.place [] (metadata []) inside ∙ ap (λ (k : ℕ). metadata (get_or image k [])) (sym slot_is) in
    let header : header_of (get_or image m.slot []) ≡ Some m.header = ap (λ (d : Metadata). d.header) (sym disk) ∙ f.header in
    record { slot = omega (arith, slot_is, inside); disk = disk; header = header; group = f.group; allowed = decoded_is_header (get_or image m.slot []) m.header header }

pub member_shape : (h : Header) → is_header h ≡ true → is_shape h.shape ≡ true
unfolding is_header
member_shape h ok = (and_parts (is_shape h.shape) _ ok).0
