-- Members whose metadata changes, while slots and headers stay.
use Rattle.std.proofs.Common.{◌≡◌, inl, inr, ℕ, zero, suc, ◌+◌, ◌*◌, ◌<◌, Bool, true, false, cond, ◌||◌, ltb, List, [], ◌∷◌, ◌++◌, length, map, set, get_or, filter, refl, sym, ap, ◌∙◌, Option, Some, None, arith, ◌==◌}
use Rattle.std.specs.Prelude.{find}
use Rattle.std.specs.Option.{option_map}
use Rattle.std.specs.List.{flat_map, list_all}
use Rattle.std.proofs.lemmas.Bool.{cond_both, cond-true, cond-false, eq-eqb, ne_eqb}
use Rattle.std.proofs.lemmas.Option.{same_Some}
use Rattle.std.proofs.lemmas.List.{map-set, get_or-map, length-map}
use Rattle.asm_formats.specs.Among.{IsAmong}
use Rattle.asm_formats.specs.Header.{Header}
use Rattle.asm_formats.specs.Metadata.{Metadata, metadata}
use Rattle.asm_formats.specs.Status.{Status, Entry, entry_of}
use Rattle.asm_formats.specs.Following.{Holder, sets}
use Rattle.asm_formats.specs.Sets.{elements}
use Rattle.asm_images.specs.Members.{ImageBytes, Member, with_member, members_from, members, metadata_of, within, is_disk, has_disk, of_group, statuses, all_members}
use Rattle.asm_images.specs.Register.{is_enough}
use Rattle.asm_images.specs.Directories.{copies, copy_on, member_contents, to_list}

-- the disk of slot k says d
abbrev pub replaced : ℕ → Metadata → Member → Member
replaced k d m = cond (m.slot == k) (record m { disk = d }) m

-- slots and headers stay
pub record Keeps (f : Member → Member) : Type 0 where
  pub slot : (m : Member) → (f m).slot ≡ m.slot
  pub header : (m : Member) → (f m).header ≡ m.header

pub replaced_keeps : (k : ℕ) (d : Metadata) → Keeps (replaced k d)
replaced_keeps k d = record {
  slot = λ m. cond_both (m.slot == k) (record m { disk = d }) m (λ (n : Member). n.slot ≡ m.slot) (λ yes. refl) (λ no. refl);
  header = λ m. cond_both (m.slot == k) (record m { disk = d }) m (λ (n : Member). n.header ≡ m.header) (λ yes. refl) (λ no. refl);
}

-- ---- the members of the changed image

not_at : (k n : ℕ) (d : Metadata) (m : Member) → m.slot ≡ k → (k ≡ n → ⊥) → replaced n d m ≡ m
not_at k n d m is differ = cond-false (m.slot == n) (record m { disk = d }) m (ne_eqb m.slot n (λ e. differ (sym is ∙ e)))

at_slot : (n : ℕ) (d : Metadata) (m : Member) → m.slot ≡ n → replaced n d m ≡ record m { disk = d }
at_slot n d m is = cond-true (m.slot == n) (record m { disk = d }) m (eq-eqb m.slot n is)

-- the first member changed, or kept, and the rest alike
both_lists : (f : Member → Member) (b : Bool) (x y : Member) (others rest : List Member) → x ≡ f y → others ≡ map f rest → cond b (x ∷ others) others ≡ map f (cond b (y ∷ rest) rest)
both_lists f true x y others rest e same = λ i. e i ∷ same i
both_lists f false x y others rest e same = same

beyond : (id slot k : ℕ) (d : Metadata) (disks : List Metadata) → k < slot → members_from id slot disks ≡ map (replaced k d) (members_from id slot disks)
beyond id slot k d [] lt = refl
beyond id slot k d (disk ∷ disks) lt =
    let rest : members_from id (suc slot) disks ≡ map (replaced k d) (members_from id (suc slot) disks) = beyond id (suc slot) k d disks (omega arith) in
    go disk.header rest
  where
    go : (o : Option Header) → members_from id (suc slot) disks ≡ map (replaced k d) (members_from id (suc slot) disks)
        → with_member id slot disk o (members_from id (suc slot) disks) ≡ map (replaced k d) (with_member id slot disk o (members_from id (suc slot) disks))
    go None rest = rest
    go (Some h) rest =
        let m : Member = record { slot = slot; header = h; disk = disk } in
        both_lists (replaced k d) (h.id == id) m m (members_from id (suc slot) disks) (members_from id (suc slot) disks) (sym (not_at slot k d m refl (λ e. omega (arith, e)))) rest

first_changed : (id slot n : ℕ) (d disk : Metadata) (o : Option Header) (others : List Member) → n ≡ slot → others ≡ map (replaced n d) others → with_member id slot d o others ≡ map (replaced n d) (with_member id slot disk o others)
first_changed id slot n d disk None others is rest = rest
first_changed id slot n d disk (Some h) others is rest =
    let x : Member = record { slot = slot; header = h; disk = d } in
    let y : Member = record { slot = slot; header = h; disk = disk } in
    both_lists (replaced n d) (h.id == id) x y others others (sym (at_slot n d y (sym is))) rest

first_kept : (id slot n : ℕ) (d disk : Metadata) (o : Option Header) (others rest : List Member) → (slot ≡ n → ⊥) → others ≡ map (replaced n d) rest → with_member id slot disk o others ≡ map (replaced n d) (with_member id slot disk o rest)
first_kept id slot n d disk None others rest differ same = same
first_kept id slot n d disk (Some h) others rest differ same =
    let m : Member = record { slot = slot; header = h; disk = disk } in
    both_lists (replaced n d) (h.id == id) m m others rest (sym (not_at slot n d m refl differ)) same

replaced_from : (id slot k n : ℕ) (d e : Metadata) (disks : List Metadata) → n ≡ k + slot → k < length disks → (get_or disks k e).header ≡ d.header → members_from id slot (set disks k d) ≡ map (replaced n d) (members_from id slot disks)
replaced_from id slot k n d e [] is lt same = absurd (omega arith)
replaced_from id slot zero n d e (disk ∷ disks) is lt same =
    let at : n ≡ slot = omega arith in
    let others = members_from id (suc slot) disks in
    ap (λ (o : Option Header). with_member id slot d o others) (sym same) ∙ first_changed id slot n d disk disk.header others at (beyond id (suc slot) n d disks (omega arith))
replaced_from id slot (suc k) n d e (disk ∷ disks) is lt same =
    first_kept id slot n d disk disk.header (members_from id (suc slot) (set disks k d)) (members_from id (suc slot) disks) (λ e. omega (arith, e)) (replaced_from id (suc slot) k n d e disks (omega arith) (omega arith) same)

-- writes to the disk of one slot that keep its header
pub members_replaced : (id : ℕ) (old : ImageBytes) (slot : ℕ) (bytes : List ℕ) → slot < length old → (metadata bytes).header ≡ (metadata (get_or old slot [])).header
    → all_members id (set old slot bytes) ≡ map (replaced slot (metadata bytes)) (all_members id old)
unfolding members
members_replaced id old slot bytes lt same =
    let header : (get_or (metadata_of old) slot (metadata [])).header ≡ (metadata bytes).header = ap (λ (d : Metadata). d.header) (get_or-map metadata old slot [] (metadata []) lt) ∙ sym same in
    ap (λ (l : List Metadata). members_from id 0 l) (map-set metadata old slot bytes)
    ∙ replaced_from id 0 slot slot (metadata bytes) (metadata []) (metadata_of old) (omega arith) (omega (arith, length-map old metadata)) header

-- ---- what depends on slots and headers alone

pub within_map : (f : Member → Member) → Keeps f → (P : ℕ → Bool) (ms : List Member) → within P (map f ms) ≡ map f (within P ms)
unfolding within
within_map f keeps P [] = refl
within_map f keeps P (m ∷ ms) =
    let rest : within P (map f ms) ≡ map f (within P ms) = within_map f keeps P ms in
    ap (λ (s : ℕ). cond (P s) (f m ∷ filter (λ (n : Member). P n.slot) (map f ms)) (filter (λ (n : Member). P n.slot) (map f ms))) (keeps.slot m)
    ∙ both_lists f (P m.slot) (f m) m (filter (λ (n : Member). P n.slot) (map f ms)) (filter (λ (n : Member). P n.slot) ms) refl rest

has_disk_map : (f : Member → Member) → Keeps f → (ms : List Member) (d birth : ℕ) → has_disk (map f ms) d birth ≡ has_disk ms d birth
has_disk_map f keeps [] d birth = refl
has_disk_map f keeps (m ∷ ms) d birth = λ i. is_disk d birth (keeps.header m i) || has_disk_map f keeps ms d birth i

pub is_enough_map : (f : Member → Member) → Keeps f → (r : Status) (ms : List Member) → is_enough r (map f ms) ≡ is_enough r ms
unfolding is_enough
is_enough_map f keeps r ms = λ i. list_all (λ (all : List Holder). ltb (length all) (2 * length (filter (λ (h : Holder). has_disk_map f keeps ms h.0 h.1 i) all))) (sets r)

-- ---- records, claims and contents

pub flat_map_map : {A B : Type 0} (f : A → A) (g : A → List B) (xs : List A) → ((x : A) → IsAmong xs x → g (f x) ≡ g x) → flat_map g (map f xs) ≡ flat_map g xs
flat_map_map f g [] same = refl
flat_map_map {A} {B} f g (x ∷ xs) same = λ i. same x (inl refl) i ++ flat_map_map f g xs (λ y h. same y (inr h)) i

pub find_map : {A : Type 0} (f : A → A) (test : A → Bool) (xs : List A) → ((x : A) → test (f x) ≡ test x) → find test (map f xs) ≡ option_map f (find test xs)
find_map f test [] same = refl
find_map {A} f test (x ∷ xs) same =
    ap (λ (b : Bool). cond b (Some (f x)) (find test (map f xs))) (same x)
    ∙ ap (λ (o : Option A). cond (test x) (Some (f x)) o) (find_map f test xs same)
    ∙ either (test x) (find test xs)
  where
    either : (b : Bool) (o : Option A) → cond b (Some (f x)) (option_map f o) ≡ option_map f (cond b (Some x) o)
    either true o = refl
    either false o = refl

pub statuses_map : (f : Member → Member) (id : ℕ) (ms : List Member) → ((m : Member) → IsAmong ms m → (f m).disk.statuses ≡ m.disk.statuses) → statuses id (map f ms) ≡ statuses id ms
unfolding statuses
statuses_map f id ms same = flat_map_map f (λ (m : Member). of_group id m.disk.statuses) ms (λ m h. ap (λ (os : List (Option Status)). of_group id os) (same m h))

pub found_among : {A : Type 0} (test : A → Bool) (xs : List A) (x : A) → find test xs ≡ Some x → IsAmong xs x
found_among test [] x e = absurd cc
found_among {A} test (y ∷ xs) x e =
    let later : find test xs ≡ Some x → IsAmong xs x = found_among test xs x in
    cond_both (test y) (Some y) (find test xs) (λ (o : Option A). o ≡ Some x → IsAmong (y ∷ xs) x) (λ yes is. inl (sym (same_Some y x is))) (λ no is. inr (later is)) e

held_map : (f : Member → Member) (o : Option Member) → ((m : Member) → o ≡ Some m → (f m).disk.content ≡ m.disk.content) → member_contents (option_map f o) ≡ member_contents o
held_map f None same = refl
held_map f (Some m) same = ap to_list (same m refl)

copy_map : (f : Member → Member) → Keeps f → (ms : List Member) → ((m : Member) → IsAmong ms m → (f m).disk.content ≡ m.disk.content) → (d : ℕ) (o : Option Entry) → copy_on (map f ms) d o ≡ copy_on ms d o
copy_map f keeps ms same d None = refl
copy_map f keeps ms same d (Some e) =
    let test : Member → Bool = λ m. is_disk d e.birth m.header in
    ap member_contents (find_map f test ms (λ m. ap (λ (h : Header). is_disk d e.birth h) (keeps.header m)))
    ∙ held_map f (find test ms) (λ m is. same m (found_among test ms m is))

pub copies_map : (f : Member → Member) → Keeps f → (r : Status) (ms : List Member) → ((m : Member) → IsAmong ms m → (f m).disk.content ≡ m.disk.content) → copies r (map f ms) ≡ copies r ms
unfolding copies
copies_map f keeps r ms same = λ i. flat_map (λ (d : ℕ). copy_map f keeps ms same d (entry_of r.entries d) i) (elements r.directories)
