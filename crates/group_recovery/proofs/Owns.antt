-- The disks of an id that a mount attaches: those of entries that have at least their units.
use Rattle.std.proofs.Common.{◌≡◌, inl, inr, ⊎_elim, ℕ, ◌*◌, Bool, true, cond, ◌&&◌, ◌||◌, ◌==◌, List, [], ◌∷◌, map, refl, sym, ap, subst, ◌∙◌, Option, Some, None}
use Rattle.std.specs.Prelude.{nat_le}
use Rattle.std.specs.List.{list_any}
use Rattle.std.specs.Option.{option_map}
use Rattle.std.proofs.lemmas.Bool.{and_parts, cond_both, cond-true, eqb-true, eq-eqb}
use Rattle.std.proofs.lemmas.Option.{same_Some}
use Rattle.asm_formats.specs.Status.{Entry, entry_of}
use Rattle.asm_formats.specs.Among.{IsAmong}
use Rattle.asm_images.specs.RecordLaws.{bare}
use Rattle.status_register.specs.Holders.{is_of}
use Rattle.status_register.specs.Registered.{is_same_birth}
use Rattle.status_register.specs.declared.member.Member.{Member}
use Rattle.group_recovery.specs.Finding.{AreInOwnSlots}
use Rattle.group_recovery.specs.Missing.{has_units, has_units_of}
use Rattle.group_recovery.specs.Recovering.{is_own, own_members}
use Rattle.group_recovery.specs.Verdicts.{member_of}
use Rattle.group_recovery.specs.declared.finding.Headed.{Headed}
use Rattle.asm_images.proofs.Bare.{same_entry}
use Rattle.status_register.proofs.Holding.{Apart}

abbrev Bare : Type 0
Bare = ℕ × ℕ × ℕ × Bool

-- ---- entries of the same disks

same_birth : (o p : Option Entry) → option_map bare o ≡ option_map bare p → option_map (λ (e : Entry). e.birth) o ≡ option_map (λ (e : Entry). e.birth) p
same_birth None None e = refl
same_birth None (Some y) e = absurd cc
same_birth (Some x) None e = absurd cc
same_birth (Some x) (Some y) e = ap (λ (b : Bare). Some b.1) (same_Some (bare x) (bare y) e)

pub same_is_of : (xs ys : List Entry) (m : Member) → map bare xs ≡ map bare ys → is_of xs m ≡ is_of ys m
same_is_of xs ys m e = ap (λ (o : Option ℕ). is_same_birth o m.birth) (same_birth (entry_of xs m.number) (entry_of ys m.number) (same_entry xs ys m.number e))

any_bare : (h : Headed) (es : List Entry) → has_units es h ≡ list_any (λ (b : Bare). (h.header.number == b.0) && nat_le (b.2 * h.header.shape.au) h.size) (map bare es)
any_bare h [] = refl
any_bare h (e ∷ es) = ap (λ (rest : Bool). has_units_of h e || rest) (any_bare h es)

same_units : (xs ys : List Entry) (h : Headed) → map bare xs ≡ map bare ys → has_units xs h ≡ has_units ys h
same_units xs ys h e =
    any_bare h xs ∙ ap (λ (l : List Bare). list_any (λ (b : Bare). (h.header.number == b.0) && nat_le (b.2 * h.header.shape.au) h.size) l) e ∙ sym (any_bare h ys)

pub same_own : (id : ℕ) (xs ys : List Entry) (h : Headed) → map bare xs ≡ map bare ys → is_own id xs h ≡ is_own id ys h
same_own id xs ys h e = λ i. (h.header.id == id) && (same_is_of xs ys (member_of h) e i && same_units xs ys h e i)

pub same_members : (id : ℕ) (xs ys : List Entry) (hs : List Headed) → map bare xs ≡ map bare ys → own_members id xs hs ≡ own_members id ys hs
same_members id xs ys [] e = refl
same_members id xs ys (h ∷ hs) e = λ i. cond (same_own id xs ys h e i) (member_of h ∷ same_members id xs ys hs e i) (same_members id xs ys hs e i)

-- ---- what an own disk is

pub record IsOwned (id : ℕ) (entries : List Entry) (h : Headed) : Type 0 where
  pub id_is : h.header.id ≡ id
  pub entry : is_of entries (member_of h) ≡ true
  pub units : has_units entries h ≡ true

pub owned : (id : ℕ) (entries : List Entry) (h : Headed) → is_own id entries h ≡ true → IsOwned id entries h
owned id entries h is =
    let a = and_parts (h.header.id == id) (is_of entries (member_of h) && has_units entries h) is in
    let b = and_parts (is_of entries (member_of h)) (has_units entries h) a.1 in
    record { id_is = eqb-true h.header.id id a.0; entry = b.0; units = b.1 }

pub is_owned : (id : ℕ) (entries : List Entry) (h : Headed) → h.header.id ≡ id → is_of entries (member_of h) ≡ true → has_units entries h ≡ true → is_own id entries h ≡ true
is_owned id entries h id_is entry units = λ i. eq-eqb h.header.id id id_is i && (entry i && units i)

-- ---- the own disks as members

pub own_from : (id : ℕ) (entries : List Entry) (hs : List Headed) (m : Member) → IsAmong (own_members id entries hs) m
    → (k : Headed) × IsAmong hs k × (m ≡ member_of k) × (is_own id entries k ≡ true)
own_from id entries [] m h = absurd h
own_from id entries (x ∷ xs) m h =
    let later : IsAmong (own_members id entries xs) m → (k : Headed) × IsAmong (x ∷ xs) k × (m ≡ member_of k) × (is_own id entries k ≡ true) =
    λ a. let k = own_from id entries xs m a in (k.0, inr k.1, k.2, k.3) in
    cond_both (is_own id entries x) (member_of x ∷ own_members id entries xs) (own_members id entries xs)
    (λ (l : List Member). IsAmong l m → (k : Headed) × IsAmong (x ∷ xs) k × (m ≡ member_of k) × (is_own id entries k ≡ true))
    (λ is a. ⊎_elim (λ e. (x, inl refl, e, is)) later a) (λ no. later) h

pub own_with : (id : ℕ) (entries : List Entry) (hs : List Headed) (k : Headed) → IsAmong hs k → is_own id entries k ≡ true → IsAmong (own_members id entries hs) (member_of k)
own_with id entries [] k h own = absurd h
own_with id entries (x ∷ xs) k (inl same) own =
    subst (λ (l : List Member). IsAmong l (member_of k))
    (sym (cond-true (is_own id entries x) (member_of x ∷ own_members id entries xs) (own_members id entries xs) (ap (is_own id entries) (sym same) ∙ own)))
    (inl (ap member_of same))
own_with id entries (x ∷ xs) k (inr h) own =
    let later = own_with id entries xs k h own in
    cond_both (is_own id entries x) (member_of x ∷ own_members id entries xs) (own_members id entries xs) (λ (l : List Member). IsAmong l (member_of k)) (λ is. inr later) (λ no. later)

pub owns_apart : (id : ℕ) (entries : List Entry) (hs : List Headed) → AreInOwnSlots hs → Apart (own_members id entries hs)
owns_apart id entries [] apart = tt
owns_apart id entries (h ∷ hs) (here, rest) =
    let later : Apart (own_members id entries hs) = owns_apart id entries hs rest in
    cond_both (is_own id entries h) (member_of h ∷ own_members id entries hs) (own_members id entries hs) Apart
    (λ is. ((λ n among same. let k = own_from id entries hs n among in here k.0 k.1 (ap (λ (x : Member). x.slot) (sym k.2) ∙ same)), later)) (λ no. later)
