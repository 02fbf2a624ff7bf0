-- The disks that no other group holds.
use Rattle.std.proofs.Common.{◌≡◌, inl, inr, ⊎_elim, ℕ, ◌<◌, true, List, [], ◌∷◌, refl, sym, ap, subst, ◌∙◌, Option, Some, None, ◌==◌}
use Rattle.std.proofs.lemmas.Bool.{cases_Bool, cond-true, cond-false, eqb-true, false≢true}
use Rattle.std.proofs.lemmas.Option.{same_Some}
use Rattle.bay.specs.State.{BayState}
use Rattle.asm_group.specs.Names.{Bytes, is_same_name}
use Rattle.asm_formats.specs.Among.{IsAmong}
use Rattle.group_recovery.specs.Finding.{AreThere}
use Rattle.group_recovery.specs.Founds.{FoundDisks, not_held}
use Rattle.group_recovery.specs.Recovering.{is_named}
use Rattle.group_recovery.specs.Verdicts.{IsSlotIn, member_of, members_with}
use Rattle.group_recovery.specs.declared.finding.Headed.{Headed}
use Rattle.group_recovery.proofs.Looks.{left_not_held, left_there}
use Rattle.status_register.specs.declared.member.Member.{Member}
use Rattle.mounted_groups.specs.Holding.{IsHeldSlot}
use Rattle.mounted_groups.specs.Mounting.{free_disks}

pub left_is : (held : List ℕ) (headed : List Headed) (h : Headed) → IsAmong (not_held held headed) h → IsHeldSlot held h.slot → ⊥
left_is held headed h among held_is = false≢true (sym (left_not_held held headed h among) ∙ held_is)

-- the slots of those that are left are free
pub slots_free : (held : List ℕ) (headed : List Headed) (slot : ℕ) → IsSlotIn (not_held held headed) slot → IsHeldSlot held slot → ⊥
slots_free held headed slot is held_is = left_is held headed is.0 is.1 (subst (λ (k : ℕ). IsHeldSlot held k) is.2 held_is)

-- those that are left are there
pub there_left : (held : List ℕ) (n : ℕ) (found f : FoundDisks) (state : BayState) → f ≡ free_disks held found → found.slots ≡ n → AreThere n found.headed state → AreThere f.slots f.headed state
there_left held n found f state is same there =
    subst (λ (d : FoundDisks). AreThere d.slots d.headed state) (sym is)
    (subst (λ (k : ℕ). AreThere k (not_held held found.headed) state) (sym same) (left_there n held found.headed state there))

-- each is in one of the first slots
pub slots_inside : (n : ℕ) (headed : List Headed) (state : BayState) → AreThere n headed state → (slot : ℕ) → IsSlotIn headed slot → slot < n
slots_inside n headed state there slot is = subst (λ (k : ℕ). k < n) (sym is.2) (there.inside is.0 is.1)

-- a member is one of the disks of its id that were read
pub found_member : (id : ℕ) (headed : List Headed) (m : Member) → IsAmong (members_with id headed) m → (h : Headed) × IsAmong headed h × (h.header.id ≡ id) × (m.slot ≡ h.slot)
found_member id [] m among = absurd among
found_member id (x ∷ xs) m among = ⊎_elim
    (λ yes. ⊎_elim (λ (e : m ≡ member_of x). (x, inl refl, eqb-true x.header.id id yes, ap (λ (k : Member). k.slot) e))
    (λ rest. let f = found_member id xs m rest in (f.0, inr f.1, f.2, f.3))
    (subst (λ (l : List Member). IsAmong l m) (cond-true (x.header.id == id) (member_of x ∷ members_with id xs) (members_with id xs) yes) among))
    (λ no. let f = found_member id xs m (subst (λ (l : List Member). IsAmong l m) (cond-false (x.header.id == id) (member_of x ∷ members_with id xs) (members_with id xs) no) among) in
    (f.0, inr f.1, f.2, f.3))
    (cases_Bool (x.header.id == id))

pub member_found : (id : ℕ) (headed : List Headed) (m : Member) → IsAmong (members_with id headed) m → (h : Headed) × IsAmong headed h × (m.slot ≡ h.slot)
member_found id headed m among = let f = found_member id headed m among in (f.0, f.1, f.3)

-- the name that was tested
pub name_is : (o : Option Bytes) (group name : Bytes) → o ≡ Some group → is_named o name ≡ true → is_same_name group name ≡ true
name_is None group name is named = absurd (false≢true named)
name_is (Some b) group name is named = subst (λ (c : Bytes). is_same_name c name ≡ true) (same_Some b group is) named
