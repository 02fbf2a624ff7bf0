-- What tests find out before they call a register.
use Rattle.std.proofs.Common.{◌≡◌, inl, inr, ℕ, ◌+◌, ◌≤◌, ◌<◌, Bool, true, false, List, [], ◌∷◌, map, nat_le, nat_lt, Option, Some, None, refl, sym, ap, subst, ◌∙◌, arith, IsTrue}
use Rattle.std.specs.Prelude.{◌==◌, ◌&&◌, IsSome, unwrap_or}
use Rattle.std.specs.List.{list_all}
use Rattle.std.specs.Option.{ForSome, option_map}
use Rattle.std.proofs.lemmas.Bool.{cond-true, cond-false, cases_eq, eqb-true, and_parts, leb-true, ltb-true}
use Rattle.std.proofs.lemmas.List.Folds.{list_all-append}
use Rattle.std.proofs.lemmas.Option.{none-some, same_Some}
use Rattle.bay.specs.State.{BayState, AttachesOnly}
use Rattle.asm_formats.specs.Among.{IsAmong}
use Rattle.asm_formats.specs.Sets.{has_bit}
use Rattle.asm_formats.specs.Status.{Entry, ascends_from, entry_of}
use Rattle.asm_formats.specs.Following.{Holder, disks_of, holder_of}
use Rattle.asm_images.proofs.Sharing.{all_among}
use Rattle.status_register.specs.Places.{HasSlots}
use Rattle.status_register.specs.Registered.{AreNumbered}
use Rattle.status_register.specs.Rows.{HaveOwnSlots}
use Rattle.status_register.specs.Counting.{of_disk, disks_from}
use Rattle.status_register.specs.declared.member.Member.{Member}
use Rattle.status_register.proofs.Counting.{all_from, none_from, one_from}
use Rattle.status_register.proofs.Holding.{Apart, apart_list}
use Rattle.status_register.proofs.Telling.{size_known}

-- ---- members

abbrev pub slot_of : Member → ℕ
slot_of m = m.slot

above_all : (ms : List Member) (least : ℕ) → ascends_from least (map slot_of ms) ≡ true → (m : Member) → IsAmong ms m → least ≤ m.slot
above_all [] least is m h = absurd h
above_all (n ∷ ms) least is m (inl same) =
    let parts = and_parts (nat_le least n.slot) (ascends_from (n.slot + 1) (map slot_of ms)) is in
    omega (arith, leb-true least n.slot parts.0, ap slot_of same)
above_all (n ∷ ms) least is m (inr h) =
    let parts = and_parts (nat_le least n.slot) (ascends_from (n.slot + 1) (map slot_of ms)) is in
    omega (arith, leb-true least n.slot parts.0, above_all ms (n.slot + 1) parts.1 m h)

ascending_apart : (ms : List Member) (least : ℕ) → ascends_from least (map slot_of ms) ≡ true → Apart ms
ascending_apart [] least is = tt
ascending_apart (m ∷ ms) least is =
    let parts = and_parts (nat_le least m.slot) (ascends_from (m.slot + 1) (map slot_of ms)) is in
    ((λ n h same. omega (arith, above_all ms (m.slot + 1) parts.1 n h, same)), ascending_apart ms (m.slot + 1) parts.1)

pub apart_by_slots : (ms : List Member) → ascends_from 0 (map slot_of ms) ≡ true → HaveOwnSlots ms
apart_by_slots ms is = apart_list ms (ascending_apart ms 0 is)

pub numbered_by_test : (ms : List Member) → list_all (λ (m : Member). nat_lt m.number 64) ms ≡ true → AreNumbered ms
numbered_by_test ms all m h = ltb-true m.number 64 (all_among (λ (k : Member). nat_lt k.number 64) ms m all h)

-- ---- attached disks

pub long_slot : (t : BayState) (slot size sector : ℕ) → t.attached slot ≡ Some size → (nat_le 40960 size && (sector == 512)) ≡ true → HasSlots t slot sector
long_slot t slot size sector is long =
    let parts = and_parts (nat_le 40960 size) (sector == 512) long in
    record {
      attached = subst (λ (o : Option ℕ). IsSome o) (sym is) refl;
      sector_size = inl (eqb-true sector 512 parts.1);
      long = subst (λ (o : Option ℕ). 40960 ≤ unwrap_or o 0) (sym is) (leb-true 40960 size parts.0);
    }

pub still_there : (s t : BayState) (slot : ℕ) → AttachesOnly slot s t → ForSome (s.attached slot) (λ size. t.attached slot ≡ Some size) → (k sector : ℕ) → HasSlots s k sector → HasSlots t k sector
still_there s t slot others has k sector before =
    let same : t.attached k ≡ s.attached k = elim (cases_eq k slot) [
      | inl here ↦ let size = size_known (s.attached k) before.attached in
          ap t.attached here ∙ has size.0 (ap s.attached (sym here) ∙ size.1) ∙ sym size.1
      | inr other ↦ others.others k other
    ] in
    record {
      attached = subst (λ (o : Option ℕ). IsSome o) (sym same) before.attached;
      sector_size = before.sector_size;
      long = subst (λ (o : Option ℕ). 40960 ≤ unwrap_or o 0) (sym same) before.long;
    }

-- ---- one holder

abbrev pub birth_in : Entry → ℕ
birth_in e = e.birth

and-true : (b : Bool) → (b && true) ≡ b
and-true false = refl
and-true true = refl

pub no_holder : (p : Holder → Bool) (d : ℕ) (e : Option Entry) → option_map birth_in e ≡ None → list_all p (holder_of d e) ≡ true
no_holder p d None is = refl
no_holder p d (Some e) is = absurd (none-some e.birth (sym is))

pub one_holder : (p : Holder → Bool) (d : ℕ) (e : Option Entry) (birth : ℕ) → option_map birth_in e ≡ Some birth → list_all p (holder_of d e) ≡ p (d, birth)
one_holder p d None birth is = absurd (none-some birth is)
one_holder p d (Some e) birth is = and-true (p (d, e.birth)) ∙ ap (λ (b : ℕ). p (d, b)) (same_Some e.birth birth is)

-- ---- all holders are there

module _ (p : Holder → Bool) (entries : List Entry) (set : ℕ) where
  pub all_in_front : list_all p (disks_from entries set 0) ≡ list_all p (disks_of entries set)
  all_in_front = ap (list_all p) (all_from entries set)

  -- a disk that is there, or out of the set, changes nothing
  pub all_behind : (d : ℕ) → d < 64 → list_all p (of_disk entries set d) ≡ true → list_all p (disks_from entries set (d + 1)) ≡ list_all p (disks_from entries set d)
  all_behind d lt here =
      sym (ap (list_all p) (one_from entries set d lt)
      ∙ list_all-append p (of_disk entries set d) (disks_from entries set (d + 1))
      ∙ ap (λ (b : Bool). b && list_all p (disks_from entries set (d + 1))) here)

  pub out_of_set : (d : ℕ) → has_bit set d ≡ false → list_all p (of_disk entries set d) ≡ true
  out_of_set d out = ap (list_all p) (cond-false (has_bit set d) (holder_of d (entry_of entries d)) [] out)

  pub in_set : (d : ℕ) → has_bit set d ≡ true → list_all p (holder_of d (entry_of entries d)) ≡ true → list_all p (of_disk entries set d) ≡ true
  in_set d inside here = ap (list_all p) (cond-true (has_bit set d) (holder_of d (entry_of entries d)) [] inside) ∙ here

  pub all_held : (d : ℕ) → 64 ≤ d → list_all p (disks_from entries set d) ≡ list_all p (disks_of entries set) → (h : Holder) → IsAmong (disks_of entries set) h → IsTrue (p h)
  all_held d le same h among = all_among p (disks_of entries set) h (sym same ∙ ap (list_all p) (none_from entries set d le)) among
