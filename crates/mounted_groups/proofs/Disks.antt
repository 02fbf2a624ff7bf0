-- The attached disks of a mount, in the places of their numbers.
use Rattle.std.proofs.Common.{◌≡◌, inl, inr, ⊎_elim, ℕ, zero, suc, ◌<◌, List, [], ◌∷◌, length, get_or, set, replicate, refl, sym, ap, subst, ◌∙◌, Option, Some, None, arith, ◌==◌}
use Rattle.std.specs.Option.{option_map}
use Rattle.std.proofs.lemmas.Bool.{cases_Bool, eqb-true, eqb-false}
use Rattle.std.proofs.lemmas.List.{get_or-set_same, get_or-set_other, length-set}
use Rattle.std.proofs.lemmas.Option.{none-some, same_Some}
use Rattle.bay.specs.State.{BayState}
use Rattle.asm_formats.specs.Among.{IsAmong}
use Rattle.group_engine.specs.Mounts.{slot_at}
use Rattle.group_engine.specs.declared.attached.Attached.{Attached}
use Rattle.group_recovery.specs.Recovering.{AreDisksOf}
use Rattle.status_register.specs.Registered.{Registered}
use Rattle.status_register.specs.declared.member.Member.{Member}
use Rattle.mounted_groups.specs.Mounting.{HaveDiskNumbers, attached_of, by_number, put_disks}

abbrev Disk : Type 0
Disk = Member × ℕ

pub among_get : (ds : List Disk) (i : ℕ) (d : Disk) → i < length ds → IsAmong ds (get_or ds i d)
among_get [] i d lt = absurd (omega arith)
among_get (x ∷ ds) zero d lt = inl refl
among_get (x ∷ ds) (suc i) d lt = inr (among_get ds i d (omega arith))

-- what stands at a number: one of the disks, or what was there
pub data IsPut (places : List (Option Attached)) (ds : List Disk) (d : ℕ) (o : Option Attached) : Type 0 where
  one : (x : Disk) → IsAmong ds x → x.0.number ≡ d → o ≡ Some (attached_of x) → IsPut places ds d o
  none : ((x : Disk) → IsAmong ds x → x.0.number ≡ d → ⊥) → o ≡ get_or places d None → IsPut places ds d o

pub put_at : (places : List (Option Attached)) (ds : List Disk) (d : ℕ) → length places ≡ 64 → HaveDiskNumbers ds → IsPut places ds d (get_or (put_disks places ds) d None)
put_at places [] d long small = none (λ x among at. among) refl
put_at places (x ∷ xs) d long small = go (put_at (set places x.0.number (Some (attached_of x))) xs d (length-set places x.0.number (Some (attached_of x)) ∙ long) (λ y h. small y (inr h)))
  where
    here : x.0.number < length places
    here = omega (arith, small x (inl refl), long)

    go : {o : Option Attached} → IsPut (set places x.0.number (Some (attached_of x))) xs d o → IsPut places (x ∷ xs) d o
    go {o} (one y among at is) = one y (inr among) at is
    go {o} (none others is) = ⊎_elim
        (λ same. let e : x.0.number ≡ d = eqb-true x.0.number d same in
        one x (inl refl) e (is ∙ subst (λ (k : ℕ). get_or (set places x.0.number (Some (attached_of x))) k None ≡ Some (attached_of x)) e (get_or-set_same places x.0.number (Some (attached_of x)) None here)))
        (λ other. let apart : x.0.number ≡ d → ⊥ = eqb-false x.0.number d other in
        none (λ y among at. ⊎_elim (λ (e : y ≡ x). apart (sym (ap (λ (z : Disk). z.0.number) e) ∙ at)) (λ h. others y h at) among)
        (is ∙ get_or-set_other places x.0.number d (Some (attached_of x)) None (λ e. apart (sym e))))
        (cases_Bool (x.0.number == d))

abbrev nothing : Option Attached
nothing = None

empty_at : (n i : ℕ) → get_or (replicate n nothing) i nothing ≡ nothing
empty_at zero i = refl
empty_at (suc n) zero = refl
empty_at (suc n) (suc i) = empty_at n i

module _ (ds : List Disk) (register : Registered) (state : BayState) (are : AreDisksOf register ds state)
    (numbers : (i : ℕ) (m : Member) → get_or register.members i None ≡ Some m → m.number ≡ i) where
  at_number : (d : ℕ) → IsPut (replicate 64 None) ds d (get_or (by_number ds) d None)
  at_number d = put_at (replicate 64 None) ds d refl are.small

  pub slots_are : (d : ℕ) → slot_at (by_number ds) d ≡ option_map (λ (m : Member). m.slot) (get_or register.members d None)
  slots_are d = go (at_number d) (get_or register.members d None) refl
    where
      go : {o : Option Attached} → IsPut (replicate 64 None) ds d o → (p : Option Member) → get_or register.members d None ≡ p → option_map (λ (a : Attached). a.slot) o ≡ option_map (λ (m : Member). m.slot) p
      go {o} (one x among at is) p there =
          let own : get_or register.members d None ≡ Some x.0 = ap (λ (k : ℕ). get_or register.members k None) (sym at) ∙ are.each x among in
          ap (option_map (λ (a : Attached). a.slot)) is ∙ sym (ap (option_map (λ (m : Member). m.slot)) (sym there ∙ own))
      go {o} (none others is) None there = ap (option_map (λ (a : Attached). a.slot)) (is ∙ empty_at 64 d)
      go {o} (none others is) (Some m) there = let found = are.all d m there in absurd (others (m, found.0) found.1 (numbers d m there))

  pub sizes_are : (d : ℕ) (a : Attached) → get_or (by_number ds) d None ≡ Some a → state.attached a.slot ≡ Some a.size
  sizes_are d a there = go (at_number d)
    where
      go : IsPut (replicate 64 None) ds d (get_or (by_number ds) d None) → state.attached a.slot ≡ Some a.size
      go (one x among at is) = subst (λ (b : Attached). state.attached b.slot ≡ Some b.size) (same_Some (attached_of x) a (sym is ∙ there)) (are.sizes x among)
      go (none others is) = absurd (none-some a (sym (is ∙ empty_at 64 d) ∙ there))
