-- Which copies of a store are left.
use Rattle.std.proofs.Common.{◌≡◌, ◌≢◌, ⊎_elim, ℕ, suc, ◌+◌, ◌≤◌, Bool, true, false, cond, not, List, [], ◌∷◌, length, refl, sym, ap, subst, ◌∙◌, Option, Some, None, arith, ◌==◌, get_or}
use Rattle.std.specs.Option.{option_map}
use Rattle.std.proofs.lemmas.Bool.{cases_eq, eq-eqb, ne_eqb, false≢true}
use Rattle.std.proofs.lemmas.Option.{same_Some, none-some}
use Rattle.asm_formats.specs.Sets.{has_bit}
use Rattle.asm_formats.specs.Among.{IsAmong}
use Rattle.asm_placement.proofs.Membership.{among_filter, among_filtered, filter_out}
use Rattle.directory_store.specs.change_directory.declared.copy.DirCopy.{DirCopy}
use Rattle.directory_store.specs.Stores.{Stored, off}
use Rattle.group_engine.specs.Forgetting.{Forgets, IsUnnamed, KeepsNamed}
use Rattle.group_engine.specs.Mounts.{slot_at}
use Rattle.group_engine.specs.declared.attached.Attached.{Attached}

-- before the first disk
pub none_forgotten : (old : Stored) (disks : List (Option Attached)) (named : ℕ) → KeepsNamed old old disks named 0
none_forgotten old disks named = record { table = refl; number = refl; many = omega arith; copies = λ c. ((λ h. (h, λ un. omega (arith, un.1))), (λ h. h.0)) }

-- a copy that isn't on the first disks, on one disk more
later_unnamed : (disks : List (Option Attached)) (named front next : ℕ) (c : DirCopy) → next ≡ front + 1 → (IsUnnamed disks named front c → ⊥)
    → (has_bit named front ≡ false → slot_at disks front ≡ Some c.slot → ⊥) → IsUnnamed disks named next c → ⊥
later_unnamed disks named front next c is before here un = ⊎_elim
    (λ (same : un.0 ≡ front). here (ap (has_bit named) (sym same) ∙ un.2) (ap (slot_at disks) (sym same) ∙ un.3))
    (λ differ. before (un.0, omega (arith, un.1, is, differ), un.2, un.3))
    (cases_eq un.0 front)

-- the next disk is in the set
named_stays : (old now : Stored) (disks : List (Option Attached)) (named front next : ℕ) → next ≡ front + 1 → has_bit named front ≡ true → KeepsNamed old now disks named front → KeepsNamed old now disks named next
named_stays old now disks named front next is bit keeps = record {
  table = keeps.table;
  number = keeps.number;
  many = keeps.many;
  copies = λ c. (
    (λ h. let was = (keeps.copies c).0 h in (was.0, later_unnamed disks named front next c is was.1 (λ out at. false≢true (sym out ∙ bit)))),
    (λ h. (keeps.copies c).1 (h.0, λ un. h.1 (un.0, omega (arith, un.1, is), un.2, un.3))),
  );
}

off_is : (slot : ℕ) (copies : List DirCopy) (c : DirCopy) → IsAmong (off slot copies) c → IsAmong copies c × (c.slot ≢ slot)
off_is slot copies c h =
    let passes : not (c.slot == slot) ≡ true = filter_out (λ (d : DirCopy). not (d.slot == slot)) copies c h in
    (among_filter (λ (d : DirCopy). not (d.slot == slot)) copies c h, λ same. false≢true (ap not (sym (eq-eqb c.slot slot same)) ∙ passes))

fewer_off : (slot : ℕ) (copies : List DirCopy) → length (off slot copies) ≤ length copies
fewer_off slot [] = omega arith
fewer_off slot (c ∷ copies) = go (not (c.slot == slot)) (fewer_off slot copies)
  where
    go : (b : Bool) → length (off slot copies) ≤ length copies → length (cond b (c ∷ off slot copies) (off slot copies)) ≤ suc (length copies)
    go true fewer = omega (arith, fewer)
    go false fewer = omega (arith, fewer)

is_off : (slot : ℕ) (copies : List DirCopy) (c : DirCopy) → IsAmong copies c → c.slot ≢ slot → IsAmong (off slot copies) c
is_off slot copies c h differ = among_filtered (λ (d : DirCopy). not (d.slot == slot)) copies c h (ap not (ne_eqb c.slot slot differ))

-- one disk more
pub one_forgotten : (old now after : Stored) (disks : List (Option Attached)) (named front next : ℕ) → next ≡ front + 1 → Forgets (has_bit named front) (get_or disks front None) now after
    → KeepsNamed old now disks named front → KeepsNamed old after disks named next
one_forgotten old now after disks named front next is forgets keeps = go (has_bit named front) refl (get_or disks front None) refl forgets
  where
    unlike : (c : DirCopy) (o : Option ℕ) → slot_at disks front ≡ o → (o ≡ Some c.slot → ⊥) → slot_at disks front ≡ Some c.slot → ⊥
    unlike c o at none there = none (sym at ∙ there)

    go : (b : Bool) → has_bit named front ≡ b → (o : Option Attached) → get_or disks front None ≡ o → Forgets b o now after → KeepsNamed old after disks named next
    go true bit o at same = subst (λ (x : Stored). KeepsNamed old x disks named next) (sym same) (named_stays old now disks named front next is bit keeps)
    go false bit None at same = record {
      table = ap (λ (x : Stored). x.table) same ∙ keeps.table;
      number = ap (λ (x : Stored). x.number) same ∙ keeps.number;
      many = omega (arith, ap (λ (x : Stored). length x.copies) same, keeps.many);
      copies = λ c. (
        (λ h.
            let was = (keeps.copies c).0 (subst (λ (x : Stored). IsAmong x.copies c) same h) in
            (was.0, later_unnamed disks named front next c is was.1 (λ out there. unlike c None (ap (option_map (λ (a : Attached). a.slot)) at) (λ e. none-some c.slot e) there))),
        (λ h. subst (λ (x : Stored). IsAmong x.copies c) (sym same) ((keeps.copies c).1 (h.0, λ un. h.1 (un.0, omega (arith, un.1, is), un.2, un.3)))),
      );
    }
    go false bit (Some a) at same = record {
      table = ap (λ (x : Stored). x.table) same ∙ keeps.table;
      number = ap (λ (x : Stored). x.number) same ∙ keeps.number;
      many = omega (arith, ap (λ (x : Stored). length x.copies) same, fewer_off a.slot now.copies, keeps.many);
      copies = λ c. (
        (λ h.
            let left = off_is a.slot now.copies c (subst (λ (x : Stored). IsAmong x.copies c) same h) in
            let was = (keeps.copies c).0 left.0 in (
              was.0,
              later_unnamed disks named front next c is was.1
                  (λ out there. unlike c (Some a.slot) (ap (option_map (λ (b : Attached). b.slot)) at) (λ e. left.1 (sym (same_Some a.slot c.slot e))) there),
            )),
        (λ h. subst (λ (x : Stored). IsAmong x.copies c) (sym same) (is_off a.slot now.copies c
            ((keeps.copies c).1 (h.0, λ un. h.1 (un.0, omega (arith, un.1, is), un.2, un.3)))
            (λ on. h.1 (front, omega (arith, is), bit, ap (option_map (λ (b : Attached). b.slot)) at ∙ ap (λ (k : ℕ). Some k) (sym on))))),
      );
    }
