-- The disks of a set are counted one after the other.
use Rattle.std.proofs.Common.{◌≡◌, ℕ, suc, ◌+◌, ◌-◌, ◌<◌, ◌≤◌, Bool, true, false, List, [], ◌∷◌, ◌++◌, length, filter, flat_map, Option, Some, None, refl, sym, ap, ◌∙◌, arith, nat_lt, ◌*◌, ◌/◌}
use Rattle.std.specs.Prelude.{if◌then◌else◌, ◌==◌}
use Rattle.std.specs.List.{range_with_len}
use Rattle.std.specs.Option.{option_or, option_map}
use Rattle.std.proofs.lemmas.Bool.{cond_both, cond-true, cond-false, eqb-true, true≢false}
use Rattle.std.proofs.lemmas.Option.{same_Some, none-some}
use Rattle.std.proofs.lemmas.List.{length-append}
use Rattle.std.proofs.lemmas.List.Elements.{filter-append}
use Rattle.asm_formats.specs.Sets.{has_bit, elements}
use Rattle.asm_formats.specs.Status.{Entry, entry_of}
use Rattle.asm_formats.specs.Following.{Holder, holder_of, disks_of, sets_of}
use Rattle.status_register.specs.Surveys.{is_holder_there, seen_of, shortfall}
use Rattle.status_register.specs.Counting.{of_disk, disks_from}
use Rattle.status_register.specs.declared.member.Member.{Member}

pub seen_both : (ms : List Member) (xs ys : List Holder) → seen_of ms (xs ++ ys) ≡ seen_of ms xs + seen_of ms ys
unfolding seen_of
seen_both ms xs ys = ap length (filter-append (is_holder_there ms) xs ys) ∙ length-append (filter (is_holder_there ms) xs) (filter (is_holder_there ms) ys)

module _ (entries : List Entry) (set : ℕ) where
  pub all_from : disks_from entries set 0 ≡ disks_of entries set
  unfolding disks_from disks_of elements
  all_from = refl

  pub none_from : (d : ℕ) → 64 ≤ d → disks_from entries set d ≡ []
  unfolding disks_from
  none_from d le = let none : 64 - d ≡ 0 = omega arith in rw none refl

  one_more : (d n : ℕ) → flat_map (λ k. holder_of k (entry_of entries k)) (filter (has_bit set) (range_with_len d (suc n)))
      ≡ of_disk entries set d ++ flat_map (λ k. holder_of k (entry_of entries k)) (filter (has_bit set) (range_with_len (d + 1) n))
  one_more d n = by (has_bit set d) refl where
    by : (b : Bool) → has_bit set d ≡ b → flat_map (λ k. holder_of k (entry_of entries k)) (filter (has_bit set) (range_with_len d (suc n)))
        ≡ of_disk entries set d ++ flat_map (λ k. holder_of k (entry_of entries k)) (filter (has_bit set) (range_with_len (d + 1) n))
    by true e = rw e refl
    by false e = rw e refl

  pub one_from : (d : ℕ) → d < 64 → disks_from entries set d ≡ of_disk entries set d ++ disks_from entries set (d + 1)
  unfolding disks_from
  one_from d lt =
      let n : 64 - d ≡ suc (64 - (d + 1)) = omega arith in
      rw n (one_more d (64 - (d + 1)))

-- ---- the first set without a majority

pub shortfall_first : (ms : List Member) (set : List Holder) (others : List (List Holder)) → shortfall ms (set ∷ others) ≡ option_or (shortfall ms (set ∷ [])) (shortfall ms others)
shortfall_first ms set others = cond_both (nat_lt (length set) (2 * seen_of ms set)) None (Some (seen_of ms set, length set / 2 + 1))
    (λ (o : Option (ℕ × ℕ)). (if nat_lt (length set) (2 * seen_of ms set) then shortfall ms others else Some (seen_of ms set, length set / 2 + 1)) ≡ option_or o (shortfall ms others))
    (λ yes. rw yes refl) (λ out. rw out refl)

module _ (ms : List Member) (entries : List Entry) (holders next : ℕ) where
  unfolding_sets : shortfall ms (sets_of entries holders next) ≡ option_or (shortfall ms (disks_of entries holders ∷ [])) (shortfall ms (if next == 0 then [] else disks_of entries next ∷ []))
  unfolding sets_of
  unfolding_sets = shortfall_first ms (disks_of entries holders) (if next == 0 then [] else disks_of entries next ∷ [])

  holders_decide : (o : Option (ℕ × ℕ)) → shortfall ms (disks_of entries holders ∷ []) ≡ o → shortfall ms (sets_of entries holders next) ≡ option_or o (shortfall ms (if next == 0 then [] else disks_of entries next ∷ []))
  holders_decide o is = unfolding_sets ∙ ap (λ (p : Option (ℕ × ℕ)). option_or p (shortfall ms (if next == 0 then [] else disks_of entries next ∷ []))) is

  pub holders_lack : (numbers : ℕ × ℕ) → shortfall ms (disks_of entries holders ∷ []) ≡ Some numbers → Some numbers ≡ shortfall ms (sets_of entries holders next)
  holders_lack numbers is = sym (holders_decide (Some numbers) is)

  pub no_next : shortfall ms (disks_of entries holders ∷ []) ≡ None → next ≡ 0 → None ≡ shortfall ms (sets_of entries holders next)
  no_next is zero = sym (holders_decide None is ∙ (cond_both (next == 0) [] (disks_of entries next ∷ []) (λ (l : List (List Holder)). shortfall ms l ≡ None) (λ yes. refl) (λ out. absurd (true≢false (sym (rw zero refl) ∙ out)))))

  pub next_decide : shortfall ms (disks_of entries holders ∷ []) ≡ None → (next ≡ 0 → ⊥) → shortfall ms (disks_of entries next ∷ []) ≡ shortfall ms (sets_of entries holders next)
  next_decide is some = sym (holders_decide None is ∙ (cond_both (next == 0) [] (disks_of entries next ∷ []) (λ (l : List (List Holder)). shortfall ms l ≡ shortfall ms (disks_of entries next ∷ [])) (λ yes. absurd (some (eqb-true next 0 yes))) (λ out. refl)))

-- ---- one disk

pub seen_none : (ms : List Member) → seen_of ms [] ≡ 0
unfolding seen_of
seen_none ms = refl

holder_is : (d : ℕ) (o : Option Entry) (b : ℕ) → option_map (λ (e : Entry). e.birth) o ≡ Some b → holder_of d o ≡ (d, b) ∷ []
holder_is d None b is = absurd (none-some b is)
holder_is d (Some e) b is = ap (λ (k : ℕ). (d, k) ∷ []) (same_Some e.birth b is)

no_holder : (d : ℕ) (o : Option Entry) → option_map (λ (e : Entry). e.birth) o ≡ None → holder_of d o ≡ []
no_holder d None is = refl
no_holder d (Some e) is = absurd (none-some e.birth (sym is))

module _ (ms : List Member) (entries : List Entry) (set d : ℕ) where
  pub out_seen : has_bit set d ≡ false → seen_of ms (of_disk entries set d) ≡ 0
  out_seen out = ap (seen_of ms) (cond-false (has_bit set d) (holder_of d (entry_of entries d)) [] out) ∙ seen_none ms

  pub strange_seen : option_map (λ (e : Entry). e.birth) (entry_of entries d) ≡ None → seen_of ms (of_disk entries set d) ≡ 0
  strange_seen none = ap (seen_of ms) (cond_both (has_bit set d) (holder_of d (entry_of entries d)) [] (λ (l : List Holder). l ≡ []) (λ yes. no_holder d (entry_of entries d) none) (λ out. refl)) ∙ seen_none ms

  module _ (b : ℕ) (in_set : has_bit set d ≡ true) (birth : option_map (λ (e : Entry). e.birth) (entry_of entries d) ≡ Some b) where
    one_disk : of_disk entries set d ≡ (d, b) ∷ []
    one_disk = cond-true (has_bit set d) (holder_of d (entry_of entries d)) [] in_set ∙ holder_is d (entry_of entries d) b birth

    pub there_seen : is_holder_there ms (d, b) ≡ true → seen_of ms (of_disk entries set d) ≡ 1
    unfolding seen_of
    there_seen there = ap (λ (l : List Holder). length (filter (is_holder_there ms) l)) one_disk ∙ ap length (cond-true (is_holder_there ms (d, b)) ((d, b) ∷ []) [] there)

    pub absent_seen : is_holder_there ms (d, b) ≡ false → seen_of ms (of_disk entries set d) ≡ 0
    unfolding seen_of
    absent_seen absent = ap (λ (l : List Holder). length (filter (is_holder_there ms) l)) one_disk ∙ ap length (cond-false (is_holder_there ms (d, b)) ((d, b) ∷ []) [] absent)
