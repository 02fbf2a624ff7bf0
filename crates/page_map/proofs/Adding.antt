-- A record more on a free page.
use Rattle.std.proofs.Common.{◌≡◌, ℕ, ◌<◌, Bool, true, false, cond, eqb, List, refl, sym, ap, ◌∙◌, subst, arith, inl, inr, ◌⊎◌, Option, Some, None}
use Rattle.std.specs.Prelude.{is_some}
use Rattle.std.proofs.lemmas.Bool.{true≢false, eqb-true, eq-eqb}
use Rattle.asm_formats.specs.Items.{Key}
use Rattle.allocator.specs.asm_base.Records.{is_key, record_at}
use Rattle.page_map.specs.Free.{FreeMap, is_page_free, IsLeastFreePage}
use Rattle.page_map.specs.Tables.{PageTable, IsPageTable, place_at, SameTable, Adds, Removes, is_this_page, one_if}
use Rattle.page_map.proofs.Keys.{one_or_other, same_key, key_itself}

-- what was put under a new key and taken away again
pub put_back : (old mid new : List (Key × ℕ)) (key : Key) (page : ℕ) → place_at old key ≡ None
    → ((k : Key) → place_at mid k ≡ cond (is_key key k) (Some page) (place_at old k))
    → ((k : Key) → place_at new k ≡ cond (is_key key k) None (place_at mid k))
    → (k : Key) → place_at new k ≡ place_at old k
put_back old mid new key page absent put removed k = elim (one_or_other (is_key key k)) [
  | inl e ↦
      let same = same_key key k e in
      let gone : place_at new k ≡ None = rw e at (removed k) in
      gone ∙ sym (subst (λ (j : Key). place_at old j ≡ None) same absent)
  | inr e ↦
      let kept : place_at new k ≡ place_at mid k = rw e at (removed k) in
      let was : place_at mid k ≡ place_at old k = rw e at (put k) in
      kept ∙ was
]

-- a page that was taken and given back
pub free_again : (old mid new : FreeMap) (page : ℕ) → is_page_free old page ≡ true
    → ((p : ℕ) → is_page_free mid p ≡ cond (eqb p page) false (is_page_free old p)) → ((p : ℕ) → is_page_free new p ≡ cond (eqb p page) true (is_page_free mid p))
    → (p : ℕ) → is_page_free new p ≡ is_page_free old p
free_again old mid new page free taken given p = elim (one_or_other (eqb p page)) [
  | inl e ↦
      let same = eqb-true p page e in
      let back : is_page_free new p ≡ true = rw e at (given p) in
      back ∙ sym (subst (λ (q : ℕ). is_page_free old q ≡ true) (sym same) free)
  | inr e ↦
      let kept : is_page_free new p ≡ is_page_free mid p = rw e at (given p) in
      let was : is_page_free mid p ≡ is_page_free old p = rw e at (taken p) in
      kept ∙ was
]

-- where lookups and free pages stay, the table does
pub same_is_table : (old new : PageTable) → IsPageTable old → SameTable old new → IsPageTable new
same_is_table old new sound same = record {
  same = λ k. ap is_some (same.records k) ∙ sound.same k ∙ sym (ap is_some (same.places k));
  inside = λ k page at. rw same.units (sound.inside k page (sym (same.places k) ∙ at));
  taken = λ k page at. same.free page ∙ sound.taken k page (sym (same.places k) ∙ at);
  apart = λ j k page first second. sound.apart j k page (sym (same.places j) ∙ first) (sym (same.places k) ∙ second);
  owned = λ page inside taken. let h = sound.owned page (subst (λ (n : ℕ). page < n) same.units inside) (sym (same.free page) ∙ taken) in (h.0, same.places h.0 ∙ h.1);
}

some_is : {X : Type 0} (x y : X) → Some x ≡ Some y → x ≡ y
some_is x y e = cc

-- what an added record leaves is a table
pub added_is_table : (old new : PageTable) (key : Key) (value : List ℕ) (page : ℕ) → IsPageTable old → place_at old.places key ≡ None → is_page_free old.free page ≡ true → page < old.free.units
    → ((k : Key) → record_at new.records k ≡ cond (is_key key k) (Some value) (record_at old.records k))
    → ((k : Key) → place_at new.places k ≡ cond (is_key key k) (Some page) (place_at old.places k))
    → ((p : ℕ) → is_page_free new.free p ≡ cond (eqb p page) false (is_page_free old.free p)) → new.free.units ≡ old.free.units
    → IsPageTable new
added_is_table old new key value page sound absent was_free within records places free units = record {
  same = λ k. elim (one_or_other (is_key key k)) [
    | inl e ↦ let r : record_at new.records k ≡ Some value = rw e at (records k) in let p : place_at new.places k ≡ Some page = rw e at (places k) in rw (r, p) refl
    | inr e ↦ let r : record_at new.records k ≡ record_at old.records k = rw e at (records k) in let p : place_at new.places k ≡ place_at old.places k = rw e at (places k) in rw (r, p) (sound.same k)
  ];
  inside = λ k q at. elim (here k q at) [
    | inl h ↦ rw (units, h.1) within
    | inr h ↦ rw units (sound.inside k q h.1)
  ];
  taken = λ k q at. free q ∙ elim (here k q at) [
    | inl h ↦ rw (eq-eqb q page h.1) refl
    | inr h ↦ either (eqb q page) (is_page_free old.free q) (sound.taken k q h.1)
  ];
  apart = λ j k q first second. elim (here j q first) [
    | inl h ↦ elim (here k q second) [
      | inl i ↦ subst (λ (x : Key). is_key x k ≡ true) h.0 (subst (λ (x : Key). is_key key x ≡ true) i.0 (key_itself key))
      | inr i ↦ absurd (true≢false (sym was_free ∙ sound.taken k page (subst (λ (n : ℕ). place_at old.places k ≡ Some n) h.1 i.1)))
    ]
    | inr h ↦ elim (here k q second) [
      | inl i ↦ absurd (true≢false (sym was_free ∙ sound.taken j page (subst (λ (n : ℕ). place_at old.places j ≡ Some n) i.1 h.1)))
      | inr i ↦ sound.apart j k q h.1 i.1
    ]
  ];
  owned = λ q lt taken. elim (one_or_other (eqb q page)) [
    | inl e ↦ let p : place_at new.places key ≡ Some page = rw (key_itself key) at (places key) in (key, p ∙ ap (λ (n : ℕ). Some n) (sym (eqb-true q page e)))
    | inr e ↦
        let was : is_page_free new.free q ≡ is_page_free old.free q = rw e at (free q) in
        let h = sound.owned q (subst (λ (n : ℕ). q < n) units lt) (sym was ∙ taken) in
        (h.0, places h.0 ∙ rw (other h.0 q h.1) h.1)
  ];
} where
  -- a key that has a page is another one
  other : (k : Key) (q : ℕ) → place_at old.places k ≡ Some q → is_key key k ≡ false
  other k q at = elim (one_or_other (is_key key k)) [
    | inl e ↦ absurd (no_page q (sym (subst (λ (j : Key). place_at old.places j ≡ None) (same_key key k e) absent) ∙ at))
    | inr e ↦ e
  ] where
    no_page : (q : ℕ) → None ≡ Some q → ⊥
    no_page q e = cc

  either : (b c : Bool) → c ≡ false → cond b false c ≡ false
  either true c e = refl
  either false c e = e

  -- a key with a page is the new one, or had it
  here : (k : Key) (q : ℕ) → place_at new.places k ≡ Some q → ((key ≡ k) × (q ≡ page)) ⊎ ((is_key key k ≡ false) × (place_at old.places k ≡ Some q))
  here k q at = elim (one_or_other (is_key key k)) [
    | inl e ↦ let p : place_at new.places k ≡ Some page = rw e at (places k) in inl (same_key key k e, some_is q page (sym at ∙ p))
    | inr e ↦ let p : place_at new.places k ≡ place_at old.places k = rw e at (places k) in inr (e, sym p ∙ at)
  ]

pub adds_table : (old new : PageTable) (key : Key) (value : List ℕ) → IsPageTable old → place_at old.places key ≡ None → Adds old new key value → IsPageTable new
adds_table old new key value sound absent adds = added_is_table old new key value adds.page sound absent adds.least.free adds.least.inside adds.records adds.places adds.free adds.units

-- ---- a record less

-- what is left is a table
pub removed_is_table : (old new : PageTable) (key : Key) → IsPageTable old → Removes old new key → IsPageTable new
removed_is_table old new key sound gone = record {
  same = λ k. elim (one_or_other (is_key key k)) [
    | inl e ↦ let r : record_at new.records k ≡ None = rw e at (gone.records k) in let p : place_at new.places k ≡ None = rw e at (gone.places k) in rw (r, p) refl
    | inr e ↦ let r : record_at new.records k ≡ record_at old.records k = rw e at (gone.records k) in let p : place_at new.places k ≡ place_at old.places k = rw e at (gone.places k) in rw (r, p) (sound.same k)
  ];
  inside = λ k q at. rw gone.units (sound.inside k q (here k q at).1);
  taken = λ k q at. gone.free q ∙ other (place_at old.places key) refl k q (here k q at).0 (here k q at).1;
  apart = λ j k q first second. sound.apart j k q (here j q first).1 (here k q second).1;
  owned = λ q lt taken. held (place_at old.places key) refl q (subst (λ (n : ℕ). q < n) gone.units lt) (sym (gone.free q) ∙ taken);
} where
  none_some : (q : ℕ) → None ≡ Some q → ⊥
  none_some q e = cc

  here : (k : Key) (q : ℕ) → place_at new.places k ≡ Some q → (is_key key k ≡ false) × (place_at old.places k ≡ Some q)
  here k q at = elim (one_or_other (is_key key k)) [
    | inl e ↦ let p : place_at new.places k ≡ None = rw e at (gone.places k) in absurd (none_some q (sym p ∙ at))
    | inr e ↦ let p : place_at new.places k ≡ place_at old.places k = rw e at (gone.places k) in (e, sym p ∙ at)
  ]

  -- a key with a page that isn't given back is another one
  stays : (was : Option ℕ) → place_at old.places key ≡ was → (k : Key) (q : ℕ) → place_at old.places k ≡ Some q → is_this_page was q ≡ false → is_key key k ≡ false
  stays was there k q at isnt = elim (one_or_other (is_key key k)) [
    | inl e ↦
        let same : was ≡ Some q = sym there ∙ subst (λ (j : Key). place_at old.places j ≡ Some q) (sym (same_key key k e)) at in
        absurd (true≢false (sym (ap (λ (o : Option ℕ). is_this_page o q) same ∙ eq-eqb q q refl) ∙ isnt))
    | inr e ↦ e
  ]

  -- a page that isn't given back stays with its key
  held : (was : Option ℕ) → place_at old.places key ≡ was → (q : ℕ) → q < old.free.units → cond (is_this_page was q) true (is_page_free old.free q) ≡ false
      → (k : Key) × (place_at new.places k ≡ Some q)
  held None none q lt taken = let h = sound.owned q lt taken in
      let apart : is_key key h.0 ≡ false = stays None none h.0 q h.1 refl in
      (h.0, gone.places h.0 ∙ rw apart h.1)
  held (Some page) there q lt taken = elim (one_or_other (eqb q page)) [
    | inl e ↦ absurd (true≢false (rw e at taken))
    | inr e ↦
        let h = sound.owned q lt (rw e at taken) in
        let apart : is_key key h.0 ≡ false = stays (Some page) there h.0 q h.1 e in
        (h.0, gone.places h.0 ∙ rw apart h.1)
  ]

  -- the page that is given back is another one
  other : (was : Option ℕ) → place_at old.places key ≡ was → (k : Key) (q : ℕ) → is_key key k ≡ false → place_at old.places k ≡ Some q
      → cond (is_this_page was q) true (is_page_free old.free q) ≡ false
  other None none k q apart at = sound.taken k q at
  other (Some page) there k q apart at = elim (one_or_other (eqb q page)) [
    | inl e ↦ absurd (true≢false (sym (sound.apart key k q (there ∙ ap (λ (n : ℕ). Some n) (sym (eqb-true q page e))) at) ∙ apart))
    | inr e ↦ rw e (sound.taken k q at)
  ]

-- a record that was added and taken away again
pub undone : (a b c d : PageTable) (key : Key) (value : List ℕ) → IsPageTable a → place_at a.places key ≡ None → Adds a b key value → SameTable b c → Removes c d key → SameTable a d
undone a b c d key value sound absent added same gone = record {
  records = λ k. elim (one_or_other (is_key key k)) [
    | inl e ↦
        let r : record_at d.records k ≡ None = rw e at (gone.records k) in
        r ∙ sym (subst (λ (j : Key). record_at a.records j ≡ None) (same_key key k e) no_record)
    | inr e ↦
        let r : record_at d.records k ≡ record_at c.records k = rw e at (gone.records k) in
        let s : record_at b.records k ≡ record_at a.records k = rw e at (added.records k) in
        r ∙ same.records k ∙ s
  ];
  places = put_back a.places c.places d.places key added.page absent (λ k. same.places k ∙ added.places k) gone.places;
  free = free_again a.free c.free d.free added.page added.least.free (λ p. same.free p ∙ added.free p) (λ p. gone.free p ∙ ap (λ (q : Option ℕ). cond (is_this_page q p) true (is_page_free c.free p)) there);
  units = gone.units ∙ same.units ∙ added.units;
  count =
      let one : one_if (is_some (place_at c.places key)) ≡ 1 = rw there refl in
      omega (arith, gone.count, one, same.count, added.count);
} where
  there : place_at c.places key ≡ Some added.page
  there = same.places key ∙ added.places key ∙ rw (key_itself key) refl

  no_value : (x : Option (List ℕ)) → is_some x ≡ false → x ≡ None
  no_value None e = refl
  no_value (Some x) e = absurd (true≢false e)

  no_record : record_at a.records key ≡ None
  no_record = no_value (record_at a.records key) (sound.same key ∙ ap is_some absent)
