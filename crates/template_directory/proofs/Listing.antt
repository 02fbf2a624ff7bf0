-- A list of templates in folded order, and the map of templates by name.
use Rattle.std.proofs.Common.{◌≡◌, ℕ, suc, ◌+◌, ◌<◌, ◌≤◌, Bool, leb, ltb, true, false, cond, List, [], ◌∷◌, length, map, Option, Some, None, refl, sym, ap, subst, ◌∙◌, arith, inl, inr, ◌⊎◌}
use Rattle.std.specs.Prelude.{◌&&◌, ◌||◌, not, filter, is_some}
use Rattle.std.specs.FinMap as maps
use Rattle.std.specs.Ordering.{nat_cmp, is_lt, is_eq, eq_by_cmp, ordering_reverse}
use Rattle.std.specs.declared.cmp.Ordering.{Ordering}
use Rattle.std.specs.declared.cmp.Ordering.TheVariants.{Less, Equal, Greater}
use Rattle.std.specs.Cmp.{IsTotalOrder, tied_itself, equiv}
use Rattle.std.specs.Cmp.Lexicographic.{slice_cmp, nat_list_cmp_total}
use Rattle.std.proofs.lemmas.Bool.{and_parts, and_from, true≢false}
use Rattle.asm_group.specs.Names.{Bytes, folded, is_same_name}
use Rattle.asm_group.specs.Group.{Template}
use Rattle.asm_group.specs.NewGroup.{templates_by_name}
use Rattle.std.specs.List.{list_all}
use Rattle.std.proofs.lemmas.Bool.{leb-true, le-leb, ltb-true}
use Rattle.asm_formats.specs.Items.{precedes, names_ascend, is_item, is_template, templates_item}
use Rattle.asm_base.specs.Names.{folded_cmp}
use Rattle.asm_base.proofs.NameLaws.{same_order}
use Rattle.template_directory.specs.Tables.{has_room_for_template, template_named, template_by_order, with_template_in_order, without_template}
use Rattle.template_directory.proofs.Orders.{before_is_less}

pub either : (b : Bool) → (b ≡ true) ⊎ (b ≡ false)
either true = inl refl
either false = inr refl

abbrev pub R : Bytes → Bytes → Ordering
R = slice_cmp nat_cmp

total : IsTotalOrder R
total = nat_list_cmp_total

same_key : (x y : Bytes) → R x y ≡ Equal → x ≡ y
same_key = maps.slice_cmp-IsAntisymmetric maps.nat_cmp-IsAntisymmetric

pub less_is : (o : Ordering) → is_lt o ≡ true → o ≡ Less
less_is Less e = refl
less_is Equal e = absurd cc
less_is Greater e = absurd cc

equal_is : (o : Ordering) → is_eq o ≡ true → o ≡ Equal
equal_is Less e = absurd cc
equal_is Equal e = refl
equal_is Greater e = absurd cc

-- the names before a name are those that it is behind
pub turned : (x y : Bytes) (o : Ordering) → R x y ≡ o → R y x ≡ ordering_reverse o
turned x y o e = total.antisymm y x ∙ ap ordering_reverse e

-- ---- the map

abbrev entry : Template → Bytes × Template
entry t = (folded t.name, t)

abbrev found : Bytes → List Template → Option Template
found q ts = maps.find R q (map entry ts)

shadowed : {A : Type 0} (a b : Bool) (x y z : A) → b ≡ a → cond a x z ≡ cond a x (cond b y z)
shadowed true b x y z e = refl
shadowed false true x y z e = absurd cc
shadowed false false x y z e = refl

swapped : {A : Type 0} (a b : Bool) (x y z : A) → (a ≡ true → b ≡ true → ⊥) → cond a x (cond b y z) ≡ cond b y (cond a x z)
swapped true true x y z apart = absurd (apart refl refl)
swapped true false x y z apart = refl
swapped false b x y z apart = refl

-- a key that is two keys makes these one
one_key : (q x y : Bytes) → R x y ≡ Greater → eq_by_cmp R q y ≡ true → eq_by_cmp R q x ≡ true → ⊥
one_key q x y greater a b =
    let same : x ≡ y = sym (same_key q x (equal_is (R q x) b)) ∙ same_key q y (equal_is (R q y) a) in
    true≢false (ap is_eq (sym (tied_itself total y) ∙ ap (λ (k : Bytes). R k y) (sym same) ∙ greater))

found_with : (t : Template) (ts : List Template) (q : Bytes) → found q (with_template_in_order t ts) ≡ cond (eq_by_cmp R q (folded t.name)) (Some t) (found q ts)
found_with t [] q = refl
found_with t (s ∷ ss) q = by_order (folded_cmp t.name s.name) refl (found_with t ss q) where
  by_order : (o : Ordering) → folded_cmp t.name s.name ≡ o → found q (with_template_in_order t ss) ≡ cond (eq_by_cmp R q (folded t.name)) (Some t) (found q ss)
      → found q (with_template_in_order t (s ∷ ss)) ≡ cond (eq_by_cmp R q (folded t.name)) (Some t) (found q (s ∷ ss))
  by_order Less e more = rw e refl
  by_order Equal e more = rw e (shadowed (eq_by_cmp R q (folded t.name)) (eq_by_cmp R q (folded s.name)) (Some t) (Some s) (found q ss) (ap (λ (k : Bytes). eq_by_cmp R q k) (sym (same_key (folded t.name) (folded s.name) e))))
  by_order Greater e more =
      rw e (ap (λ (o : Option Template). cond (eq_by_cmp R q (folded s.name)) (Some s) o) more
      ∙ swapped (eq_by_cmp R q (folded s.name)) (eq_by_cmp R q (folded t.name)) (Some s) (Some t) (found q ss) (one_key q (folded t.name) (folded s.name) e))

pub with_is_insert : (t : Template) (ts : List Template) → templates_by_name (with_template_in_order t ts) ≡ maps.insert (templates_by_name ts) (folded t.name) t
with_is_insert t ts =
    maps.same_map total same_key _ _ (λ q. maps.get-from_entries total (map entry (with_template_in_order t ts)) q ∙ found_with t ts q
    ∙ ap (λ (o : Option Template). cond (eq_by_cmp R q (folded t.name)) (Some t) o) (sym (maps.get-from_entries total (map entry ts) q)) ∙ sym (maps.get-insert total (templates_by_name ts) (folded t.name) t q))

named_found : (name : Bytes) (ts : List Template) → found (folded name) ts ≡ template_named name ts
named_found name [] = refl
named_found name (t ∷ ts) = rw (same_order name t.name) (ap (λ (o : Option Template). cond (is_same_name name t.name) (Some t) o) (named_found name ts))

pub named_is_get : (name : Bytes) (ts : List Template) → maps.get (templates_by_name ts) (folded name) ≡ template_named name ts
named_is_get name ts = maps.get-from_entries total (map entry ts) (folded name) ∙ named_found name ts

found_without : (name : Bytes) (ts : List Template) (q : Bytes) → found q (without_template name ts) ≡ cond (eq_by_cmp R q (folded name)) None (found q ts)
found_without name [] q = nothing (eq_by_cmp R q (folded name)) where
  nothing : (b : Bool) → ◌≡◌ {A = Option Template} None (cond b None None)
  nothing true = refl
  nothing false = refl
found_without name (t ∷ ts) q = elim (either (is_same_name name t.name)) [
  | inl same ↦
      let one : folded name ≡ folded t.name = same_key (folded name) (folded t.name) (equal_is (folded_cmp name t.name) (same_order name t.name ∙ same)) in
      rw (same, ← one) (found_without name ts q ∙ shadowed_none (eq_by_cmp R q (folded name)) (Some t) (found q ts))
  | inr other ↦
      rw other (ap (λ (o : Option Template). cond (eq_by_cmp R q (folded t.name)) (Some t) o) (found_without name ts q)
      ∙ swapped (eq_by_cmp R q (folded t.name)) (eq_by_cmp R q (folded name)) (Some t) None (found q ts) (λ a b. true≢false (sym (one_name a b) ∙ same_order name t.name ∙ other)))
] where
  shadowed_none : (a : Bool) (x y : Option Template) → cond a None y ≡ cond a None (cond a x y)
  shadowed_none true x y = refl
  shadowed_none false x y = refl

  one_name : eq_by_cmp R q (folded t.name) ≡ true → eq_by_cmp R q (folded name) ≡ true → is_eq (folded_cmp name t.name) ≡ true
  one_name a b =
      let same : folded name ≡ folded t.name = sym (same_key q (folded name) (equal_is (R q (folded name)) b)) ∙ same_key q (folded t.name) (equal_is (R q (folded t.name)) a) in
      ap is_eq (ap (λ (k : Bytes). R k (folded t.name)) same ∙ tied_itself total (folded t.name))

pub without_is_remove : (name : Bytes) (ts : List Template) → templates_by_name (without_template name ts) ≡ maps.remove (templates_by_name ts) (folded name)
without_is_remove name ts =
    maps.same_map total same_key _ _ (λ q. maps.get-from_entries total (map entry (without_template name ts)) q ∙ found_without name ts q
    ∙ ap (λ (o : Option Template). cond (eq_by_cmp R q (folded name)) None o) (sym (maps.get-from_entries total (map entry ts) q)) ∙ sym (maps.get-remove total (templates_by_name ts) (folded name) q))

-- whether a name is that of a template, by their order
pub differs : (name : Bytes) (t : Template) (o : Ordering) → folded_cmp name t.name ≡ o → is_same_name name t.name ≡ is_eq o
differs name t o e = sym (same_order name t.name) ∙ ap is_eq e

-- ---- the order

-- a name comes before the first of a list
abbrev pub Below : Bytes → List Template → Type 0
Below x [] = Unit {0}
Below x (t ∷ ts) = folded_cmp x t.name ≡ Less

abbrev pub Up : List Template → Type 0
Up [] = Unit {0}
Up (t ∷ ts) = Below t.name ts × Up ts

pub up_of : (ts : List Template) → names_ascend ts ≡ true → Up ts
up_of [] e = tt
up_of (t ∷ []) e = (tt, tt)
up_of (t ∷ u ∷ ts) e =
    let p = and_parts (precedes (folded t.name) (folded u.name)) (names_ascend (u ∷ ts)) e in
    (less_is (folded_cmp t.name u.name) (before_is_less (folded t.name) (folded u.name) ∙ p.0), up_of (u ∷ ts) p.1)

pub ascend_of : (ts : List Template) → Up ts → names_ascend ts ≡ true
ascend_of [] up = refl
ascend_of (t ∷ []) up = refl
ascend_of (t ∷ u ∷ ts) up = and_from (precedes (folded t.name) (folded u.name)) (names_ascend (u ∷ ts)) (sym (before_is_less (folded t.name) (folded u.name)) ∙ ap is_lt up.0) (ascend_of (u ∷ ts) up.1)

pub before_all : (x y : Bytes) (ts : List Template) → folded_cmp x y ≡ Less → Below y ts → Below x ts
before_all x y [] less below = tt
before_all x y (u ∷ ts) less below = total.trans (folded x) (folded y) (folded u.name) less below

below_with : (x : Bytes) (t : Template) (ts : List Template) → Below x ts → folded_cmp x t.name ≡ Less → Below x (with_template_in_order t ts)
below_with x t [] below less = less
below_with x t (s ∷ ss) below less = by_order (folded_cmp t.name s.name) refl where
  by_order : (o : Ordering) → folded_cmp t.name s.name ≡ o → Below x (with_template_in_order t (s ∷ ss))
  by_order Less e = rw e less
  by_order Equal e = rw e less
  by_order Greater e = rw e below

pub up_with : (t : Template) (ts : List Template) → Up ts → Up (with_template_in_order t ts)
up_with t [] up = (tt, tt)
up_with t (s ∷ ss) up = by_order (folded_cmp t.name s.name) refl (up_with t ss up.1) where
  in_place : folded_cmp t.name s.name ≡ Equal → Below t.name ss
  in_place e = same ss up.0 where
    same : (us : List Template) → Below s.name us → Below t.name us
    same [] below = tt
    same (u ∷ us) below = total.congr (folded t.name) (folded s.name) (folded u.name) e ∙ below

  by_order : (o : Ordering) → folded_cmp t.name s.name ≡ o → Up (with_template_in_order t ss) → Up (with_template_in_order t (s ∷ ss))
  by_order Less e more = rw e (e, up)
  by_order Equal e more = rw e (in_place e, up.1)
  by_order Greater e more = rw e (below_with s.name t ss up.0 (turned (folded t.name) (folded s.name) Greater e), more)

below_without : (x name : Bytes) (ts : List Template) → Below x ts → Up ts → Below x (without_template name ts)
below_without x name [] below up = tt
below_without x name (t ∷ ts) below up = elim (either (is_same_name name t.name)) [
  | inl same ↦ rw same (below_without x name ts (before_all x t.name ts below up.0) up.1)
  | inr other ↦ rw other below
]

pub up_without : (name : Bytes) (ts : List Template) → Up ts → Up (without_template name ts)
up_without name [] up = tt
up_without name (t ∷ ts) up = elim (either (is_same_name name t.name)) [
  | inl same ↦ rw same (up_without name ts up.1)
  | inr other ↦ rw other (below_without t.name name ts up.0 up.1, up_without name ts up.1)
]

none_behind : (x : Bytes) (ts : List Template) → Below x ts → Up ts → found (folded x) ts ≡ None
none_behind x [] below up = refl
none_behind x (t ∷ ts) below up = rw below (none_behind x ts (before_all x t.name ts below up.0) up.1)

pub len_is : (ts : List Template) → Up ts → maps.len (templates_by_name ts) ≡ length ts
len_is [] up = maps.len-empty R Template
len_is (t ∷ ts) up =
    let m = templates_by_name ts in
    let none : maps.get m (folded t.name) ≡ None = maps.get-from_entries total (map entry ts) (folded t.name) ∙ none_behind t.name ts up.0 up.1 in
    maps.len-insert total m (folded t.name) t ∙ ap (λ (o : Option Template). cond (is_some o) (maps.len m) (maps.len m + 1)) none
    ∙ omega (arith, len_is ts up.1)

pub none_named : (x : Bytes) (ts : List Template) → Below x ts → Up ts → template_named x ts ≡ None
none_named x ts below up = sym (named_found x ts) ∙ none_behind x ts below up

-- ---- what a record may have

pub ascends : (ts : List Template) → is_item (templates_item ts) ≡ true → names_ascend ts ≡ true
unfolding is_item
ascends ts ok = (and_parts (list_all is_template ts) (names_ascend ts) (and_parts (leb (length ts) 64) (list_all is_template ts && names_ascend ts) ok).1).1

pub few : (ts : List Template) → is_item (templates_item ts) ≡ true → length ts ≤ 64
unfolding is_item
few ts ok = leb-true (length ts) 64 (and_parts (leb (length ts) 64) (list_all is_template ts && names_ascend ts) ok).0

pub all_templates : (ts : List Template) → is_item (templates_item ts) ≡ true → list_all is_template ts ≡ true
unfolding is_item
all_templates ts ok = (and_parts (list_all is_template ts) (names_ascend ts) (and_parts (leb (length ts) 64) (list_all is_template ts && names_ascend ts) ok).1).0

pub templates_are : (ts : List Template) → length ts ≤ 64 → list_all is_template ts ≡ true → names_ascend ts ≡ true → is_item (templates_item ts) ≡ true
unfolding is_item
templates_are ts le all up = rw (le-leb (length ts) 64 le, all, up) refl

all_without : (name : Bytes) (ts : List Template) → list_all is_template ts ≡ true → list_all is_template (without_template name ts) ≡ true
all_without name [] ok = refl
all_without name (t ∷ ts) ok =
    let a = and_parts (is_template t) (list_all is_template ts) ok in
    elim (either (is_same_name name t.name)) [
      | inl same ↦ rw same (all_without name ts a.1)
      | inr other ↦ rw other (and_from (is_template t) (list_all is_template (without_template name ts)) a.0 (all_without name ts a.1))
    ]

fewer : (name : Bytes) (ts : List Template) → length (without_template name ts) ≤ length ts
fewer name [] = omega arith
fewer name (t ∷ ts) = elim (either (is_same_name name t.name)) [
  | inl same ↦ rw same (omega (arith, fewer name ts))
  | inr other ↦ rw other (omega (arith, fewer name ts))
]

pub without_allowed : (name : Bytes) (ts : List Template) → is_item (templates_item ts) ≡ true → is_item (templates_item (without_template name ts)) ≡ true
without_allowed name ts ok =
    templates_are (without_template name ts) (omega (arith, fewer name ts, few ts ok)) (all_without name ts (all_templates ts ok))
    (ascend_of (without_template name ts) (up_without name ts (up_of ts (ascends ts ok))))

all_with : (t : Template) (ts : List Template) → is_template t ≡ true → list_all is_template ts ≡ true → list_all is_template (with_template_in_order t ts) ≡ true
all_with t [] ok all = and_from (is_template t) true ok refl
all_with t (s ∷ ss) ok all =
    let a = and_parts (is_template s) (list_all is_template ss) all in
    by_order (folded_cmp t.name s.name) refl a.0 a.1 (all_with t ss ok a.1) where
      by_order : (o : Ordering) → folded_cmp t.name s.name ≡ o → is_template s ≡ true → list_all is_template ss ≡ true → list_all is_template (with_template_in_order t ss) ≡ true → list_all is_template (with_template_in_order t (s ∷ ss)) ≡ true
      by_order Less e first others more = rw e (and_from (is_template t) (is_template s && list_all is_template ss) ok (and_from (is_template s) (list_all is_template ss) first others))
      by_order Equal e first others more = rw e (and_from (is_template t) (list_all is_template ss) ok others)
      by_order Greater e first others more = rw e (and_from (is_template s) (list_all is_template (with_template_in_order t ss)) first more)

-- one more, where the name wasn't there
len_with : (t : Template) (ts : List Template) → Up ts → length (with_template_in_order t ts) ≡ cond (is_some (template_named t.name ts)) (length ts) (suc (length ts))
len_with t [] up = refl
len_with t (s ∷ ss) up = by_order (folded_cmp t.name s.name) refl (len_with t ss up.1) where
  later : (b : Bool) (n : ℕ) → suc (cond b n (suc n)) ≡ cond b (suc n) (suc (suc n))
  later true n = refl
  later false n = refl

  by_order : (o : Ordering) → folded_cmp t.name s.name ≡ o → length (with_template_in_order t ss) ≡ cond (is_some (template_named t.name ss)) (length ss) (suc (length ss))
      → length (with_template_in_order t (s ∷ ss)) ≡ cond (is_some (template_named t.name (s ∷ ss))) (suc (length ss)) (suc (suc (length ss)))
  by_order Less e more = rw (e, differs t.name s Less e, none_named t.name ss (before_all t.name s.name ss e up.0) up.1) refl
  by_order Equal e more = rw (e, differs t.name s Equal e) refl
  by_order Greater e more = rw (e, differs t.name s Greater e) (ap suc more ∙ later (is_some (template_named t.name ss)) (length ss))

-- a template may be put where one of its name is, or where there are fewer than 64
pub with_allowed : (t : Template) (ts : List Template) → is_item (templates_item ts) ≡ true → is_template t ≡ true → has_room_for_template t.name ts ≡ true → is_item (templates_item (with_template_in_order t ts)) ≡ true
with_allowed t ts ok is room =
    let up = up_of ts (ascends ts ok) in
    templates_are (with_template_in_order t ts) (at_most (is_some (template_named t.name ts)) (length (with_template_in_order t ts)) (len_with t ts up) room) (all_with t ts is (all_templates ts ok)) (ascend_of (with_template_in_order t ts) (up_with t ts up)) where
      at_most : (b : Bool) (n : ℕ) → n ≡ cond b (length ts) (suc (length ts)) → (b || ltb (length ts) 64) ≡ true → n ≤ 64
      at_most true n e room = omega (arith, e, few ts ok)
      at_most false n e room = omega (arith, e, ltb-true (length ts) 64 room)
