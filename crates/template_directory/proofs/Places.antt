-- The place of a name in a list of templates in folded order.
use Rattle.std.proofs.Common.{◌≡◌, ℕ, zero, suc, ◌+◌, ◌<◌, ◌≤◌, Bool, true, false, cond, List, [], ◌∷◌, ◌++◌, length, take, drop, Option, Some, None, refl, sym, ap, subst, ◌∙◌, arith, inl, inr}
use Rattle.std.specs.Prelude.{◌&&◌, slice_index_or, slice_set, is_some}
use Rattle.std.specs.Cmp.Lexicographic.{nat_list_cmp_total}
use Rattle.std.proofs.lemmas.Option.{none-some}
use Rattle.std.specs.List.{AllWithin, slice_get, insert, remove}
use Rattle.std.specs.List.Sorted.{IsPartitionedBy, IsPartitionPoint}
use Rattle.std.specs.Option.{option_and_then}
use Rattle.std.specs.Ordering.{nat_cmp, is_lt, is_eq, ordering_reverse}
use Rattle.std.specs.declared.cmp.Ordering.{Ordering}
use Rattle.std.specs.declared.cmp.Ordering.TheVariants.{Less, Equal, Greater}
use Rattle.std.proofs.lemmas.Bool.{true≢false}
use Rattle.asm_group.specs.Names.{Bytes, folded, is_same_name}
use Rattle.asm_group.specs.Group.{Template}
use Rattle.asm_formats.specs.Items.{names_ascend}
use Rattle.asm_base.specs.Names.{folded_cmp}
use Rattle.asm_base.proofs.NameLaws.{same_order}
use Rattle.template_directory.specs.Tables.{if_same, template_named, with_template_in_order, without_template, count_of_names_before}
use Rattle.template_directory.proofs.Listing.{Below, Up, up_of, either, differs, less_is, turned, before_all, none_named}

abbrev pub is_before : Bytes → Template → Bool
is_before name t = is_lt (folded_cmp t.name name)

pub place_is : (name : Bytes) (ts : List Template) (i : ℕ) → i ≤ length ts → IsPartitionPoint (λ t. is_before name t ≡ true) (λ t. is_before name t ≡ false) ts i → i ≡ count_of_names_before name ts
place_is name [] i le point = omega arith
place_is name (t ∷ ts) zero le point = rw (point.1 0 t (omega arith) (omega arith)) refl
place_is name (t ∷ ts) (suc i) le point =
    rw (point.0 0 t (omega arith) (omega arith)) (ap suc (place_is name ts i (omega (arith, le)) (λ k d low high. point.0 (suc k) d (omega arith) (omega (arith, high)), λ k d low high. point.1 (suc k) d (omega (arith, low)) (omega (arith, high)))))

all_above : (x : Bytes) (ts : List Template) → Below x ts → Up ts → (j : ℕ) (d : Template) → j < length ts → folded_cmp x (slice_index_or ts j d).name ≡ Less
all_above x [] below up j d lt = absurd (omega (arith, lt))
all_above x (t ∷ ts) below up zero d lt = below
all_above x (t ∷ ts) below up (suc j) d lt = all_above x ts (before_all x t.name ts below up.0) up.1 j d (omega (arith, lt))

pub partitioned : (name : Bytes) (ts : List Template) → Up ts → IsPartitionedBy (is_before name) ts
partitioned name [] up i j d le lt e = absurd (omega (arith, lt))
partitioned name (t ∷ ts) up zero zero d le lt e = e
partitioned name (t ∷ ts) up zero (suc j) d le lt e =
    ap is_lt (nat_list_cmp_total.trans (folded t.name) (folded (slice_index_or ts j d).name) (folded name) (all_above t.name ts up.0 up.1 j d (omega (arith, lt))) (less_is (folded_cmp (slice_index_or ts j d).name name) e))
partitioned name (t ∷ ts) up (suc i) zero d le lt e = absurd (omega (arith, le))
partitioned name (t ∷ ts) up (suc i) (suc j) d le lt e = partitioned name ts up.1 i j d (omega (arith, le)) (omega (arith, lt)) e

-- ---- what stands at the place

is_behind : (name : Bytes) (t : Template) (o : Ordering) → folded_cmp name t.name ≡ o → is_before name t ≡ is_lt (ordering_reverse o)
is_behind name t o e = ap is_lt (turned (folded name) (folded t.name) o e)

pub named_at : (name : Bytes) (ts : List Template) → Up ts → if_same name (slice_get ts (count_of_names_before name ts)) ≡ template_named name ts
named_at name [] up = refl
named_at name (t ∷ ts) up = by_order (folded_cmp name t.name) refl (named_at name ts up.1) where
  by_order : (o : Ordering) → folded_cmp name t.name ≡ o → if_same name (slice_get ts (count_of_names_before name ts)) ≡ template_named name ts → if_same name (slice_get (t ∷ ts) (count_of_names_before name (t ∷ ts))) ≡ template_named name (t ∷ ts)
  by_order Less e more = rw (is_behind name t Less e, differs name t Less e) (sym (none_named name ts (before_all name t.name ts e up.0) up.1))
  by_order Equal e more = rw (is_behind name t Equal e, differs name t Equal e) refl
  by_order Greater e more = rw (is_behind name t Greater e, differs name t Greater e) more

pub with_at : (t : Template) (ts : List Template) → Up ts → cond (is_some (template_named t.name ts)) (slice_set ts (count_of_names_before t.name ts) t) (insert ts (count_of_names_before t.name ts) t) ≡ with_template_in_order t ts
with_at t [] up = refl
with_at t (s ∷ ss) up = by_order (folded_cmp t.name s.name) refl (with_at t ss up.1) where
  behind : (b : Bool) (n : ℕ) → cond b (slice_set (s ∷ ss) (suc n) t) (insert (s ∷ ss) (suc n) t) ≡ s ∷ cond b (slice_set ss n t) (insert ss n t)
  behind true n = refl
  behind false n = refl

  by_order : (o : Ordering) → folded_cmp t.name s.name ≡ o → cond (is_some (template_named t.name ss)) (slice_set ss (count_of_names_before t.name ss) t) (insert ss (count_of_names_before t.name ss) t) ≡ with_template_in_order t ss
      → cond (is_some (template_named t.name (s ∷ ss))) (slice_set (s ∷ ss) (count_of_names_before t.name (s ∷ ss)) t) (insert (s ∷ ss) (count_of_names_before t.name (s ∷ ss)) t) ≡ with_template_in_order t (s ∷ ss)
  by_order Less e more = rw (is_behind t.name s Less e, differs t.name s Less e, e, none_named t.name ss (before_all t.name s.name ss e up.0) up.1) refl
  by_order Equal e more = rw (is_behind t.name s Equal e, differs t.name s Equal e, e) refl
  by_order Greater e more =
      rw (is_behind t.name s Greater e, differs t.name s Greater e, e)
      (behind (is_some (template_named t.name ss)) (count_of_names_before t.name ss) ∙ ap (λ (us : List Template). s ∷ us) more)

pub without_none : (name : Bytes) (ts : List Template) → template_named name ts ≡ None → without_template name ts ≡ ts
without_none name [] e = refl
without_none name (t ∷ ts) e = elim (either (is_same_name name t.name)) [
  | inl same ↦ absurd (none-some t (sym (rw same at e)))
  | inr other ↦ rw other (ap (λ (us : List Template). t ∷ us) (without_none name ts (rw other at e)))
]

pub without_at : (name : Bytes) (ts : List Template) → Up ts → is_some (template_named name ts) ≡ true → remove ts (count_of_names_before name ts) ≡ without_template name ts
without_at name [] up e = absurd cc
without_at name (t ∷ ts) up some = by_order (folded_cmp name t.name) refl (without_at name ts up.1) where
  tied : folded_cmp name t.name ≡ Equal → (us : List Template) → Below t.name us → Below name us
  tied e [] below = tt
  tied e (u ∷ us) below = nat_list_cmp_total.congr (folded name) (folded t.name) (folded u.name) e ∙ below

  by_order : (o : Ordering) → folded_cmp name t.name ≡ o → (is_some (template_named name ts) ≡ true → remove ts (count_of_names_before name ts) ≡ without_template name ts) → remove (t ∷ ts) (count_of_names_before name (t ∷ ts)) ≡ without_template name (t ∷ ts)
  by_order Less e more = absurd (true≢false (sym some ∙ rw (differs name t Less e) (ap is_some (none_named name ts (before_all name t.name ts e up.0) up.1))))
  by_order Equal e more = rw (is_behind name t Equal e, differs name t Equal e) (sym (without_none name ts (none_named name ts (tied e ts up.0) up.1)))
  by_order Greater e more =
      rw (is_behind name t Greater e, differs name t Greater e) (ap (λ (us : List Template). t ∷ us) (more (rw (differs name t Greater e) at some)))

-- ---- what the code does there

from_place : (ts : List Template) (i : ℕ) → slice_get (drop i ts) 0 ≡ slice_get ts i
from_place [] zero = refl
from_place [] (suc i) = refl
from_place (t ∷ ts) zero = refl
from_place (t ∷ ts) (suc i) = from_place ts i

pub named_here : (name : Bytes) (ts : List Template) (i : ℕ) (found : Option Template) → names_ascend ts ≡ true → i ≡ count_of_names_before name ts → found ≡ slice_get (drop i ts) 0 → if_same name found ≡ template_named name ts
named_here name ts i found up place is = ap (if_same name) (is ∙ from_place ts i ∙ ap (slice_get ts) place) ∙ named_at name ts (up_of ts up)

pub named_inside : (name : Bytes) (ts : List Template) → names_ascend ts ≡ true → is_some (template_named name ts) ≡ true → count_of_names_before name ts < length ts
named_inside name ts up some = inside ts (count_of_names_before name ts) (ap is_some (named_at name ts (up_of ts up)) ∙ some) where
  inside : (us : List Template) (n : ℕ) → is_some (if_same name (slice_get us n)) ≡ true → n < length us
  inside [] n e = absurd cc
  inside (u ∷ us) zero e = omega arith
  inside (u ∷ us) (suc n) e = omega (arith, inside us n e)

pub set_here : (t : Template) (ts : List Template) (i : ℕ) → names_ascend ts ≡ true → i ≡ count_of_names_before t.name ts → is_some (template_named t.name ts) ≡ true → slice_set ts i t ≡ with_template_in_order t ts
set_here t ts i up place some = rw place (rw some at (with_at t ts (up_of ts up)))

pub insert_here : (t : Template) (ts : List Template) (i : ℕ) → names_ascend ts ≡ true → i ≡ count_of_names_before t.name ts → is_some (template_named t.name ts) ≡ false → insert ts i t ≡ with_template_in_order t ts
insert_here t ts i up place none = rw place (rw none at (with_at t ts (up_of ts up)))

pub remove_here : (name : Bytes) (ts : List Template) (i : ℕ) → names_ascend ts ≡ true → i ≡ count_of_names_before name ts → is_some (template_named name ts) ≡ true → remove ts i ≡ without_template name ts
remove_here name ts i up place some = rw place (without_at name ts (up_of ts up) some)

-- ---- the same of what a vector is seen as

pub place_here : {i : ℕ} {n name : Bytes} {us ts : List Template} → i ≡ count_of_names_before n us → n ≡ name → us ≡ ts → i ≡ count_of_names_before name ts
place_here {i} {n} {name} {us} {ts} place named same = place ∙ ap (λ (m : Bytes). count_of_names_before m us) named ∙ ap (count_of_names_before name) same

pub has_here : {b c : Bool} {n name : Bytes} {us ts : List Template} → b ≡ is_some (template_named n us) → n ≡ name → us ≡ ts → b ≡ c → is_some (template_named name ts) ≡ c
has_here {b} {c} {n} {name} {us} {ts} is named same answer = ap (λ (vs : List Template). is_some (template_named name vs)) (sym same) ∙ ap (λ (m : Bytes). is_some (template_named m us)) (sym named) ∙ sym is ∙ answer

pub inside_here : (name : Bytes) (ts : List Template) {i : ℕ} → names_ascend ts ≡ true → i ≡ count_of_names_before name ts → is_some (template_named name ts) ≡ true → i < length ts
inside_here name ts up place some = rw place (named_inside name ts up some)

pub at_most_here : {us ts : List Template} {i : ℕ} → i ≤ length us → us ≡ ts → i ≤ length ts
at_most_here {us} {ts} {i} le same = subst (λ (vs : List Template). i ≤ length vs) same le

pub without_here : (name : Bytes) (ts : List Template) → is_some (template_named name ts) ≡ false → ts ≡ without_template name ts
without_here name ts none = sym (without_none name ts (is_none (template_named name ts) none)) where
  is_none : (o : Option Template) → is_some o ≡ false → o ≡ None
  is_none None e = refl
  is_none (Some t) e = absurd cc
