-- Templates that are passed over one by one, each behind the one before.
use Rattle.std.proofs.Common.{◌≡◌, ℕ, zero, suc, ◌+◌, ◌-◌, ◌<◌, ◌≤◌, Bool, true, false, cond, leb, List, [], ◌∷◌, length, Option, Some, None, refl, sym, ap, subst, ◌∙◌, arith}
use Rattle.std.specs.Prelude.{◌&&◌}
use Rattle.std.specs.Option.{option_and_then, option_map}
use Rattle.std.specs.List.{AllByRecursion}
use Rattle.asm_base.specs.asm_group.Names.{Bytes, folded, is_name}
use Rattle.asm_base.specs.asm_group.declared.Stripe.{Stripe}
use Rattle.asm_base.specs.asm_group.Group.{Template}
use Rattle.asm_base.specs.asm_formats.Items.{names_ascend, precedes}
use Rattle.asm_base.specs.Readings.{both, byte_reading, flag_reading, repeated, text_reading}
use Rattle.byte_codes.specs.Words.{stripe_reading}
use Rattle.asm_base.specs.Parts.{TemplateParts, to_template}
use Rattle.asm_base.proofs.Exact.{bind_some, some_is, test_some}
use Rattle.record_values.specs.Values.{copies_reading, named_reading, template_reading, templates_reading}
use Rattle.directory_page.specs.Values.{ascend_after, each_after, template_name_reading, template_rest_check, templates_check}
use Rattle.directory_page.proofs.Passing.{Passing, both_pass, read_passes}

-- ---- the loop

pub after_more : (before name : Bytes) (count i : ℕ) (bytes after : List ℕ) (total : Option (List ℕ)) → i < count → template_name_reading bytes ≡ Some (name, after) → precedes (folded before) (folded name) ≡ true
    → each_after before (count - i) bytes ≡ total → each_after name (count - (i + 1)) after ≡ total
unfolding each_after
after_more before name count i bytes after total lt read behind so_far =
    let k : count - i ≡ suc (count - (i + 1)) = omega arith in
    let one : each_after before (count - i) bytes ≡ each_after name (count - (i + 1)) after = rw (k, read, behind) refl in
    sym one ∙ so_far

pub after_back : (before name : Bytes) (count i : ℕ) (bytes after : List ℕ) (total : Option (List ℕ)) → i < count → template_name_reading bytes ≡ Some (name, after) → precedes (folded before) (folded name) ≡ false
    → each_after before (count - i) bytes ≡ total → total ≡ None
unfolding each_after
after_back before name count i bytes after total lt read back so_far =
    let k : count - i ≡ suc (count - (i + 1)) = omega arith in
    let one : each_after before (count - i) bytes ≡ None = rw (k, read, back) refl in
    sym so_far ∙ one

pub after_fails : (before : Bytes) (count i : ℕ) (bytes : List ℕ) (total : Option (List ℕ)) → i < count → template_name_reading bytes ≡ None
    → each_after before (count - i) bytes ≡ total → total ≡ None
unfolding each_after
after_fails before count i bytes total lt fails so_far =
    let k : count - i ≡ suc (count - (i + 1)) = omega arith in
    let one : each_after before (count - i) bytes ≡ None = rw (k, fails) refl in
    sym so_far ∙ one

pub after_done : (before : Bytes) (count i : ℕ) (bytes : List ℕ) (total : Option (List ℕ)) → count ≤ i → each_after before (count - i) bytes ≡ total → total ≡ Some bytes
unfolding each_after
after_done before count i bytes total le so_far =
    let k : count - i ≡ 0 = omega arith in
    let one : each_after before (count - i) bytes ≡ Some bytes = rw k refl in
    sym so_far ∙ one

pub after_start : (count : ℕ) (bytes : List ℕ) → each_after [] (count - 0) bytes ≡ each_after [] count bytes
after_start count bytes = let k : count - 0 ≡ count = omega arith in rw k refl

-- ---- the templates

-- the name of a template that is read
abbrev name_of : Template × List ℕ → Bytes × List ℕ
name_of t = (t.0.name, t.1)

-- those that stand so
abbrev so_many : Bytes → Option (List Template × List ℕ) → Option (List Template × List ℕ)
so_many before read = option_and_then (λ x. cond (ascend_after before x.0) (Some x) None) read

-- one template before others
abbrev behind : Template → List Template × List ℕ → List Template × List ℕ
behind t x = (t ∷ x.0, x.1)

module _ (named : (bytes : List ℕ) → template_name_reading bytes ≡ option_map name_of (template_reading bytes)) where
  each_is : (n : ℕ) (before : Bytes) (bytes : List ℕ) → each_after before n bytes ≡ option_map (λ x. x.1) (so_many before (repeated n template_reading bytes))
  unfolding each_after repeated ascend_after
  each_is zero before bytes = refl
  each_is (suc n) before bytes =
      ap (λ (o : Option (Bytes × List ℕ)). option_and_then (λ t. cond (precedes (folded before) (folded t.0)) (each_after t.0 n t.1) None) o) (named bytes) ∙ go (each_is n) (template_reading bytes) where
        inner : (t : Template) (b : Bool) (x : List Template × List ℕ)
            → cond b (option_map (λ (y : List Template × List ℕ). y.1) (cond (ascend_after t.name x.0) (Some x) None)) None
            ≡ option_map (λ (y : List Template × List ℕ). y.1) (cond (b && ascend_after t.name x.0) (Some (behind t x)) None)
        inner t false x = refl
        inner t true x = one (ascend_after t.name x.0) where
          one : (c : Bool) → option_map (λ (y : List Template × List ℕ). y.1) (cond c (Some x) None) ≡ option_map (λ (y : List Template × List ℕ). y.1) (cond c (Some (behind t x)) None)
          one true = refl
          one false = refl

        step : (t : Template) (b : Bool) → precedes (folded before) (folded t.name) ≡ b → (o : Option (List Template × List ℕ))
            → cond b (option_map (λ (y : List Template × List ℕ). y.1) (so_many t.name o)) None
            ≡ option_map (λ (y : List Template × List ℕ). y.1) (so_many before (option_and_then (λ (xs : List Template × List ℕ). Some (t ∷ xs.0, xs.1)) o))
        step t true e None = refl
        step t false e None = refl
        step t b e (Some x) = inner t b x ∙ ap (λ (c : Bool). option_map (λ (y : List Template × List ℕ). y.1) (cond (c && ascend_after t.name x.0) (Some (behind t x)) None)) (sym e)

        go : ((name : Bytes) (rest : List ℕ) → each_after name n rest ≡ option_map (λ x. x.1) (so_many name (repeated n template_reading rest))) → (o : Option (Template × List ℕ))
            → option_and_then (λ (t : Bytes × List ℕ). cond (precedes (folded before) (folded t.0)) (each_after t.0 n t.1) None) (option_map name_of o)
            ≡ option_map (λ (y : List Template × List ℕ). y.1) (so_many before (option_and_then (λ (t : Template × List ℕ). option_and_then (λ (xs : List Template × List ℕ). Some (t.0 ∷ xs.0, xs.1)) (repeated n template_reading t.1)) o))
        go others None = refl
        go others (Some t) =
            ap (λ (o : Option (List ℕ)). cond (precedes (folded before) (folded t.0.name)) o None) (others t.0.name t.1)
            ∙ step t.0 (precedes (folded before) (folded t.0.name)) refl (repeated n template_reading t.1)

-- a template's name is read where the template is
rest_passes : Passing template_rest_check (both copies_reading (both stripe_reading flag_reading))
unfolding template_rest_check
rest_passes = both_pass (read_passes copies_reading) (both_pass (read_passes stripe_reading) (read_passes flag_reading))

named_is : (bytes : List ℕ) → template_name_reading bytes ≡ option_map name_of (template_reading bytes)
unfolding template_reading
named_is bytes = go (named_reading bytes) where
  inner : (name : Bytes) (o : Option ((ℕ × (Stripe × Bool)) × List ℕ))
      → option_map (λ (rest : List ℕ). (name, rest)) (option_map (λ (x : (ℕ × (Stripe × Bool)) × List ℕ). x.1) o)
      ≡ option_map name_of (option_and_then (λ (x : TemplateParts × List ℕ). Some (to_template x.0, x.1)) (option_and_then (λ (y : (ℕ × (Stripe × Bool)) × List ℕ). Some ((name, y.0), y.1)) o))
  inner name None = refl
  inner name (Some x) = refl

  go : (o : Option (Bytes × List ℕ))
      → option_and_then (λ (n : Bytes × List ℕ). option_map (λ (rest : List ℕ). (n.0, rest)) (template_rest_check n.1)) o
      ≡ option_map name_of (option_and_then (λ (x : TemplateParts × List ℕ). Some (to_template x.0, x.1))
      (option_and_then (λ (n : Bytes × List ℕ). option_and_then (λ (y : (ℕ × (Stripe × Bool)) × List ℕ). Some ((n.0, y.0), y.1)) (both copies_reading (both stripe_reading flag_reading) n.1)) o))
  go None = refl
  go (Some n) = ap (option_map (λ (rest : List ℕ). (n.0, rest))) (rest_passes.same n.1) ∙ inner n.0 (both copies_reading (both stripe_reading flag_reading) n.1)

-- ---- the order of their names

abbrev Named : Template → Type 0
Named t = is_name t.name ≡ true

template_named : (bytes : List ℕ) (t : Template) (rest : List ℕ) → template_reading bytes ≡ Some (t, rest) → Named t
unfolding template_reading
template_named bytes t rest e =
    let a = bind_some (λ (x : TemplateParts × List ℕ). Some (to_template x.0, x.1)) (both named_reading (both copies_reading (both stripe_reading flag_reading)) bytes) (t, rest) e in
    let b = bind_some (λ (n : Bytes × List ℕ). option_and_then (λ (y : (ℕ × (Stripe × Bool)) × List ℕ). Some ((n.0, y.0), y.1)) (both copies_reading (both stripe_reading flag_reading) n.1)) (named_reading bytes) a.0 a.1 in
    let c = bind_some (λ (y : (ℕ × (Stripe × Bool)) × List ℕ). Some ((b.0.0, y.0), y.1)) (both copies_reading (both stripe_reading flag_reading) b.0.1) a.0 b.2 in
    let n = bind_some (λ (x : Bytes × List ℕ). cond (is_name x.0) (Some x) None) (text_reading 30 bytes) b.0 b.1 in
    let ok = test_some (is_name n.0.0) n.0 b.0 n.2 in
    let same : b.0.0 ≡ t.name = ap (λ (x : TemplateParts × List ℕ). x.0.0) (some_is ((b.0.0, c.0.0), c.0.1) a.0 c.2) ∙ ap (λ (x : Template × List ℕ). x.0.name) (some_is (to_template a.0.0, a.0.1) (t, rest) a.2) in
    ap is_name (sym (ap (λ (x : Bytes × List ℕ). x.0) ok.1 ∙ same)) ∙ ok.0

all_named : (n : ℕ) (bytes : List ℕ) (ts : List Template) (rest : List ℕ) → repeated n template_reading bytes ≡ Some (ts, rest) → AllByRecursion Named ts
unfolding repeated
all_named zero bytes ts rest e = subst (λ (x : List Template × List ℕ). AllByRecursion Named x.0) (some_is ([], bytes) (ts, rest) e) tt
all_named (suc n) bytes ts rest e =
    let a = bind_some (λ (t : Template × List ℕ). option_and_then (λ (xs : List Template × List ℕ). Some (t.0 ∷ xs.0, xs.1)) (repeated n template_reading t.1)) (template_reading bytes) (ts, rest) e in
    let b = bind_some (λ (xs : List Template × List ℕ). Some (a.0.0 ∷ xs.0, xs.1)) (repeated n template_reading a.0.1) (ts, rest) a.2 in
    let both : AllByRecursion Named (a.0.0 ∷ b.0.0) = (template_named bytes a.0.0 a.0.1 a.1, all_named n a.0.1 b.0.0 b.0.1 b.1) in
    subst (λ (x : List Template × List ℕ). AllByRecursion Named x.0) (some_is (a.0.0 ∷ b.0.0, b.0.1) (ts, rest) b.2) both

-- the templates behind the first ascend
ascend_same : (t : Template) (ts : List Template) → names_ascend (t ∷ ts) ≡ ascend_after t.name ts
unfolding ascend_after
ascend_same t [] = refl
ascend_same t (u ∷ ts) = ap (λ (b : Bool). precedes (folded t.name) (folded u.name) && b) (ascend_same u ts)

-- a name comes behind the empty one
first_behind : (name : Bytes) → is_name name ≡ true → precedes (folded []) (folded name) ≡ true
unfolding is_name
first_behind [] ok = absurd cc
first_behind (c ∷ cs) ok = refl

ascending : (ts : List Template) → AllByRecursion Named ts → ascend_after [] ts ≡ names_ascend ts
unfolding ascend_after
ascending [] fits = refl
ascending (t ∷ ts) fits = ap (λ (b : Bool). b && ascend_after t.name ts) (first_behind t.name fits.0) ∙ sym (ascend_same t ts)

-- those that come behind the empty name are those that ascend
by_test : (o : Option (List Template × List ℕ)) → ((x : List Template × List ℕ) → o ≡ Some x → AllByRecursion Named x.0)
    → so_many [] o ≡ option_and_then (λ x. cond (names_ascend x.0) (Some x) None) o
by_test None all = refl
by_test (Some x) all = ap (λ (b : Bool). cond b (Some x) None) (ascending x.0 (all x refl))

some_named : (b : Bool) (n : ℕ) (bytes : List ℕ) (x : List Template × List ℕ) → cond b (repeated n template_reading bytes) None ≡ Some x → AllByRecursion Named x.0
some_named true n bytes x e = all_named n bytes x.0 x.1 e
some_named false n bytes x e = absurd cc

-- as many templates as are said
abbrev those : Option (ℕ × List ℕ) → Option (List Template × List ℕ)
those o = option_and_then (λ (n : ℕ × List ℕ). cond (leb n.0 64) (repeated n.0 template_reading n.1) None) o

pub templates_pass : Passing templates_check templates_reading
unfolding templates_reading
templates_pass = record { same = λ bytes. go (byte_reading bytes) ∙ ap (option_map (λ (x : List Template × List ℕ). x.1)) (by_test (those (byte_reading bytes)) (each_named (byte_reading bytes))) } where
  each_named : (o : Option (ℕ × List ℕ)) (x : List Template × List ℕ) → those o ≡ Some x → AllByRecursion Named x.0
  each_named None x e = absurd cc
  each_named (Some n) x e = some_named (leb n.0 64) n.0 n.1 x e

  one : (b : Bool) (n : ℕ) (bytes : List ℕ)
      → cond b (each_after [] n bytes) None ≡ option_map (λ (x : List Template × List ℕ). x.1) (so_many [] (cond b (repeated n template_reading bytes) None))
  one true n bytes = each_is named_is n [] bytes
  one false n bytes = refl

  go : (o : Option (ℕ × List ℕ))
      → option_and_then (λ (n : ℕ × List ℕ). cond (leb n.0 64) (each_after [] n.0 n.1) None) o
      ≡ option_map (λ (x : List Template × List ℕ). x.1) (so_many [] (option_and_then (λ (n : ℕ × List ℕ). cond (leb n.0 64) (repeated n.0 template_reading n.1) None) o))
  go None = refl
  go (Some n) = one (leb n.0 64) n.0 n.1

-- ---- the order

-- no name comes before another
pub empty_precedes : (a b : Bytes) → length a ≡ 0 → 1 ≤ length b → true ≡ precedes (folded a) (folded b)
empty_precedes [] [] none some = absurd (omega arith)
empty_precedes [] (y ∷ b) none some = refl
empty_precedes (x ∷ a) b none some = absurd (omega arith)
