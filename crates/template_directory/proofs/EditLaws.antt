-- An edit of the list of templates is that of the templates by name.
use Rattle.std.proofs.Common.{◌≡◌, ℕ, ◌<◌, Bool, true, false, List, [], ◌∷◌, length, Option, Some, None, refl, sym, ap, subst, ◌∙◌, inl, inr}
use Rattle.std.specs.Prelude.{not, nat_le, is_some, Ok}
use Rattle.std.specs.FinMap as maps
use Rattle.std.specs.List.{list_all}
use Rattle.std.proofs.lemmas.Bool.{and_from, and_parts, cases_lt, le-leb, lt-ltb, true≢false}
use Rattle.asm_group.specs.declared.GroupKind.{GroupKind}
use Rattle.asm_group.specs.declared.GroupKind.TheVariants.{External, Normal, High}
use Rattle.asm_group.specs.declared.Stripe.{Stripe}
use Rattle.asm_group.specs.Names.{Bytes, ByName, folded, is_name, is_same_name}
use Rattle.asm_group.specs.Group.{Template}
use Rattle.asm_group.specs.NewGroup.{templates_by_name, usual_copies}
use Rattle.asm_group.specs.Refusal as r
use Rattle.asm_formats.specs.Items.{is_item, is_redundancy, is_template, names_ascend, templates_item}
use Rattle.refusal_lines.specs.declared.refusal.Refusal.{Refusal}
use Rattle.template_directory.specs.Tables.{has_room_for_template, template_named, with_template_in_order, without_template}
use Rattle.asm_group.specs.Causes.{Causes, first_cause, unless_refused}
use Rattle.asm_group.specs.TemplateEdits as e
use Rattle.template_directory.specs.Meant.{IsTemplateEditRefusal, is_optional_redundancy, is_template_edit, listed_cause, listed_causes, refusal_said}
use Rattle.template_directory.proofs.Listing.{all_templates, ascends, len_is, named_is_get, up_of, with_is_insert, without_is_remove}
use Rattle.asm_formats.proofs.Codec.{bytes_same}
use Rattle.asm_base.proofs.Exact.{chosen, some_is}

causes_are : (kind : GroupKind) (ts : List Template) → names_ascend ts ≡ true → (edit : e.TemplateEdit) → e.template_causes kind (templates_by_name ts) edit ≡ listed_causes kind ts edit
causes_are kind ts up (e.Add name copies stripe) = rw (named_is_get name ts, len_is ts (up_of ts up)) refl
causes_are kind ts up (e.Modify name copies stripe) = rw (named_is_get name ts) refl
causes_are kind ts up (e.Drop name) = rw (named_is_get name ts) refl

cause_is : (kind : GroupKind) (ts : List Template) → is_item (templates_item ts) ≡ true → (edit : e.TemplateEdit) → first_cause (e.template_causes kind (templates_by_name ts) edit) ≡ listed_cause kind ts edit
cause_is kind ts ok edit = ap first_cause (causes_are kind ts (ascends ts ok) edit)

-- an edit that is refused
pub refused_is : (kind : GroupKind) (ts : List Template) (edit : e.TemplateEdit) (cause : Refusal) → is_item (templates_item ts) ≡ true → Some (refusal_said cause) ≡ listed_cause kind ts edit → IsTemplateEditRefusal (e.templates_edited kind (templates_by_name ts) edit) cause
refused_is kind ts edit cause ok is =
    inr (ap (λ (o : Option r.Refusal). unless_refused o (e.with_template_edit kind (templates_by_name ts) edit)) (cause_is kind ts ok edit ∙ sym is))

-- an edit that isn't refused
pub done_is : (kind : GroupKind) (ts us : List Template) (edit : e.TemplateEdit) → is_item (templates_item ts) ≡ true → None ≡ listed_cause kind ts edit → templates_by_name us ≡ e.with_template_edit kind (templates_by_name ts) edit
    → e.templates_edited kind (templates_by_name ts) edit ≡ Ok (templates_by_name us)
done_is kind ts us edit ok is done =
    ap (λ (o : Option r.Refusal). unless_refused o (e.with_template_edit kind (templates_by_name ts) edit)) (cause_is kind ts ok edit ∙ sym is)
    ∙ ap (λ (m : ByName Template). Ok m) (sym done)

-- ---- what an edit leaves

abbrev pub added : GroupKind → Bytes → Option ℕ → Stripe → Template
added kind name copies stripe = record { name = name; copies = e.said_copies kind copies; stripe = stripe; system = false }

abbrev pub modified : GroupKind → Template → Option ℕ → Stripe → Template
modified kind old copies stripe = record { name = old.name; copies = e.said_copies kind copies; stripe = stripe; system = old.system }

pub added_is : (kind : GroupKind) (ts us : List Template) (name : Bytes) (copies : Option ℕ) (stripe : Stripe) (t : Template) → t ≡ added kind name copies stripe → us ≡ with_template_in_order t ts → templates_by_name us ≡ e.with_template_edit kind (templates_by_name ts) (e.Add name copies stripe)
added_is kind ts us name copies stripe t is put = ap templates_by_name (put ∙ ap (λ (u : Template). with_template_in_order u ts) is) ∙ with_is_insert (added kind name copies stripe) ts

pub modified_is : (kind : GroupKind) (ts us : List Template) (name : Bytes) (copies : Option ℕ) (stripe : Stripe) (old t : Template) → Some old ≡ template_named name ts → t ≡ modified kind old copies stripe → us ≡ with_template_in_order t ts
    → templates_by_name us ≡ e.with_template_edit kind (templates_by_name ts) (e.Modify name copies stripe)
modified_is kind ts us name copies stripe old t there is put =
    ap templates_by_name (put ∙ ap (λ (u : Template). with_template_in_order u ts) is) ∙ rw (named_is_get name ts, ← there) (with_is_insert (modified kind old copies stripe) ts)

-- what the code makes
pub made_is : (kind : GroupKind) (copies : Option ℕ) {name spelt : Bytes} {n : ℕ} {stripe : Stripe} → spelt ≡ name → n ≡ e.said_copies kind copies → ◌≡◌ {A = Template} (record { name = spelt; copies = n; stripe = stripe; system = false }) (added kind name copies stripe)
made_is kind copies {name} {spelt} {n} {stripe} named said = λ i. record { name = named i; copies = said i; stripe = stripe; system = false }

pub changed_is : (kind : GroupKind) (old : Template) (copies : Option ℕ) {spelt : Bytes} {n : ℕ} {stripe : Stripe} {system : Bool} → spelt ≡ old.name → n ≡ e.said_copies kind copies → system ≡ old.system
    → ◌≡◌ {A = Template} (record { name = spelt; copies = n; stripe = stripe; system = system }) (modified kind old copies stripe)
changed_is kind old copies {spelt} {n} {stripe} {system} named said is = λ i. record { name = named i; copies = said i; stripe = stripe; system = is i }

pub dropped_is : (kind : GroupKind) (ts us : List Template) (name : Bytes) → us ≡ without_template name ts → templates_by_name us ≡ e.with_template_edit kind (templates_by_name ts) (e.Drop name)
dropped_is kind ts us name gone = ap templates_by_name gone ∙ without_is_remove name ts

-- ---- what may be put

usual_is : (kind : GroupKind) → is_redundancy (usual_copies kind) ≡ true
usual_is External = refl
usual_is Normal = refl
usual_is High = refl

said_is : (kind : GroupKind) (copies : Option ℕ) → is_optional_redundancy copies ≡ true → is_redundancy (e.said_copies kind copies) ≡ true
said_is kind None are = usual_is kind
said_is kind (Some n) are = are

first_none : (b : Bool) (cause : r.Refusal) (causes : Causes) → first_cause ((b, cause) ∷ causes) ≡ None → (b ≡ false) × (first_cause causes ≡ None)
first_none true cause causes e = absurd cc
first_none false cause causes e = (refl, e)

room_is : (n : ℕ) → nat_le 64 n ≡ false → n < 64
room_is n e = elim (cases_lt n 64) [ inl lt ↦ lt | inr past ↦ absurd (true≢false (sym (le-leb 64 n past) ∙ e)) ]

-- what may be put of a template that is added
record MayPut (t : Template) (ts : List Template) : Type 0 where
  allowed : is_template t ≡ true
  room : has_room_for_template t.name ts ≡ true

add_may : (kind : GroupKind) (ts : List Template) (name : Bytes) (copies : Option ℕ) (stripe : Stripe) → is_template_edit (e.Add name copies stripe) ≡ true → listed_cause kind ts (e.Add name copies stripe) ≡ None → MayPut (added kind name copies stripe) ts
add_may kind ts name copies stripe is free =
    let full : Causes = (nat_le 64 (length ts), r.TooMany r.Templates 64) ∷ [] in
    let bad : Bool = not (e.allows_copies kind (e.said_copies kind copies)) in
    let a = first_none (is_some (template_named name ts)) r.NameTaken ((bad, r.BadRedundancy) ∷ full) free in
    let b = first_none bad r.BadRedundancy full a.1 in
    let c = first_none (nat_le 64 (length ts)) (r.TooMany r.Templates 64) [] b.1 in
    let n = and_parts (is_name name) (is_optional_redundancy copies) is in
    record {
      allowed = and_from (is_name name) (is_redundancy (e.said_copies kind copies)) n.0 (said_is kind copies n.1);
      room = rw a.0 (lt-ltb (length ts) 64 (room_is (length ts) c.0));
    }

pub add_allowed : (kind : GroupKind) (ts : List Template) (name : Bytes) (copies : Option ℕ) (stripe : Stripe) (t : Template) → is_template_edit (e.Add name copies stripe) ≡ true → listed_cause kind ts (e.Add name copies stripe) ≡ None → t ≡ added kind name copies stripe → is_template t ≡ true
add_allowed kind ts name copies stripe t is free made = ap is_template made ∙ (add_may kind ts name copies stripe is free).allowed

pub add_room : (kind : GroupKind) (ts : List Template) (name : Bytes) (copies : Option ℕ) (stripe : Stripe) (t : Template) → is_template_edit (e.Add name copies stripe) ≡ true → listed_cause kind ts (e.Add name copies stripe) ≡ None → t ≡ added kind name copies stripe → has_room_for_template t.name ts ≡ true
add_room kind ts name copies stripe t is free made = ap (λ (u : Template). has_room_for_template u.name ts) made ∙ (add_may kind ts name copies stripe is free).room

named_template : (name : Bytes) (ts : List Template) (t : Template) → list_all is_template ts ≡ true → template_named name ts ≡ Some t → (is_template t ≡ true) × (is_same_name name t.name ≡ true)
named_template name [] t all e = absurd cc
named_template name (s ∷ ss) t all e =
    let a = and_parts (is_template s) (list_all is_template ss) all in
    elim (chosen (is_same_name name s.name) (Some s) (template_named name ss) (Some t) e) [
      | inl same ↦ subst (λ (u : Template). (is_template u ≡ true) × (is_same_name name u.name ≡ true)) (some_is s t same.1) (a.0, same.0)
      | inr other ↦ named_template name ss t a.1 other.1
    ]

-- a template of the same name is there too by the spelling of the one that is there
named_again : (name : Bytes) (ts : List Template) (t : Template) → template_named name ts ≡ Some t → is_same_name name t.name ≡ true → template_named t.name ts ≡ template_named name ts
named_again name ts t there same = sym (named_is_get t.name ts) ∙ ap (maps.get (templates_by_name ts)) (sym (bytes_same (folded name) (folded t.name) same)) ∙ named_is_get name ts

modify_may : (kind : GroupKind) (ts : List Template) (name : Bytes) (copies : Option ℕ) (stripe : Stripe) (old : Template) → is_item (templates_item ts) ≡ true → is_template_edit (e.Modify name copies stripe) ≡ true → template_named name ts ≡ Some old → MayPut (modified kind old copies stripe) ts
modify_may kind ts name copies stripe old ok is there =
    let t = named_template name ts old (all_templates ts ok) there in
    let named = (and_parts (is_name old.name) (is_redundancy old.copies) t.0).0 in
    let n = and_parts (is_name name) (is_optional_redundancy copies) is in
    record {
      allowed = and_from (is_name old.name) (is_redundancy (e.said_copies kind copies)) named (said_is kind copies n.1);
      room = rw (named_again name ts old there t.1, there) refl;
    }

pub modify_allowed : (kind : GroupKind) (ts : List Template) (name : Bytes) (copies : Option ℕ) (stripe : Stripe) (old t : Template) → is_item (templates_item ts) ≡ true → is_template_edit (e.Modify name copies stripe) ≡ true → Some old ≡ template_named name ts → t ≡ modified kind old copies stripe → is_template t ≡ true
modify_allowed kind ts name copies stripe old t ok is there made = ap is_template made ∙ (modify_may kind ts name copies stripe old ok is (sym there)).allowed

pub modify_room : (kind : GroupKind) (ts : List Template) (name : Bytes) (copies : Option ℕ) (stripe : Stripe) (old t : Template) → is_item (templates_item ts) ≡ true → is_template_edit (e.Modify name copies stripe) ≡ true → Some old ≡ template_named name ts → t ≡ modified kind old copies stripe → has_room_for_template t.name ts ≡ true
modify_room kind ts name copies stripe old t ok is there made = ap (λ (u : Template). has_room_for_template u.name ts) made ∙ (modify_may kind ts name copies stripe old ok is (sym there)).room
