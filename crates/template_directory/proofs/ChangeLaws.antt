-- One record more.
use Rattle.std.proofs.Common.{◌≡◌, ℕ, Bool, true, false, cond, eqb, List, Option, Some, None, refl, sym, ap, ◌∙◌, inl, inr, ◌⊎◌}
use Rattle.std.specs.Prelude.{◌&&◌}
use Rattle.std.specs.Option.{option_and_then}
use Rattle.std.proofs.lemmas.Bool.{eq-eqb, eqb-true, true≢false}
use Rattle.asm_group.specs.Group.{Template}
use Rattle.asm_formats.specs.Items.{Item, Key, Settings, file_item, chunk_item, disk_item, rebalance_item, pending_item, templates_item, node_item, settings_item, marks_item, item_key, is_same_key}
use Rattle.asm_formats.specs.Values.{decoded_item, value}
use Rattle.asm_formats.proofs.Bodies.{item_codec}
use Rattle.asm_base.specs.Tables.{entry_of_record}
use Rattle.asm_base.proofs.Exact.{bind_some}
use Rattle.template_directory.specs.Changing.{template_value_at}
use Rattle.template_directory.specs.Tables.{Table, settings_said, templates_said}

either : (b : Bool) → (b ≡ true) ⊎ (b ≡ false)
either true = inl refl
either false = inr refl

both : (a b : Bool) → (a && b) ≡ true → (a ≡ true) × (b ≡ true)
both true true e = (refl, refl)
both true false e = absurd (true≢false (sym e))
both false b e = absurd (true≢false (sym e))

turned : (m n : ℕ) → eqb n m ≡ eqb m n
turned m n = elim (either (eqb n m)) [
  | inl x ↦ x ∙ sym (eq-eqb m n (sym (eqb-true n m x)))
  | inr x ↦ elim (either (eqb m n)) [ inl y ↦ absurd (true≢false (sym (eq-eqb n m (sym (eqb-true m n y))) ∙ x)) | inr y ↦ x ∙ sym y ]
]

-- ---- the record of an item that was read

templates_are : (i : Item) (ts : List Template) → templates_said i ≡ Some ts → i ≡ templates_item ts
templates_are (templates_item us) ts e = let same : us ≡ ts = cc in ap templates_item same
templates_are (file_item f h) ts e = absurd cc
templates_are (chunk_item f c h) ts e = absurd cc
templates_are (disk_item d i) ts e = absurd cc
templates_are (rebalance_item p) ts e = absurd cc
templates_are (pending_item p) ts e = absurd cc
templates_are (node_item n m) ts e = absurd cc
templates_are (settings_item s) ts e = absurd cc
templates_are (marks_item f c m) ts e = absurd cc

settings_are : (i : Item) (s : Settings) → settings_said i ≡ Some s → i ≡ settings_item s
settings_are (settings_item r) s e = let same : r ≡ s = cc in ap settings_item same
settings_are (file_item f h) s e = absurd cc
settings_are (chunk_item f c h) s e = absurd cc
settings_are (disk_item d i) s e = absurd cc
settings_are (rebalance_item p) s e = absurd cc
settings_are (pending_item p) s e = absurd cc
settings_are (node_item n m) s e = absurd cc
settings_are (templates_item ts) s e = absurd cc
settings_are (marks_item f c m) s e = absurd cc

record_is : (said : Item) (k : Key) (v : List ℕ) (i : Item) → decoded_item k v ≡ Some i → i ≡ said → (item_key said ≡ k) × (value said ≡ v)
record_is said k v i e is = let d = item_codec.decoded k v i e in (ap item_key (sym is) ∙ d.1, ap value (sym is) ∙ sym d.2)

templates_record : (k : Key) (v : List ℕ) (ts : List Template) → entry_of_record templates_said (k, v) ≡ Some ts → (item_key (templates_item ts) ≡ k) × (value (templates_item ts) ≡ v)
unfolding entry_of_record
templates_record k v ts e = let b = bind_some templates_said (decoded_item k v) ts e in record_is (templates_item ts) k v b.0 b.1 (templates_are b.0 ts b.2)

settings_record : (k : Key) (v : List ℕ) (s : Settings) → entry_of_record settings_said (k, v) ≡ Some s → (item_key (settings_item s) ≡ k) × (value (settings_item s) ≡ v)
unfolding entry_of_record
settings_record k v s e = let b = bind_some settings_said (decoded_item k v) s e in record_is (settings_item s) k v b.0 b.1 (settings_are b.0 s b.2)

-- ---- what stands at each key then

at_templates : (t : Table) (ts : List Template) (v : List ℕ) (k : Key) → value (templates_item ts) ≡ v
    → template_value_at (record { templates = ts; settings = t.settings }) k ≡ cond (eqb 5 k.kind && (eqb 0 k.a && eqb 0 k.b)) (Some v) (template_value_at t k)
at_templates t ts v k e = elim (either (eqb k.kind 5)) [
  | inl five ↦
      let five_too : eqb 5 k.kind ≡ true = sym (turned 5 k.kind) ∙ five in
      elim (either (eqb k.a 0)) [
        | inl a ↦
            let a_too : eqb 0 k.a ≡ true = sym (turned 0 k.a) ∙ a in
            elim (either (eqb k.b 0)) [
              | inl b ↦ let b_too : eqb 0 k.b ≡ true = sym (turned 0 k.b) ∙ b in rw (five, five_too, a, a_too, b, b_too) (ap (λ (w : List ℕ). Some w) e)
              | inr b ↦ let b_too : eqb 0 k.b ≡ false = sym (turned 0 k.b) ∙ b in rw (five, five_too, a, a_too, b, b_too) refl
            ]
        | inr a ↦ let a_too : eqb 0 k.a ≡ false = sym (turned 0 k.a) ∙ a in rw (five, five_too, a, a_too) refl
      ]
  | inr other ↦ let other_too : eqb 5 k.kind ≡ false = sym (turned 5 k.kind) ∙ other in rw (other, other_too) refl
]

at_settings : (t : Table) (s : Settings) (v : List ℕ) (k : Key) → value (settings_item s) ≡ v
    → template_value_at (record { templates = t.templates; settings = s }) k ≡ cond (eqb 9 k.kind && (eqb 0 k.a && eqb 0 k.b)) (Some v) (template_value_at t k)
at_settings t s v k e = elim (either (eqb k.kind 5)) [
  | inl five ↦
      let not_nine : eqb 9 k.kind ≡ false = ap (eqb 9) (eqb-true k.kind 5 five) in
      rw (five, not_nine) refl
  | inr other ↦ elim (either (eqb k.kind 9)) [
    | inl nine ↦
        let nine_too : eqb 9 k.kind ≡ true = sym (turned 9 k.kind) ∙ nine in
        elim (either (eqb k.a 0)) [
          | inl a ↦
              let a_too : eqb 0 k.a ≡ true = sym (turned 0 k.a) ∙ a in
              elim (either (eqb k.b 0)) [
                | inl b ↦ let b_too : eqb 0 k.b ≡ true = sym (turned 0 k.b) ∙ b in rw (other, nine, nine_too, a, a_too, b, b_too) (ap (λ (w : List ℕ). Some w) e)
                | inr b ↦ let b_too : eqb 0 k.b ≡ false = sym (turned 0 k.b) ∙ b in rw (other, nine, nine_too, a, a_too, b, b_too) refl
              ]
          | inr a ↦ let a_too : eqb 0 k.a ≡ false = sym (turned 0 k.a) ∙ a in rw (other, nine, nine_too, a, a_too) refl
        ]
    | inr no_nine ↦ let nine_too : eqb 9 k.kind ≡ false = sym (turned 9 k.kind) ∙ no_nine in rw (other, no_nine, nine_too) refl
  ]
]

pub templates_put : (t new : Table) (j k : Key) (v : List ℕ) (ts : List Template) → entry_of_record templates_said (j, v) ≡ Some ts → new ≡ record { templates = ts; settings = t.settings }
    → template_value_at new k ≡ cond (is_same_key j k) (Some v) (template_value_at t k)
templates_put t new j k v ts read is =
    let r = templates_record j v ts read in
    rw (is, ← r.0) (at_templates t ts v k r.1)

pub settings_put : (t new : Table) (j k : Key) (v : List ℕ) (s : Settings) → entry_of_record settings_said (j, v) ≡ Some s → new ≡ record { templates = t.templates; settings = s }
    → template_value_at new k ≡ cond (is_same_key j k) (Some v) (template_value_at t k)
settings_put t new j k v s read is =
    let r = settings_record j v s read in
    rw (is, ← r.0) (at_settings t s v k r.1)

-- ---- by the templates themselves

pub templates_set : (t : Table) (ts : List Template) (k : Key) → template_value_at (record { templates = ts; settings = t.settings }) k ≡ cond (is_same_key (record { kind = 5; a = 0; b = 0 }) k) (Some (value (templates_item ts))) (template_value_at t k)
templates_set t ts k = at_templates t ts (value (templates_item ts)) k refl

pub settings_set : (t : Table) (s : Settings) (k : Key) → template_value_at (record { templates = t.templates; settings = s }) k ≡ cond (is_same_key (record { kind = 9; a = 0; b = 0 }) k) (Some (value (settings_item s))) (template_value_at t k)
settings_set t s k = at_settings t s (value (settings_item s)) k refl
