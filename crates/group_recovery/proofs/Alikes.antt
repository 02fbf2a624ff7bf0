-- Members of an id of which none clashes with another are disks of one group.
use Rattle.std.proofs.Common.{◌≡◌, inl, inr, ⊎_elim, ℕ, Bool, true, false, ◌&&◌, ◌||◌, not, List, [], ◌∷◌, refl, sym, ap, ◌∙◌, Option, Some, None, ◌==◌}
use Rattle.std.specs.Prelude.{find}
use Rattle.std.specs.Option.{option_map, option_or}
use Rattle.std.proofs.lemmas.Bool.{cond_both, cond-true, and_parts, eqb-true, eq-eqb, false≢true}
use Rattle.std.proofs.lemmas.Option.{same_Some, none-some}
use Rattle.asm_group.specs.Names.{is_same_name}
use Rattle.asm_group.specs.Shape.{Shape}
use Rattle.asm_group.specs.declared.GroupKind.{GroupKind}
use Rattle.asm_group.specs.declared.GroupKind.TheVariants.{External, Normal, High}
use Rattle.asm_formats.specs.Among.{IsAmong}
use Rattle.group_recovery.specs.Alike.{is_same_kind, is_same_shape, are_alike, clashes, first_stranger, shape_in}
use Rattle.group_recovery.specs.declared.finding.Headed.{Headed}

same_kind : (k l : GroupKind) → is_same_kind k l ≡ true → k ≡ l
same_kind External External e = refl
same_kind Normal Normal e = refl
same_kind High High e = refl
same_kind External Normal e = absurd (false≢true e)
same_kind External High e = absurd (false≢true e)
same_kind Normal External e = absurd (false≢true e)
same_kind Normal High e = absurd (false≢true e)
same_kind High External e = absurd (false≢true e)
same_kind High Normal e = absurd (false≢true e)

same_shape : (s t : Shape) → is_same_shape s t ≡ true → s ≡ t
same_shape s t e =
    let a = and_parts (is_same_kind s.kind t.kind) ((s.au == t.au) && ((s.sector == t.sector) && ((s.step == t.step) && (s.dir_blocks == t.dir_blocks)))) e in
    let b = and_parts (s.au == t.au) ((s.sector == t.sector) && ((s.step == t.step) && (s.dir_blocks == t.dir_blocks))) a.1 in
    let c = and_parts (s.sector == t.sector) ((s.step == t.step) && (s.dir_blocks == t.dir_blocks)) b.1 in
    let d = and_parts (s.step == t.step) (s.dir_blocks == t.dir_blocks) c.1 in
    λ i. record {
      kind = same_kind s.kind t.kind a.0 i;
      au = eqb-true s.au t.au b.0 i;
      sector = eqb-true s.sector t.sector c.0 i;
      step = eqb-true s.step t.step d.0 i;
      dir_blocks = eqb-true s.dir_blocks t.dir_blocks d.1 i;
    }

none_found : {A : Type 0} (p : A → Bool) (xs : List A) → find p xs ≡ None → (x : A) → IsAmong xs x → p x ≡ false
none_found p [] none x h = absurd h
none_found {A} p (y ∷ ys) none x h = cond_both (p y) (Some y) (find p ys) (λ (o : Option A). o ≡ None → p x ≡ false)
    (λ is e. absurd (none-some y (sym e)))
    (λ no e. ⊎_elim (λ (same : x ≡ y). ap p same ∙ no) (λ k. none_found p ys e x k) h) none

or_none : {A : Type 0} (a b : Option A) → option_or a b ≡ None → (a ≡ None) × (b ≡ None)
or_none None b e = (refl, e)
or_none (Some x) b e = absurd cc

map_none : {A B : Type 0} (f : A → B) (o : Option A) → option_map f o ≡ None → o ≡ None
map_none f None e = refl
map_none f (Some x) e = absurd cc

-- the first and the others of a list without a stranger
rest_alike : (id : ℕ) (h : Headed) (hs : List Headed) → first_stranger id (h ∷ hs) ≡ None → first_stranger id hs ≡ None
rest_alike id h hs e = cond_both (h.header.id == id) (option_or (option_map (λ (k : Headed). k.slot) (find (clashes h) hs)) (first_stranger id hs)) (first_stranger id hs) (λ (o : Option ℕ). o ≡ None → first_stranger id hs ≡ None)
    (λ is none. (or_none (option_map (λ (k : Headed). k.slot) (find (clashes h) hs)) (first_stranger id hs) none).1) (λ no none. none) e

none_clashes : (id : ℕ) (h : Headed) (hs : List Headed) → first_stranger id (h ∷ hs) ≡ None → h.header.id ≡ id → (k : Headed) → IsAmong hs k → clashes h k ≡ false
none_clashes id h hs e own k among =
    let split : option_or (option_map (λ (x : Headed). x.slot) (find (clashes h) hs)) (first_stranger id hs) ≡ None =
    sym (cond-true (h.header.id == id) (option_or (option_map (λ (x : Headed). x.slot) (find (clashes h) hs)) (first_stranger id hs)) (first_stranger id hs) (eq-eqb h.header.id id own)) ∙ e in
    none_found (clashes h) hs (map_none (λ (x : Headed). x.slot) (find (clashes h) hs) (or_none (option_map (λ (x : Headed). x.slot) (find (clashes h) hs)) (first_stranger id hs) split).0) k among

pub record IsFurther (h k : Headed) : Type 0 where
  pub shape : h.header.shape ≡ k.header.shape
  pub differs : k.header.number ≡ h.header.number → k.header.birth ≡ h.header.birth → ⊥

further : (h k : Headed) → clashes h k ≡ false → k.header.id ≡ h.header.id → IsFurther h k
further h k none own =
    let rest : (not (are_alike h.header k.header) || ((k.header.number == h.header.number) && (k.header.birth == h.header.birth))) ≡ false =
    sym (ap (λ (b : Bool). b && (not (are_alike h.header k.header) || ((k.header.number == h.header.number) && (k.header.birth == h.header.birth)))) (eq-eqb k.header.id h.header.id own)) ∙ none in
    let both = or_false (not (are_alike h.header k.header)) ((k.header.number == h.header.number) && (k.header.birth == h.header.birth)) rest in
    record {
      shape = same_shape h.header.shape k.header.shape (and_parts (is_same_name h.header.group k.header.group) (is_same_shape h.header.shape k.header.shape) (not_false (are_alike h.header k.header) both.0)).1;
      differs = λ number birth. false≢true (sym both.1 ∙ (λ i. eq-eqb k.header.number h.header.number number i && eq-eqb k.header.birth h.header.birth birth i));
    }
  where
    or_false : (a b : Bool) → (a || b) ≡ false → (a ≡ false) × (b ≡ false)
    or_false true b e = absurd (false≢true (sym e))
    or_false false b e = (refl, e)

    not_false : (a : Bool) → not a ≡ false → a ≡ true
    not_false true e = refl
    not_false false e = absurd (false≢true (sym e))

-- two members in different places are further disks of one group
pub further_in : (id : ℕ) (h : Headed) (hs : List Headed) → first_stranger id (h ∷ hs) ≡ None → h.header.id ≡ id → (k : Headed) → IsAmong hs k → k.header.id ≡ id → IsFurther h k
further_in id h hs e own k among same = further h k (none_clashes id h hs e own k among) (same ∙ sym own)

pub one_shape : (id : ℕ) (hs : List Headed) → first_stranger id hs ≡ None → (h k : Headed) → IsAmong hs h → IsAmong hs k → h.header.id ≡ id → k.header.id ≡ id → h.header.shape ≡ k.header.shape
one_shape id [] e h k one two own same = absurd one
one_shape id (x ∷ xs) e h k (inl a) (inl b) own same = ap (λ (y : Headed). y.header.shape) (a ∙ sym b)
one_shape id (x ∷ xs) e h k (inl a) (inr b) own same =
    ap (λ (y : Headed). y.header.shape) a ∙ (further_in id x xs e (ap (λ (y : Headed). y.header.id) (sym a) ∙ own) k b same).shape
one_shape id (x ∷ xs) e h k (inr a) (inl b) own same =
    sym (ap (λ (y : Headed). y.header.shape) b ∙ (further_in id x xs e (ap (λ (y : Headed). y.header.id) (sym b) ∙ same) h a own).shape)
one_shape id (x ∷ xs) e h k (inr a) (inr b) own same = one_shape id xs (rest_alike id x xs e) h k a b own same

pub alike_rest : (id : ℕ) (h : Headed) (hs : List Headed) → first_stranger id (h ∷ hs) ≡ None → first_stranger id hs ≡ None
alike_rest = rest_alike

-- two members with one number and birth are one
pub once : (id : ℕ) (hs : List Headed) → first_stranger id hs ≡ None → (h k : Headed) → IsAmong hs h → IsAmong hs k → h.header.id ≡ id → k.header.id ≡ id
    → h.header.number ≡ k.header.number → h.header.birth ≡ k.header.birth → h ≡ k
once id [] e h k one two own same number birth = absurd one
once id (x ∷ xs) e h k (inl a) (inl b) own same number birth = a ∙ sym b
once id (x ∷ xs) e h k (inl a) (inr b) own same number birth =
    absurd ((further_in id x xs e (ap (λ (y : Headed). y.header.id) (sym a) ∙ own) k b same).differs
    (sym number ∙ ap (λ (y : Headed). y.header.number) a) (sym birth ∙ ap (λ (y : Headed). y.header.birth) a))
once id (x ∷ xs) e h k (inr a) (inl b) own same number birth =
    absurd ((further_in id x xs e (ap (λ (y : Headed). y.header.id) (sym b) ∙ same) h a own).differs
    (number ∙ ap (λ (y : Headed). y.header.number) b) (birth ∙ ap (λ (y : Headed). y.header.birth) b))
once id (x ∷ xs) e h k (inr a) (inr b) own same number birth = once id xs (rest_alike id x xs e) h k a b own same number birth

-- the shape of the first member is that of one of them
pub shape_from : (id : ℕ) (hs : List Headed) (s : Shape) → shape_in id hs ≡ Some s → (h : Headed) × IsAmong hs h × (h.header.id ≡ id) × (h.header.shape ≡ s)
shape_from id [] s e = absurd cc
shape_from id (h ∷ hs) s e = cond_both (h.header.id == id) (Some h.header.shape) (shape_in id hs) (λ (o : Option Shape). o ≡ Some s → (k : Headed) × IsAmong (h ∷ hs) k × (k.header.id ≡ id) × (k.header.shape ≡ s))
    (λ is same. (h, inl refl, eqb-true h.header.id id is, same_Some h.header.shape s same))
    (λ no later. let k = shape_from id hs s later in (k.0, inr k.1, k.2, k.3)) e
