-- Trying one keyword after the other reads what the grammar has.
use Rattle.std.proofs.Common.{◌≡◌, ℕ, List, refl, sym, ap, ◌∙◌, Option, Some, None, ◌⊎◌, inl, inr}
use Rattle.std.specs.Prelude.{codes}
use Rattle.asm_grammar.specs.Word.{Keyword, fit}
use Rattle.asm_grammar.specs.Syntax.{SyntaxRule, One, Then, Either, Maybe, Value}
use Rattle.asm_grammar.specs.Reading.{Outcome, Took, Failed, ◌>>=◌, mapped, parse}
use Rattle.asm_group.specs.declared.Stripe.TheVariants as stripes
use Rattle.asm_group.specs.Names.{Bytes}
use Rattle.asm_world.specs.Grammar as g
use Rattle.asm_world.specs.Meaning.{attributes_of, behind, clause_of, drop_of, failgroups_of, is_said, online_of, redundancy_of, rename_of, resize_of, statement_of, stripe_of, words_of}
use Rattle.asm_world.specs.Statement as s
use Rattle.group_sql.specs.Choices.{choice, rest_at_missing, added_at, attributes_at, groups_and_attributes_at, groups_at, in_group_at, kind_at, new_disk_at, new_group_at, rebalance_at, redundancy_at, resized_at, size_at, stripe_at, words_at, check_at, clause_at, created_at, drop_disks_at, drop_failgroup_at, drop_group_at, dropped_at, forced_at, last_clause_at, later_clause_at, modified_at, offline_at, online_at, options_at, other_added_at, paths_at, renamed_at, resize_at, set_at, statement_at, template_with_words_at}
use Rattle.group_sql.specs.Rows as rows
use Rattle.group_sql.proofs.Parts.{this, other}

found_or_not : (o : Option (Unit {0} × List ℕ)) → (o ≡ None) ⊎ ((r : List ℕ) × (o ≡ Some (tt, r)))
found_or_not None = inl refl
found_or_not (Some (u, r)) = inr (r, refl)

fused : {V B C : Type 0} (f : B → C) (h : V → B) (o : Outcome V) → mapped f (mapped h o) ≡ mapped (λ v. f (h v)) o
fused f h (Took v r l) = refl
fused f h (Failed l) = refl

same : {V C : Type 0} (f h : V → C) → ((v : V) → f v ≡ h v) → (o : Outcome V) → mapped f o ≡ mapped h o
same f h e (Took v r l) = ap (λ z. Took z r l) (e v)
same f h e (Failed l) = refl

tie : {C : Type 0} (k : List ℕ) (a b : SyntaxRule) (s : Value (Either (Then (One (Keyword k)) a) b) → C) (f x : List ℕ → ℕ → Outcome C)
    → ((r : List ℕ) (l : ℕ) → mapped (λ v. s (inl (tt, v))) (parse a r l) ≡ f r l) → ((t : List ℕ) (l : ℕ) → mapped (λ w. s (inr w)) (parse b t l) ≡ x t l)
    → (text : List ℕ) (left : ℕ) → mapped s (parse (Either (Then (One (Keyword k)) a) b) text left) ≡ choice (fit (Keyword k) text) (λ r. f r left) (x text (rest_at_missing k text left))
tie k a b s f x h j text left = elim (found_or_not (fit (Keyword k) text)) [
  | inl e ↦ other k a b s text left e ∙ (j text (rest_at_missing k text left) ∙ sym (ap (λ o. choice o (λ r. f r left) (x text (rest_at_missing k text left))) e))
  | inr q ↦ this k a b s text left q.0 q.1 ∙ (h q.0 left ∙ sym (ap (λ o. choice o (λ r. f r left) (x text (rest_at_missing k text left))) q.1))
]

left_first : {V W C : Type 0} (s : ((Unit {0} ⊎ Unit {0}) × V) ⊎ W → C) (o : Outcome V) → mapped s (mapped (λ v. inl v) (mapped (λ v. (inl tt, v)) o)) ≡ mapped (λ v. s (inl (inl tt, v))) o
left_first s (Took v r l) = refl
left_first s (Failed l) = refl

left_second : {V W C : Type 0} (s : ((Unit {0} ⊎ Unit {0}) × V) ⊎ W → C) (o : Outcome V) → mapped s (mapped (λ v. inl v) (mapped (λ v. (inr tt, v)) o)) ≡ mapped (λ v. s (inl (inr tt, v))) o
left_second s (Took v r l) = refl
left_second s (Failed l) = refl

right_of : {V W C : Type 0} (s : V ⊎ W → C) (o : Outcome W) → mapped s (mapped (λ w. inr w) o) ≡ mapped (λ w. s (inr w)) o
right_of s (Took v r l) = refl
right_of s (Failed l) = refl

-- either of two keywords
tie_two : {C : Type 0} (k k' : List ℕ) (a b : SyntaxRule) (s : Value (Either (Then (Either (One (Keyword k)) (One (Keyword k'))) a) b) → C) (f x : List ℕ → ℕ → Outcome C)
    → ((r : List ℕ) (l : ℕ) → mapped (λ v. s (inl (inl tt, v))) (parse a r l) ≡ f r l) → ((r : List ℕ) (l : ℕ) → mapped (λ v. s (inl (inr tt, v))) (parse a r l) ≡ f r l)
    → ((t : List ℕ) (l : ℕ) → mapped (λ w. s (inr w)) (parse b t l) ≡ x t l)
    → (text : List ℕ) (left : ℕ) → mapped s (parse (Either (Then (Either (One (Keyword k)) (One (Keyword k'))) a) b) text left)
    ≡ choice (fit (Keyword k) text) (λ r. f r left) (choice (fit (Keyword k') text) (λ r. f r (rest_at_missing k text left)) (x text (rest_at_missing k' text (rest_at_missing k text left))))
tie_two k k' a b s f x h h' j text left = elim (found_or_not (fit (Keyword k) text)) [
  | inr q ↦ rw q.1 (left_first s (parse a q.0 left) ∙ h q.0 left)
  | inl e ↦ elim (found_or_not (fit (Keyword k') text)) [
    | inr q ↦ rw (e, q.1) (left_second s (parse a q.0 (rest_at_missing k text left)) ∙ h' q.0 (rest_at_missing k text left))
    | inl e' ↦ rw (e, e') (right_of s (parse b text (rest_at_missing k' text (rest_at_missing k text left))) ∙ j text (rest_at_missing k' text (rest_at_missing k text left)))
  ]
]

behind_word : {V C : Type 0} (s : Unit {0} × V → C) (o : Outcome V) → mapped s (mapped (λ v. (tt, v)) o) ≡ mapped (λ v. s (tt, v)) o
behind_word s (Took v r l) = refl
behind_word s (Failed l) = refl

last_word : {V C : Type 0} (s : Unit {0} × V → C) (f : List ℕ → ℕ → Outcome C) (p : List ℕ → ℕ → Outcome V) → ((r : List ℕ) (l : ℕ) → mapped (λ v. s (tt, v)) (p r l) ≡ f r l)
    → (o : Outcome (Unit {0})) → mapped s (o >>= λ v r l. mapped (λ w. (v, w)) (p r l)) ≡ (o >>= λ u r l. f r l)
last_word s f p h (Took u r l) = behind_word s (p r l) ∙ h r l
last_word s f p h (Failed l) = refl

last_tie : {C : Type 0} (k : List ℕ) (a : SyntaxRule) (s : Value (Then (One (Keyword k)) a) → C) (f : List ℕ → ℕ → Outcome C)
    → ((r : List ℕ) (l : ℕ) → mapped (λ v. s (tt, v)) (parse a r l) ≡ f r l)
    → (text : List ℕ) (left : ℕ) → mapped s (parse (Then (One (Keyword k)) a) text left) ≡ (parse (One (Keyword k)) text left >>= λ u r l. f r l)
last_tie k a s f h text left = last_word s f (λ r l. parse a r l) h (parse (One (Keyword k)) text left)

resize_same : (v : Value rows.resize_rest) → resize_of (tt, v) ≡ rows.resize_rest_of v
resize_same (inl every, (size, rebalance)) = refl
resize_same (inr (disk, name), (size, rebalance)) = refl

online_same : (v : Value rows.online_rest) → online_of (tt, v) ≡ rows.online_rest_of v
online_same (inl every, wait) = refl
online_same (inr disks, wait) = refl

rename_same : (v : Value rows.rename_rest) → rename_of (tt, v) ≡ rows.rename_rest_of v
rename_same (inl directory, (old, (to, new))) = refl
rename_same (inr alias, (old, (to, new))) = refl

created_same : (v : Value rows.created) → statement_of (inl (tt, v)) ≡ rows.created_of v
created_same (inl (word, (path, (sign, size)))) = refl
created_same (inr (word, (name, (kind, (groups, attributes))))) = refl

drop_group_same : (v : Value g.drop_group) → statement_of (inr (inl (tt, v))) ≡ rows.drop_group_of v
drop_group_same (word, (name, None)) = refl
drop_group_same (word, (name, Some (inl including, contents))) = refl
drop_group_same (word, (name, Some (inr excluding, contents))) = refl

clause_behind : (name : Bytes) (o : Outcome (Value g.clause)) → mapped (λ (v : Bytes × Value g.clause). statement_of (inr (inr (tt, (tt, v))))) (mapped (λ w. (name, w)) o) ≡ mapped (λ c. s.Alter name c) (mapped clause_of o)
clause_behind name (Took v r l) = refl
clause_behind name (Failed l) = refl

-- PARTS one behind the other

behind_first : {V W C : Type 0} (s : V × W → C) (f : W → C) (v : V) (o : Outcome W) → ((w : W) → s (v, w) ≡ f w) → mapped s (mapped (λ w. (v, w)) o) ≡ mapped f o
behind_first s f v (Took w r l) h = ap (λ z. Took z r l) (h w)
behind_first s f v (Failed l) h = refl

more_by : {A V W C : Type 0} (sa : V → A) (s : V × W → C) (f : A → W → C) → ((v : V) (w : W) → s (v, w) ≡ f (sa v) w) → (p : List ℕ → ℕ → Outcome W) (k : A → List ℕ → ℕ → Outcome C)
    → ((x : A) (r : List ℕ) (l : ℕ) → mapped (f x) (p r l) ≡ k x r l) → (o : Outcome V) → mapped s (o >>= λ v r l. mapped (λ w. (v, w)) (p r l)) ≡ (mapped sa o >>= λ x r l. k x r l)
more_by sa s f h p k j (Took v r l) = behind_first s (f (sa v)) v (p r l) (λ w. h v w) ∙ j (sa v) r l
more_by sa s f h p k j (Failed l) = refl

then_more : {A C : Type 0} (a b : SyntaxRule) (sa : Value a → A) (s : Value (Then a b) → C) (f : A → Value b → C) → ((v : Value a) (w : Value b) → s (v, w) ≡ f (sa v) w)
    → (k : A → List ℕ → ℕ → Outcome C) → ((x : A) (r : List ℕ) (l : ℕ) → mapped (f x) (parse b r l) ≡ k x r l)
    → (text : List ℕ) (left : ℕ) → mapped s (parse (Then a b) text left) ≡ (mapped sa (parse a text left) >>= λ x r l. k x r l)
then_more a b sa s f h k j text left = more_by sa s f h (λ r l. parse b r l) k j (parse a text left)

word_by : {V W C : Type 0} (s : V × W → C) (p : List ℕ → ℕ → Outcome W) (k : V → List ℕ → ℕ → Outcome C)
    → ((v : V) (r : List ℕ) (l : ℕ) → mapped (λ w. s (v, w)) (p r l) ≡ k v r l) → (o : Outcome V) → mapped s (o >>= λ v r l. mapped (λ w. (v, w)) (p r l)) ≡ (o >>= λ v r l. k v r l)
word_by s p k j (Took v r l) = behind_first s (λ w. s (v, w)) v (p r l) (λ w. refl) ∙ j v r l
word_by s p k j (Failed l) = refl

word_more : {C : Type 0} (a b : SyntaxRule) (s : Value (Then a b) → C) (k : Value a → List ℕ → ℕ → Outcome C) → ((v : Value a) (r : List ℕ) (l : ℕ) → mapped (λ w. s (v, w)) (parse b r l) ≡ k v r l)
    → (text : List ℕ) (left : ℕ) → mapped s (parse (Then a b) text left) ≡ (parse a text left >>= λ v r l. k v r l)
word_more a b s k j text left = word_by s (λ r l. parse b r l) k j (parse a text left)

-- TEMPLATES

redundancy_first : (v : Value g.redundancy) (o : Outcome (Option (Value g.stripe))) → mapped words_of (mapped (λ z. inl z) (mapped (λ w. (v, w)) o)) ≡ mapped (rows.with_redundancy (redundancy_of v)) o
redundancy_first v (Took w r l) = refl
redundancy_first v (Failed l) = refl

stripe_first : (v : Value g.stripe) (o : Outcome (Option (Value g.redundancy))) → mapped words_of (mapped (λ z. inr z) (mapped (λ w. (v, w)) o)) ≡ mapped (rows.with_stripe (stripe_of v)) o
stripe_first v (Took w r l) = refl
stripe_first v (Failed l) = refl

fine_first : (o : Outcome (Unit {0})) → mapped words_of (mapped (λ z. inr z) (mapped {B = Value g.stripe} (λ u. inr u) o >>= λ v r l. mapped (λ w. (v, w)) (parse (Maybe g.redundancy) r l)))
    ≡ (o >>= λ u r l. mapped (rows.with_stripe stripes.Fine) (parse (Maybe g.redundancy) r l))
fine_first (Took u r l) = stripe_first (inr u) (parse (Maybe g.redundancy) r l)
fine_first (Failed l) = refl

words_is : (text : List ℕ) (left : ℕ) → mapped words_of (parse g.template_words text left) ≡ words_at text left
unfolding words_at stripe_at redundancy_at
words_is text left = elim (found_or_not (fit (Keyword (codes "UNPROTECTED")) text)) [
  | inr q ↦ rw q.1 (redundancy_first (inl tt) (parse (Maybe g.stripe) q.0 left))
  | inl a ↦ elim (found_or_not (fit (Keyword (codes "MIRROR")) text)) [
    | inr q ↦ rw (a, q.1) (redundancy_first (inr (inl tt)) (parse (Maybe g.stripe) q.0 (rest_at_missing (codes "UNPROTECTED") text left)))
    | inl b ↦ elim (found_or_not (fit (Keyword (codes "HIGH")) text)) [
      | inr q ↦ rw (a, b, q.1) (redundancy_first (inr (inr tt)) (parse (Maybe g.stripe) q.0 (rest_at_missing (codes "MIRROR") text (rest_at_missing (codes "UNPROTECTED") text left))))
      | inl c ↦ elim (found_or_not (fit (Keyword (codes "COARSE")) text)) [
        | inr q ↦ rw (a, b, c, q.1) (stripe_first (inl tt) (parse (Maybe g.redundancy) q.0 (rest_at_missing (codes "HIGH") text (rest_at_missing (codes "MIRROR") text (rest_at_missing (codes "UNPROTECTED") text left)))))
        | inl d ↦ rw (a, b, c, d) (fine_first (parse (g.key (codes "FINE")) text (rest_at_missing (codes "COARSE") text (rest_at_missing (codes "HIGH") text (rest_at_missing (codes "MIRROR") text (rest_at_missing (codes "UNPROTECTED") text left))))))
      ]
    ]
  ]
]

template_is : (text : List ℕ) (left : ℕ) → mapped rows.template_of (parse rows.template_rest text left) ≡ template_with_words_at text left
unfolding template_with_words_at
template_is = word_more g.name (Then (g.key (codes "ATTRIBUTES")) (Then g.opening (Then g.template_words g.closing))) rows.template_of
    (λ name r l. parse (g.key (codes "ATTRIBUTES")) r l >>= λ u r m. parse g.opening r m >>= λ u r n. words_at r n >>= λ words r o. mapped (λ u. (name, words)) (parse g.closing r o))
    (λ name. word_more (g.key (codes "ATTRIBUTES")) (Then g.opening (Then g.template_words g.closing)) (λ v. rows.template_of (name, v))
    (λ u r m. parse g.opening r m >>= λ u r n. words_at r n >>= λ words r o. mapped (λ u. (name, words)) (parse g.closing r o))
    (λ u. word_more g.opening (Then g.template_words g.closing) (λ v. rows.template_of (name, (u, v)))
    (λ u r n. words_at r n >>= λ words r o. mapped (λ u. (name, words)) (parse g.closing r o))
    (λ w r n. then_more g.template_words g.closing words_of (λ v. rows.template_of (name, (u, (w, v)))) (λ words v. (name, words)) (λ v x. refl) (λ words r o. mapped (λ u. (name, words)) (parse g.closing r o)) (λ x r o. refl) r n
    ∙ ap (λ z. z >>= λ words r o. mapped (λ u. (name, words)) (parse g.closing r o)) (words_is r n))))

modified_is : (text : List ℕ) (left : ℕ) → mapped rows.modified_of (parse g.template text left) ≡ modified_at text left
unfolding modified_at
modified_is = last_tie (codes "TEMPLATE") rows.template_rest rows.modified_of (λ r l. mapped (λ p. s.ModifyTemplate p.0 p.1) (template_with_words_at r l))
    (λ r l. sym (fused (λ (p : Bytes × s.TemplateWords). s.ModifyTemplate p.0 p.1) rows.template_of (parse rows.template_rest r l)) ∙ ap (λ o. mapped (λ (p : Bytes × s.TemplateWords). s.ModifyTemplate p.0 p.1) o) (template_is r l))

-- DISKS AND SIZES

drop_failgroup_is : (text : List ℕ) (left : ℕ) → mapped rows.drop_failgroup_of (parse rows.drop_failgroup text left) ≡ drop_failgroup_at text left
unfolding drop_failgroup_at in_group_at forced_at rebalance_at
drop_failgroup_is = then_more g.in_failgroup (Then g.forced (Maybe g.rebalance)) rows.in_group_of rows.drop_failgroup_of
    (λ group v. s.DropFailgroup group.0 group.1 (is_said v.0) (rows.maybe_rebalance_of v.1)) (λ v w. refl)
    (λ group r l. forced_at r l >>= λ force r m. mapped (λ rebalance. s.DropFailgroup group.0 group.1 force rebalance) (rebalance_at r m))
    (λ group. then_more g.forced (Maybe g.rebalance) is_said (λ v. s.DropFailgroup group.0 group.1 (is_said v.0) (rows.maybe_rebalance_of v.1))
    (λ force v. s.DropFailgroup group.0 group.1 force (rows.maybe_rebalance_of v)) (λ v w. refl)
    (λ force r m. mapped (λ rebalance. s.DropFailgroup group.0 group.1 force rebalance) (rebalance_at r m))
    (λ force r m. sym (fused (λ rebalance. s.DropFailgroup group.0 group.1 force rebalance) rows.maybe_rebalance_of (parse (Maybe g.rebalance) r m))))

resized_is : (text : List ℕ) (left : ℕ) → mapped rows.resized_of (parse rows.size_with_rebalance text left) ≡ resized_at text left
unfolding resized_at size_at rebalance_at
resized_is = then_more rows.maybe_size (Maybe g.rebalance) behind rows.resized_of (λ size v. (size, rows.maybe_rebalance_of v)) (λ v w. refl)
    (λ size r l. mapped (λ rebalance. (size, rebalance)) (rebalance_at r l))
    (λ size r l. sym (fused (λ rebalance. (size, rebalance)) rows.maybe_rebalance_of (parse (Maybe g.rebalance) r l)))

all_first : (o : Outcome (Value rows.size_with_rebalance)) → mapped rows.resize_rest_of (mapped (λ w. (inl tt, w)) o) ≡ mapped (λ p. s.ResizeAll p.0 p.1) (mapped rows.resized_of o)
all_first (Took w r l) = refl
all_first (Failed l) = refl

disk_first : (name : Bytes) (o : Outcome (Value rows.size_with_rebalance)) → mapped rows.resize_rest_of (mapped (λ w. (inr (tt, name), w)) o) ≡ mapped (λ p. s.ResizeDisk name p.0 p.1) (mapped rows.resized_of o)
disk_first name (Took w r l) = refl
disk_first name (Failed l) = refl

name_first : (o : Outcome Bytes) → mapped rows.resize_rest_of (mapped (λ z. inr z) (mapped (λ n. (tt, n)) o) >>= λ v r l. mapped (λ w. (v, w)) (parse rows.size_with_rebalance r l))
    ≡ (o >>= λ name r m. mapped (λ p. s.ResizeDisk name p.0 p.1) (resized_at r m))
name_first (Took name r l) = disk_first name (parse rows.size_with_rebalance r l) ∙ ap (λ z. mapped (λ p. s.ResizeDisk name p.0 p.1) z) (resized_is r l)
name_first (Failed l) = refl

disk_behind : (o : Outcome (Unit {0})) → mapped rows.resize_rest_of (mapped (λ z. inr z) (o >>= λ u r l. mapped (λ n. (u, n)) (parse g.name r l)) >>= λ v r l. mapped (λ w. (v, w)) (parse rows.size_with_rebalance r l))
    ≡ (o >>= λ u r l. parse g.name r l >>= λ name r m. mapped (λ p. s.ResizeDisk name p.0 p.1) (resized_at r m))
disk_behind (Took u r l) = name_first (parse g.name r l)
disk_behind (Failed l) = refl

resize_is : (text : List ℕ) (left : ℕ) → mapped rows.resize_rest_of (parse rows.resize_rest text left) ≡ resize_at text left
unfolding resize_at
resize_is text left = elim (found_or_not (fit (Keyword (codes "ALL")) text)) [
  | inr q ↦ rw q.1 (all_first (parse rows.size_with_rebalance q.0 left) ∙ ap (λ z. mapped (λ p. s.ResizeAll p.0 p.1) z) (resized_is q.0 left))
  | inl e ↦ rw e (disk_behind (parse (g.key (codes "DISK")) text (rest_at_missing (codes "ALL") text left)))
]

-- NEW GROUPS

groups_and_attributes_is : (text : List ℕ) (left : ℕ) → mapped rows.groups_and_attributes_of (parse rows.groups_and_attributes text left) ≡ groups_and_attributes_at text left
unfolding groups_and_attributes_at groups_at attributes_at
groups_and_attributes_is = then_more g.failgroups rows.maybe_attributes failgroups_of rows.groups_and_attributes_of (λ groups v. (groups, attributes_of v)) (λ v w. refl)
    (λ groups r l. mapped (λ attributes. (groups, attributes)) (attributes_at r l))
    (λ groups r l. sym (fused (λ attributes. (groups, attributes)) attributes_of (parse rows.maybe_attributes r l)))

new_group_is : (text : List ℕ) (left : ℕ) → mapped rows.group_rest_of (parse rows.group_rest text left) ≡ new_group_at text left
unfolding new_group_at kind_at
new_group_is = word_more g.name (Then rows.maybe_redundancy rows.groups_and_attributes) rows.group_rest_of
    (λ name r l. kind_at r l >>= λ kind r m. mapped (λ p. s.CreateGroup name kind p.0 p.1) (groups_and_attributes_at r m))
    (λ name. then_more rows.maybe_redundancy rows.groups_and_attributes rows.maybe_redundancy_of (λ v. rows.group_rest_of (name, v))
    (λ kind v. s.CreateGroup name kind (failgroups_of v.0) (attributes_of v.1)) (λ v w. refl)
    (λ kind r m. mapped (λ p. s.CreateGroup name kind p.0 p.1) (groups_and_attributes_at r m))
    (λ kind r m. sym (fused (λ (p : List s.NewFailgroup × List s.Attribute). s.CreateGroup name kind p.0 p.1) rows.groups_and_attributes_of (parse rows.groups_and_attributes r m))
    ∙ ap (λ z. mapped (λ (p : List s.NewFailgroup × List s.Attribute). s.CreateGroup name kind p.0 p.1) z) (groups_and_attributes_is r m)))

created_is : (text : List ℕ) (left : ℕ) → mapped rows.created_of (parse rows.created text left) ≡ created_at text left
unfolding created_at new_disk_at
created_is = tie (codes "DISK") rows.disk_rest (Then (One (Keyword (codes "DISKGROUP"))) rows.group_rest) rows.created_of new_disk_at
    (λ t l. parse (g.key (codes "DISKGROUP")) t l >>= λ u rest m. new_group_at rest m) (λ r l. refl)
    (last_tie (codes "DISKGROUP") rows.group_rest (λ v. rows.created_of (inr v)) new_group_at new_group_is)

named : (o : Outcome Bytes) → mapped (λ (v : Bytes × Value g.clause). statement_of (inr (inr (tt, (tt, v))))) (o >>= λ v r l. mapped (λ w. (v, w)) (parse g.clause r l))
    ≡ (o >>= λ group r q. mapped (λ c. s.Alter group c) (mapped clause_of (parse g.clause r q)))
named (Took name r l) = clause_behind name (parse g.clause r l)
named (Failed l) = refl

pub other_added_is : (text : List ℕ) (left : ℕ) → mapped rows.other_added_of (parse rows.other_added text left) ≡ other_added_at text left
unfolding other_added_at paths_at
other_added_is = (tie (codes "TEMPLATE") rows.template_rest (Either (Then (One (Keyword (codes "DIRECTORY"))) g.path) (Then (One (Keyword (codes "ALIAS"))) (rows.two_paths (codes "FOR")))) (λ v. rows.other_added_of v) (λ r0 l0. mapped (λ p. s.AddTemplate p.0 p.1) (template_with_words_at r0 l0)) (λ t0 l0. (choice (fit (Keyword (codes "DIRECTORY")) t0) (λ r10. mapped (λ p. s.AddDirectory p) (parse g.path r10 l0)) (parse (One (Keyword (codes "ALIAS"))) t0 (rest_at_missing (codes "DIRECTORY") t0 l0) >>= λ u rest n. mapped (λ p. s.AddAlias p.0 p.1) (paths_at (codes "FOR") rest n)))) (λ r0 l0. (sym (fused (λ (p : Bytes × s.TemplateWords). s.AddTemplate p.0 p.1) rows.template_of (parse rows.template_rest r0 l0)) ∙ ap (λ z. mapped (λ (p : Bytes × s.TemplateWords). s.AddTemplate p.0 p.1) z) (template_is r0 l0))) (tie (codes "DIRECTORY") g.path (Then (One (Keyword (codes "ALIAS"))) (rows.two_paths (codes "FOR"))) (λ v. rows.other_added_of (inr v)) (λ r1 l1. mapped (λ p. s.AddDirectory p) (parse g.path r1 l1)) (λ t1 l1. (parse (One (Keyword (codes "ALIAS"))) t1 l1 >>= λ u rest n. mapped (λ p. s.AddAlias p.0 p.1) (paths_at (codes "FOR") rest n))) (λ r1 l1. refl) (last_tie (codes "ALIAS") (rows.two_paths (codes "FOR")) (λ v. rows.other_added_of (inr (inr v))) (λ r l. mapped (λ p. s.AddAlias p.0 p.1) (paths_at (codes "FOR") r l)) (λ r l. sym (fused (λ (p : Bytes × Bytes). s.AddAlias p.0 p.1) (rows.two_paths_of (codes "FOR")) (parse (rows.two_paths (codes "FOR")) r l))))))

pub dropped_is : (text : List ℕ) (left : ℕ) → mapped drop_of (parse g.dropped text left) ≡ dropped_at text left
unfolding dropped_at drop_disks_at
dropped_is = (tie (codes "DISK") rows.drop_disks (Either (Then (One (Keyword (codes "DISKS"))) rows.drop_failgroup) (Either (Then (One (Keyword (codes "TEMPLATE"))) g.name) (Either (Then (One (Keyword (codes "DIRECTORY"))) g.path) (Either (Then (One (Keyword (codes "ALIAS"))) g.path) (Then (One (Keyword (codes "FILE"))) g.path))))) (λ v. drop_of v) (λ r0 l0. drop_disks_at r0 l0) (λ t0 l0. (choice (fit (Keyword (codes "DISKS")) t0) (λ r10. drop_failgroup_at r10 l0) (choice (fit (Keyword (codes "TEMPLATE")) t0) (λ r11. mapped (λ p. s.DropTemplate p) (parse g.name r11 (rest_at_missing (codes "DISKS") t0 l0))) (choice (fit (Keyword (codes "DIRECTORY")) t0) (λ r12. mapped (λ p. s.DropDirectory p) (parse g.path r12 (rest_at_missing (codes "TEMPLATE") t0 (rest_at_missing (codes "DISKS") t0 l0)))) (choice (fit (Keyword (codes "ALIAS")) t0) (λ r13. mapped (λ p. s.DropAlias p) (parse g.path r13 (rest_at_missing (codes "DIRECTORY") t0 (rest_at_missing (codes "TEMPLATE") t0 (rest_at_missing (codes "DISKS") t0 l0))))) (parse (One (Keyword (codes "FILE"))) t0 (rest_at_missing (codes "ALIAS") t0 (rest_at_missing (codes "DIRECTORY") t0 (rest_at_missing (codes "TEMPLATE") t0 (rest_at_missing (codes "DISKS") t0 l0)))) >>= λ u rest n. mapped (λ p. s.DropFile p) (parse g.path rest n))))))) (λ r0 l0. refl) (tie (codes "DISKS") rows.drop_failgroup (Either (Then (One (Keyword (codes "TEMPLATE"))) g.name) (Either (Then (One (Keyword (codes "DIRECTORY"))) g.path) (Either (Then (One (Keyword (codes "ALIAS"))) g.path) (Then (One (Keyword (codes "FILE"))) g.path)))) (λ v. drop_of (inr v)) (λ r1 l1. drop_failgroup_at r1 l1) (λ t1 l1. (choice (fit (Keyword (codes "TEMPLATE")) t1) (λ r10. mapped (λ p. s.DropTemplate p) (parse g.name r10 l1)) (choice (fit (Keyword (codes "DIRECTORY")) t1) (λ r11. mapped (λ p. s.DropDirectory p) (parse g.path r11 (rest_at_missing (codes "TEMPLATE") t1 l1))) (choice (fit (Keyword (codes "ALIAS")) t1) (λ r12. mapped (λ p. s.DropAlias p) (parse g.path r12 (rest_at_missing (codes "DIRECTORY") t1 (rest_at_missing (codes "TEMPLATE") t1 l1)))) (parse (One (Keyword (codes "FILE"))) t1 (rest_at_missing (codes "ALIAS") t1 (rest_at_missing (codes "DIRECTORY") t1 (rest_at_missing (codes "TEMPLATE") t1 l1))) >>= λ u rest n. mapped (λ p. s.DropFile p) (parse g.path rest n)))))) (λ r1 l1. drop_failgroup_is r1 l1) (tie (codes "TEMPLATE") g.name (Either (Then (One (Keyword (codes "DIRECTORY"))) g.path) (Either (Then (One (Keyword (codes "ALIAS"))) g.path) (Then (One (Keyword (codes "FILE"))) g.path))) (λ v. drop_of (inr (inr v))) (λ r2 l2. mapped (λ p. s.DropTemplate p) (parse g.name r2 l2)) (λ t2 l2. (choice (fit (Keyword (codes "DIRECTORY")) t2) (λ r10. mapped (λ p. s.DropDirectory p) (parse g.path r10 l2)) (choice (fit (Keyword (codes "ALIAS")) t2) (λ r11. mapped (λ p. s.DropAlias p) (parse g.path r11 (rest_at_missing (codes "DIRECTORY") t2 l2))) (parse (One (Keyword (codes "FILE"))) t2 (rest_at_missing (codes "ALIAS") t2 (rest_at_missing (codes "DIRECTORY") t2 l2)) >>= λ u rest n. mapped (λ p. s.DropFile p) (parse g.path rest n))))) (λ r2 l2. refl) (tie (codes "DIRECTORY") g.path (Either (Then (One (Keyword (codes "ALIAS"))) g.path) (Then (One (Keyword (codes "FILE"))) g.path)) (λ v. drop_of (inr (inr (inr v)))) (λ r3 l3. mapped (λ p. s.DropDirectory p) (parse g.path r3 l3)) (λ t3 l3. (choice (fit (Keyword (codes "ALIAS")) t3) (λ r10. mapped (λ p. s.DropAlias p) (parse g.path r10 l3)) (parse (One (Keyword (codes "FILE"))) t3 (rest_at_missing (codes "ALIAS") t3 l3) >>= λ u rest n. mapped (λ p. s.DropFile p) (parse g.path rest n)))) (λ r3 l3. refl) (tie (codes "ALIAS") g.path (Then (One (Keyword (codes "FILE"))) g.path) (λ v. drop_of (inr (inr (inr (inr v))))) (λ r4 l4. mapped (λ p. s.DropAlias p) (parse g.path r4 l4)) (λ t4 l4. (parse (One (Keyword (codes "FILE"))) t4 l4 >>= λ u rest n. mapped (λ p. s.DropFile p) (parse g.path rest n))) (λ r4 l4. refl) (last_tie (codes "FILE") g.path (λ v. drop_of (inr (inr (inr (inr (inr v)))))) (λ r l. mapped (λ p. s.DropFile p) (parse g.path r l)) (λ r l. refl)))))))

last_clause_is : (text : List ℕ) (left : ℕ) → mapped (λ w. clause_of (inr (inr (inr (inr (inr (inr (inr (inr (inr w)))))))))) (parse (Either (Then (One (Keyword (codes "OFFLINE"))) rows.offline_rest) (Either (Then (Either (One (Keyword (codes "MODIFY"))) (One (Keyword (codes "ALTER")))) g.template) (Either (Then (One (Keyword (codes "RENAME"))) rows.rename_rest) (Then (One (Keyword (codes "SET"))) rows.attribute_rest)))) text left) ≡ last_clause_at text left
unfolding last_clause_at offline_at renamed_at set_at
last_clause_is = (tie (codes "OFFLINE") rows.offline_rest (Either (Then (Either (One (Keyword (codes "MODIFY"))) (One (Keyword (codes "ALTER")))) g.template) (Either (Then (One (Keyword (codes "RENAME"))) rows.rename_rest) (Then (One (Keyword (codes "SET"))) rows.attribute_rest))) (λ v. clause_of (inr (inr (inr (inr (inr (inr (inr (inr (inr v)))))))))) (λ r0 l0. offline_at r0 l0) (λ t0 l0. (choice (fit (Keyword (codes "MODIFY")) t0) (λ r10. modified_at r10 l0) (choice (fit (Keyword (codes "ALTER")) t0) (λ r10. modified_at r10 (rest_at_missing (codes "MODIFY") t0 l0)) (choice (fit (Keyword (codes "RENAME")) t0) (λ r11. renamed_at r11 (rest_at_missing (codes "ALTER") t0 (rest_at_missing (codes "MODIFY") t0 l0))) (parse (One (Keyword (codes "SET"))) t0 (rest_at_missing (codes "RENAME") t0 (rest_at_missing (codes "ALTER") t0 (rest_at_missing (codes "MODIFY") t0 l0))) >>= λ u rest n. set_at rest n))))) (λ r0 l0. refl) (tie_two (codes "MODIFY") (codes "ALTER") g.template (Either (Then (One (Keyword (codes "RENAME"))) rows.rename_rest) (Then (One (Keyword (codes "SET"))) rows.attribute_rest)) (λ v. clause_of (inr (inr (inr (inr (inr (inr (inr (inr (inr (inr v))))))))))) (λ r1 l1. modified_at r1 l1) (λ t1 l1. (choice (fit (Keyword (codes "RENAME")) t1) (λ r10. renamed_at r10 l1) (parse (One (Keyword (codes "SET"))) t1 (rest_at_missing (codes "RENAME") t1 l1) >>= λ u rest n. set_at rest n))) (λ r1 l1. modified_is r1 l1) (λ r1 l1. modified_is r1 l1) (tie (codes "RENAME") rows.rename_rest (Then (One (Keyword (codes "SET"))) rows.attribute_rest) (λ v. clause_of (inr (inr (inr (inr (inr (inr (inr (inr (inr (inr (inr v)))))))))))) (λ r2 l2. renamed_at r2 l2) (λ t2 l2. (parse (One (Keyword (codes "SET"))) t2 l2 >>= λ u rest n. set_at rest n)) (λ r2 l2. same _ rows.rename_rest_of rename_same (parse rows.rename_rest r2 l2)) (last_tie (codes "SET") rows.attribute_rest (λ v. clause_of (inr (inr (inr (inr (inr (inr (inr (inr (inr (inr (inr (inr v))))))))))))) (λ r l. set_at r l) (λ r l. refl)))))

later_clause_is : (text : List ℕ) (left : ℕ) → mapped (λ w. clause_of (inr (inr (inr (inr (inr w)))))) (parse (Either (Then (One (Keyword (codes "CHECK"))) rows.check_rest) (Either (Then (One (Keyword (codes "MOUNT"))) g.forced) (Either (Then (One (Keyword (codes "DISMOUNT"))) g.forced) (Either (Then (One (Keyword (codes "ONLINE"))) rows.online_rest) (Either (Then (One (Keyword (codes "OFFLINE"))) rows.offline_rest) (Either (Then (Either (One (Keyword (codes "MODIFY"))) (One (Keyword (codes "ALTER")))) g.template) (Either (Then (One (Keyword (codes "RENAME"))) rows.rename_rest) (Then (One (Keyword (codes "SET"))) rows.attribute_rest)))))))) text left) ≡ later_clause_at text left
unfolding later_clause_at check_at forced_at online_at
later_clause_is = (tie (codes "CHECK") rows.check_rest (Either (Then (One (Keyword (codes "MOUNT"))) g.forced) (Either (Then (One (Keyword (codes "DISMOUNT"))) g.forced) (Either (Then (One (Keyword (codes "ONLINE"))) rows.online_rest) (Either (Then (One (Keyword (codes "OFFLINE"))) rows.offline_rest) (Either (Then (Either (One (Keyword (codes "MODIFY"))) (One (Keyword (codes "ALTER")))) g.template) (Either (Then (One (Keyword (codes "RENAME"))) rows.rename_rest) (Then (One (Keyword (codes "SET"))) rows.attribute_rest))))))) (λ v. clause_of (inr (inr (inr (inr (inr v)))))) (λ r0 l0. check_at r0 l0) (λ t0 l0. (choice (fit (Keyword (codes "MOUNT")) t0) (λ r10. mapped (λ f. s.Mount f) (forced_at r10 l0)) (choice (fit (Keyword (codes "DISMOUNT")) t0) (λ r11. mapped (λ f. s.Dismount f) (forced_at r11 (rest_at_missing (codes "MOUNT") t0 l0))) (choice (fit (Keyword (codes "ONLINE")) t0) (λ r12. online_at r12 (rest_at_missing (codes "DISMOUNT") t0 (rest_at_missing (codes "MOUNT") t0 l0))) (last_clause_at t0 (rest_at_missing (codes "ONLINE") t0 (rest_at_missing (codes "DISMOUNT") t0 (rest_at_missing (codes "MOUNT") t0 l0)))))))) (λ r0 l0. refl) (tie (codes "MOUNT") g.forced (Either (Then (One (Keyword (codes "DISMOUNT"))) g.forced) (Either (Then (One (Keyword (codes "ONLINE"))) rows.online_rest) (Either (Then (One (Keyword (codes "OFFLINE"))) rows.offline_rest) (Either (Then (Either (One (Keyword (codes "MODIFY"))) (One (Keyword (codes "ALTER")))) g.template) (Either (Then (One (Keyword (codes "RENAME"))) rows.rename_rest) (Then (One (Keyword (codes "SET"))) rows.attribute_rest)))))) (λ v. clause_of (inr (inr (inr (inr (inr (inr v))))))) (λ r1 l1. mapped (λ f. s.Mount f) (forced_at r1 l1)) (λ t1 l1. (choice (fit (Keyword (codes "DISMOUNT")) t1) (λ r10. mapped (λ f. s.Dismount f) (forced_at r10 l1)) (choice (fit (Keyword (codes "ONLINE")) t1) (λ r11. online_at r11 (rest_at_missing (codes "DISMOUNT") t1 l1)) (last_clause_at t1 (rest_at_missing (codes "ONLINE") t1 (rest_at_missing (codes "DISMOUNT") t1 l1)))))) (λ r1 l1. sym (fused (λ f. s.Mount f) is_said (parse g.forced r1 l1))) (tie (codes "DISMOUNT") g.forced (Either (Then (One (Keyword (codes "ONLINE"))) rows.online_rest) (Either (Then (One (Keyword (codes "OFFLINE"))) rows.offline_rest) (Either (Then (Either (One (Keyword (codes "MODIFY"))) (One (Keyword (codes "ALTER")))) g.template) (Either (Then (One (Keyword (codes "RENAME"))) rows.rename_rest) (Then (One (Keyword (codes "SET"))) rows.attribute_rest))))) (λ v. clause_of (inr (inr (inr (inr (inr (inr (inr v)))))))) (λ r2 l2. mapped (λ f. s.Dismount f) (forced_at r2 l2)) (λ t2 l2. (choice (fit (Keyword (codes "ONLINE")) t2) (λ r10. online_at r10 l2) (last_clause_at t2 (rest_at_missing (codes "ONLINE") t2 l2)))) (λ r2 l2. sym (fused (λ f. s.Dismount f) is_said (parse g.forced r2 l2))) (tie (codes "ONLINE") rows.online_rest (Either (Then (One (Keyword (codes "OFFLINE"))) rows.offline_rest) (Either (Then (Either (One (Keyword (codes "MODIFY"))) (One (Keyword (codes "ALTER")))) g.template) (Either (Then (One (Keyword (codes "RENAME"))) rows.rename_rest) (Then (One (Keyword (codes "SET"))) rows.attribute_rest)))) (λ v. clause_of (inr (inr (inr (inr (inr (inr (inr (inr v))))))))) (λ r3 l3. online_at r3 l3) (λ t3 l3. (last_clause_at t3 l3)) (λ r3 l3. same _ rows.online_rest_of online_same (parse rows.online_rest r3 l3)) last_clause_is))))

pub clause_is : (text : List ℕ) (left : ℕ) → mapped clause_of (parse g.clause text left) ≡ clause_at text left
unfolding clause_at added_at options_at
clause_is = (tie (codes "ADD") g.added (Either (Then (One (Keyword (codes "DROP"))) g.dropped) (Either (Then (One (Keyword (codes "UNDROP"))) (g.key (codes "DISKS"))) (Either (Then (One (Keyword (codes "RESIZE"))) rows.resize_rest) (Either (Then (One (Keyword (codes "REBALANCE"))) rows.rebalance_options) (Either (Then (One (Keyword (codes "CHECK"))) rows.check_rest) (Either (Then (One (Keyword (codes "MOUNT"))) g.forced) (Either (Then (One (Keyword (codes "DISMOUNT"))) g.forced) (Either (Then (One (Keyword (codes "ONLINE"))) rows.online_rest) (Either (Then (One (Keyword (codes "OFFLINE"))) rows.offline_rest) (Either (Then (Either (One (Keyword (codes "MODIFY"))) (One (Keyword (codes "ALTER")))) g.template) (Either (Then (One (Keyword (codes "RENAME"))) rows.rename_rest) (Then (One (Keyword (codes "SET"))) rows.attribute_rest)))))))))))) (λ v. clause_of v) (λ r0 l0. added_at r0 l0) (λ t0 l0. (choice (fit (Keyword (codes "DROP")) t0) (λ r10. dropped_at r10 l0) (choice (fit (Keyword (codes "UNDROP")) t0) (λ r11. mapped (λ u. s.UndropDisks) (parse (g.key (codes "DISKS")) r11 (rest_at_missing (codes "DROP") t0 l0))) (choice (fit (Keyword (codes "RESIZE")) t0) (λ r12. resize_at r12 (rest_at_missing (codes "UNDROP") t0 (rest_at_missing (codes "DROP") t0 l0))) (choice (fit (Keyword (codes "REBALANCE")) t0) (λ r13. mapped (λ r. s.Rebalancing r) (options_at r13 (rest_at_missing (codes "RESIZE") t0 (rest_at_missing (codes "UNDROP") t0 (rest_at_missing (codes "DROP") t0 l0))))) (later_clause_at t0 (rest_at_missing (codes "REBALANCE") t0 (rest_at_missing (codes "RESIZE") t0 (rest_at_missing (codes "UNDROP") t0 (rest_at_missing (codes "DROP") t0 l0)))))))))) (λ r0 l0. refl) (tie (codes "DROP") g.dropped (Either (Then (One (Keyword (codes "UNDROP"))) (g.key (codes "DISKS"))) (Either (Then (One (Keyword (codes "RESIZE"))) rows.resize_rest) (Either (Then (One (Keyword (codes "REBALANCE"))) rows.rebalance_options) (Either (Then (One (Keyword (codes "CHECK"))) rows.check_rest) (Either (Then (One (Keyword (codes "MOUNT"))) g.forced) (Either (Then (One (Keyword (codes "DISMOUNT"))) g.forced) (Either (Then (One (Keyword (codes "ONLINE"))) rows.online_rest) (Either (Then (One (Keyword (codes "OFFLINE"))) rows.offline_rest) (Either (Then (Either (One (Keyword (codes "MODIFY"))) (One (Keyword (codes "ALTER")))) g.template) (Either (Then (One (Keyword (codes "RENAME"))) rows.rename_rest) (Then (One (Keyword (codes "SET"))) rows.attribute_rest))))))))))) (λ v. clause_of (inr v)) (λ r1 l1. dropped_at r1 l1) (λ t1 l1. (choice (fit (Keyword (codes "UNDROP")) t1) (λ r10. mapped (λ u. s.UndropDisks) (parse (g.key (codes "DISKS")) r10 l1)) (choice (fit (Keyword (codes "RESIZE")) t1) (λ r11. resize_at r11 (rest_at_missing (codes "UNDROP") t1 l1)) (choice (fit (Keyword (codes "REBALANCE")) t1) (λ r12. mapped (λ r. s.Rebalancing r) (options_at r12 (rest_at_missing (codes "RESIZE") t1 (rest_at_missing (codes "UNDROP") t1 l1)))) (later_clause_at t1 (rest_at_missing (codes "REBALANCE") t1 (rest_at_missing (codes "RESIZE") t1 (rest_at_missing (codes "UNDROP") t1 l1)))))))) (λ r1 l1. dropped_is r1 l1) (tie (codes "UNDROP") (g.key (codes "DISKS")) (Either (Then (One (Keyword (codes "RESIZE"))) rows.resize_rest) (Either (Then (One (Keyword (codes "REBALANCE"))) rows.rebalance_options) (Either (Then (One (Keyword (codes "CHECK"))) rows.check_rest) (Either (Then (One (Keyword (codes "MOUNT"))) g.forced) (Either (Then (One (Keyword (codes "DISMOUNT"))) g.forced) (Either (Then (One (Keyword (codes "ONLINE"))) rows.online_rest) (Either (Then (One (Keyword (codes "OFFLINE"))) rows.offline_rest) (Either (Then (Either (One (Keyword (codes "MODIFY"))) (One (Keyword (codes "ALTER")))) g.template) (Either (Then (One (Keyword (codes "RENAME"))) rows.rename_rest) (Then (One (Keyword (codes "SET"))) rows.attribute_rest)))))))))) (λ v. clause_of (inr (inr v))) (λ r2 l2. mapped (λ u. s.UndropDisks) (parse (g.key (codes "DISKS")) r2 l2)) (λ t2 l2. (choice (fit (Keyword (codes "RESIZE")) t2) (λ r10. resize_at r10 l2) (choice (fit (Keyword (codes "REBALANCE")) t2) (λ r11. mapped (λ r. s.Rebalancing r) (options_at r11 (rest_at_missing (codes "RESIZE") t2 l2))) (later_clause_at t2 (rest_at_missing (codes "REBALANCE") t2 (rest_at_missing (codes "RESIZE") t2 l2)))))) (λ r2 l2. refl) (tie (codes "RESIZE") rows.resize_rest (Either (Then (One (Keyword (codes "REBALANCE"))) rows.rebalance_options) (Either (Then (One (Keyword (codes "CHECK"))) rows.check_rest) (Either (Then (One (Keyword (codes "MOUNT"))) g.forced) (Either (Then (One (Keyword (codes "DISMOUNT"))) g.forced) (Either (Then (One (Keyword (codes "ONLINE"))) rows.online_rest) (Either (Then (One (Keyword (codes "OFFLINE"))) rows.offline_rest) (Either (Then (Either (One (Keyword (codes "MODIFY"))) (One (Keyword (codes "ALTER")))) g.template) (Either (Then (One (Keyword (codes "RENAME"))) rows.rename_rest) (Then (One (Keyword (codes "SET"))) rows.attribute_rest))))))))) (λ v. clause_of (inr (inr (inr v)))) (λ r3 l3. resize_at r3 l3) (λ t3 l3. (choice (fit (Keyword (codes "REBALANCE")) t3) (λ r10. mapped (λ r. s.Rebalancing r) (options_at r10 l3)) (later_clause_at t3 (rest_at_missing (codes "REBALANCE") t3 l3)))) (λ r3 l3. (same _ rows.resize_rest_of resize_same (parse rows.resize_rest r3 l3) ∙ resize_is r3 l3)) (tie (codes "REBALANCE") rows.rebalance_options (Either (Then (One (Keyword (codes "CHECK"))) rows.check_rest) (Either (Then (One (Keyword (codes "MOUNT"))) g.forced) (Either (Then (One (Keyword (codes "DISMOUNT"))) g.forced) (Either (Then (One (Keyword (codes "ONLINE"))) rows.online_rest) (Either (Then (One (Keyword (codes "OFFLINE"))) rows.offline_rest) (Either (Then (Either (One (Keyword (codes "MODIFY"))) (One (Keyword (codes "ALTER")))) g.template) (Either (Then (One (Keyword (codes "RENAME"))) rows.rename_rest) (Then (One (Keyword (codes "SET"))) rows.attribute_rest)))))))) (λ v. clause_of (inr (inr (inr (inr v))))) (λ r4 l4. mapped (λ r. s.Rebalancing r) (options_at r4 l4)) (λ t4 l4. (later_clause_at t4 l4)) (λ r4 l4. sym (fused (λ r. s.Rebalancing r) rows.options_of (parse rows.rebalance_options r4 l4))) later_clause_is)))))

again : (o : Outcome Bytes) → (o >>= λ group r q. mapped (λ c. s.Alter group c) (mapped clause_of (parse g.clause r q))) ≡ (o >>= λ group r q. mapped (λ c. s.Alter group c) (clause_at r q))
again (Took name r l) = ap (λ z. mapped (λ c. s.Alter name c) z) (clause_is r l)
again (Failed l) = refl

pub statement_is : (text : List ℕ) (left : ℕ) → mapped statement_of (parse g.statement text left) ≡ statement_at text left
unfolding statement_at drop_group_at
statement_is = (tie (codes "CREATE") rows.created (Either (Then (One (Keyword (codes "DROP"))) g.drop_group) (Then (One (Keyword (codes "ALTER"))) (Then (One (Keyword (codes "DISKGROUP"))) (Then g.name g.clause)))) (λ v. statement_of v) (λ r0 l0. created_at r0 l0) (λ t0 l0. (choice (fit (Keyword (codes "DROP")) t0) (λ r10. drop_group_at r10 l0) (parse (One (Keyword (codes "ALTER"))) t0 (rest_at_missing (codes "DROP") t0 l0) >>= λ u rest n. parse (One (Keyword (codes "DISKGROUP"))) rest n >>= λ w behind o. parse g.name behind o >>= λ group r q. mapped (λ c. s.Alter group c) (clause_at r q)))) (λ r0 l0. (same _ rows.created_of created_same (parse rows.created r0 l0) ∙ created_is r0 l0)) (tie (codes "DROP") g.drop_group (Then (One (Keyword (codes "ALTER"))) (Then (One (Keyword (codes "DISKGROUP"))) (Then g.name g.clause))) (λ v. statement_of (inr v)) (λ r1 l1. drop_group_at r1 l1) (λ t1 l1. (parse (One (Keyword (codes "ALTER"))) t1 l1 >>= λ u rest n. parse (One (Keyword (codes "DISKGROUP"))) rest n >>= λ w behind o. parse g.name behind o >>= λ group r q. mapped (λ c. s.Alter group c) (clause_at r q))) (λ r1 l1. same _ rows.drop_group_of drop_group_same (parse g.drop_group r1 l1)) (last_tie (codes "ALTER") (Then (One (Keyword (codes "DISKGROUP"))) (Then g.name g.clause)) (λ v. statement_of (inr (inr v))) (λ rest n. parse (One (Keyword (codes "DISKGROUP"))) rest n >>= λ w behind o. parse g.name behind o >>= λ group r q. mapped (λ c. s.Alter group c) (clause_at r q)) (λ r l. last_tie (codes "DISKGROUP") (Then g.name g.clause) (λ v. statement_of (inr (inr (tt, v)))) (λ rest n. parse g.name rest n >>= λ group r q. mapped (λ c. s.Alter group c) (clause_at r q)) (λ r l. named (parse g.name r l) ∙ again (parse g.name r l)) r l))))
