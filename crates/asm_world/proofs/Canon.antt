-- Each statement that a text says has a canonical text.
use Rattle.std.proofs.Common.{◌≡◌, ℕ, Bool, true, false, List, [], ◌∷◌, map, refl, sym, ap, ◌∙◌, Option, Some, None, inl, inr}
use Rattle.std.specs.Option.{option_map}
use Rattle.std.specs.Prelude.{codes}
use Rattle.asm_grammar.specs.Syntax.{SyntaxRule, Then, Maybe, Value}
use Rattle.asm_group.specs.Names.{Bytes}
use Rattle.asm_world.specs.Grammar as g
use Rattle.asm_world.specs.Meaning.{Says, statement_of, clause_of, add_of, drop_of, resize_of, some_disks_of, online_of, rename_of, modify_of, is_said, words_of, redundancy_of, stripe_of, after_of, behind, dropped_of, rebalance_of, group_word_of, new_disk_of, is_quorum, failgroup_of, failgroups_of, kind_of, attribute_of, attributes_of}
use Rattle.asm_world.specs.Statement as s
use Rattle.asm_world.specs.Writing.{statement_value, statement_text, clause_value, after_value, words_value, redundancy_value, stripe_value, forced_value, after_word, group_word_value, dropped_value, rebalance_value, maybe_rebalance, new_disk_value, quorum_value, failgroup_value, one_more, failgroup_values, first_and_others, failgroups_value, kind_value, attribute_value, attributes_value}
use Rattle.asm_world.proofs.Spelling.{SpellsIn, SpellsAll, spells_pieces, has_spells}
use Rattle.asm_world.proofs.Statements.{written_is_said}

-- there is a value, and each of its words has a spelling
abbrev Spelt : (g : SyntaxRule) → Option (Value g) → Type 0
Spelt g o = (w : Value g) × (o ≡ Some w) × SpellsIn g w

said_forced : (b : Bool) → SpellsIn g.forced (forced_value b)
said_forced true = refl
said_forced false = tt

said_waiting : (b : Bool) → SpellsIn g.waiting (forced_value b)
said_waiting true = refl
said_waiting false = tt

-- a list behind its first member
relisted : {A : Type 0} (item : SyntaxRule) (make : A → Value item) (says : Value item → A) → ((v : Value item) → SpellsIn item v → SpellsIn item (make (says v)))
    → (vs : List (Unit {0} × Value item)) → SpellsAll (λ v. SpellsIn (Then g.comma item) v) vs → SpellsAll (λ v. SpellsIn (Then g.comma item) v) (map (λ o. (tt, o)) (map make (map (λ p. says p.1) vs)))
relisted item make says h [] a = tt
relisted item make says h (v ∷ vs) a = ((refl, h v.1 a.0.1), relisted item make says h vs a.1)

names_listed : (vs : List (Unit {0} × Bytes)) → SpellsAll (λ v. SpellsIn (Then g.comma g.name) v) vs → SpellsAll (λ v. SpellsIn (Then g.comma g.name) v) (map (λ o. (tt, o)) (map (λ p. p.1) vs))
names_listed [] a = tt
names_listed (v ∷ vs) a = ((refl, a.0.1), names_listed vs a.1)

-- PARTS

after_spells : (k : List ℕ) (item : SyntaxRule) (o : Option (Unit {0} × Value item)) → SpellsIn (Maybe (Then (g.key k) item)) o → SpellsIn (Maybe (Then (g.key k) item)) (after_word (behind o))
after_spells k item None a = tt
after_spells k item (Some v) a = a

disk_spells : (v : Value g.disk) → SpellsIn g.disk v → SpellsIn g.disk (new_disk_value (new_disk_of v))
disk_spells (path, (name, (size, force))) a = (a.0, (after_spells (codes "NAME") g.name name a.1.0, (after_spells (codes "SIZE") g.size size a.1.1.0, said_forced (is_said force))))

quorum_spells : (o : Option (Value g.group_word)) → SpellsIn (Maybe g.group_word) (quorum_value (is_quorum o))
quorum_spells None = tt
quorum_spells (Some (inl w)) = refl
quorum_spells (Some (inr w)) = tt

failgroup_spells : (v : Value g.failgroup) → SpellsIn g.failgroup v → Spelt g.failgroup (failgroup_value (failgroup_of v) (failgroup_of v).disks)
failgroup_spells (kind, (name, (word, (d, ds)))) a =
    (_, refl, (quorum_spells kind, (after_spells (codes "FAILGROUP") g.name name a.1.0, (refl, (disk_spells d a.1.1.1.0, relisted g.disk new_disk_value new_disk_of disk_spells ds a.1.1.1.1)))))

failgroups_spell : (vs : List (Value g.failgroup)) → SpellsAll (λ v. SpellsIn g.failgroup v) vs
    → (ws : List (Value g.failgroup)) × (failgroup_values (map failgroup_of vs) ≡ Some ws) × SpellsAll (λ v. SpellsIn g.failgroup v) ws
failgroups_spell [] a = ([], refl, tt)
failgroups_spell (v ∷ vs) a =
    let one = failgroup_spells v a.0 in
    let others = failgroups_spell vs a.1 in
    (one.0 ∷ others.0, ap (λ o. one_more o (failgroup_values (map failgroup_of vs))) one.1 ∙ ap (λ o. one_more (Some one.0) o) others.1, (one.2, others.2))

some_failgroups_spell : (v : Value g.failgroups) → SpellsIn g.failgroups v → Spelt g.failgroups (failgroups_value (failgroups_of v))
some_failgroups_spell (one, others) a =
    let first = failgroup_spells one a.0 in
    let rest = failgroups_spell others a.1 in (
      (first.0, rest.0),
      ap first_and_others (ap (λ o. one_more o (failgroup_values (map failgroup_of others))) first.1 ∙ ap (λ o. one_more (Some first.0) o) rest.1),
      (first.2, rest.2),
    )

rebalance_spells : (v : Value g.rebalance) → SpellsIn g.rebalance v → SpellsIn g.rebalance (rebalance_value (rebalance_of v))
rebalance_spells (word, (power, wait)) a = (refl, (after_spells (codes "POWER") g.number power a.1.0, said_waiting (is_said wait)))

maybe_spells : (o : Option (Value g.rebalance)) → SpellsIn (Maybe g.rebalance) o → SpellsIn (Maybe g.rebalance) (maybe_rebalance (option_map rebalance_of o))
maybe_spells None a = tt
maybe_spells (Some v) a = rebalance_spells v a

group_word_spells : (o : Option (Value g.group_word)) → SpellsIn (Maybe g.group_word) (option_map group_word_value (option_map group_word_of o))
group_word_spells None = tt
group_word_spells (Some (inl w)) = refl
group_word_spells (Some (inr w)) = refl

redundancy_spells : (v : Value g.redundancy) → SpellsIn g.redundancy (redundancy_value (redundancy_of v))
redundancy_spells (inl w) = refl
redundancy_spells (inr (inl w)) = refl
redundancy_spells (inr (inr w)) = refl

stripe_spells : (v : Value g.stripe) → SpellsIn g.stripe (stripe_value (stripe_of v))
stripe_spells (inl w) = refl
stripe_spells (inr w) = refl

maybe_stripe_spells : (o : Option (Value g.stripe)) → SpellsIn (Maybe g.stripe) (option_map stripe_value (option_map stripe_of o))
maybe_stripe_spells None = tt
maybe_stripe_spells (Some v) = stripe_spells v

words_spell : (v : Value g.template_words) → Spelt g.template_words (words_value (words_of v).redundancy (words_of v).stripe)
words_spell (inl (r, x)) = (_, refl, (redundancy_spells r, maybe_stripe_spells x))
words_spell (inr (x, None)) = (_, refl, (stripe_spells x, tt))
words_spell (inr (x, Some r)) = (_, refl, (redundancy_spells r, stripe_spells x))

dropped_spells : (v : Value (g.◌▸◌ g.name g.forced)) → SpellsIn (g.◌▸◌ g.name g.forced) v → SpellsIn (g.◌▸◌ g.name g.forced) (dropped_value (dropped_of v))
dropped_spells (name, force) a = (a.0, said_forced (is_said force))

after_minutes_spell : (o : Option (Unit {0} × (Unit {0} × ℕ))) → SpellsIn (Maybe (Then (g.key (codes "DROP")) (Then (g.key (codes "AFTER")) g.minutes))) o
    → SpellsIn (Maybe (Then (g.key (codes "DROP")) (Then (g.key (codes "AFTER")) g.minutes))) (after_value (after_of o))
after_minutes_spell None a = tt
after_minutes_spell (Some v) a = a

-- CLAUSES

abbrev IsSpelt : s.Clause → Type 0
IsSpelt c = Spelt g.clause (clause_value c)

-- a value made of another
made_spelt : {A : Type 0} (h : SyntaxRule) (make : A → Value h) (P : A → Type 0) (o : Option A) → (w : A) × (o ≡ Some w) × P w → ((w : A) → P w → SpellsIn h (make w)) → Spelt h (option_map make o)
made_spelt h make P o (w, e, a) k = (make w, ap (λ z. option_map make z) e, k w a)

add_spells : (v : Value g.added) → SpellsIn g.added v → IsSpelt (add_of v)
add_spells (inl (groups, rebalance)) a =
    made_spelt g.clause (λ v. inl (tt, inl (v, maybe_rebalance (option_map rebalance_of rebalance)))) (λ v. SpellsIn g.failgroups v) (failgroups_value (failgroups_of groups))
    (some_failgroups_spell groups a.0) (λ w b. (refl, (b, maybe_spells rebalance a.1)))
add_spells (inr (inl (word, (name, (attributes, (sign, (words, end))))))) a =
    made_spelt g.clause (λ v. inl (tt, inr (inl (tt, (name, (tt, (tt, (v, tt)))))))) (λ v. SpellsIn g.template_words v) (words_value (words_of words).redundancy (words_of words).stripe)
    (words_spell words) (λ w b. (refl, (refl, (a.1.0, (refl, (refl, (b, refl)))))))
add_spells (inr (inr (inl (word, path)))) a = (_, refl, (refl, (refl, a.1)))
add_spells (inr (inr (inr (word, (alias, (for, path)))))) a = (_, refl, (refl, (refl, (a.1.0, (refl, a.1.1.1)))))

drop_spells : (v : Value g.dropped) → SpellsIn g.dropped v → IsSpelt (drop_of v)
drop_spells (inl (word, ((d, ds), rebalance))) a =
    (_, refl, (refl, (refl, ((dropped_spells d a.1.0.0, relisted (g.◌▸◌ g.name g.forced) dropped_value dropped_of dropped_spells ds a.1.0.1), maybe_spells rebalance a.1.1))))
drop_spells (inr (inl (word, ((sign, (kind, (failgroup, name))), (force, rebalance))))) a =
    (_, refl, (refl, (refl, ((refl, (group_word_spells kind, (refl, a.1.0.1.1.1))), (said_forced (is_said force), maybe_spells rebalance a.1.1.1)))))
drop_spells (inr (inr (inl (word, name)))) a = (_, refl, (refl, (refl, a.1)))
drop_spells (inr (inr (inr (inl (word, path))))) a = (_, refl, (refl, (refl, a.1)))
drop_spells (inr (inr (inr (inr (inl (word, path)))))) a = (_, refl, (refl, (refl, a.1)))
drop_spells (inr (inr (inr (inr (inr (word, path)))))) a = (_, refl, (refl, (refl, a.1)))

resize_spells : (v : Value g.resize) → SpellsIn g.resize v → IsSpelt (resize_of v)
resize_spells (word, (inl every, (size, rebalance))) a = (_, refl, (refl, (refl, (after_spells (codes "SIZE") g.size size a.1.1.0, maybe_spells rebalance a.1.1.1))))
resize_spells (word, (inr (disk, name), (size, rebalance))) a = (_, refl, (refl, ((refl, a.1.0.1), (after_spells (codes "SIZE") g.size size a.1.1.0, maybe_spells rebalance a.1.1.1))))

online_spells : (v : Value g.online) → SpellsIn g.online v → IsSpelt (online_of v)
online_spells (word, (inl every, wait)) a = (_, refl, (refl, (refl, said_waiting (is_said wait))))
online_spells (word, (inr (inl (disk, (n, ns))), wait)) a = (_, refl, (refl, ((refl, (a.1.0.1.0, names_listed ns a.1.0.1.1)), said_waiting (is_said wait))))
online_spells (word, (inr (inr (disks, (sign, (kind, (failgroup, name))))), wait)) a =
    (_, refl, (refl, ((refl, (refl, (group_word_spells kind, (refl, a.1.0.1.1.1.1)))), said_waiting (is_said wait))))

offline_spells : (word : Unit {0}) (disks : Value g.some_disks) (after : Option (Unit {0} × (Unit {0} × ℕ))) → SpellsIn g.offline (word, (disks, after)) → IsSpelt (s.Offline (some_disks_of disks) (after_of after))
offline_spells word (inl (disk, (n, ns))) after a = (_, refl, (refl, ((refl, (a.1.0.1.0, names_listed ns a.1.0.1.1)), after_minutes_spell after a.1.1)))
offline_spells word (inr (disks, (sign, (kind, (failgroup, name))))) after a =
    (_, refl, (refl, ((refl, (refl, (group_word_spells kind, (refl, a.1.0.1.1.1.1)))), after_minutes_spell after a.1.1)))

rename_spells : (v : Value g.rename) → SpellsIn g.rename v → IsSpelt (rename_of v)
rename_spells (word, (inl directory, (old, (to, new)))) a = (_, refl, (refl, (refl, (a.1.1.0, (refl, a.1.1.1.1)))))
rename_spells (word, (inr alias, (old, (to, new)))) a = (_, refl, (refl, (refl, (a.1.1.0, (refl, a.1.1.1.1)))))

modify_spells : (v : Value g.modify) → SpellsIn g.modify v → IsSpelt (modify_of v)
modify_spells (either, (word, (name, (attributes, (sign, (words, end)))))) a =
    made_spelt g.clause (λ v. inr (inr (inr (inr (inr (inr (inr (inr (inr (inr (inl (inl tt, (tt, (name, (tt, (tt, (v, tt))))))))))))))))) (λ v. SpellsIn g.template_words v)
    (words_value (words_of words).redundancy (words_of words).stripe) (words_spell words) (λ w b. (refl, (refl, (a.1.1.0, (refl, (refl, (b, refl)))))))

clause_spells : (v : Value g.clause) → SpellsIn g.clause v → IsSpelt (clause_of v)
clause_spells (inl (word, v)) a = add_spells v a.1
clause_spells (inr (inl (word, v))) a = drop_spells v a.1
clause_spells (inr (inr (inl v))) a = (_, refl, (refl, refl))
clause_spells (inr (inr (inr (inl v)))) a = resize_spells v a
clause_spells (inr (inr (inr (inr (inl v))))) a = (_, refl, rebalance_spells v a)
clause_spells (inr (inr (inr (inr (inr (inl v)))))) a = (_, refl, (refl, tt))
clause_spells (inr (inr (inr (inr (inr (inr (inl (word, force)))))))) a = (_, refl, (refl, said_forced (is_said force)))
clause_spells (inr (inr (inr (inr (inr (inr (inr (inl (word, force))))))))) a = (_, refl, (refl, said_forced (is_said force)))
clause_spells (inr (inr (inr (inr (inr (inr (inr (inr (inl v))))))))) a = online_spells v a
clause_spells (inr (inr (inr (inr (inr (inr (inr (inr (inr (inl (word, (disks, after)))))))))))) a = offline_spells word disks after a
clause_spells (inr (inr (inr (inr (inr (inr (inr (inr (inr (inr (inl v))))))))))) a = modify_spells v a
clause_spells (inr (inr (inr (inr (inr (inr (inr (inr (inr (inr (inr (inl v)))))))))))) a = rename_spells v a
clause_spells (inr (inr (inr (inr (inr (inr (inr (inr (inr (inr (inr (inr (word, (attribute, (name, (sign, value)))))))))))))))) a = (_, refl, (refl, (refl, (a.1.1.0, (refl, a.1.1.1.1)))))

-- STATEMENTS

kind_spells : (o : Option (Value g.kind × Unit {0})) → SpellsIn (Maybe (Then g.kind (g.key (codes "REDUNDANCY")))) (option_map (λ k. (kind_value k, tt)) (option_map (λ (p : Value g.kind × Unit {0}). kind_of p.0) o))
kind_spells None = tt
kind_spells (Some (inl w, r)) = (refl, refl)
kind_spells (Some (inr (inl w), r)) = (refl, refl)
kind_spells (Some (inr (inr w), r)) = (refl, refl)

attribute_spells : (v : Value g.attribute) → SpellsIn g.attribute v → SpellsIn g.attribute (attribute_value (attribute_of v))
attribute_spells (name, (sign, value)) a = (a.0, (refl, a.1.1))

attributes_spell : (o : Option (Unit {0} × (Value g.attribute × List (Unit {0} × Value g.attribute)))) → SpellsIn (Maybe (Then (g.key (codes "ATTRIBUTE")) (g.listed g.attribute))) o
    → SpellsIn (Maybe (Then (g.key (codes "ATTRIBUTE")) (g.listed g.attribute))) (attributes_value (attributes_of o))
attributes_spell None a = tt
attributes_spell (Some (word, (one, others))) a = (refl, (attribute_spells one a.1.0, relisted g.attribute attribute_value attribute_of attribute_spells others a.1.1))

statement_spells : (v : Value g.statement) → SpellsIn g.statement v → Spelt g.statement (statement_value (statement_of v))
statement_spells (inl (create, inl (word, (path, (sign, size))))) a = (_, refl, (refl, (refl, (a.1.1.0, (refl, a.1.1.1.1)))))
statement_spells (inl (create, inr (word, (name, (kind, (groups, attributes)))))) a =
    made_spelt g.statement (λ v. inl (tt, inr (tt, (name, (option_map (λ k. (kind_value k, tt)) (option_map (λ (p : Value g.kind × Unit {0}). kind_of p.0) kind), (v, attributes_value (attributes_of attributes)))))))
    (λ v. SpellsIn g.failgroups v) (failgroups_value (failgroups_of groups)) (some_failgroups_spell groups a.1.1.1.1.0)
    (λ w b. (refl, (refl, (a.1.1.0, (kind_spells kind, (b, attributes_spell attributes a.1.1.1.1.1))))))
statement_spells (inr (inl (drop, (word, (name, None))))) a = (_, refl, (refl, (refl, (a.1.1.0, tt))))
statement_spells (inr (inl (drop, (word, (name, Some (inl including, contents)))))) a = (_, refl, (refl, (refl, (a.1.1.0, (refl, refl)))))
statement_spells (inr (inl (drop, (word, (name, Some (inr excluding, contents)))))) a = (_, refl, (refl, (refl, (a.1.1.0, tt))))
statement_spells (inr (inr (alter, (word, (name, v))))) a =
    made_spelt g.statement (λ w. inr (inr (tt, (tt, (name, w))))) (λ w. SpellsIn g.clause w) (clause_value (clause_of v)) (clause_spells v a.1.1.1) (λ w b. (refl, (refl, (a.1.1.0, b))))

pub said_is_written : (text : Bytes) (x : s.Statement) → Says text x → Says (statement_text x) x
said_is_written text x says =
    let c = statement_spells says.value (has_spells g.statement refl says.value text says.rest says.has) in
    let e : statement_value x ≡ Some c.0 = ap statement_value (sym says.is) ∙ c.1 in
    written_is_said x c.0 e (spells_pieces g.statement c.0 c.2)
