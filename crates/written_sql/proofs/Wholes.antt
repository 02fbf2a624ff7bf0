-- Clauses and statements of which some have no text.
use Rattle.std.proofs.Common.{◌≡◌, inl, inr, List, [], ◌∷◌, map, refl, ap, Option, Some, None}
use Rattle.std.specs.Option.{option_map}
use Rattle.std.specs.Prelude.{Bool, ℕ, codes}
use Rattle.asm_grammar.specs.Syntax.{Maybe, Value}
use Rattle.asm_group.specs.declared.GroupKind.{GroupKind}
use Rattle.asm_group.specs.Names.{Bytes}
use Rattle.asm_world.specs.Grammar as g
use Rattle.asm_world.specs.Statement as s
use Rattle.asm_world.specs.Writing.{after_value, attribute_value, attributes_value, clause_value, dropped_value, failgroups_value, kind_value, maybe_rebalance, forced_value, words_value}
use Rattle.written_sql.specs.Lines.{Line, with_value, put_maybe, put_more, list_of, some_disks_value, template_value, bracketed_words, bracketed_value, kind_words, group_rest_value, clause_line, statement_line}
use Rattle.group_sql.specs.Rows.{dropped_disk, groups_and_attributes, maybe_after, maybe_attributes, maybe_redundancy}
use Rattle.group_sql.specs.Said.{disks_said}
use Rattle.written_sql.proofs.Puts.{more_put}
use Rattle.group_sql.specs.declared.statement.Disks.{Disks}
use Rattle.group_sql.specs.declared.statement.Disks.TheVariants.{Named, InFailgroup}

-- TEMPLATES

pub bracketed_put : (words : s.TemplateWords) (line : Line) (o : Option Line) → o ≡ put_maybe g.template_words (words_value words.redundancy words.stripe) (with_value g.opening tt line)
    → put_maybe bracketed_words (bracketed_value words) line ≡ option_map (λ l. with_value g.closing tt l) o
bracketed_put words line o e = rw e (by (words_value words.redundancy words.stripe)) where
  by : (o : Option (Value g.template_words)) → put_maybe bracketed_words (option_map (λ v. (tt, (v, tt))) o) line ≡ option_map (λ l. with_value g.closing tt l) (put_maybe g.template_words o (with_value g.opening tt line))
  by None = refl
  by (Some v) = refl

pub template_put : (name : Bytes) (words : s.TemplateWords) (line : Line) → put_maybe g.template (template_value name words) line
    ≡ put_maybe bracketed_words (bracketed_value words) (with_value (g.key (codes "ATTRIBUTES")) tt (with_value g.name name (with_value (g.key (codes "TEMPLATE")) tt line)))
template_put name words line = by (words_value words.redundancy words.stripe) where
  by : (o : Option (Value g.template_words)) → put_maybe g.template (option_map (λ v. (tt, (name, (tt, (tt, (v, tt)))))) o) line
      ≡ put_maybe bracketed_words (option_map (λ v. (tt, (v, tt))) o) (with_value (g.key (codes "ATTRIBUTES")) tt (with_value g.name name (with_value (g.key (codes "TEMPLATE")) tt line)))
  by None = refl
  by (Some v) = refl

pub added_template : (name : Bytes) (words : s.TemplateWords) (line : Line) → clause_line (s.AddTemplate name words) line ≡ put_maybe g.template (template_value name words) (with_value (g.key (codes "ADD")) tt line)
unfolding clause_line
added_template name words line = by (words_value words.redundancy words.stripe) where
  by : (o : Option (Value g.template_words)) → put_maybe g.clause (option_map (λ v. inl (tt, inr (inl (tt, (name, (tt, (tt, (v, tt)))))))) o) line
      ≡ put_maybe g.template (option_map (λ v. (tt, (name, (tt, (tt, (v, tt)))))) o) (with_value (g.key (codes "ADD")) tt line)
  by None = refl
  by (Some v) = refl

pub modified_template : (name : Bytes) (words : s.TemplateWords) (line : Line) → clause_line (s.ModifyTemplate name words) line ≡ put_maybe g.template (template_value name words) (with_value (g.key (codes "MODIFY")) tt line)
unfolding clause_line
modified_template name words line = by (words_value words.redundancy words.stripe) where
  by : (o : Option (Value g.template_words))
      → put_maybe g.clause (option_map (λ v. inr (inr (inr (inr (inr (inr (inr (inr (inr (inr (inl (inl tt, (tt, (name, (tt, (tt, (v, tt))))))))))))))))) o) line
      ≡ put_maybe g.template (option_map (λ v. (tt, (name, (tt, (tt, (v, tt)))))) o) (with_value (g.key (codes "MODIFY")) tt line)
  by None = refl
  by (Some v) = refl

-- DISKS

pub added_disks : (groups : List s.NewFailgroup) (rebalance : Option s.Rebalance) (line : Line) (o : Option Line) → o ≡ put_maybe g.failgroups (failgroups_value groups) (with_value (g.key (codes "ADD")) tt line)
    → clause_line (s.AddDisks groups rebalance) line ≡ option_map (λ l. with_value (Maybe g.rebalance) (maybe_rebalance rebalance) l) o
unfolding clause_line
added_disks groups rebalance line o e = rw e (by (failgroups_value groups)) where
  by : (o : Option (Value g.failgroups)) → put_maybe g.clause (option_map (λ v. inl (tt, inl (v, maybe_rebalance rebalance))) o) line
      ≡ option_map (λ l. with_value (Maybe g.rebalance) (maybe_rebalance rebalance) l) (put_maybe g.failgroups o (with_value (g.key (codes "ADD")) tt line))
  by None = refl
  by (Some v) = refl

pub dropped_disks : (disks : List s.DroppedDisk) (rebalance : Option s.Rebalance) (line : Line) (o : Option Line)
    → o ≡ put_maybe (g.listed dropped_disk) (list_of dropped_value disks) (with_value (g.key (codes "DISK")) tt (with_value (g.key (codes "DROP")) tt line))
    → clause_line (s.DropDisks disks rebalance) line ≡ option_map (λ l. with_value (Maybe g.rebalance) (maybe_rebalance rebalance) l) o
unfolding clause_line
dropped_disks [] rebalance line o e = rw e refl
dropped_disks (d ∷ disks) rebalance line o e = rw e refl

same_names : (names : List Bytes) → map (λ n. n) names ≡ names
same_names [] = refl
same_names (n ∷ names) = ap (λ z. n ∷ z) (same_names names)

pub onlined : (disks : Disks) (wait : Bool) (line : Line) (o : Option Line) → o ≡ put_maybe g.some_disks (some_disks_value (disks_said disks)) (with_value (g.key (codes "ONLINE")) tt line)
    → clause_line (s.Online (disks_said disks) wait) line ≡ option_map (λ l. with_value g.waiting (forced_value wait) l) o
unfolding clause_line
onlined (Named []) wait line o e = rw e refl
onlined (Named (x ∷ names)) wait line o e = rw (e, same_names names) refl
onlined (InFailgroup kind name) wait line o e = rw e refl

pub offlined : (disks : s.NamedDisks) (minutes : Option ℕ) (line : Line) (o : Option Line) → o ≡ put_maybe g.some_disks (some_disks_value disks) (with_value (g.key (codes "OFFLINE")) tt line)
    → clause_line (s.Offline disks minutes) line ≡ option_map (λ l. with_value maybe_after (after_value minutes) l) o
unfolding clause_line
offlined (s.Named []) minutes line o e = rw e refl
offlined (s.Named (x ∷ names)) minutes line o e = rw (e, same_names names) refl
offlined (s.InFailgroup kind name) minutes line o e = rw e refl
offlined s.All minutes line o e = rw e refl

-- STATEMENTS

pub attributes_put : (attribute : s.Attribute) (others : List s.Attribute) (line : Line)
    → with_value maybe_attributes (attributes_value (attribute ∷ others)) line ≡ put_more g.attribute attribute_value others (with_value g.attribute (attribute_value attribute) (with_value (g.key (codes "ATTRIBUTE")) tt line))
attributes_put attribute others line = more_put g.attribute attribute_value others (with_value g.attribute (attribute_value attribute) (with_value (g.key (codes "ATTRIBUTE")) tt line))

pub group_rest_put : (groups : List s.NewFailgroup) (attributes : List s.Attribute) (line : Line) (o : Option Line) → o ≡ put_maybe g.failgroups (failgroups_value groups) line
    → put_maybe groups_and_attributes (group_rest_value groups attributes) line ≡ option_map (λ l. with_value maybe_attributes (attributes_value attributes) l) o
group_rest_put groups attributes line o e = rw e (by (failgroups_value groups)) where
  by : (o : Option (Value g.failgroups)) → put_maybe groups_and_attributes (option_map (λ v. (v, attributes_value attributes)) o) line
      ≡ option_map (λ l. with_value maybe_attributes (attributes_value attributes) l) (put_maybe g.failgroups o line)
  by None = refl
  by (Some v) = refl

pub created_group : (name : Bytes) (kind : Option GroupKind) (groups : List s.NewFailgroup) (attributes : List s.Attribute) (line : Line)
    → statement_line (s.CreateGroup name kind groups attributes) line
    ≡ put_maybe groups_and_attributes (group_rest_value groups attributes) (with_value maybe_redundancy (kind_words kind) (with_value g.name name (with_value (g.key (codes "DISKGROUP")) tt (with_value (g.key (codes "CREATE")) tt line))))
unfolding statement_line
created_group name kind groups attributes line = by (failgroups_value groups) where
  by : (o : Option (Value g.failgroups)) → put_maybe g.statement (option_map (λ v. inl (tt, inr (tt, (name, (option_map (λ k. (kind_value k, tt)) kind, (v, attributes_value attributes)))))) o) line
      ≡ put_maybe groups_and_attributes (option_map (λ v. (v, attributes_value attributes)) o) (with_value maybe_redundancy (kind_words kind) (with_value g.name name (with_value (g.key (codes "DISKGROUP")) tt (with_value (g.key (codes "CREATE")) tt line))))
  by None = refl
  by (Some v) = refl

pub altered : (name : Bytes) (clause : s.Clause) (line : Line)
    → statement_line (s.Alter name clause) line ≡ clause_line clause (with_value g.name name (with_value (g.key (codes "DISKGROUP")) tt (with_value (g.key (codes "ALTER")) tt line)))
unfolding statement_line clause_line
altered name clause line = by (clause_value clause) where
  by : (o : Option (Value g.clause)) → put_maybe g.statement (option_map (λ v. inr (inr (tt, (tt, (name, v))))) o) line
      ≡ put_maybe g.clause o (with_value g.name name (with_value (g.key (codes "DISKGROUP")) tt (with_value (g.key (codes "ALTER")) tt line)))
  by None = refl
  by (Some v) = refl
