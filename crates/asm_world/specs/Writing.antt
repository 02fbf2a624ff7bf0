-- The canonical text of a statement.
use Rattle.std.specs.Prelude.{ℕ, Bool, true, false, List, [], ◌∷◌, ◌++◌, map, Option, Some, None}
use Rattle.std.specs.Option.{option_map}
use mathlib.Core.Logic.{inl, inr}
use Rattle.asm_grammar.specs.Syntax.{Value}
use Rattle.asm_grammar.specs.Writing.{pieces, text_of_pieces}
use Rattle.asm_group.specs.declared.GroupKind.{GroupKind}
use Rattle.asm_group.specs.declared.GroupKind.TheVariants as kind
use Rattle.asm_group.specs.declared.Stripe.{Stripe}
use Rattle.asm_group.specs.declared.Stripe.TheVariants as stripe
use Rattle.asm_world.specs.Grammar as g
use Rattle.asm_world.specs.Statement.{FailgroupKind, Quorum, Regular, NewDisk, NewFailgroup, Rebalance, Attribute, Named, InFailgroup, All, DroppedDisk, Redundancy, Unprotected, Mirror, High, Clause, Statement}
use Rattle.asm_world.specs.Statement.{AddDisks, AddTemplate, AddDirectory, AddAlias, DropDisks, DropFailgroup, DropTemplate, DropDirectory, DropAlias, DropFile, UndropDisks, ResizeAll, ResizeDisk, Rebalancing, Check, Mount, Dismount, Online, Offline, ModifyTemplate, RenameDirectory, RenameAlias, SetAttribute}
use Rattle.asm_world.specs.Statement.{CreateDisk, CreateGroup, DropGroup, Alter}

-- An option is written where it changes what is said.
abbrev pub forced_value : Bool → Value g.forced
forced_value true = Some (inl tt)
forced_value false = None

abbrev pub after_word : {A : Type 0} → Option A → Option (Unit {0} × A)
after_word o = option_map (λ a. (tt, a)) o

-- The first, and the others behind commas. Where there is none it is the one given.
abbrev pub list_value : {A : Type 0} → A → List A → A × List (Unit {0} × A)
list_value none [] = (none, [])
list_value none (a ∷ others) = (a, map (λ o. (tt, o)) others)

abbrev pub group_word_value : FailgroupKind → Value g.group_word
group_word_value Quorum = inl tt
group_word_value Regular = inr tt

abbrev pub dropped_value : DroppedDisk → Value (g.◌▸◌ g.name g.forced)
dropped_value d = (d.name, forced_value d.force)

abbrev pub rebalance_value : Rebalance → Value g.rebalance
rebalance_value r = (tt, (after_word r.power, forced_value r.wait))

abbrev pub maybe_rebalance : Option Rebalance → Option (Value g.rebalance)
maybe_rebalance o = option_map rebalance_value o

abbrev pub redundancy_value : Redundancy → Value g.redundancy
redundancy_value Unprotected = inl tt
redundancy_value Mirror = inr (inl tt)
redundancy_value High = inr (inr tt)

abbrev pub stripe_value : Stripe → Value g.stripe
stripe_value stripe.Coarse = inl tt
stripe_value stripe.Fine = inr tt

-- A redundancy is written before a stripe.
abbrev pub words_value : Option Redundancy → Option Stripe → Option (Value g.template_words)
words_value (Some r) s = Some (inl (redundancy_value r, option_map stripe_value s))
words_value None (Some s) = Some (inr (stripe_value s, None))
words_value None None = None

abbrev pub after_value : Option ℕ → Option (Unit {0} × (Unit {0} × ℕ))
after_value o = option_map (λ m. (tt, (tt, m))) o

abbrev pub new_disk_value : NewDisk → Value g.disk
new_disk_value d = (d.path, (after_word d.name, (after_word d.size, forced_value d.force)))

abbrev pub quorum_value : Bool → Option (Value g.group_word)
quorum_value true = Some (inl tt)
quorum_value false = None

-- A failure group has a disk at least.
abbrev pub failgroup_value : NewFailgroup → List NewDisk → Option (Value g.failgroup)
failgroup_value f [] = None
failgroup_value f (d ∷ disks) =
    Some (quorum_value f.quorum, (after_word f.name, (tt, (new_disk_value d, map (λ o. (tt, o)) (map new_disk_value disks)))))

abbrev pub one_more : {A : Type 0} → Option A → Option (List A) → Option (List A)
one_more None others = None
one_more (Some a) None = None
one_more (Some a) (Some others) = Some (a ∷ others)

abbrev pub failgroup_values : List NewFailgroup → Option (List (Value g.failgroup))
failgroup_values [] = Some []
failgroup_values (f ∷ groups) = one_more (failgroup_value f f.disks) (failgroup_values groups)

-- the first and the others
abbrev pub first_and_others : {A : Type 0} → Option (List A) → Option (A × List A)
first_and_others None = None
first_and_others (Some []) = None
first_and_others (Some (a ∷ others)) = Some (a, others)

abbrev pub failgroups_value : List NewFailgroup → Option (Value g.failgroups)
failgroups_value groups = first_and_others (failgroup_values groups)

abbrev pub kind_value : GroupKind → Value g.kind
kind_value kind.External = inl tt
kind_value kind.Normal = inr (inl tt)
kind_value kind.High = inr (inr tt)

abbrev pub attribute_value : Attribute → Value g.attribute
attribute_value a = (a.name, (tt, a.value))

abbrev pub attributes_value : List Attribute → Option (Unit {0} × (Value g.attribute × List (Unit {0} × Value g.attribute)))
attributes_value [] = None
attributes_value (a ∷ attributes) = Some (tt, (attribute_value a, map (λ o. (tt, o)) (map attribute_value attributes)))

-- None where a list that must have a member has none
abbrev pub clause_value : Clause → Option (Value g.clause)
clause_value (DropDisks (d ∷ disks) rebalance) =
    Some (inr (inl (tt, inl (tt, (list_value (dropped_value d) (map dropped_value (d ∷ disks)), maybe_rebalance rebalance)))))
clause_value (DropFailgroup kind name force rebalance) =
    Some (inr (inl (tt, inr (inl (tt, ((tt, (option_map group_word_value kind, (tt, name))), (forced_value force, maybe_rebalance rebalance)))))))
clause_value UndropDisks = Some (inr (inr (inl (tt, tt))))
clause_value (Rebalancing r) = Some (inr (inr (inr (inr (inl (rebalance_value r))))))
clause_value Check = Some (inr (inr (inr (inr (inr (inl (tt, None)))))))
clause_value (Mount force) = Some (inr (inr (inr (inr (inr (inr (inl (tt, forced_value force))))))))
clause_value (SetAttribute a) = Some (inr (inr (inr (inr (inr (inr (inr (inr (inr (inr (inr (inr (tt, (tt, (a.name, (tt, a.value))))))))))))))))
clause_value (AddDirectory path) = Some (inl (tt, inr (inr (inl (tt, path)))))
clause_value (AddAlias alias path) = Some (inl (tt, inr (inr (inr (tt, (alias, (tt, path)))))))
clause_value (DropTemplate name) = Some (inr (inl (tt, inr (inr (inl (tt, name))))))
clause_value (DropDirectory path) = Some (inr (inl (tt, inr (inr (inr (inl (tt, path)))))))
clause_value (DropAlias path) = Some (inr (inl (tt, inr (inr (inr (inr (inl (tt, path))))))))
clause_value (DropFile path) = Some (inr (inl (tt, inr (inr (inr (inr (inr (tt, path))))))))
clause_value (ResizeAll size rebalance) = Some (inr (inr (inr (inl (tt, (inl tt, (after_word size, maybe_rebalance rebalance)))))))
clause_value (ResizeDisk name size rebalance) = Some (inr (inr (inr (inl (tt, (inr (tt, name), (after_word size, maybe_rebalance rebalance)))))))
clause_value (Dismount force) = Some (inr (inr (inr (inr (inr (inr (inr (inl (tt, forced_value force)))))))))
clause_value (RenameDirectory old new) = Some (inr (inr (inr (inr (inr (inr (inr (inr (inr (inr (inr (inl (tt, (inl tt, (old, (tt, new))))))))))))))))
clause_value (RenameAlias old new) = Some (inr (inr (inr (inr (inr (inr (inr (inr (inr (inr (inr (inl (tt, (inr tt, (old, (tt, new))))))))))))))))
clause_value (Online All wait) = Some (inr (inr (inr (inr (inr (inr (inr (inr (inl (tt, (inl tt, forced_value wait)))))))))))
clause_value (Online (Named (n ∷ ns)) wait) = Some (inr (inr (inr (inr (inr (inr (inr (inr (inl (tt, (inr (inl (tt, list_value n (n ∷ ns))), forced_value wait)))))))))))
clause_value (Online (InFailgroup k n) wait) = Some (inr (inr (inr (inr (inr (inr (inr (inr (inl (tt, (inr (inr (tt, (tt, (option_map group_word_value k, (tt, n))))), forced_value wait)))))))))))
clause_value (Offline (Named (n ∷ ns)) after) = Some (inr (inr (inr (inr (inr (inr (inr (inr (inr (inl (tt, (inl (tt, list_value n (n ∷ ns)), after_value after))))))))))))
clause_value (Offline (InFailgroup k n) after) = Some (inr (inr (inr (inr (inr (inr (inr (inr (inr (inl (tt, (inr (tt, (tt, (option_map group_word_value k, (tt, n)))), after_value after))))))))))))
clause_value (AddTemplate name words) = option_map (λ v. inl (tt, inr (inl (tt, (name, (tt, (tt, (v, tt)))))))) (words_value words.redundancy words.stripe)
clause_value (ModifyTemplate name words) = option_map (λ v. inr (inr (inr (inr (inr (inr (inr (inr (inr (inr (inl (inl tt, (tt, (name, (tt, (tt, (v, tt))))))))))))))))) (words_value words.redundancy words.stripe)
clause_value (AddDisks groups rebalance) = option_map (λ v. inl (tt, inl (v, maybe_rebalance rebalance))) (failgroups_value groups)
clause_value other = None

abbrev pub statement_value : Statement → Option (Value g.statement)
statement_value (CreateDisk path size) = Some (inl (tt, inl (tt, (path, (tt, size)))))
statement_value (DropGroup name true) = Some (inr (inl (tt, (tt, (name, Some (inl tt, tt))))))
statement_value (DropGroup name false) = Some (inr (inl (tt, (tt, (name, None)))))
statement_value (Alter name clause) = option_map (λ v. inr (inr (tt, (tt, (name, v))))) (clause_value clause)
statement_value (CreateGroup name kind groups attributes) =
    option_map (λ v. inl (tt, inr (tt, (name, (option_map (λ k. (kind_value k, tt)) kind, (v, attributes_value attributes)))))) (failgroups_value groups)

abbrev pub value_text : Option (Value g.statement) → List ℕ
value_text None = []
value_text (Some v) = text_of_pieces (pieces g.statement v) ++ 59 ∷ []

abbrev pub statement_text : Statement → List ℕ
statement_text s = value_text (statement_value s)
