-- What a text of the grammar of statements says.
use Rattle.std.specs.Prelude.{◌≡◌, ℕ, Bool, true, false, List, [], ◌∷◌, map, Option, Some, None}
use Rattle.std.specs.Option.{option_map}
use mathlib.Core.Logic.{inl, inr}
use Rattle.asm_grammar.specs.Reads.{items_of}
use Rattle.asm_grammar.specs.Word.{fit}
use Rattle.asm_grammar.specs.Syntax.{Value, Has}
use Rattle.asm_group.specs.declared.GroupKind.{GroupKind}
use Rattle.asm_group.specs.declared.GroupKind.TheVariants as kind
use Rattle.asm_group.specs.declared.Stripe.{Stripe}
use Rattle.asm_group.specs.declared.Stripe.TheVariants as stripe
use Rattle.asm_world.specs.Grammar as g
use Rattle.asm_world.specs.Statement.{FailgroupKind, Quorum, Regular, NewDisk, NewFailgroup, Rebalance, Attribute, NamedDisks, Named, InFailgroup, All, DroppedDisk, Redundancy, Unprotected, Mirror, High, TemplateWords, Clause, Statement}
use Rattle.asm_world.specs.Statement.{AddDisks, AddTemplate, AddDirectory, AddAlias, DropDisks, DropFailgroup, DropTemplate, DropDirectory, DropAlias, DropFile, UndropDisks, ResizeAll, ResizeDisk, Rebalancing, Check, Mount, Dismount, Online, Offline, ModifyTemplate, RenameDirectory, RenameAlias, SetAttribute}
use Rattle.asm_world.specs.Statement.{CreateDisk, CreateGroup, DropGroup, Alter}

-- the first of two words was said, and not the second or neither
abbrev pub is_said : Value g.forced → Bool
is_said None = false
is_said (Some (inl word)) = true
is_said (Some (inr word)) = false

abbrev pub behind : {A : Type 0} → Option (Unit {0} × A) → Option A
behind o = option_map (λ p. p.1) o

abbrev pub group_word_of : Value g.group_word → FailgroupKind
group_word_of (inl word) = Quorum
group_word_of (inr word) = Regular

abbrev pub is_quorum : Option (Value g.group_word) → Bool
is_quorum None = false
is_quorum (Some (inl word)) = true
is_quorum (Some (inr word)) = false

abbrev pub new_disk_of : Value g.disk → NewDisk
new_disk_of (path, (name, (size, force))) = record { path = path; name = behind name; size = behind size; force = is_said force }

abbrev pub failgroup_of : Value g.failgroup → NewFailgroup
failgroup_of (kind, (name, (word, disks))) = record { quorum = is_quorum kind; name = behind name; disks = items_of new_disk_of disks }

abbrev pub failgroups_of : Value g.failgroups → List NewFailgroup
failgroups_of (one, others) = map failgroup_of (one ∷ others)

abbrev pub attribute_of : Value g.attribute → Attribute
attribute_of (name, (sign, value)) = record { name = name; value = value }

abbrev pub rebalance_of : Value g.rebalance → Rebalance
rebalance_of (word, (power, wait)) = record { power = behind power; wait = is_said wait }

abbrev pub redundancy_of : Value g.redundancy → Redundancy
redundancy_of (inl word) = Unprotected
redundancy_of (inr (inl word)) = Mirror
redundancy_of (inr (inr word)) = High

abbrev pub stripe_of : Value g.stripe → Stripe
stripe_of (inl word) = stripe.Coarse
stripe_of (inr word) = stripe.Fine

abbrev pub words_of : Value g.template_words → TemplateWords
words_of (inl (r, s)) = record { redundancy = Some (redundancy_of r); stripe = option_map stripe_of s }
words_of (inr (s, r)) = record { redundancy = option_map redundancy_of r; stripe = Some (stripe_of s) }

abbrev pub add_of : Value g.added → Clause
add_of (inl (groups, rebalance)) = AddDisks (failgroups_of groups) (option_map rebalance_of rebalance)
add_of (inr (inl (word, (name, (attributes, (sign, (words, end))))))) = AddTemplate name (words_of words)
add_of (inr (inr (inl (word, path)))) = AddDirectory path
add_of (inr (inr (inr (word, (alias, (for, path)))))) = AddAlias alias path

abbrev pub dropped_of : Value (g.◌▸◌ g.name g.forced) → DroppedDisk
dropped_of (name, force) = record { name = name; force = is_said force }

abbrev pub drop_of : Value g.dropped → Clause
drop_of (inl (word, (disks, rebalance))) = DropDisks (items_of dropped_of disks) (option_map rebalance_of rebalance)
drop_of (inr (inl (word, ((sign, (kind, (failgroup, name))), (force, rebalance))))) = DropFailgroup (option_map group_word_of kind) name (is_said force) (option_map rebalance_of rebalance)
drop_of (inr (inr (inl (word, name)))) = DropTemplate name
drop_of (inr (inr (inr (inl (word, path))))) = DropDirectory path
drop_of (inr (inr (inr (inr (inl (word, path)))))) = DropAlias path
drop_of (inr (inr (inr (inr (inr (word, path)))))) = DropFile path

abbrev pub resize_of : Value g.resize → Clause
resize_of (word, (inl every, (size, rebalance))) = ResizeAll (behind size) (option_map rebalance_of rebalance)
resize_of (word, (inr (disk, name), (size, rebalance))) = ResizeDisk name (behind size) (option_map rebalance_of rebalance)

abbrev pub some_disks_of : Value g.some_disks → NamedDisks
some_disks_of (inl (word, names)) = Named (items_of (λ name. name) names)
some_disks_of (inr (word, (sign, (kind, (failgroup, name))))) = InFailgroup (option_map group_word_of kind) name

abbrev pub online_of : Value g.online → Clause
online_of (word, (inl every, wait)) = Online All (is_said wait)
online_of (word, (inr disks, wait)) = Online (some_disks_of disks) (is_said wait)

abbrev pub after_of : Option (Unit {0} × (Unit {0} × ℕ)) → Option ℕ
after_of o = option_map (λ p. p.1.1) o

abbrev pub rename_of : Value g.rename → Clause
rename_of (word, (inl directory, (old, (to, new)))) = RenameDirectory old new
rename_of (word, (inr alias, (old, (to, new)))) = RenameAlias old new

abbrev pub modify_of : Value g.modify → Clause
modify_of (either, (word, (name, (attributes, (sign, (words, end)))))) = ModifyTemplate name (words_of words)

abbrev pub clause_of : Value g.clause → Clause
clause_of (inl (word, v)) = add_of v
clause_of (inr (inl (word, v))) = drop_of v
clause_of (inr (inr (inl v))) = UndropDisks
clause_of (inr (inr (inr (inl v)))) = resize_of v
clause_of (inr (inr (inr (inr (inl v))))) = Rebalancing (rebalance_of v)
clause_of (inr (inr (inr (inr (inr (inl v)))))) = Check
clause_of (inr (inr (inr (inr (inr (inr (inl (word, force)))))))) = Mount (is_said force)
clause_of (inr (inr (inr (inr (inr (inr (inr (inl (word, force))))))))) = Dismount (is_said force)
clause_of (inr (inr (inr (inr (inr (inr (inr (inr (inl v))))))))) = online_of v
clause_of (inr (inr (inr (inr (inr (inr (inr (inr (inr (inl (word, (disks, after)))))))))))) = Offline (some_disks_of disks) (after_of after)
clause_of (inr (inr (inr (inr (inr (inr (inr (inr (inr (inr (inl v))))))))))) = modify_of v
clause_of (inr (inr (inr (inr (inr (inr (inr (inr (inr (inr (inr (inl v)))))))))))) = rename_of v
clause_of (inr (inr (inr (inr (inr (inr (inr (inr (inr (inr (inr (inr (word, (attribute, v)))))))))))))) = SetAttribute (attribute_of v)

abbrev pub kind_of : Value g.kind → GroupKind
kind_of (inl word) = kind.External
kind_of (inr (inl word)) = kind.Normal
kind_of (inr (inr word)) = kind.High

abbrev pub attributes_of : Option (Unit {0} × (Value g.attribute × List (Unit {0} × Value g.attribute))) → List Attribute
attributes_of None = []
attributes_of (Some (word, all)) = items_of attribute_of all

abbrev pub statement_of : Value g.statement → Statement
statement_of (inl (create, inl (word, (path, (sign, size))))) = CreateDisk path size
statement_of (inl (create, inr (word, (name, (kind, (groups, attributes)))))) = CreateGroup name (option_map (λ p. kind_of p.0) kind) (failgroups_of groups) (attributes_of attributes)
statement_of (inr (inl (drop, (word, (name, None))))) = DropGroup name false
statement_of (inr (inl (drop, (word, (name, Some (inl including, contents)))))) = DropGroup name true
statement_of (inr (inl (drop, (word, (name, Some (inr excluding, contents)))))) = DropGroup name false
statement_of (inr (inr (alter, (word, (name, v))))) = Alter name (clause_of v)

-- The text is one of the grammar, up to a semicolon at its end, and says this statement.
pub record Says (text : List ℕ) (s : Statement) : Type 0 where
  pub value : Value g.statement
  pub rest : List ℕ
  pub has : Has g.statement value text rest
  pub end : fit g.semicolon rest ≡ Some (tt, [])
  pub is : statement_of value ≡ s
