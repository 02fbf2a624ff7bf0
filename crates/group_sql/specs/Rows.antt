-- Parts of the rows of statements, and what they say, as they are read one at a time.
use Rattle.std.specs.Prelude.{ℕ, Bool, true, false, codes, List, [], ◌∷◌, ◌++◌, map, Option, Some, None}
use mathlib.Core.Logic.{inl, inr}
use Rattle.asm_group.specs.declared.GroupKind.{GroupKind}
use Rattle.asm_group.specs.declared.Stripe.{Stripe}
use Rattle.asm_group.specs.Names.{Bytes}
use Rattle.std.specs.Option.{option_map}
use Rattle.asm_grammar.specs.Syntax.{SyntaxRule, Value, Maybe, Many}
use Rattle.asm_grammar.specs.Reading.{Outcome, ◌>>=◌, mapped, parse}
use Rattle.asm_grammar.specs.Reads.{items_of}
use Rattle.asm_world.specs.Grammar.{◌▸◌, ◌∣◌, key, name, number, size, minutes, path, forced, waiting, rebalance, group_word, listed, disk, failgroup, failgroups, in_failgroup, redundancy, stripe, opening, closing, template_words, template, some_disks, attribute, kind, create_disk, create_group, drop_group}
use Rattle.asm_world.specs.Meaning.{add_of, after_of, attribute_of, attributes_of, behind, new_disk_of, dropped_of, failgroup_of, failgroups_of, group_word_of, is_said, kind_of, rebalance_of, redundancy_of, some_disks_of, stripe_of, words_of}
use Rattle.asm_world.specs.Statement as s

-- [SIZE size]
abbrev pub maybe_size : SyntaxRule
maybe_size = Maybe (key (codes "SIZE") ▸ size)

-- [DROP AFTER time]
abbrev pub maybe_after : SyntaxRule
maybe_after = Maybe (key (codes "DROP") ▸ key (codes "AFTER") ▸ minutes)

abbrev pub maybe_kind_of : Value (Maybe group_word) → Option s.FailgroupKind
maybe_kind_of v = option_map group_word_of v

-- [POWER number]
abbrev pub maybe_power : SyntaxRule
maybe_power = Maybe (key (codes "POWER") ▸ number)

-- what stands behind REBALANCE
abbrev pub rebalance_options : SyntaxRule
rebalance_options = maybe_power ▸ waiting

abbrev pub options_of : Value rebalance_options → s.Rebalance
options_of (power, wait) = record { power = behind power; wait = is_said wait }

abbrev pub maybe_rebalance_of : Value (Maybe rebalance) → Option s.Rebalance
maybe_rebalance_of v = option_map rebalance_of v

-- [NAME name]
abbrev pub maybe_name : SyntaxRule
maybe_name = Maybe (key (codes "NAME") ▸ name)

-- name [FORCE | NOFORCE]
abbrev pub dropped_disk : SyntaxRule
dropped_disk = name ▸ forced

-- name DISK disk {, disk}
abbrev pub group_name_and_disks : SyntaxRule
group_name_and_disks = name ▸ key (codes "DISK") ▸ listed disk

abbrev pub named_in : Bool → Value group_name_and_disks → s.NewFailgroup
named_in quorum (n, (word, disks)) = record { quorum = quorum; name = Some n; disks = items_of new_disk_of disks }

-- [FAILGROUP name] DISK disk {, disk}
abbrev pub group_and_disks : SyntaxRule
group_and_disks = Maybe (key (codes "FAILGROUP") ▸ name) ▸ key (codes "DISK") ▸ listed disk

abbrev pub disks_in : Bool → Value group_and_disks → s.NewFailgroup
disks_in quorum (n, (word, disks)) = record { quorum = quorum; name = behind n; disks = items_of new_disk_of disks }

abbrev pub maybe_failgroup_of : Value (Maybe failgroup) → Option s.NewFailgroup
maybe_failgroup_of v = option_map failgroup_of v

-- the failure groups so far, and those that follow
abbrev pub groups_from : List s.NewFailgroup → List ℕ → ℕ → Outcome (List s.NewFailgroup)
groups_from front rest left = mapped (λ vs. front ++ map failgroup_of vs) (parse (Many failgroup) rest left)

abbrev pub in_group_of : Value in_failgroup → Option s.FailgroupKind × Bytes
in_group_of (sign, (k, (f, n))) = (option_map group_word_of k, n)

-- TEMPLATES

abbrev pub with_redundancy : s.Redundancy → Value (Maybe stripe) → s.TemplateWords
with_redundancy redundancy v = record { redundancy = Some redundancy; stripe = option_map stripe_of v }

abbrev pub with_stripe : Stripe → Value (Maybe redundancy) → s.TemplateWords
with_stripe stripe v = record { redundancy = option_map redundancy_of v; stripe = Some stripe }

-- what stands behind TEMPLATE
abbrev pub template_rest : SyntaxRule
template_rest = name ▸ key (codes "ATTRIBUTES") ▸ opening ▸ template_words ▸ closing

abbrev pub template_of : Value template_rest → Bytes × s.TemplateWords
template_of (n, (ts, (sign, (words, end)))) = (n, words_of words)

abbrev pub modified_of : Value template → s.Clause
modified_of (word, (n, (ts, (sign, (words, end))))) = s.ModifyTemplate n (words_of words)

-- CLAUSES, behind their first words

-- path WORD path
abbrev pub two_paths : Bytes → SyntaxRule
two_paths between = path ▸ key between ▸ path

abbrev pub two_paths_of : (between : Bytes) → Value (two_paths between) → Bytes × Bytes
two_paths_of between (first, (word, second)) = (first, second)

-- the disks that are added, behind their first failure group
abbrev pub added_from : s.NewFailgroup → List ℕ → ℕ → Outcome s.Clause
added_from first rest left = groups_from (first ∷ []) rest left >>= λ groups behind l. mapped (λ v. s.AddDisks groups (maybe_rebalance_of v)) (parse (Maybe rebalance) behind l)

-- what else is added
abbrev pub other_added : SyntaxRule
other_added = template ∣ key (codes "DIRECTORY") ▸ path ∣ key (codes "ALIAS") ▸ path ▸ key (codes "FOR") ▸ path

abbrev pub other_added_of : Value other_added → s.Clause
other_added_of v = add_of (inr v)

abbrev pub drop_disks : SyntaxRule
drop_disks = listed dropped_disk ▸ Maybe rebalance

abbrev pub drop_disks_of : Value drop_disks → s.Clause
drop_disks_of (disks, b) = s.DropDisks (items_of dropped_of disks) (maybe_rebalance_of b)

abbrev pub drop_failgroup : SyntaxRule
drop_failgroup = in_failgroup ▸ forced ▸ Maybe rebalance

abbrev pub drop_failgroup_of : Value drop_failgroup → s.Clause
drop_failgroup_of ((sign, (k, (f, n))), (force, b)) = s.DropFailgroup (option_map group_word_of k) n (is_said force) (maybe_rebalance_of b)

abbrev pub size_with_rebalance : SyntaxRule
size_with_rebalance = maybe_size ▸ Maybe rebalance

abbrev pub resized_of : Value size_with_rebalance → Option ℕ × Option s.Rebalance
resized_of (z, b) = (behind z, maybe_rebalance_of b)

abbrev pub resize_rest : SyntaxRule
resize_rest = (key (codes "ALL") ∣ key (codes "DISK") ▸ name) ▸ size_with_rebalance

abbrev pub resize_rest_of : Value resize_rest → s.Clause
resize_rest_of (inl every, (z, b)) = s.ResizeAll (behind z) (maybe_rebalance_of b)
resize_rest_of (inr (d, n), (z, b)) = s.ResizeDisk n (behind z) (maybe_rebalance_of b)

abbrev pub check_rest : SyntaxRule
check_rest = Maybe (key (codes "REPAIR") ∣ key (codes "NOREPAIR"))

abbrev pub online_rest : SyntaxRule
online_rest = (key (codes "ALL") ∣ some_disks) ▸ waiting

abbrev pub online_rest_of : Value online_rest → s.Clause
online_rest_of (inl every, wait) = s.Online s.All (is_said wait)
online_rest_of (inr disks, wait) = s.Online (some_disks_of disks) (is_said wait)

abbrev pub offline_rest : SyntaxRule
offline_rest = some_disks ▸ maybe_after

abbrev pub offline_rest_of : Value offline_rest → s.Clause
offline_rest_of (disks, after) = s.Offline (some_disks_of disks) (after_of after)

abbrev pub rename_rest : SyntaxRule
rename_rest = (key (codes "DIRECTORY") ∣ key (codes "ALIAS")) ▸ path ▸ key (codes "TO") ▸ path

abbrev pub rename_rest_of : Value rename_rest → s.Clause
rename_rest_of (inl directory, (old, (to, new))) = s.RenameDirectory old new
rename_rest_of (inr alias, (old, (to, new))) = s.RenameAlias old new

abbrev pub attribute_rest : SyntaxRule
attribute_rest = key (codes "ATTRIBUTE") ▸ attribute

abbrev pub attribute_said : Value attribute_rest → s.Clause
attribute_said (word, v) = s.SetAttribute (attribute_of v)

-- STATEMENTS, behind their first words

abbrev pub maybe_attributes : SyntaxRule
maybe_attributes = Maybe (key (codes "ATTRIBUTE") ▸ listed attribute)

abbrev pub maybe_redundancy : SyntaxRule
maybe_redundancy = Maybe (kind ▸ key (codes "REDUNDANCY"))

abbrev pub maybe_redundancy_of : Value maybe_redundancy → Option GroupKind
maybe_redundancy_of v = option_map (λ p. kind_of p.0) v

abbrev pub groups_and_attributes : SyntaxRule
groups_and_attributes = failgroups ▸ maybe_attributes

abbrev pub groups_and_attributes_of : Value groups_and_attributes → List s.NewFailgroup × List s.Attribute
groups_and_attributes_of (groups, ts) = (failgroups_of groups, attributes_of ts)

abbrev pub group_rest : SyntaxRule
group_rest = name ▸ maybe_redundancy ▸ groups_and_attributes

abbrev pub group_rest_of : Value group_rest → s.Statement
group_rest_of (n, (k, (groups, ts))) = s.CreateGroup n (maybe_redundancy_of k) (failgroups_of groups) (attributes_of ts)

abbrev pub disk_rest : SyntaxRule
disk_rest = path ▸ key (codes "SIZE") ▸ size

abbrev pub disk_rest_of : Value disk_rest → s.Statement
disk_rest_of (p, (sign, z)) = s.CreateDisk p z

abbrev pub created : SyntaxRule
created = create_disk ∣ create_group

abbrev pub created_of : Value created → s.Statement
created_of (inl (word, v)) = disk_rest_of v
created_of (inr (word, v)) = group_rest_of v

abbrev pub maybe_contents : SyntaxRule
maybe_contents = Maybe ((key (codes "INCLUDING") ∣ key (codes "EXCLUDING")) ▸ key (codes "CONTENTS"))

-- whether INCLUDING is said
abbrev pub contents_of : Value maybe_contents → Bool
contents_of None = false
contents_of (Some (inl including, contents)) = true
contents_of (Some (inr excluding, contents)) = false

abbrev pub drop_group_of : Value drop_group → s.Statement
drop_group_of (word, (n, contents)) = s.DropGroup n (contents_of contents)
