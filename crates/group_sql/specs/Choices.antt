-- How choices among clauses are read: one keyword after the other is tried, and what stands behind it is read.
use Rattle.std.specs.Prelude.{ℕ, ◌-◌, min, Bool, codes, List, [], ◌∷◌, length, Option, Some, None}
use Rattle.asm_grammar.specs.Word.{Keyword, fit, near}
use Rattle.asm_grammar.specs.Reading.{Outcome, Took, ◌>>=◌, mapped, parse, close}
use Rattle.asm_grammar.specs.Syntax.{Maybe}
use Rattle.asm_group.specs.declared.GroupKind.{GroupKind}
use Rattle.asm_group.specs.declared.Stripe.{Stripe}
use Rattle.asm_group.specs.declared.Stripe.TheVariants as stripes
use Rattle.asm_group.specs.Names.{Bytes}
use Rattle.asm_world.specs.Grammar as g
use Rattle.asm_world.specs.Meaning.{add_of, attributes_of, behind, failgroups_of, is_said}
use Rattle.asm_world.specs.Statement as s
use Rattle.group_sql.specs.Rows as rows

-- what is left at a keyword that isn't there
abbrev pub rest_at_missing : List ℕ → List ℕ → ℕ → ℕ
rest_at_missing k text left = min left (length text - near (Keyword k) text)

-- what stands behind the keyword, where it is there, and else the other
abbrev pub choice : {A : Type 0} → Option (Unit {0} × List ℕ) → (List ℕ → Outcome A) → Outcome A → Outcome A
choice (Some found) this other = this found.1
choice None this other = other

unfoldable pub forced_at : List ℕ → ℕ → Outcome Bool
forced_at text left = mapped is_said (parse g.forced text left)

unfoldable pub size_at : List ℕ → ℕ → Outcome (Option ℕ)
size_at text left = mapped behind (parse rows.maybe_size text left)

unfoldable pub rebalance_at : List ℕ → ℕ → Outcome (Option s.Rebalance)
rebalance_at text left = mapped rows.maybe_rebalance_of (parse (Maybe g.rebalance) text left)

unfoldable pub stripe_at : s.Redundancy → List ℕ → ℕ → Outcome s.TemplateWords
stripe_at redundancy text left = mapped (rows.with_redundancy redundancy) (parse (Maybe g.stripe) text left)

unfoldable pub redundancy_at : Stripe → List ℕ → ℕ → Outcome s.TemplateWords
redundancy_at stripe text left = mapped (rows.with_stripe stripe) (parse (Maybe g.redundancy) text left)

-- the words of a template
unfoldable pub words_at : List ℕ → ℕ → Outcome s.TemplateWords
words_at text left =
    choice (fit (Keyword (codes "UNPROTECTED")) text) (λ rest. stripe_at s.Unprotected rest left)
    (let l = rest_at_missing (codes "UNPROTECTED") text left in
    choice (fit (Keyword (codes "MIRROR")) text) (λ rest. stripe_at s.Mirror rest l)
    (let m = rest_at_missing (codes "MIRROR") text l in
    choice (fit (Keyword (codes "HIGH")) text) (λ rest. stripe_at s.High rest m)
    (let n = rest_at_missing (codes "HIGH") text m in
    choice (fit (Keyword (codes "COARSE")) text) (λ rest. redundancy_at stripes.Coarse rest n)
    (parse (g.key (codes "FINE")) text (rest_at_missing (codes "COARSE") text n) >>= λ u rest o. redundancy_at stripes.Fine rest o))))

unfoldable pub template_with_words_at : List ℕ → ℕ → Outcome (Bytes × s.TemplateWords)
template_with_words_at text left =
    parse g.name text left >>= λ name r l.
    parse (g.key (codes "ATTRIBUTES")) r l >>= λ u r m.
    parse g.opening r m >>= λ u r n.
    words_at r n >>= λ words r o.
    mapped (λ u. (name, words)) (parse g.closing r o)

unfoldable pub paths_at : Bytes → List ℕ → ℕ → Outcome (Bytes × Bytes)
paths_at between text left = mapped (rows.two_paths_of between) (parse (rows.two_paths between) text left)

-- what else is added than disks
unfoldable pub other_added_at : List ℕ → ℕ → Outcome s.Clause
other_added_at text left =
    choice (fit (Keyword (codes "TEMPLATE")) text) (λ rest. mapped (λ p. s.AddTemplate p.0 p.1) (template_with_words_at rest left))
    (let l = rest_at_missing (codes "TEMPLATE") text left in
    choice (fit (Keyword (codes "DIRECTORY")) text) (λ rest. mapped (λ p. s.AddDirectory p) (parse g.path rest l))
    (let m = rest_at_missing (codes "DIRECTORY") text l in
    parse (g.key (codes "ALIAS")) text m >>= λ u rest n. mapped (λ p. s.AddAlias p.0 p.1) (paths_at (codes "FOR") rest n)))

unfoldable pub drop_disks_at : List ℕ → ℕ → Outcome s.Clause
drop_disks_at text left = mapped rows.drop_disks_of (parse rows.drop_disks text left)

unfoldable pub in_group_at : List ℕ → ℕ → Outcome (Option s.FailgroupKind × Bytes)
in_group_at text left = mapped rows.in_group_of (parse g.in_failgroup text left)

unfoldable pub drop_failgroup_at : List ℕ → ℕ → Outcome s.Clause
drop_failgroup_at text left =
    in_group_at text left >>= λ group r l.
    forced_at r l >>= λ force r m.
    mapped (λ rebalance. s.DropFailgroup group.0 group.1 force rebalance) (rebalance_at r m)

unfoldable pub dropped_at : List ℕ → ℕ → Outcome s.Clause
dropped_at text left =
    choice (fit (Keyword (codes "DISK")) text) (λ rest. drop_disks_at rest left)
    (let l = rest_at_missing (codes "DISK") text left in
    choice (fit (Keyword (codes "DISKS")) text) (λ rest. drop_failgroup_at rest l)
    (let m = rest_at_missing (codes "DISKS") text l in
    choice (fit (Keyword (codes "TEMPLATE")) text) (λ rest. mapped (λ n. s.DropTemplate n) (parse g.name rest m))
    (let n = rest_at_missing (codes "TEMPLATE") text m in
    choice (fit (Keyword (codes "DIRECTORY")) text) (λ rest. mapped (λ p. s.DropDirectory p) (parse g.path rest n))
    (let o = rest_at_missing (codes "DIRECTORY") text n in
    choice (fit (Keyword (codes "ALIAS")) text) (λ rest. mapped (λ p. s.DropAlias p) (parse g.path rest o))
    (let q = rest_at_missing (codes "ALIAS") text o in
    parse (g.key (codes "FILE")) text q >>= λ u rest r. mapped (λ p. s.DropFile p) (parse g.path rest r))))))

-- a failure group, where one begins
unfoldable pub failgroup_at : List ℕ → ℕ → Outcome (Option s.NewFailgroup)
failgroup_at text left = mapped rows.maybe_failgroup_of (parse (Maybe g.failgroup) text left)

-- the failure groups so far, and those that follow
unfoldable pub failgroups_after : List s.NewFailgroup → List ℕ → ℕ → Outcome (List s.NewFailgroup)
failgroups_after front text left = rows.groups_from front text left

unfoldable pub groups_at : List ℕ → ℕ → Outcome (List s.NewFailgroup)
groups_at text left = mapped failgroups_of (parse g.failgroups text left)

-- the disks that are added, behind their first failure group
unfoldable pub added_disks_at : s.NewFailgroup → List ℕ → ℕ → Outcome s.Clause
added_disks_at first text left = failgroups_after (first ∷ []) text left >>= λ groups r l. mapped (λ rebalance. s.AddDisks groups rebalance) (rebalance_at r l)

unfoldable pub added_at : List ℕ → ℕ → Outcome s.Clause
added_at text left = mapped add_of (parse g.added text left)

unfoldable pub resized_at : List ℕ → ℕ → Outcome (Option ℕ × Option s.Rebalance)
resized_at text left = size_at text left >>= λ size r l. mapped (λ rebalance. (size, rebalance)) (rebalance_at r l)

unfoldable pub resize_at : List ℕ → ℕ → Outcome s.Clause
resize_at text left =
    choice (fit (Keyword (codes "ALL")) text) (λ rest. mapped (λ p. s.ResizeAll p.0 p.1) (resized_at rest left))
    (parse (g.key (codes "DISK")) text (rest_at_missing (codes "ALL") text left) >>= λ u r l.
    parse g.name r l >>= λ name r m. mapped (λ p. s.ResizeDisk name p.0 p.1) (resized_at r m))

unfoldable pub options_at : List ℕ → ℕ → Outcome s.Rebalance
options_at text left = mapped rows.options_of (parse rows.rebalance_options text left)

unfoldable pub check_at : List ℕ → ℕ → Outcome s.Clause
check_at text left = mapped (λ w. s.Check) (parse rows.check_rest text left)

unfoldable pub online_at : List ℕ → ℕ → Outcome s.Clause
online_at text left = mapped rows.online_rest_of (parse rows.online_rest text left)

unfoldable pub offline_at : List ℕ → ℕ → Outcome s.Clause
offline_at text left = mapped rows.offline_rest_of (parse rows.offline_rest text left)

unfoldable pub modified_at : List ℕ → ℕ → Outcome s.Clause
modified_at text left = parse (g.key (codes "TEMPLATE")) text left >>= λ u rest l. mapped (λ p. s.ModifyTemplate p.0 p.1) (template_with_words_at rest l)

unfoldable pub renamed_at : List ℕ → ℕ → Outcome s.Clause
renamed_at text left = mapped rows.rename_rest_of (parse rows.rename_rest text left)

unfoldable pub set_at : List ℕ → ℕ → Outcome s.Clause
set_at text left = mapped rows.attribute_said (parse rows.attribute_rest text left)

-- clauses from OFFLINE on
unfoldable pub last_clause_at : List ℕ → ℕ → Outcome s.Clause
last_clause_at text left =
    choice (fit (Keyword (codes "OFFLINE")) text) (λ rest. offline_at rest left)
    (let l = rest_at_missing (codes "OFFLINE") text left in
    choice (fit (Keyword (codes "MODIFY")) text) (λ rest. modified_at rest l)
    (let m = rest_at_missing (codes "MODIFY") text l in
    choice (fit (Keyword (codes "ALTER")) text) (λ rest. modified_at rest m)
    (let n = rest_at_missing (codes "ALTER") text m in
    choice (fit (Keyword (codes "RENAME")) text) (λ rest. renamed_at rest n)
    (let o = rest_at_missing (codes "RENAME") text n in
    parse (g.key (codes "SET")) text o >>= λ u rest r. set_at rest r))))

-- clauses from CHECK on
unfoldable pub later_clause_at : List ℕ → ℕ → Outcome s.Clause
later_clause_at text left =
    choice (fit (Keyword (codes "CHECK")) text) (λ rest. check_at rest left)
    (let l = rest_at_missing (codes "CHECK") text left in
    choice (fit (Keyword (codes "MOUNT")) text) (λ rest. mapped (λ f. s.Mount f) (forced_at rest l))
    (let m = rest_at_missing (codes "MOUNT") text l in
    choice (fit (Keyword (codes "DISMOUNT")) text) (λ rest. mapped (λ f. s.Dismount f) (forced_at rest m))
    (let n = rest_at_missing (codes "DISMOUNT") text m in
    choice (fit (Keyword (codes "ONLINE")) text) (λ rest. online_at rest n)
    (last_clause_at text (rest_at_missing (codes "ONLINE") text n)))))

unfoldable pub clause_at : List ℕ → ℕ → Outcome s.Clause
clause_at text left =
    choice (fit (Keyword (codes "ADD")) text) (λ rest. added_at rest left)
    (let l = rest_at_missing (codes "ADD") text left in
    choice (fit (Keyword (codes "DROP")) text) (λ rest. dropped_at rest l)
    (let m = rest_at_missing (codes "DROP") text l in
    choice (fit (Keyword (codes "UNDROP")) text) (λ rest. mapped (λ u. s.UndropDisks) (parse (g.key (codes "DISKS")) rest m))
    (let n = rest_at_missing (codes "UNDROP") text m in
    choice (fit (Keyword (codes "RESIZE")) text) (λ rest. resize_at rest n)
    (let o = rest_at_missing (codes "RESIZE") text n in
    choice (fit (Keyword (codes "REBALANCE")) text) (λ rest. mapped (λ r. s.Rebalancing r) (options_at rest o))
    (later_clause_at text (rest_at_missing (codes "REBALANCE") text o))))))

unfoldable pub attributes_at : List ℕ → ℕ → Outcome (List s.Attribute)
attributes_at text left = mapped attributes_of (parse rows.maybe_attributes text left)

unfoldable pub kind_at : List ℕ → ℕ → Outcome (Option GroupKind)
kind_at text left = mapped rows.maybe_redundancy_of (parse rows.maybe_redundancy text left)

unfoldable pub groups_and_attributes_at : List ℕ → ℕ → Outcome (List s.NewFailgroup × List s.Attribute)
groups_and_attributes_at text left = groups_at text left >>= λ groups r l. mapped (λ attributes. (groups, attributes)) (attributes_at r l)

unfoldable pub new_group_at : List ℕ → ℕ → Outcome s.Statement
new_group_at text left =
    parse g.name text left >>= λ name r l.
    kind_at r l >>= λ kind r m.
    mapped (λ p. s.CreateGroup name kind p.0 p.1) (groups_and_attributes_at r m)

unfoldable pub new_disk_at : List ℕ → ℕ → Outcome s.Statement
new_disk_at text left = mapped rows.disk_rest_of (parse rows.disk_rest text left)

unfoldable pub created_at : List ℕ → ℕ → Outcome s.Statement
created_at text left =
    choice (fit (Keyword (codes "DISK")) text) (λ rest. new_disk_at rest left)
    (parse (g.key (codes "DISKGROUP")) text (rest_at_missing (codes "DISK") text left) >>= λ u rest l. new_group_at rest l)

unfoldable pub drop_group_at : List ℕ → ℕ → Outcome s.Statement
drop_group_at text left = mapped rows.drop_group_of (parse g.drop_group text left)

unfoldable pub statement_at : List ℕ → ℕ → Outcome s.Statement
statement_at text left =
    choice (fit (Keyword (codes "CREATE")) text) (λ rest. created_at rest left)
    (let l = rest_at_missing (codes "CREATE") text left in
    choice (fit (Keyword (codes "DROP")) text) (λ rest. drop_group_at rest l)
    (let m = rest_at_missing (codes "DROP") text l in
    parse (g.key (codes "ALTER")) text m >>= λ u rest n.
    parse (g.key (codes "DISKGROUP")) rest n >>= λ w behind o.
    parse g.name behind o >>= λ group r q. mapped (λ c. s.Alter group c) (clause_at r q)))

-- a statement, and a semicolon with nothing behind it
unfoldable pub ended_at : List ℕ → ℕ → Outcome s.Statement
ended_at text left = statement_at text left >>= λ statement rest l. mapped (λ u. statement) (close g.semicolon rest l)
