-- How parts of a statement are put behind one another.
use Rattle.std.proofs.Common.{◌≡◌, ℕ, List, [], ◌∷◌, map, length, get_or, drop, suc, ◌+◌, ◌<◌, ◌≤◌, add-one, drop-cons, refl, sym, ap, ◌∙◌, Option, Some, None}
use Rattle.std.specs.Prelude.{codes, ◌==◌, false}
use Rattle.std.proofs.lemmas.List.{drop_all}
use Rattle.std.proofs.lemmas.List.Folds.{fold-map}
use Rattle.asm_grammar.specs.Syntax.{SyntaxRule, Then, Maybe, Many, Value}
use Rattle.asm_world.specs.Grammar as g
use Rattle.asm_world.specs.Statement as s
use Rattle.asm_world.specs.Writing.{after_word, new_disk_value, failgroup_value, failgroup_values, failgroups_value, first_and_others, one_more, quorum_value}
use Rattle.written_sql.specs.Lines.{Line, with_value, put_maybe, put_more, list_of, some_disks_value, groups_line, maybe_group_name}

-- LISTS

-- the items behind commas
pub more_put : {A : Type 0} (row : SyntaxRule) (value : A → Value row) (items : List A) (line : Line)
    → with_value (Many (Then g.comma row)) (map (λ o. (tt, o)) (map value items)) line ≡ put_more row value items line
more_put row value items line =
    fold-map (λ l v. with_value (Then g.comma row) v l) (λ o. (tt, o)) line (map value items)
    ∙ fold-map (λ l w. with_value row w (with_value g.comma tt l)) value line items

pub list_put : {A : Type 0} (row : SyntaxRule) (value : A → Value row) (item : A) (others : List A) (line : Line)
    → Some (put_more row value others (with_value row (value item) line)) ≡ put_maybe (g.listed row) (list_of value (item ∷ others)) line
list_put row value item others line = ap (λ z. Some z) (sym (more_put row value others (with_value row (value item) line)))

-- FAILURE GROUPS

pub failgroup_put : (f : s.NewFailgroup) (disks : List s.NewDisk) (line : Line)
    → put_maybe (g.listed g.disk) (list_of new_disk_value disks) (with_value (g.key (codes "DISK")) tt (with_value maybe_group_name (after_word f.name) (with_value (Maybe g.group_word) (quorum_value f.quorum) line)))
    ≡ put_maybe g.failgroup (failgroup_value f disks) line
failgroup_put f [] line = refl
failgroup_put f (d ∷ disks) line = refl

-- the values of groups, of which the first has one
next_put : (v : Value g.failgroup) (others : Option (List (Value g.failgroup))) (line : Line) → put_maybe (Many g.failgroup) (one_more (Some v) others) line ≡ put_maybe (Many g.failgroup) others (with_value g.failgroup v line)
next_put v None line = refl
next_put v (Some vs) line = refl

group_by : (o : Option (Value g.failgroup)) (groups : List s.NewFailgroup) (line next : Line) → put_maybe g.failgroup o line ≡ Some next
    → put_maybe (Many g.failgroup) (one_more o (failgroup_values groups)) line ≡ put_maybe (Many g.failgroup) (failgroup_values groups) next
group_by None groups line next e = absurd cc
group_by (Some v) groups line next e = let q : with_value g.failgroup v line ≡ next = cc in next_put v (failgroup_values groups) line ∙ ap (λ l. put_maybe (Many g.failgroup) (failgroup_values groups) l) q

pub no_groups : (groups : List s.NewFailgroup) (i : ℕ) (line : Line) → length groups ≤ i → groups_line (drop i groups) line ≡ Some line
unfolding groups_line
no_groups groups i line l = rw (drop_all i groups l) refl

pub group_put : (groups : List s.NewFailgroup) (i : ℕ) (f : s.NewFailgroup) (line next : Line) → i < length groups → f ≡ get_or groups i f → Some next ≡ put_maybe g.failgroup (failgroup_value f f.disks) line
    → groups_line (drop i groups) line ≡ groups_line (drop (i + 1) groups) next
unfolding groups_line
group_put groups i f line next l e k = rw (add-one, drop-cons groups i f l, ← e) (group_by (failgroup_value f f.disks) (drop (suc i) groups) line next (sym k))

bad_by : (o : Option (Value g.failgroup)) (others : Option (List (Value g.failgroup))) (line : Line) → put_maybe g.failgroup o line ≡ None → put_maybe (Many g.failgroup) (one_more o others) line ≡ None
bad_by None others line e = refl
bad_by (Some v) others line e = absurd cc

pub bad_group : (groups : List s.NewFailgroup) (i : ℕ) (f : s.NewFailgroup) (line : Line) → i < length groups → f ≡ get_or groups i f → None ≡ put_maybe g.failgroup (failgroup_value f f.disks) line
    → groups_line (drop i groups) line ≡ None
unfolding groups_line
bad_group groups i f line l e k = rw (drop-cons groups i f l, ← e) (bad_by (failgroup_value f f.disks) (failgroup_values (drop (suc i) groups)) line (sym k))

first_put : (o : Option (Value g.failgroup)) (others : Option (List (Value g.failgroup))) (line : Line) → put_maybe (Many g.failgroup) (one_more o others) line ≡ put_maybe g.failgroups (first_and_others (one_more o others)) line
first_put None others line = refl
first_put (Some v) None line = refl
first_put (Some v) (Some vs) line = refl

pub failgroups_put : (groups : List s.NewFailgroup) (line : Line) → (length groups == 0) ≡ false → groups_line groups line ≡ put_maybe g.failgroups (failgroups_value groups) line
unfolding groups_line
failgroups_put [] line e = absurd cc
failgroups_put (f ∷ groups) line e = first_put (failgroup_value f f.disks) (failgroup_values groups) line

-- DISKS BY THEIR NAMES

pub named_put : (names : List (List ℕ)) (line : Line)
    → put_maybe (g.listed g.name) (list_of (λ n. n) names) (with_value (g.key (codes "DISK")) tt line) ≡ put_maybe g.some_disks (some_disks_value (s.Named names)) line
named_put [] line = refl
named_put (n ∷ names) line = refl
