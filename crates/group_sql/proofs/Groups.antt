-- Reading failure groups, one behind another, and what stands behind ADD.
use Rattle.std.proofs.Common.{◌≡◌, ℕ, ◌<◌, List, [], ◌∷◌, ◌++◌, length, Some, None, refl, ap, ◌∙◌}
use Rattle.asm_grammar.specs.Reading.{Outcome, Took, Failed, ◌>>=◌, mapped, parse}
use Rattle.asm_grammar.specs.Syntax.{Maybe, Value}
use Rattle.asm_world.specs.Grammar as g
use Rattle.asm_world.specs.Statement as s
use Rattle.group_sql.specs.Choices.{added_at, added_disks_at, failgroup_at, failgroups_after, groups_at, other_added_at, rebalance_at}
use Rattle.group_sql.specs.Rows.{groups_from, maybe_rebalance_of}
use Rattle.group_sql.proofs.Failgroups as lists
use Rattle.group_sql.proofs.Added as added
use Rattle.group_sql.proofs.Ties.{other_added_is}

pub no_more : (front : List s.NewFailgroup) (rest : List ℕ) (left : ℕ) (next : List ℕ) (l : ℕ) → failgroup_at rest left ≡ Took None next l → failgroups_after front rest left ≡ Took front next l
unfolding failgroup_at failgroups_after
no_more front rest left next l e = lists.no_more front rest left next l e

pub one_more : (front : List s.NewFailgroup) (rest : List ℕ) (left : ℕ) (x : s.NewFailgroup) (next : List ℕ) (l : ℕ) → failgroup_at rest left ≡ Took (Some x) next l → failgroups_after front rest left ≡ failgroups_after (front ++ x ∷ []) next l
unfolding failgroup_at failgroups_after
one_more front rest left x next l e = lists.one_more front rest left x next l e

pub bad : (front : List s.NewFailgroup) (rest : List ℕ) (left l : ℕ) → failgroup_at rest left ≡ Failed l → failgroups_after front rest left ≡ Failed l
unfolding failgroup_at failgroups_after
bad front rest left l e = lists.bad front rest left l e

pub falls : (rest : List ℕ) (left : ℕ) (x : s.NewFailgroup) (next : List ℕ) (l : ℕ) → failgroup_at rest left ≡ Took (Some x) next l → length next < length rest
unfolding failgroup_at
falls rest left x next l e = lists.falls rest left x next l e

pub groups_are : (rest : List ℕ) (left : ℕ) (x : s.NewFailgroup) (next : List ℕ) (l : ℕ) → failgroup_at rest left ≡ Took (Some x) next l → groups_at rest left ≡ failgroups_after (x ∷ []) next l
unfolding failgroup_at groups_at failgroups_after
groups_are rest left x next l e = lists.groups_are rest left x next l e

pub no_group : (rest : List ℕ) (left : ℕ) (next : List ℕ) (l : ℕ) → failgroup_at rest left ≡ Took None next l → groups_at rest left ≡ Failed l
unfolding failgroup_at groups_at
no_group rest left next l e = lists.no_group rest left next l e

pub bad_group : (rest : List ℕ) (left l : ℕ) → failgroup_at rest left ≡ Failed l → groups_at rest left ≡ Failed l
unfolding failgroup_at groups_at
bad_group rest left l e = lists.bad_group rest left l e

-- ADD

rebalanced : (groups : List s.NewFailgroup) (o : Outcome (Value (Maybe g.rebalance))) → mapped (λ w. s.AddDisks groups (maybe_rebalance_of w)) o ≡ mapped (λ r. s.AddDisks groups r) (mapped maybe_rebalance_of o)
rebalanced groups (Took w r l) = refl
rebalanced groups (Failed l) = refl

disks_added : (o : Outcome (List s.NewFailgroup)) → (o >>= λ groups r l. mapped (λ w. s.AddDisks groups (maybe_rebalance_of w)) (parse (Maybe g.rebalance) r l))
    ≡ (o >>= λ groups r l. mapped (λ z. s.AddDisks groups z) (rebalance_at r l))
unfolding rebalance_at
disks_added (Took groups r l) = rebalanced groups (parse (Maybe g.rebalance) r l)
disks_added (Failed l) = refl

pub added_is : (text : List ℕ) (left : ℕ) (x : s.NewFailgroup) (next : List ℕ) (l : ℕ) → failgroup_at text left ≡ Took (Some x) next l → added_at text left ≡ added_disks_at x next l
unfolding failgroup_at added_at added_disks_at failgroups_after
added_is text left x next l e = added.added_is text left x next l e ∙ disks_added (groups_from (x ∷ []) next l)

pub bad_added : (text : List ℕ) (left l : ℕ) → failgroup_at text left ≡ Failed l → added_at text left ≡ Failed l
unfolding failgroup_at added_at
bad_added text left l e = added.bad_added text left l e

pub other_is : (text : List ℕ) (left : ℕ) (next : List ℕ) (l : ℕ) → failgroup_at text left ≡ Took None next l → added_at text left ≡ other_added_at next l
unfolding failgroup_at added_at
other_is text left next l e = added.other_is text left next l e ∙ other_added_is next l
