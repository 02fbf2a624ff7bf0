-- What stands behind ADD, by whether a failure group is next.
use Rattle.std.proofs.Common.{◌≡◌, ℕ, List, [], ◌∷◌, ◌++◌, map, refl, ap, ◌∙◌, Option, Some, None, inl, inr}
use Rattle.asm_grammar.specs.Syntax.{Then, Maybe, Many, Value}
use Rattle.asm_grammar.specs.Reading.{Outcome, Took, Failed, ◌>>=◌, mapped, parse}
use Rattle.asm_world.specs.Grammar as g
use Rattle.asm_world.specs.Meaning.{add_of, failgroup_of, failgroups_of}
use Rattle.asm_world.specs.Statement as s
use Rattle.group_sql.specs.Rows.{added_from, groups_from, maybe_failgroup_of, maybe_rebalance_of, other_added, other_added_of}
use Rattle.group_sql.proofs.Failgroups.{there, absent, bad_read}

rebalanced : (v : Value g.failgroup) (vs : List (Value g.failgroup)) (x : s.NewFailgroup) (o : Outcome (Value (Maybe g.rebalance))) → failgroup_of v ≡ x
    → mapped add_of (mapped {B = Value g.added} (λ z. inl z) (mapped {B = Value (Then g.failgroups (Maybe g.rebalance))} (λ w. ((v, vs), w)) o)) ≡ mapped (λ w. s.AddDisks ((x ∷ []) ++ map failgroup_of vs) (maybe_rebalance_of w)) o
rebalanced v vs x (Took w rest l) e = rw (← e) refl
rebalanced v vs x (Failed l) e = refl

grouped : (v : Value g.failgroup) (x : s.NewFailgroup) (o : Outcome (List (Value g.failgroup))) → failgroup_of v ≡ x
    → mapped add_of (mapped {B = Value g.added} (λ z. inl z) (mapped {B = Value g.failgroups} (λ w. (v, w)) o >>= λ z rest l. mapped {B = Value (Then g.failgroups (Maybe g.rebalance))} (λ w. (z, w)) (parse (Maybe g.rebalance) rest l)))
    ≡ (mapped (λ vs. (x ∷ []) ++ map failgroup_of vs) o >>= λ groups rest l. mapped (λ w. s.AddDisks groups (maybe_rebalance_of w)) (parse (Maybe g.rebalance) rest l))
grouped v x (Took vs rest l) e = rebalanced v vs x (parse (Maybe g.rebalance) rest l) e
grouped v x (Failed l) e = refl

pub added_is : (text : List ℕ) (left : ℕ) (x : s.NewFailgroup) (next : List ℕ) (l : ℕ) → mapped maybe_failgroup_of (parse (Maybe g.failgroup) text left) ≡ Took (Some x) next l
    → mapped add_of (parse g.added text left) ≡ added_from x next l
added_is text left x next l e =
    let a = there text left x next l e in
    rw (a.leads, a.read) (grouped a.value x (parse (Many g.failgroup) next l) a.says)

pub bad_added : (text : List ℕ) (left l : ℕ) → mapped maybe_failgroup_of (parse (Maybe g.failgroup) text left) ≡ Failed l → mapped add_of (parse g.added text left) ≡ Failed l
bad_added text left l e = let a = bad_read text left l e in rw (a.leads, a.read) refl

second : (o : Outcome (Value other_added)) → mapped add_of (mapped {B = Value g.added} (λ z. inr z) o) ≡ mapped other_added_of o
second (Took v rest l) = refl
second (Failed l) = refl

pub other_is : (text : List ℕ) (left : ℕ) (next : List ℕ) (l : ℕ) → mapped maybe_failgroup_of (parse (Maybe g.failgroup) text left) ≡ Took None next l
    → mapped add_of (parse g.added text left) ≡ mapped other_added_of (parse other_added next l)
other_is text left next l e =
    let a = absent text left next l e in
    rw (a.leads, a.left_is, a.rest) (second (parse other_added next l))
