-- What holds of the grammar of statements.
use Rattle.std.proofs.Common.{◌≡◌, ◌≢◌, ℕ, Bool, true, false, List, [], ◌∷◌, map, refl, sym, ap, subst, ◌∙◌, Option, Some, None, inl, inr}
use Rattle.std.specs.Prelude.{Err, is_some, ◌||◌}
use Rattle.std.specs.Option.{option_map}
use Rattle.asm_grammar.specs.Syntax.{Value}
use Rattle.asm_grammar.specs.Reading.{whole}
use Rattle.asm_grammar.specs.Writing.{pieces, AllSpell}
use Rattle.asm_grammar.specs.Laws.{IsLongestFront}
use Rattle.asm_grammar.proofs.Complete.{one_thing}
use Rattle.asm_grammar.proofs.Canonical.{canonical}
use Rattle.asm_grammar.proofs.Longest.{longest_front}
use Rattle.asm_group.specs.declared.GroupKind.{GroupKind}
use Rattle.asm_group.specs.declared.GroupKind.TheVariants as kind
use Rattle.asm_group.specs.declared.Stripe.{Stripe}
use Rattle.asm_group.specs.declared.Stripe.TheVariants as stripe
use Rattle.asm_world.specs.Grammar as g
use Rattle.asm_world.specs.Meaning.{Says, statement_of, clause_of, is_said, words_of, redundancy_of, stripe_of, after_of, behind, dropped_of, rebalance_of, group_word_of, new_disk_of, is_quorum, failgroup_of, failgroups_of, kind_of, attribute_of, attributes_of}
use Rattle.asm_world.specs.Statement as s
use Rattle.asm_world.specs.Writing.{statement_value, statement_text, clause_value, after_value, words_value, redundancy_value, stripe_value, forced_value, after_word, group_word_value, dropped_value, rebalance_value, maybe_rebalance, new_disk_value, quorum_value, failgroup_value, one_more, failgroup_values, first_and_others, failgroups_value, kind_value, attribute_value, attributes_value}

pub one_statement : (text : List ℕ) (x y : s.Statement) → Says text x → Says text y → x ≡ y
one_statement text x y a b =
    let p = one_thing g.statement (g.semicolon ∷ []) a.value b.value text a.rest b.rest refl a.has (ap (λ o. is_some o || false) a.end) b.has (ap (λ o. is_some o || false) b.end) in
    sym a.is ∙ (ap statement_of p.0 ∙ b.is)

pub refused : (text : List ℕ) (at : ℕ) → whole g.statement g.semicolon text ≡ Err at → IsLongestFront g.statement 59 text at
refused text at e = longest_front g.statement 59 text at refl refl refl refl e

-- VALUES SAY THEIR STATEMENTS

said_is : (b : Bool) → is_said (forced_value b) ≡ b
said_is true = refl
said_is false = refl

behind_is : {A : Type 0} (o : Option A) → behind (after_word o) ≡ o
behind_is None = refl
behind_is (Some a) = refl

-- a list behind its first member
items_are : {A B : Type 0} (make : A → B) (says : B → A) → ((a : A) → says (make a) ≡ a) → (items : List A) → map {A = Unit {0} × B} (λ p. says p.1) (map (λ o. (tt, o)) (map make items)) ≡ items
items_are make says h [] = refl
items_are {B = B} make says h (a ∷ items) = ap (λ x. x ∷ map {A = Unit {0} × B} (λ p. says p.1) (map (λ o. (tt, o)) (map make items))) (h a) ∙ ap (λ xs. a ∷ xs) (items_are make says h items)

dropped_is : (d : s.DroppedDisk) → dropped_of (dropped_value d) ≡ d
dropped_is d = ap (λ b. record { name = d.name; force = b }) (said_is d.force)

rebalance_is : (r : s.Rebalance) → rebalance_of (rebalance_value r) ≡ r
rebalance_is r =
    ap (λ p. record { power = p; wait = is_said (forced_value r.wait) }) (behind_is r.power) ∙ ap (λ b. record { power = r.power; wait = b }) (said_is r.wait)

maybe_rebalance_is : (o : Option s.Rebalance) → option_map rebalance_of (maybe_rebalance o) ≡ o
maybe_rebalance_is None = refl
maybe_rebalance_is (Some r) = ap (λ x. Some x) (rebalance_is r)

disks_are : (ds : List s.DroppedDisk) → map {A = Unit {0} × Value (g.◌▸◌ g.name g.forced)} (λ p. dropped_of p.1) (map (λ o. (tt, o)) (map dropped_value ds)) ≡ ds
disks_are ds = items_are dropped_value dropped_of dropped_is ds

group_words_are : (o : Option s.FailgroupKind) → option_map group_word_of (option_map group_word_value o) ≡ o
group_words_are None = refl
group_words_are (Some s.Quorum) = refl
group_words_are (Some s.Regular) = refl

names_are : (ns : List (List ℕ)) → map {A = Unit {0} × List ℕ} (λ p. p.1) (map (λ o. (tt, o)) ns) ≡ ns
names_are [] = refl
names_are (n ∷ ns) = ap (λ x. n ∷ x) (names_are ns)

after_is : (o : Option ℕ) → after_of (after_value o) ≡ o
after_is None = refl
after_is (Some m) = refl

from_some : {A B : Type 0} (f : A → B) (a v : A) (x : B) → Some a ≡ Some v → f a ≡ x → f v ≡ x
from_some f a v x e k = let q : a ≡ v = cc in subst (λ z. f z ≡ x) q k

redundancy_is : (r : s.Redundancy) → redundancy_of (redundancy_value r) ≡ r
redundancy_is s.Unprotected = refl
redundancy_is s.Mirror = refl
redundancy_is s.High = refl

stripe_is : (x : Stripe) → stripe_of (stripe_value x) ≡ x
stripe_is stripe.Coarse = refl
stripe_is stripe.Fine = refl

maybe_stripe_is : (o : Option Stripe) → option_map stripe_of (option_map stripe_value o) ≡ o
maybe_stripe_is None = refl
maybe_stripe_is (Some x) = ap (λ z. Some z) (stripe_is x)

words_are : (r : Option s.Redundancy) (x : Option Stripe) (v : Value g.template_words) → words_value r x ≡ Some v → words_of v ≡ record { redundancy = r; stripe = x }
words_are (Some r) x v e = from_some words_of _ v (record { redundancy = Some r; stripe = x }) e
    (ap (λ z. record { redundancy = Some z; stripe = option_map stripe_of (option_map stripe_value x) }) (redundancy_is r) ∙ ap (λ z. record { redundancy = Some r; stripe = z }) (maybe_stripe_is x))
words_are None (Some x) v e = from_some words_of _ v (record { redundancy = None; stripe = Some x }) e (ap (λ z. record { redundancy = None; stripe = Some z }) (stripe_is x))
words_are None None v e = cc

-- A value made of another, where there is one.
made_of : {A B V S : Type 0} (make : A → V) (means : V → S) (back : A → B) (says : B → S) (x : B) (o : Option A) → ((a : A) → means (make a) ≡ says (back a))
    → ((a : A) → o ≡ Some a → back a ≡ x) → (v : V) → option_map make o ≡ Some v → means v ≡ says x
made_of make means back says x None h k v e = cc
made_of make means back says x (Some a) h k v e = from_some means (make a) v (says x) e (h a ∙ ap says (k a refl))

-- FAILURE GROUPS

disk_is : (d : s.NewDisk) → new_disk_of (new_disk_value d) ≡ d
disk_is d =
    ap (λ n. record { path = d.path; name = n; size = behind (after_word d.size); force = is_said (forced_value d.force) }) (behind_is d.name)
    ∙ (ap (λ n. record { path = d.path; name = d.name; size = n; force = is_said (forced_value d.force) }) (behind_is d.size)
    ∙ ap (λ b. record { path = d.path; name = d.name; size = d.size; force = b }) (said_is d.force))

quorum_is : (b : Bool) → is_quorum (quorum_value b) ≡ b
quorum_is true = refl
quorum_is false = refl

failgroup_is : (f : s.NewFailgroup) (disks : List s.NewDisk) (v : Value g.failgroup) → failgroup_value f disks ≡ Some v → failgroup_of v ≡ record f { disks = disks }
failgroup_is f [] v e = cc
failgroup_is f (d ∷ disks) v e = from_some failgroup_of _ v (record f { disks = d ∷ disks }) e
    (ap (λ b. record { quorum = b; name = behind (after_word f.name); disks = new_disk_of (new_disk_value d) ∷ map {A = Unit {0} × Value g.disk} (λ p. new_disk_of p.1) (map (λ o. (tt, o)) (map new_disk_value disks)) }) (quorum_is f.quorum)
    ∙ (ap (λ n. record { quorum = f.quorum; name = n; disks = new_disk_of (new_disk_value d) ∷ map {A = Unit {0} × Value g.disk} (λ p. new_disk_of p.1) (map (λ o. (tt, o)) (map new_disk_value disks)) }) (behind_is f.name)
    ∙ (ap (λ x. record { quorum = f.quorum; name = f.name; disks = x ∷ map {A = Unit {0} × Value g.disk} (λ p. new_disk_of p.1) (map (λ o. (tt, o)) (map new_disk_value disks)) }) (disk_is d)
    ∙ ap (λ xs. record { quorum = f.quorum; name = f.name; disks = d ∷ xs }) (items_are new_disk_value new_disk_of disk_is disks))))

more_are : (f : s.NewFailgroup) (groups : List s.NewFailgroup) (o : Option (Value g.failgroup)) (others : Option (List (Value g.failgroup)))
    → ((v : Value g.failgroup) → o ≡ Some v → failgroup_of v ≡ f) → ((vs : List (Value g.failgroup)) → others ≡ Some vs → map failgroup_of vs ≡ groups)
    → (vs : List (Value g.failgroup)) → one_more o others ≡ Some vs → map failgroup_of vs ≡ f ∷ groups
more_are f groups None others h k vs e = cc
more_are f groups (Some v) None h k vs e = cc
more_are f groups (Some v) (Some ws) h k vs e = from_some (λ us. map failgroup_of us) (v ∷ ws) vs (f ∷ groups) e
    (ap (λ x. x ∷ map failgroup_of ws) (h v refl) ∙ ap (λ xs. f ∷ xs) (k ws refl))

groups_are : (groups : List s.NewFailgroup) (vs : List (Value g.failgroup)) → failgroup_values groups ≡ Some vs → map failgroup_of vs ≡ groups
groups_are [] vs e = from_some (λ us. map failgroup_of us) [] vs [] e refl
groups_are (f ∷ groups) vs e = more_are f groups (failgroup_value f f.disks) (failgroup_values groups) (λ v k. failgroup_is f f.disks v k) (λ ws k. groups_are groups ws k) vs e

first_is : (groups : List s.NewFailgroup) (o : Option (List (Value g.failgroup))) → ((vs : List (Value g.failgroup)) → o ≡ Some vs → map failgroup_of vs ≡ groups)
    → (w : Value g.failgroups) → first_and_others o ≡ Some w → failgroups_of w ≡ groups
first_is groups None h w e = cc
first_is groups (Some []) h w e = cc
first_is groups (Some (v ∷ vs)) h w e = from_some failgroups_of (v, vs) w groups e (h (v ∷ vs) refl)

failgroups_are : (groups : List s.NewFailgroup) (w : Value g.failgroups) → failgroups_value groups ≡ Some w → failgroups_of w ≡ groups
failgroups_are groups w e = first_is groups (failgroup_values groups) (groups_are groups) w e

kind_is : (k : GroupKind) → kind_of (kind_value k) ≡ k
kind_is kind.External = refl
kind_is kind.Normal = refl
kind_is kind.High = refl

maybe_kind_is : (o : Option GroupKind) → option_map (λ (p : Value g.kind × Unit {0}). kind_of p.0) (option_map (λ k. (kind_value k, tt)) o) ≡ o
maybe_kind_is None = refl
maybe_kind_is (Some k) = ap (λ z. Some z) (kind_is k)

attributes_are : (attributes : List s.Attribute) → attributes_of (attributes_value attributes) ≡ attributes
attributes_are [] = refl
attributes_are (a ∷ attributes) = ap (λ xs. a ∷ xs) (items_are attribute_value attribute_of (λ b. refl) attributes)

clause_is : (c : s.Clause) (v : Value g.clause) → clause_value c ≡ Some v → clause_of v ≡ c
clause_is (s.DropDisks (d ∷ ds) r) v e =
    from_some clause_of _ v (s.DropDisks (d ∷ ds) r) e
    (ap (λ xs. s.DropDisks (dropped_of (dropped_value d) ∷ xs) (option_map rebalance_of (maybe_rebalance r))) (disks_are ds)
    ∙ (ap (λ x. s.DropDisks (x ∷ ds) (option_map rebalance_of (maybe_rebalance r))) (dropped_is d)
    ∙ ap (λ o. s.DropDisks (d ∷ ds) o) (maybe_rebalance_is r)))
clause_is (s.DropDisks [] r) v e = cc
clause_is (s.DropFailgroup k n f r) v e =
    from_some clause_of _ v (s.DropFailgroup k n f r) e
    (ap (λ z. s.DropFailgroup z n (is_said (forced_value f)) (option_map rebalance_of (maybe_rebalance r))) (group_words_are k)
    ∙ (ap (λ z. s.DropFailgroup k n z (option_map rebalance_of (maybe_rebalance r))) (said_is f)
    ∙ ap (λ z. s.DropFailgroup k n f z) (maybe_rebalance_is r)))
clause_is s.UndropDisks v e = from_some clause_of _ v s.UndropDisks e refl
clause_is (s.Rebalancing r) v e = from_some clause_of _ v (s.Rebalancing r) e (ap (λ z. s.Rebalancing z) (rebalance_is r))
clause_is s.Check v e = from_some clause_of _ v s.Check e refl
clause_is (s.Mount f) v e = from_some clause_of _ v (s.Mount f) e (ap (λ z. s.Mount z) (said_is f))
clause_is (s.SetAttribute a) v e = from_some clause_of _ v (s.SetAttribute a) e refl
clause_is (s.AddDirectory path) v e = from_some clause_of _ v (s.AddDirectory path) e refl
clause_is (s.AddAlias alias path) v e = from_some clause_of _ v (s.AddAlias alias path) e refl
clause_is (s.DropTemplate name) v e = from_some clause_of _ v (s.DropTemplate name) e refl
clause_is (s.DropDirectory path) v e = from_some clause_of _ v (s.DropDirectory path) e refl
clause_is (s.DropAlias path) v e = from_some clause_of _ v (s.DropAlias path) e refl
clause_is (s.DropFile path) v e = from_some clause_of _ v (s.DropFile path) e refl
clause_is (s.ResizeAll size r) v e = from_some clause_of _ v (s.ResizeAll size r) e
    (ap (λ z. s.ResizeAll z (option_map rebalance_of (maybe_rebalance r))) (behind_is size) ∙ ap (λ z. s.ResizeAll size z) (maybe_rebalance_is r))
clause_is (s.ResizeDisk name size r) v e = from_some clause_of _ v (s.ResizeDisk name size r) e
    (ap (λ z. s.ResizeDisk name z (option_map rebalance_of (maybe_rebalance r))) (behind_is size) ∙ ap (λ z. s.ResizeDisk name size z) (maybe_rebalance_is r))
clause_is (s.Dismount f) v e = from_some clause_of _ v (s.Dismount f) e (ap (λ z. s.Dismount z) (said_is f))
clause_is (s.RenameDirectory old new) v e = from_some clause_of _ v (s.RenameDirectory old new) e refl
clause_is (s.RenameAlias old new) v e = from_some clause_of _ v (s.RenameAlias old new) e refl
clause_is (s.Online s.All wait) v e = from_some clause_of _ v (s.Online s.All wait) e (ap (λ z. s.Online s.All z) (said_is wait))
clause_is (s.Online (s.Named (n ∷ ns)) wait) v e = from_some clause_of _ v (s.Online (s.Named (n ∷ ns)) wait) e
    (ap (λ z. s.Online (s.Named (n ∷ z)) (is_said (forced_value wait))) (names_are ns) ∙ ap (λ z. s.Online (s.Named (n ∷ ns)) z) (said_is wait))
clause_is (s.Online (s.InFailgroup k n) wait) v e = from_some clause_of _ v (s.Online (s.InFailgroup k n) wait) e
    (ap (λ z. s.Online (s.InFailgroup z n) (is_said (forced_value wait))) (group_words_are k) ∙ ap (λ z. s.Online (s.InFailgroup k n) z) (said_is wait))
clause_is (s.Offline (s.Named (n ∷ ns)) after) v e = from_some clause_of _ v (s.Offline (s.Named (n ∷ ns)) after) e
    (ap (λ z. s.Offline (s.Named (n ∷ z)) (after_of (after_value after))) (names_are ns) ∙ ap (λ z. s.Offline (s.Named (n ∷ ns)) z) (after_is after))
clause_is (s.Offline (s.InFailgroup k n) after) v e = from_some clause_of _ v (s.Offline (s.InFailgroup k n) after) e
    (ap (λ z. s.Offline (s.InFailgroup z n) (after_of (after_value after))) (group_words_are k) ∙ ap (λ z. s.Offline (s.InFailgroup k n) z) (after_is after))
clause_is (s.AddTemplate name words) v e = made_of _ clause_of words_of (λ z. s.AddTemplate name z) words (words_value words.redundancy words.stripe) (λ a. refl) (λ a k. words_are words.redundancy words.stripe a k) v e
clause_is (s.ModifyTemplate name words) v e = made_of _ clause_of words_of (λ z. s.ModifyTemplate name z) words (words_value words.redundancy words.stripe) (λ a. refl) (λ a k. words_are words.redundancy words.stripe a k) v e
clause_is (s.AddDisks groups r) v e = made_of _ clause_of failgroups_of (λ z. s.AddDisks z r) groups (failgroups_value groups)
    (λ w. ap (λ z. s.AddDisks (failgroups_of w) z) (maybe_rebalance_is r)) (λ w k. failgroups_are groups w k) v e
clause_is other v e = cc

alter_is : (name : List ℕ) (c : s.Clause) (o : Option (Value g.clause)) → clause_value c ≡ o → (v : Value g.statement)
    → option_map (λ w. inr (inr (tt, (tt, (name, w))))) o ≡ Some v → statement_of v ≡ s.Alter name c
alter_is name c None k v e = cc
alter_is name c (Some w) k v e = from_some statement_of (inr (inr (tt, (tt, (name, w))))) v (s.Alter name c) e (ap (λ z. s.Alter name z) (clause_is c w k))

statement_is : (x : s.Statement) (v : Value g.statement) → statement_value x ≡ Some v → statement_of v ≡ x
statement_is (s.CreateDisk path size) v e = from_some statement_of _ v (s.CreateDisk path size) e refl
statement_is (s.DropGroup name true) v e = from_some statement_of _ v (s.DropGroup name true) e refl
statement_is (s.DropGroup name false) v e = from_some statement_of _ v (s.DropGroup name false) e refl
statement_is (s.CreateGroup name kind groups attributes) v e = made_of _ statement_of failgroups_of (λ z. s.CreateGroup name kind z attributes) groups (failgroups_value groups)
    (λ w. ap (λ z. s.CreateGroup name z (failgroups_of w) (attributes_of (attributes_value attributes))) (maybe_kind_is kind)
    ∙ ap (λ z. s.CreateGroup name kind (failgroups_of w) z) (attributes_are attributes)) (λ w k. failgroups_are groups w k) v e
statement_is (s.Alter name c) v e = alter_is name c (clause_value c) refl v e

some_pieces : (v : Value g.statement) → pieces g.statement v ≢ []
some_pieces (inl (c, w)) e = cc
some_pieces (inr (inl (c, w))) e = cc
some_pieces (inr (inr (c, w))) e = cc

pub written_is_said : (x : s.Statement) (v : Value g.statement) → statement_value x ≡ Some v → AllSpell (pieces g.statement v) → Says (statement_text x) x
written_is_said x v e a =
    let t = canonical g.statement 59 v (some_pieces v) a refl refl in
    rw e (record { value = v; rest = t.rest; has = t.has; end = t.end; is = statement_is x v e })
