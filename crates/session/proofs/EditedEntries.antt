-- The entries of the session and their groups, where the group of one name is edited.
use Rattle.std.proofs.Common.{◌≡◌, ◌⊎◌, ⊎_elim, inl, inr, ℕ, Bool, true, false, cond, List, [], ◌∷◌, length, map, Option, Some, None, refl, sym, ◌∙◌, ap, subst, arith}
use Rattle.std.specs.Prelude.{if◌then◌else◌}
use Rattle.std.specs.Map.{keys_of, lookup, set_value}
use Rattle.std.specs.List.{AllByRecursion, IsDistinct}
use Rattle.std.specs.Cmp.Lexicographic.{nat_list_eq_equiv}
use Rattle.std.proofs.lemmas.Bool.{cases_Bool, false≢true}
use Rattle.std.proofs.lemmas.Map.Keys.{IsDistinct-head, IsDistinct-tail}
use Rattle.asm_group.specs.Names.{Bytes, folded, is_same_name}
use Rattle.asm_formats.specs.Among.{IsAmong}
use Rattle.asm_world.specs.World.{SessionEntry, SessionState, DismountedBy, entry_among, is_mounted}
use Rattle.group_contents.specs.group_engine.Mounts.{MountedGroup}
use Rattle.session_claims.specs.Claims.{IsPaired}
use Rattle.session.specs.declared.entry.Entry.{Entry}
use Rattle.session.specs.declared.group_name.GroupName.{GroupName}
use Rattle.session.specs.Entries.{entry_view, group_view, state_view}
use Rattle.session.specs.Naming.{AreNamesApart, group_among, with_group_named}
use Rattle.session.specs.Works.{with_state}
use Rattle.session.proofs.Entries.{flip, same_key, sought}
use Rattle.session.proofs.Grouped.{Pairs}
use Rattle.session.proofs.Knowing.{paired_among}

-- ---- names

-- a name that differs from one differs from each that is the same as that
other_than : (a b name : Bytes) → is_same_name a name ≡ true → is_same_name a b ≡ false → is_same_name b name ≡ false
other_than a b name same differs = flip name b false (sym (nat_list_eq_equiv.congr (folded a) (folded name) (folded b) same) ∙ differs)

others_differ : (key : GroupName) (es : Pairs) → AllByRecursion (λ (k : GroupName). same_key key k ≡ false) (keys_of es) → (f : SessionEntry) → IsAmong (map entry_view es) f → is_same_name key.name f.name ≡ false
others_differ key [] all f among = absurd among
others_differ key (p ∷ es) all f among = ⊎_elim
    (λ (here : f ≡ entry_view p). ap (λ (e : SessionEntry). is_same_name key.name e.name) here ∙ all.0)
    (λ later. others_differ key es all.1 f later)
    among

-- the keys of a map differ
pub names_apart : (es : Pairs) → IsDistinct same_key (keys_of es) → AreNamesApart (map entry_view es)
names_apart [] distinct = tt
names_apart (p ∷ es) distinct = (
  λ f among. others_differ p.0 es (IsDistinct-head same_key p.0 (keys_of es) distinct) f among,
  names_apart es (IsDistinct-tail same_key p.0 (keys_of es) distinct),
)

-- the group of a name isn't there where the map has no value for it
none-by : (name : Bytes) (p : GroupName × Entry) (es : Pairs) (t : Bool) → sought name p.0 ≡ t → (lookup (sought name) es ≡ None → group_among (map entry_view es) (map group_view es) name ≡ None)
    → cond t (Some p.1) (lookup (sought name) es) ≡ None → group_among (map entry_view (p ∷ es)) (map group_view (p ∷ es)) name ≡ None
none-by name p es true is rest none = absurd cc
none-by name p es false is rest none = rw (flip name p.0.name false is) (rest none)

pub none_grouped : (name : Bytes) (es : Pairs) → lookup (sought name) es ≡ None → group_among (map entry_view es) (map group_view es) name ≡ None
none_grouped name [] none = refl
none_grouped name (p ∷ es) none = none-by name p es (sought name p.0) refl (none_grouped name es) none

-- ---- states

-- where no entry has the name
pub rest_stays : (es : List SessionEntry) (name : Bytes) (state : SessionState) → ((f : SessionEntry) → IsAmong es f → is_same_name f.name name ≡ false) → with_state es name state ≡ es
rest_stays [] name state other = refl
rest_stays (e ∷ es) name state other = rw (other e (inl refl)) (ap (λ (l : List SessionEntry). e ∷ l) (rest_stays es name state (λ f among. other f (inr among))))

put-by : (name : Bytes) (v w : Entry) (p : GroupName × Entry) (es : Pairs) (t : Bool) → sought name p.0 ≡ t → w.id ≡ v.id → AreNamesApart (map entry_view (p ∷ es))
    → (lookup (sought name) es ≡ Some v → map entry_view (set_value (sought name) es w) ≡ with_state (map entry_view es) name (state_view w.group))
    → cond t (Some p.1) (lookup (sought name) es) ≡ Some v → map entry_view (set_value (sought name) (p ∷ es) w) ≡ with_state (map entry_view (p ∷ es)) name (state_view w.group)
put-by name v w p es true is id apart rest found =
    let same : p.1 ≡ v = cc in
    let ids : w.id ≡ p.1.id = id ∙ sym (ap (λ (x : Entry). x.id) same) in
    let here : is_same_name p.0.name name ≡ true = flip name p.0.name true is in
    let tail : map entry_view es ≡ with_state (map entry_view es) name (state_view w.group) =
    sym (rest_stays (map entry_view es) name (state_view w.group) (λ f among. other_than p.0.name f.name name here (apart.0 f among))) in
    let whole : record { name = p.0.name; id = w.id; state = state_view w.group } ∷ map entry_view es ≡ record { name = p.0.name; id = p.1.id; state = state_view w.group } ∷ with_state (map entry_view es) name (state_view w.group) =
    λ i. record { name = p.0.name; id = ids i; state = state_view w.group } ∷ tail i in
    rw (is, here) whole
put-by name v w p es false is id apart rest found = rw (is, flip name p.0.name false is) (ap (λ (l : List SessionEntry). entry_view p ∷ l) (rest found))

-- the entry whose group was put has its state
pub entries_put : (name : Bytes) (v w : Entry) (es : Pairs) → w.id ≡ v.id → AreNamesApart (map entry_view es) → lookup (sought name) es ≡ Some v
    → map entry_view (set_value (sought name) es w) ≡ with_state (map entry_view es) name (state_view w.group)
entries_put name v w [] id apart found = absurd cc
entries_put name v w (p ∷ es) id apart found = put-by name v w p es (sought name p.0) refl id apart (entries_put name v w es id apart.1) found

same-by : (x : SessionEntry) (es : List SessionEntry) (name : Bytes) (e : SessionEntry) (state : SessionState) (t : Bool) → is_same_name x.name name ≡ t → AreNamesApart (x ∷ es) → e.state ≡ state
    → (entry_among es name ≡ Some e → with_state es name state ≡ es) → cond t (Some x) (entry_among es name) ≡ Some e → with_state (x ∷ es) name state ≡ x ∷ es
same-by x es name e state true is apart has rest found =
    let same : x ≡ e = cc in
    let states : state ≡ x.state = sym has ∙ ap (λ (y : SessionEntry). y.state) (sym same) in
    let tail : with_state es name state ≡ es = rest_stays es name state (λ f among. other_than x.name f.name name is (apart.0 f among)) in
    let whole : record x { state = state } ∷ with_state es name state ≡ x ∷ es = λ i. record { name = x.name; id = x.id; state = states i } ∷ tail i in
    rw is whole
same-by x es name e state false is apart has rest found = rw is (ap (λ (l : List SessionEntry). x ∷ l) (rest found))

-- the state that was there
pub same_state : (es : List SessionEntry) (name : Bytes) (e : SessionEntry) (state : SessionState) → AreNamesApart es → entry_among es name ≡ Some e → e.state ≡ state → with_state es name state ≡ es
same_state [] name e state apart found has = refl
same_state (x ∷ es) name e state apart found has = same-by x es name e state (is_same_name x.name name) refl apart has (λ at. same_state es name e state apart.1 at has) found

-- ---- groups

unchanged-by : (x : SessionEntry) (y : MountedGroup) (es : List SessionEntry) (ms : List MountedGroup) (name : Bytes) (m : MountedGroup) (t : Bool) → is_same_name x.name name ≡ t → (group_among es ms name ≡ Some m → with_group_named es ms name m ≡ ms)
    → cond t (Some y) (group_among es ms name) ≡ Some m → with_group_named (x ∷ es) (y ∷ ms) name m ≡ y ∷ ms
unchanged-by x y es ms name m true is rest found = let same : m ≡ y = cc in rw is (ap (λ (b : MountedGroup). b ∷ ms) same)
unchanged-by x y es ms name m false is rest found = rw is (ap (λ (l : List MountedGroup). y ∷ l) (rest found))

-- the group that was there
pub same_group : (es : List SessionEntry) (ms : List MountedGroup) (name : Bytes) (m : MountedGroup) → group_among es ms name ≡ Some m → with_group_named es ms name m ≡ ms
same_group [] ms name m found = absurd cc
same_group (x ∷ es) [] name m found = absurd cc
same_group (x ∷ es) (y ∷ ms) name m found = unchanged-by x y es ms name m (is_same_name x.name name) refl (same_group es ms name m) found

length-by : (b y : MountedGroup) (ms others : List MountedGroup) (t : Bool) → length others ≡ length ms → length (if t then b ∷ ms else y ∷ others) ≡ length (y ∷ ms)
length-by b y ms others true same = refl
length-by b y ms others false same = omega (arith, same)

pub with_length : (es : List SessionEntry) (ms : List MountedGroup) (name : Bytes) (b : MountedGroup) → length (with_group_named es ms name b) ≡ length ms
with_length [] ms name b = refl
with_length (x ∷ es) [] name b = refl
with_length (x ∷ es) (y ∷ ms) name b = length-by b y ms (with_group_named es ms name b) (is_same_name x.name name) (with_length es ms name b)

-- ---- pairs

of-by : (x : SessionEntry) (y : MountedGroup) (es : List SessionEntry) (ms : List MountedGroup) (name : Bytes) (e : SessionEntry) (m : MountedGroup) (t : Bool) → (entry_among es name ≡ Some e → group_among es ms name ≡ Some m → IsPaired es ms e m)
    → cond t (Some x) (entry_among es name) ≡ Some e → cond t (Some y) (group_among es ms name) ≡ Some m → IsPaired (x ∷ es) (y ∷ ms) e m
of-by x y es ms name e m true rest named found =
    let a : e ≡ x = cc in
    let b : m ≡ y = cc in
    inl (a, b)
of-by x y es ms name e m false rest named found = inr (rest named found)

-- the entry of a name and its group
pub paired_of : (es : List SessionEntry) (ms : List MountedGroup) (name : Bytes) (e : SessionEntry) (m : MountedGroup) → entry_among es name ≡ Some e → group_among es ms name ≡ Some m → IsPaired es ms e m
paired_of [] ms name e m named found = absurd cc
paired_of (x ∷ es) [] name e m named found = absurd cc
paired_of (x ∷ es) (y ∷ ms) name e m named found = of-by x y es ms name e m (is_same_name x.name name) (paired_of es ms name e m) named found

abbrev Kept : List SessionEntry → List MountedGroup → Bytes → MountedGroup → SessionEntry → MountedGroup → Type 0
Kept es ms name b e m = ((is_same_name e.name name ≡ true) × (m ≡ b)) ⊎ ((is_same_name e.name name ≡ false) × IsPaired es ms e m)

with-by : (x : SessionEntry) (y : MountedGroup) (es : List SessionEntry) (ms : List MountedGroup) (name : Bytes) (b : MountedGroup) (e : SessionEntry) (m : MountedGroup) (t : Bool) → is_same_name x.name name ≡ t → AreNamesApart (x ∷ es)
    → (IsPaired es (with_group_named es ms name b) e m → Kept es ms name b e m) → IsPaired (x ∷ es) (if t then b ∷ ms else y ∷ with_group_named es ms name b) e m → Kept (x ∷ es) (y ∷ ms) name b e m
with-by x y es ms name b e m true is apart rest pair = ⊎_elim
    (λ here. inl (ap (λ (z : SessionEntry). is_same_name z.name name) here.0 ∙ is, here.1))
    (λ later. inr (other_than x.name e.name name is (apart.0 e (paired_among es ms e m later)), inr later))
    pair
with-by x y es ms name b e m false is apart rest pair = ⊎_elim
    (λ here. inr (ap (λ (z : SessionEntry). is_same_name z.name name) here.0 ∙ is, inl here))
    (λ later. ⊎_elim (λ new. inl new) (λ old. inr (old.0, inr old.1)) (rest later))
    pair

-- where the group of a name was put
pub paired_with : (es : List SessionEntry) (ms : List MountedGroup) (name : Bytes) (b : MountedGroup) (e : SessionEntry) (m : MountedGroup) → AreNamesApart es → IsPaired es (with_group_named es ms name b) e m → Kept es ms name b e m
paired_with [] ms name b e m apart pair = absurd pair
paired_with (x ∷ es) [] name b e m apart pair = absurd pair
paired_with (x ∷ es) (y ∷ ms) name b e m apart pair = with-by x y es ms name b e m (is_same_name x.name name) refl apart (paired_with es ms name b e m apart.1) pair

torn-by : (disk : Bytes) (x : SessionEntry) (y : MountedGroup) (es : List SessionEntry) (ms : List MountedGroup) (name : Bytes) (b : MountedGroup) (e : SessionEntry) (m : MountedGroup) (t : Bool) → is_same_name x.name name ≡ t → AreNamesApart (x ∷ es)
    → is_mounted e ≡ true → (IsPaired (with_state es name (DismountedBy disk)) (with_group_named es ms name b) e m → (is_same_name e.name name ≡ false) × IsPaired es ms e m)
    → IsPaired ((if t then record x { state = DismountedBy disk } else x) ∷ with_state es name (DismountedBy disk)) (if t then b ∷ ms else y ∷ with_group_named es ms name b) e m → (is_same_name e.name name ≡ false) × IsPaired (x ∷ es) (y ∷ ms) e m
torn-by disk x y es ms name b e m true is apart on rest pair = ⊎_elim
    (λ here. absurd (false≢true (ap is_mounted (sym here.0) ∙ on)))
    (λ later.
    let stays = rest_stays es name (DismountedBy disk) (λ f among. other_than x.name f.name name is (apart.0 f among)) in
    let was = subst (λ (l : List SessionEntry). IsPaired l ms e m) stays later in
    (other_than x.name e.name name is (apart.0 e (paired_among es ms e m was)), inr was))
    pair
torn-by disk x y es ms name b e m false is apart on rest pair = ⊎_elim
    (λ here. (ap (λ (z : SessionEntry). is_same_name z.name name) here.0 ∙ is, inl here))
    (λ later. let was = rest later in (was.0, inr was.1))
    pair

-- where it was put, dismounted
pub paired_torn : (disk : Bytes) (es : List SessionEntry) (ms : List MountedGroup) (name : Bytes) (b : MountedGroup) (e : SessionEntry) (m : MountedGroup) → AreNamesApart es → is_mounted e ≡ true
    → IsPaired (with_state es name (DismountedBy disk)) (with_group_named es ms name b) e m → (is_same_name e.name name ≡ false) × IsPaired es ms e m
paired_torn disk [] ms name b e m apart on pair = absurd pair
paired_torn disk (x ∷ es) [] name b e m apart on pair = absurd pair
paired_torn disk (x ∷ es) (y ∷ ms) name b e m apart on pair = torn-by disk x y es ms name b e m (is_same_name x.name name) refl apart on (paired_torn disk es ms name b e m apart.1 on) pair

one-by : (x : SessionEntry) (es : List SessionEntry) (name : Bytes) (e f : SessionEntry) (t : Bool) → is_same_name x.name name ≡ t → AreNamesApart (x ∷ es) → (entry_among es name ≡ Some e → IsAmong es f → f ≡ e) → cond t (Some x) (entry_among es name) ≡ Some e
    → IsAmong (x ∷ es) f → is_same_name f.name name ≡ true → f ≡ e
one-by x es name e f true is apart rest named among same =
    let first : x ≡ e = cc in
    ⊎_elim (λ here. here ∙ first) (λ later. absurd (false≢true (sym (other_than x.name f.name name is (apart.0 f later)) ∙ same))) among
one-by x es name e f false is apart rest named among same = ⊎_elim
    (λ (here : f ≡ x). absurd (false≢true (sym is ∙ ap (λ (z : SessionEntry). is_same_name z.name name) (sym here) ∙ same)))
    (λ later. rest named later)
    among

-- the entry of a name is the only one of it
pub one_named : (es : List SessionEntry) (name : Bytes) (e f : SessionEntry) → AreNamesApart es → entry_among es name ≡ Some e → IsAmong es f → is_same_name f.name name ≡ true → f ≡ e
one_named [] name e f apart named among same = absurd among
one_named (x ∷ es) name e f apart named among same = one-by x es name e f (is_same_name x.name name) refl apart (λ at later. one_named es name e f apart.1 at later same) named among same
