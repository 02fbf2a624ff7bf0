-- A change is taken up record by record.
use Rattle.std.proofs.Common.{◌≡◌, ◌<◌, ◌≤◌, ◌+◌, ℕ, zero, suc, Bool, true, false, cond, List, [], ◌∷◌, length, drop, get_or, Option, Some, None, refl, sym, ap, subst, ◌∙◌, arith, add-one, inl, inr, ◌⊎◌}
use Rattle.std.specs.Prelude.{◌||◌, Result, Ok, Err, OnOk}
use Rattle.std.proofs.Math.Seq.{drop-cons}
use Rattle.std.proofs.lemmas.Bool.{true≢false}
use Rattle.asm_formats.specs.Items.{Key}
use Rattle.asm_base.specs.Records.{DirectoryRecord, is_key}
use Rattle.page_map.specs.Changes.{is_gone, is_put, last_put, value_after}
use Rattle.page_map.proofs.Changing.{last_put_any}
use Rattle.alias_tree.specs.Nodes.{KeepsRule}
use Rattle.catalog_tables.specs.Changing.{AreItemTables, IsAfter, Sets}
use Rattle.catalog_tables.specs.Tables.{AreTables, Tables, records_of}
use Rattle.catalog_tables.proofs.SameTables.{same_tables}

either : (b : Bool) → (b ≡ true) ⊎ (b ≡ false)
either true = inl refl
either false = inr refl

-- the items from one on
next : {X : Type 0} (xs : List X) (i : ℕ) (x : X) → i < length xs → x ≡ get_or xs i x → drop i xs ≡ x ∷ drop (i + 1) xs
next {X} xs i x less is = drop-cons xs i x less ∙ (ap (λ (z : X). z ∷ drop (suc i) xs) (sym is) ∙ rw add-one refl)

past_all : {X : Type 0} (xs : List X) (i : ℕ) → length xs ≤ i → drop i xs ≡ []
past_all [] zero le = refl
past_all [] (suc i) le = refl
past_all (x ∷ xs) zero le = absurd (omega (arith, le))
past_all {X} (x ∷ xs) (suc i) le = past_all xs i (omega (arith, le))

neither : (a b : Bool) → (a || b) ≡ false → (a ≡ false) × (b ≡ false)
neither true b e = absurd (true≢false e)
neither false b e = (refl, e)

-- ---- nodes that make room

abbrev pub Forgets : List DirectoryRecord → ℕ → Tables → Tables → Type 0
Forgets put i t u = (k : Key) → is_put put k ≡ false → (is_put (drop i put) k ≡ false) × (records_of u k ≡ records_of t k)

pub forget_more : (put : List DirectoryRecord) (i : ℕ) (e : DirectoryRecord) (t mid new : Tables) → i < length put → e ≡ get_or put i e → Forgets put i t mid
    → ((k : Key) → is_key e.0 k ≡ false → records_of new k ≡ records_of mid k) → Forgets put (i + 1) t new
forget_more put i e t mid new less is before others k none =
    let o = before k none in
    let p = neither (is_key e.0 k) (is_put (drop (i + 1) put) k) (subst (λ (es : List DirectoryRecord). is_put es k ≡ false) (next put i e less is) o.0) in
    (p.1, others k p.0 ∙ o.1)

-- ---- records that are put

abbrev pub Puts : List DirectoryRecord → ℕ → Tables → Tables → Type 0
Puts put i t u = (k : Key) → last_put (drop i put) k (records_of u k) ≡ last_put put k (records_of t k)

pub put_more : (put : List DirectoryRecord) (i : ℕ) (e : DirectoryRecord) (t mid new : Tables) → i < length put → e ≡ get_or put i e → Puts put i t mid → Sets mid new e.0 (Some e.1) → Puts put (i + 1) t new
put_more put i e t mid new less is before sets k =
    ap (λ (r : Option (List ℕ)). last_put (drop (i + 1) put) k r) (sets k)
    ∙ subst (λ (es : List DirectoryRecord). last_put es k (records_of mid k) ≡ last_put put k (records_of t k)) (next put i e less is) (before k)

pub put_end : (put : List DirectoryRecord) (i : ℕ) (t u : Tables) → length put ≤ i → Puts put i t u → (k : Key) → records_of u k ≡ last_put put k (records_of t k)
put_end put i t u le before k = subst (λ (es : List DirectoryRecord). last_put es k (records_of u k) ≡ last_put put k (records_of t k)) (past_all put i le) (before k)

-- ---- keys that go

abbrev pub Goes : List Key → ℕ → Tables → Tables → Type 0
Goes gone i t u = (k : Key) → cond (is_gone (drop i gone) k) None (records_of u k) ≡ cond (is_gone gone k) None (records_of t k)

pub gone_more : (gone : List Key) (i : ℕ) (j : Key) (t mid new : Tables) → i < length gone → j ≡ get_or gone i j → Goes gone i t mid → Sets mid new j None → Goes gone (i + 1) t new
gone_more gone i j t mid new less is before sets k =
    ap (λ (r : Option (List ℕ)). cond (is_gone (drop (i + 1) gone) k) None r) (sets k)
    ∙ (one_more (is_key j k) (is_gone (drop (i + 1) gone) k) (records_of mid k)
    ∙ subst (λ (js : List Key). cond (is_gone js k) None (records_of mid k) ≡ cond (is_gone gone k) None (records_of t k)) (next gone i j less is) (before k)) where
      one_more : (a b : Bool) (r : Option (List ℕ)) → cond b None (cond a None r) ≡ cond (a || b) None r
      one_more true true r = refl
      one_more true false r = refl
      one_more false true r = refl
      one_more false false r = refl

pub gone_end : (gone : List Key) (i : ℕ) (t u : Tables) → length gone ≤ i → Goes gone i t u → (k : Key) → records_of u k ≡ cond (is_gone gone k) None (records_of t k)
gone_end gone i t u le before k = subst (λ (js : List Key). cond (is_gone js k) None (records_of u k) ≡ cond (is_gone gone k) None (records_of t k)) (past_all gone i le) (before k)

-- ---- the whole change

after_is : (put : List DirectoryRecord) (gone : List Key) (t room full new : Tables) → ((k : Key) → is_put put k ≡ false → records_of room k ≡ records_of t k)
    → ((k : Key) → records_of full k ≡ last_put put k (records_of room k)) → ((k : Key) → records_of new k ≡ cond (is_gone gone k) None (records_of full k))
    → (k : Key) → records_of new k ≡ value_after put gone k (records_of t k)
after_is put gone t room full new others puts goes k =
    goes k ∙ ap (λ (r : Option (List ℕ)). cond (is_gone gone k) None r) (puts k ∙ elim (either (is_put put k)) [
      | inl is ↦ last_put_any put k (records_of room k) (records_of t k) is
      | inr none ↦ ap (λ (r : Option (List ℕ)). last_put put k r) (others k none)
    ])

pub after_is_ok : {E : Type 0} (r : Result (Unit {0}) E) (put : List DirectoryRecord) (gone : List Key) (t room full new : Tables) → ((k : Key) → is_put put k ≡ false → records_of room k ≡ records_of t k)
    → ((k : Key) → records_of full k ≡ last_put put k (records_of room k)) → OnOk r ((k : Key) → records_of new k ≡ cond (is_gone gone k) None (records_of full k))
    → OnOk r ((k : Key) → records_of new k ≡ value_after put gone k (records_of t k))
after_is_ok (Ok x) put gone t room full new others puts goes = after_is put gone t room full new others puts goes
after_is_ok (Err e) put gone t room full new others puts goes = tt

-- ---- one change leaves one set of tables

-- the tables give at each key what the change leaves there
abbrev pub After : Tables → List DirectoryRecord → List Key → Tables → Type 0
After t put gone v = (k : Key) → records_of v k ≡ value_after put gone k (records_of t k)

items_of : (t : Tables) → AreTables t → AreItemTables t
items_of t a = record { files = a.files; extents = a.extents.0; nodes = a.nodes.items; templates = a.templates; stale = a.stale; operations = a.operations; disks = a.disks }

-- what gives at each key what the tables after the change give is those tables
pub is_after : (t u v : Tables) (put : List DirectoryRecord) (gone : List Key) → IsAfter t put gone u → AreItemTables v → ((k : Key) → records_of v k ≡ value_after put gone k (records_of t k)) → u ≡ v
is_after t u v put gone after items same = same_tables u v (items_of u after.tables) items (λ k. after.records k ∙ sym (same k))

pub one_after : (t u v : Tables) (put : List DirectoryRecord) (gone : List Key) → IsAfter t put gone u → IsAfter t put gone v → u ≡ v
one_after t u v put gone a b = is_after t u v put gone a (items_of v b.tables) b.records

-- the nodes of the tables after the change keep the tree's rule
pub after_rule : (t v : Tables) (put : List DirectoryRecord) (gone : List Key) → (u : Tables) × IsAfter t put gone u → AreItemTables v → ((k : Key) → records_of v k ≡ value_after put gone k (records_of t k)) → KeepsRule v.nodes
after_rule t v put gone after items same = subst (λ (x : Tables). KeepsRule x.nodes) (is_after t after.0 v put gone after.1 items same) after.1.tables.nodes.rule

pub after_tables : (t v : Tables) (put : List DirectoryRecord) (gone : List Key) → (u : Tables) × IsAfter t put gone u → AreItemTables v → ((k : Key) → records_of v k ≡ value_after put gone k (records_of t k)) → IsAfter t put gone v
after_tables t v put gone after items same = subst (λ (x : Tables). IsAfter t put gone x) (is_after t after.0 v put gone after.1 items same) after.1
