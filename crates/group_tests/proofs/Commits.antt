-- Changes that may be committed.
use Rattle.std.proofs.Common.{◌≡◌, inl, inr, ⊎_elim, ◌⊎◌, ℕ, ◌+◌, ◌≤◌, Bool, true, false, List, [], ◌∷◌, ◌++◌, Option, Some, None, refl, sym, ap, subst, ◌∙◌, length}
use Rattle.std.specs.Prelude.{◌||◌}
use Rattle.std.specs.Option.{option_map}
use Rattle.std.proofs.lemmas.Bool.{cond-true, cond-false, true≢false}
use Rattle.asm_group.specs.TreeEdits as trees
use Rattle.asm_formats.specs.Among.{IsAmong}
use Rattle.asm_formats.specs.Items.{FileHead, Key, file_item, is_item}
use Rattle.asm_formats.specs.Values.{value}
use Rattle.asm_base.specs.Records.{DirectoryRecord, is_key}
use Rattle.extent_map.specs.Extents.{Chunked}
use Rattle.catalog_tables.specs.Faults.{IsCatalog}
use Rattle.catalog.specs.Plans.{AreOwned, IsPlan}
use Rattle.catalog_tables.specs.Rules.{first_wrong, is_owned}
use Rattle.catalog_tables.specs.Tables.{Catalogued, Tables, item_at, records_of}
use Rattle.catalog.specs.TreePlans.{IsTreePlan}
use Rattle.file_directory.specs.Files.{head_at, record_of_file}
use Rattle.directory_store.specs.Contents.{ArePutItems, IsPutItem}
use Rattle.page_map.specs.Changes.{is_gone, is_put, last_put}
use Rattle.page_map.proofs.Changing.{is_put_end, last_put_none}
use Rattle.page_map.proofs.Keys.{one_or_other, same_key}
use Rattle.group_tests.specs.Commits.{MayCommitChange, PutsNone}

planned : (c : Catalogued) (put : List DirectoryRecord) (gone : List Key) (u : Tables) → IsPlan c put gone u → MayCommitChange c put gone
planned c put gone u plan = record {
  tables = u;
  leaves = record { after = plan.after; rules = plan.rules; units = plan.units };
  few = plan.few;
  items = plan.items;
}

pub tree_planned : (c : Catalogued) (edit : trees.TreeEdit) (put : List DirectoryRecord) (gone : List Key) → IsTreePlan c edit put gone → MayCommitChange c put gone
tree_planned c edit put gone plan = planned c put gone _ plan.plan

-- an operation, where there is no chunk
pub owned_planned : (c : Catalogued) (put : List DirectoryRecord) (gone : List Key) (u : Tables) → u.extents ≡ [] → (AreOwned u → IsPlan c put gone u) → MayCommitChange c put gone
owned_planned c put gone u none plan = planned c put gone u (plan (ap (λ (xs : List Chunked). first_wrong (is_owned u) xs) none))

-- ---- records that are put and go

pub nothing_put : (t : Tables) → PutsNone t [] []
nothing_put t = record { items = λ e among. absurd among; go = λ k is. absurd (true≢false (sym is)); none = λ k is. absurd (true≢false (sym is)) }

items_end : (put : List DirectoryRecord) (e : DirectoryRecord) → ArePutItems put → IsPutItem e → ArePutItems (put ++ e ∷ [])
items_end [] e before is = λ x among. ⊎_elim (λ (same : x ≡ e). subst IsPutItem (sym same) is) (λ none. absurd none) among
items_end (p ∷ put) e before is = λ x among. ⊎_elim (λ (same : x ≡ p). before x (inl same)) (λ (there : IsAmong (put ++ e ∷ []) x). items_end put e (λ y a. before y (inr a)) is x there) among

is_gone_end : (gone : List Key) (last k : Key) → is_gone (gone ++ last ∷ []) k ≡ (is_gone gone k || is_key last k)
is_gone_end [] last k = or_none (is_key last k) where
  or_none : (b : Bool) → (b || false) ≡ b
  or_none true = refl
  or_none false = refl
is_gone_end (j ∷ gone) last k = ap (λ (b : Bool). is_key j k || b) (is_gone_end gone last k) ∙ assoc (is_key j k) (is_gone gone k) (is_key last k) where
  assoc : (a b c : Bool) → (a || (b || c)) ≡ ((a || b) || c)
  assoc true b c = refl
  assoc false b c = refl

or_one : (a b : Bool) → (a || b) ≡ true → (a ≡ true) ⊎ (b ≡ true)
or_one true b is = inl refl
or_one false b is = inr is

or_left : (a b : Bool) → a ≡ true → (a || b) ≡ true
or_left a b is = rw is refl

or_right : (a b : Bool) → b ≡ true → (a || b) ≡ true
or_right true b is = refl
or_right false b is = is

absent_record : (t : Tables) (file : ℕ) → head_at t.files file ≡ None → records_of t (record { kind = 1; a = file; b = 0 }) ≡ None
unfolding item_at
absent_record t file absent = ap (λ (o : Option FileHead). option_map value (option_map (file_item file) o)) absent

more_goes : (put : List DirectoryRecord) (gone : List Key) (e : DirectoryRecord) → ((k : Key) → is_put put k ≡ true → is_gone gone k ≡ true)
    → (k : Key) → is_put (put ++ e ∷ []) k ≡ true → is_gone (gone ++ e.0 ∷ []) k ≡ true
more_goes put gone e go k here = is_gone_end gone e.0 k ∙ ⊎_elim
    (λ old. or_left (is_gone gone k) (is_key e.0 k) (go k old))
    (λ new. or_right (is_gone gone k) (is_key e.0 k) new)
    (or_one (is_put put k) (is_key e.0 k) (sym (is_put_end put e k) ∙ here))

more_none : (t : Tables) (gone : List Key) (last : Key) → ((k : Key) → is_gone gone k ≡ true → records_of t k ≡ None) → records_of t last ≡ None
    → (k : Key) → is_gone (gone ++ last ∷ []) k ≡ true → records_of t k ≡ None
more_none t gone last none absent k here = ⊎_elim
    (λ old. none k old)
    (λ new. subst (λ (j : Key). records_of t j ≡ None) (same_key last k new) absent)
    (or_one (is_gone gone k) (is_key last k) (sym (is_gone_end gone last k) ∙ here))

one_more : (t : Tables) (put : List DirectoryRecord) (gone : List Key) (e : DirectoryRecord) → PutsNone t put gone → IsPutItem e → records_of t e.0 ≡ None → PutsNone t (put ++ e ∷ []) (gone ++ e.0 ∷ [])
one_more t put gone e before is absent = record {
  items = items_end put e before.items is;
  go = more_goes put gone e before.go;
  none = more_none t gone e.0 before.none absent;
}

head_item : (file : ℕ) (head : FileHead) → is_item (file_item file head) ≡ true → IsPutItem (record_of_file (file, head))
head_item file head is = (file_item file head, record { is = is; key = refl; value = refl })

-- a head that the tables haven't
pub puts_one : (t : Tables) (put put2 : List DirectoryRecord) (gone gone2 : List Key) (file : ℕ) (head : FileHead) (e : DirectoryRecord) → PutsNone t put gone
    → head_at t.files file ≡ None → is_item (file_item file head) ≡ true → e ≡ record_of_file (file, head) → put2 ≡ put ++ e ∷ [] → gone2 ≡ gone ++ e.0 ∷ [] → PutsNone t put2 gone2
puts_one t put put2 gone gone2 file head e before absent is same puts goes =
    let one = one_more t put gone (record_of_file (file, head)) before (head_item file head is) (absent_record t file absent) in
    subst (λ (p : List DirectoryRecord). PutsNone t p gone2) (sym puts)
    (subst (λ (l : List Key). PutsNone t (put ++ e ∷ []) l) (sym goes)
    (subst (λ (x : DirectoryRecord). PutsNone t (put ++ x ∷ []) (gone ++ x.0 ∷ [])) (sym same) one))

-- they leave the tables as they are
pub none_commits : (c : Catalogued) (put : List DirectoryRecord) (gone : List Key) → IsCatalog c → PutsNone c.tables put gone → length put + length gone ≤ 64 → MayCommitChange c put gone
none_commits c put gone is none few = record {
  tables = c.tables;
  leaves = record {
    after = record {
      tables = is.rules.tables;
      records = λ k. elim (one_or_other (is_gone gone k)) [
        | inl goes ↦ none.none k goes ∙ sym (cond-true (is_gone gone k) None (last_put put k (records_of c.tables k)) goes)
        | inr stays ↦ sym (cond-false (is_gone gone k) None (last_put put k (records_of c.tables k)) stays
            ∙ last_put_none put k (records_of c.tables k) (not_put put gone k none stays))
      ];
    };
    rules = is.rules;
    units = λ entries has. (c.units, has);
  };
  few = few;
  items = none.items;
} where
  not_put : (put : List DirectoryRecord) (gone : List Key) (k : Key) → PutsNone c.tables put gone → is_gone gone k ≡ false → is_put put k ≡ false
  not_put put gone k none stays = elim (one_or_other (is_put put k)) [
    | inl here ↦ absurd (true≢false (sym (none.go k here) ∙ stays))
    | inr out ↦ out
  ]
