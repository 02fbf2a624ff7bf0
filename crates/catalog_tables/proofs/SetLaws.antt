-- What one record more or less of a table does to the records of all tables.
use Rattle.std.proofs.Common.{◌≡◌, ◌<◌, ℕ, zero, suc, ◌+◌, ◌-◌, Bool, true, false, cond, eqb, List, Option, Some, None, refl, sym, ap, subst, ◌∙◌, arith, inl, inr, ◌⊎◌}
use Rattle.std.specs.Prelude.{◌&&◌, ◌||◌, not, Result, Ok, Err, OnOk}
use Rattle.std.specs.Bool.{OnTrue}
use Rattle.std.specs.Option.{option_map}
use Rattle.std.specs.Ordering.{nat_cmp}
use Rattle.std.specs.BTreeMap.{is_at}
use Rattle.std.specs.Cmp.{Equal-is}
use Rattle.std.specs.FinMap.{nat_cmp-IsAntisymmetric}
use Rattle.std.proofs.lemmas.Bool.{and_parts, eq-eqb, eqb-true, ne_eqb, true≢false}
use Rattle.std.proofs.lemmas.Cmp.{eq_by_cmp_equiv, nat_cmp_total}
use Rattle.asm_formats.specs.Items.{Key, Node, is_same_key, node_item}
use Rattle.asm_formats.specs.Values.{value}
use Rattle.asm_base.specs.Records.{is_key}
use Rattle.page_map.proofs.Keys.{key_itself, same_key}
use Rattle.staleness_directory.proofs.item_table.Laws.{record_gone}
use Rattle.file_directory.specs.Files.{NumberedFile, head_at, item_of_file_head as item_of_file}
use Rattle.file_directory.specs.Changing as files
use Rattle.extent_map.specs.Extents.{Chunked, chunk_key}
use Rattle.asm_base.specs.Chunks.{Chunk, chunk_cmp}
use Rattle.asm_base.proofs.Chunks.{chunk_total, same_chunk}
use Rattle.extent_map.specs.Changing as extents
use Rattle.alias_tree.specs.Nodes.{Numbered, node_at}
use Rattle.alias_tree.specs.Opening as nodes
use Rattle.template_directory.specs.Tables.{Table}
use Rattle.template_directory.specs.Changing as templates
use Rattle.staleness_directory.specs.Marks.{Marked}
use Rattle.staleness_directory.specs.Changing as stale
use Rattle.operations_directory.specs.Operations.{Operations}
use Rattle.operations_directory.specs.Changing as operations
use Rattle.disk_directory.specs.Disks as disks
use Rattle.catalog_tables.specs.Changing.{Sets, is_place}
use Rattle.catalog_tables.specs.Tables.{Tables, item_at, records_of}

either : (b : Bool) → (b ≡ true) ⊎ (b ≡ false)
either true = inl refl
either false = inr refl

-- ---- tests of keys

one_test : (a b : Bool) → (a ≡ true → b ≡ true) → (b ≡ true → a ≡ true) → a ≡ b
one_test true true f g = refl
one_test true false f g = sym (f refl)
one_test false true f g = g refl
one_test false false f g = refl

number_is : (m n : ℕ) → is_at (nat_cmp m) n ≡ true → m ≡ n
number_is m n e = nat_cmp-IsAntisymmetric m n ((Equal-is (nat_cmp m n)).0 e)

number_itself : (n : ℕ) → is_at (nat_cmp n) n ≡ true
number_itself n = (eq_by_cmp_equiv nat_cmp_total).refl n

chunk_is : (x y : Chunk) → is_at (chunk_cmp x) y ≡ true → x ≡ y
chunk_is x y e = same_chunk x y ((Equal-is (chunk_cmp x y)).0 e)

chunk_itself : (x : Chunk) → is_at (chunk_cmp x) x ≡ true
chunk_itself x = (eq_by_cmp_equiv chunk_total).refl x

key_of : (j k : Key) → j.kind ≡ k.kind → j.a ≡ k.a → j.b ≡ k.b → j ≡ k
key_of j k kind a b = λ i. record { kind = kind i; a = a i; b = b i }

equal_keys : (j k : Key) → j ≡ k → is_key j k ≡ true
equal_keys j k e = subst (λ (x : Key). is_key j x ≡ true) e (key_itself j)

-- keys of one kind and one second number, by the first
by_first : (j k : Key) → j.kind ≡ k.kind → j.b ≡ k.b → is_key j k ≡ is_at (nat_cmp j.a) k.a
by_first j k kind b = one_test (is_key j k) (is_at (nat_cmp j.a) k.a)
    (λ e. subst (λ (x : Key). is_at (nat_cmp j.a) x.a ≡ true) (same_key j k e) (number_itself j.a))
    (λ e. equal_keys j k (key_of j k kind (number_is j.a k.a e) b))

-- keys of one kind, by both
by_both : (j k : Key) → j.kind ≡ k.kind → is_key j k ≡ is_at (chunk_cmp (j.a, j.b)) (k.a, k.b)
by_both j k kind = one_test (is_key j k) (is_at (chunk_cmp (j.a, j.b)) (k.a, k.b))
    (λ e. subst (λ (x : Key). is_at (chunk_cmp (j.a, j.b)) (x.a, x.b) ≡ true) (same_key j k e) (chunk_itself (j.a, j.b)))
    (λ e. let p = chunk_is (j.a, j.b) (k.a, k.b) e in equal_keys j k (key_of j k kind (ap (λ (x : Chunk). x.0) p) (ap (λ (x : Chunk). x.1) p)))

-- keys of chunks, by file and chunk
pub by_chunk : (f c : ℕ) (k : Key) → k.kind ≡ 1 → 0 < k.b → is_key (record { kind = 1; a = f; b = c + 1 }) k ≡ is_at (chunk_cmp (f, c)) (k.a, k.b - 1)
by_chunk f c k kind some = one_test (is_key (chunk_key f c) k) (is_at (chunk_cmp (f, c)) (k.a, k.b - 1))
    (λ e.
    let s = same_key (chunk_key f c) k e in
    let b : c + 1 ≡ k.b = ap (λ (x : Key). x.b) s in
    let less : c ≡ k.b - 1 = omega (arith, b) in
    subst (λ (x : Chunk). is_at (chunk_cmp (f, c)) x ≡ true) (ap (λ (n : ℕ). (n, c)) (ap (λ (x : Key). x.a) s) ∙ ap (λ (n : ℕ). (k.a, n)) less) (chunk_itself (f, c)))
    (λ e.
    let p = chunk_is (f, c) (k.a, k.b - 1) e in
    let less : c ≡ k.b - 1 = ap (λ (x : Chunk). x.1) p in
    let b : c + 1 ≡ k.b = omega (arith, less, some) in
    equal_keys (chunk_key f c) k (key_of (chunk_key f c) k (sym kind) (ap (λ (x : Chunk). x.0) p) b))

same_is_key : (j k : Key) → is_same_key j k ≡ is_key j k
same_is_key j k = one_test (is_same_key j k) (is_key j k)
    (λ e.
    let p = and_parts (eqb j.kind k.kind) _ e in
    let q = and_parts (eqb j.a k.a) (eqb j.b k.b) p.1 in
    equal_keys j k (key_of j k (eqb-true j.kind k.kind p.0) (eqb-true j.a k.a q.0) (eqb-true j.b k.b q.1)))
    (λ e. subst (λ (x : Key). is_same_key j x ≡ true) (same_key j k e) (rw (eq-eqb j.kind j.kind refl, eq-eqb j.a j.a refl, eq-eqb j.b j.b refl) refl))

-- ---- what the tables give, by table

at_file : (t : Tables) (k : Key) → k.kind ≡ 1 → k.b ≡ 0 → records_of t k ≡ files.file_value_at t.files k.a
unfolding item_at
at_file t k kind b = rw (kind, b) refl

at_chunk : (t : Tables) (k : Key) → k.kind ≡ 1 → eqb k.b 0 ≡ false → records_of t k ≡ extents.chunk_value_at t.extents (k.a, k.b - 1)
unfolding item_at
at_chunk t k kind b = rw (kind, b) refl

at_disk : (t : Tables) (k : Key) → k.kind ≡ 2 → k.b ≡ 0 → records_of t k ≡ disks.disk_value_at t.disks k.a
unfolding item_at
at_disk t k kind b = rw (kind, b) refl

at_operation : (t : Tables) (k : Key) → k.kind ≡ 4 → records_of t k ≡ operations.operation_value_at t.operations k
unfolding item_at
at_operation t k kind = rw kind refl

at_five : (t : Tables) (k : Key) → k.kind ≡ 5 → records_of t k ≡ templates.template_value_at t.templates k
unfolding item_at
at_five t k kind = rw kind refl

at_nine : (t : Tables) (k : Key) → k.kind ≡ 9 → records_of t k ≡ templates.template_value_at t.templates k
unfolding item_at
at_nine t k kind = rw kind refl

at_node : (t : Tables) (k : Key) → k.kind ≡ 6 → k.b ≡ 0 → records_of t k ≡ nodes.node_value_at t.nodes k.a
unfolding item_at
at_node t k kind b = rw (kind, b) refl

at_marks : (t : Tables) (k : Key) → k.kind ≡ 12 → records_of t k ≡ stale.marks_value_at t.stale (k.a, k.b)
unfolding item_at
at_marks t k kind = rw kind refl

-- ---- a table whose records are those of some keys

-- keys of the table have the values that its change gives them, and at others nothing changes
keyed : (t u : Tables) (key : Key) (v : Option (List ℕ)) (mine : Key → Bool) → mine key ≡ true
    → ((k : Key) → mine k ≡ true → records_of u k ≡ cond (is_key key k) v (records_of t k))
    → ((k : Key) → mine k ≡ false → item_at u k ≡ item_at t k) → Sets t u key v
keyed t u key v mine is same elsewhere k = elim (either (mine k)) [
  | inl m ↦ same k m
  | inr o ↦
      let other : is_key key k ≡ false = not_key (either (is_key key k)) o in
      rw other (ap (option_map value) (elsewhere k o))
] where
  not_key : (is_key key k ≡ true) ⊎ (is_key key k ≡ false) → mine k ≡ false → is_key key k ≡ false
  not_key (inl hit) o = absurd (true≢false (sym (subst (λ (x : Key). mine x ≡ true) (same_key key k hit) is) ∙ o))
  not_key (inr miss) o = miss

both_true : (a b : Bool) → a ≡ true → b ≡ true → (a && b) ≡ true
both_true a b p q = rw (p, q) refl

-- a key of a kind and with no second number
abbrev plain : ℕ → Key → Bool
plain n k = eqb k.kind n && eqb k.b 0

is_plain : (n : ℕ) (k : Key) → k.kind ≡ n → k.b ≡ 0 → plain n k ≡ true
is_plain n k kind b = both_true (eqb k.kind n) (eqb k.b 0) (eq-eqb k.kind n kind) (eq-eqb k.b 0 b)

plain_parts : (n : ℕ) (k : Key) → plain n k ≡ true → (k.kind ≡ n) × (k.b ≡ 0)
plain_parts n k e = let p = and_parts (eqb k.kind n) (eqb k.b 0) e in (eqb-true k.kind n p.0, eqb-true k.b 0 p.1)

not_true : (b : Bool) → not b ≡ true → b ≡ false
not_true true e = absurd (true≢false (sym e))
not_true false e = refl

not_false : (b : Bool) → not b ≡ false → b ≡ true
not_false true e = refl
not_false false e = absurd (true≢false e)

positive : (n : ℕ) → (n ≡ 0 → ⊥) → 0 < n
positive zero apart = absurd (apart refl)
positive (suc n) apart = omega arith

-- the keys of chunks, and those of templates and settings
abbrev is_chunk : Key → Bool
is_chunk k = eqb k.kind 1 && not (eqb k.b 0)

abbrev is_template : Key → Bool
is_template k = eqb k.kind 5 || eqb k.kind 9

files_stay : (t : Tables) (new : List NumberedFile) (k : Key) → plain 1 k ≡ false → item_at (record t { files = new }) k ≡ item_at t k
unfolding item_at
files_stay t new k o = elim (either (eqb k.kind 1)) [
  | inl one ↦ let other : eqb k.b 0 ≡ false = rw one at o in rw (one, other) refl
  | inr other ↦ rw other refl
]

pub files_set : (t : Tables) (new : List NumberedFile) (key : Key) (v : Option (List ℕ)) → key.kind ≡ 1 → key.b ≡ 0
    → ((f : ℕ) → files.file_value_at new f ≡ cond (is_at (nat_cmp key.a) f) v (files.file_value_at t.files f)) → Sets t (record t { files = new }) key v
files_set t new key v kind b set = keyed t (record t { files = new }) key v (plain 1) (is_plain 1 key kind b) same (files_stay t new) where
  same : (k : Key) → plain 1 k ≡ true → records_of (record t { files = new }) k ≡ cond (is_key key k) v (records_of t k)
  same k m =
      let p = plain_parts 1 k m in
      rw (at_file (record t { files = new }) k p.0 p.1, at_file t k p.0 p.1, by_first key k (kind ∙ sym p.0) (b ∙ sym p.1)) (set k.a)

extents_stay : (t : Tables) (new : List Chunked) (k : Key) → is_chunk k ≡ false → item_at (record t { extents = new }) k ≡ item_at t k
unfolding item_at
extents_stay t new k o = elim (either (eqb k.kind 1)) [
  | inl one ↦ let b : eqb k.b 0 ≡ true = not_false (eqb k.b 0) (rw one at o) in rw (one, b) refl
  | inr other ↦ rw other refl
]

pub extents_set : (t : Tables) (new : List Chunked) (f c : ℕ) (v : Option (List ℕ))
    → ((x : Chunk) → extents.chunk_value_at new x ≡ cond (is_at (chunk_cmp (f, c)) x) v (extents.chunk_value_at t.extents x)) → Sets t (record t { extents = new }) (record { kind = 1; a = f; b = c + 1 }) v
extents_set t new f c v set = keyed t (record t { extents = new }) (record { kind = 1; a = f; b = c + 1 }) v is_chunk (both_true (eqb 1 1) (not (eqb (c + 1) 0)) refl (ap not (ne_eqb (c + 1) 0 (λ e. omega (arith, e))))) same (extents_stay t new) where
  same : (k : Key) → is_chunk k ≡ true → records_of (record t { extents = new }) k ≡ cond (is_key (record { kind = 1; a = f; b = c + 1 }) k) v (records_of t k)
  same k m =
      let p = and_parts (eqb k.kind 1) (not (eqb k.b 0)) m in
      let kind = eqb-true k.kind 1 p.0 in
      let zero_not = not_true (eqb k.b 0) p.1 in
      let some : 0 < k.b = positive k.b (λ e. true≢false (sym (eq-eqb k.b 0 e) ∙ zero_not)) in
      rw (at_chunk (record t { extents = new }) k kind zero_not, at_chunk t k kind zero_not, by_chunk f c k kind some) (set (k.a, k.b - 1))

disks_stay : (t : Tables) (new : List disks.Disk) (k : Key) → plain 2 k ≡ false → item_at (record t { disks = new }) k ≡ item_at t k
unfolding item_at
disks_stay t new k o = elim (either (eqb k.kind 1)) [
  | inl one ↦ rw one refl
  | inr not_one ↦ elim (either (eqb k.kind 2)) [
    | inl two ↦ let other : eqb k.b 0 ≡ false = rw two at o in rw (not_one, two, other) refl
    | inr other ↦ rw (not_one, other) refl
  ]
]

pub disks_set : (t : Tables) (new : List disks.Disk) (key : Key) (v : Option (List ℕ)) → key.kind ≡ 2 → key.b ≡ 0
    → ((d : ℕ) → disks.disk_value_at new d ≡ cond (is_at (nat_cmp key.a) d) v (disks.disk_value_at t.disks d)) → Sets t (record t { disks = new }) key v
disks_set t new key v kind b set = keyed t (record t { disks = new }) key v (plain 2) (is_plain 2 key kind b) same (disks_stay t new) where
  same : (k : Key) → plain 2 k ≡ true → records_of (record t { disks = new }) k ≡ cond (is_key key k) v (records_of t k)
  same k m =
      let p = plain_parts 2 k m in
      rw (at_disk (record t { disks = new }) k p.0 p.1, at_disk t k p.0 p.1, by_first key k (kind ∙ sym p.0) (b ∙ sym p.1)) (set k.a)

operations_stay : (t : Tables) (new : Operations) (k : Key) → eqb k.kind 4 ≡ false → item_at (record t { operations = new }) k ≡ item_at t k
unfolding item_at
operations_stay t new k o = rw o refl

pub operations_set : (t : Tables) (new : Operations) (key : Key) (v : Option (List ℕ)) → key.kind ≡ 4
    → ((k : Key) → k.kind ≡ 4 → operations.operation_value_at new k ≡ cond (is_same_key key k) v (operations.operation_value_at t.operations k)) → Sets t (record t { operations = new }) key v
operations_set t new key v kind set = keyed t (record t { operations = new }) key v (λ k. eqb k.kind 4) (eq-eqb key.kind 4 kind) same (operations_stay t new) where
  same : (k : Key) → eqb k.kind 4 ≡ true → records_of (record t { operations = new }) k ≡ cond (is_key key k) v (records_of t k)
  same k m =
      let four = eqb-true k.kind 4 m in
      rw (at_operation (record t { operations = new }) k four, at_operation t k four, ← (same_is_key key k)) (set k four)

templates_stay : (t : Tables) (new : Table) (k : Key) → is_template k ≡ false → item_at (record t { templates = new }) k ≡ item_at t k
unfolding item_at
templates_stay t new k o = elim (either (eqb k.kind 5)) [
  | inl e ↦ absurd (true≢false (rw e at o))
  | inr e ↦ let nine : eqb k.kind 9 ≡ false = rw e at o in rw (e, nine) refl
]

pub templates_set : (t : Tables) (new : Table) (key : Key) (v : Option (List ℕ)) → (eqb key.kind 5 || eqb key.kind 9) ≡ true
    → ((k : Key) → templates.template_value_at new k ≡ cond (is_same_key key k) v (templates.template_value_at t.templates k)) → Sets t (record t { templates = new }) key v
templates_set t new key v kind set = keyed t (record t { templates = new }) key v is_template kind same (templates_stay t new) where
  same : (k : Key) → is_template k ≡ true → records_of (record t { templates = new }) k ≡ cond (is_key key k) v (records_of t k)
  same k m = elim (either (eqb k.kind 5)) [
    | inl e ↦ let five = eqb-true k.kind 5 e in rw (at_five (record t { templates = new }) k five, at_five t k five, ← (same_is_key key k)) (set k)
    | inr e ↦ let nine = eqb-true k.kind 9 (rw e at m) in rw (at_nine (record t { templates = new }) k nine, at_nine t k nine, ← (same_is_key key k)) (set k)
  ]

nodes_stay : (t : Tables) (new : List Numbered) (k : Key) → plain 6 k ≡ false → item_at (record t { nodes = new }) k ≡ item_at t k
unfolding item_at
nodes_stay t new k o = elim (either (eqb k.kind 6)) [
  | inl six ↦ let other : eqb k.b 0 ≡ false = rw six at o in let kind = eqb-true k.kind 6 six in rw (kind, other) refl
  | inr other ↦ rw other refl
]

pub nodes_set : (t : Tables) (new : List Numbered) (key : Key) (v : Option (List ℕ)) → key.kind ≡ 6 → key.b ≡ 0
    → ((n : ℕ) → nodes.node_value_at new n ≡ cond (is_at (nat_cmp key.a) n) v (nodes.node_value_at t.nodes n)) → Sets t (record t { nodes = new }) key v
nodes_set t new key v kind b set = keyed t (record t { nodes = new }) key v (plain 6) (is_plain 6 key kind b) same (nodes_stay t new) where
  same : (k : Key) → plain 6 k ≡ true → records_of (record t { nodes = new }) k ≡ cond (is_key key k) v (records_of t k)
  same k m =
      let p = plain_parts 6 k m in
      rw (at_node (record t { nodes = new }) k p.0 p.1, at_node t k p.0 p.1, by_first key k (kind ∙ sym p.0) (b ∙ sym p.1)) (set k.a)

stale_stay : (t : Tables) (new : List Marked) (k : Key) → eqb k.kind 12 ≡ false → item_at (record t { stale = new }) k ≡ item_at t k
unfolding item_at
stale_stay t new k o = rw o refl

pub stale_set : (t : Tables) (new : List Marked) (key : Key) (v : Option (List ℕ)) → key.kind ≡ 12
    → ((c : Chunk) → stale.marks_value_at new c ≡ cond (is_at (chunk_cmp (key.a, key.b)) c) v (stale.marks_value_at t.stale c)) → Sets t (record t { stale = new }) key v
stale_set t new key v kind set = keyed t (record t { stale = new }) key v (λ k. eqb k.kind 12) (eq-eqb key.kind 12 kind) same (stale_stay t new) where
  same : (k : Key) → eqb k.kind 12 ≡ true → records_of (record t { stale = new }) k ≡ cond (is_key key k) v (records_of t k)
  same k m =
      let twelve = eqb-true k.kind 12 m in
      rw (at_marks (record t { stale = new }) k twelve, at_marks t k twelve, by_both key k (kind ∙ sym twelve)) (set (k.a, k.b))

-- a node that goes, and then one that is put at its number
pub nodes_set_twice : (t : Tables) (between new : List Numbered) (key : Key) (v : Option (List ℕ)) → key.kind ≡ 6 → key.b ≡ 0
    → ((n : ℕ) → nodes.node_value_at between n ≡ cond (is_at (nat_cmp key.a) n) None (nodes.node_value_at t.nodes n))
    → ((n : ℕ) → nodes.node_value_at new n ≡ cond (is_at (nat_cmp key.a) n) v (nodes.node_value_at between n)) → Sets t (record t { nodes = new }) key v
nodes_set_twice t between new key v kind b gone put = nodes_set t new key v kind b both where
  both : (n : ℕ) → nodes.node_value_at new n ≡ cond (is_at (nat_cmp key.a) n) v (nodes.node_value_at t.nodes n)
  both n = elim (either (is_at (nat_cmp key.a) n)) [
    | inl hit ↦ rw (put n, hit) refl
    | inr miss ↦ rw (put n, miss) (rw miss at (gone n))
  ]

-- no node is at the number of one that went
pub node_gone : (old new : List Numbered) (n : ℕ) → ((m : ℕ) → nodes.node_value_at new m ≡ cond (is_at (nat_cmp n) m) None (nodes.node_value_at old m)) → node_at new n ≡ None
node_gone old new n gone = nothing (node_at new n) (gone n ∙ rw (number_itself n) refl) where
  nothing : (o : Option Node) → option_map value (option_map (node_item n) o) ≡ None → o ≡ None
  nothing None e = refl
  nothing (Some node) e = absurd cc

-- the key of a disk's record
pub disk_key : (k : Key) → disks.is_key_of_disk k ≡ true → (k.kind ≡ 2) × (k.b ≡ 0)
disk_key k e =
    let p = and_parts (eqb k.kind 2) _ e in
    let q = and_parts (eqb k.b 0) _ p.1 in
    (eqb-true k.kind 2 p.0, eqb-true k.b 0 q.0)

-- ---- records that go

pub file_gone : (t : Tables) (new : List NumberedFile) (key : Key) → key.kind ≡ 1 → key.b ≡ 0 → ((f : ℕ) → head_at new f ≡ cond (is_at (nat_cmp key.a) f) None (head_at t.files f)) → Sets t (record t { files = new }) key None
file_gone t new key kind b gone = files_set t new key None kind b (record_gone nat_cmp item_of_file t.files new key.a gone)

pub place_of_disk : (k : Key) → k.kind ≡ 2 → is_place k ≡ true → k.b ≡ 0
place_of_disk k kind place = eqb-true k.b 0 (rw kind at place)

pub place_of_node : (k : Key) → k.kind ≡ 6 → is_place k ≡ true → k.b ≡ 0
place_of_node k kind place = eqb-true k.b 0 (rw kind at place)

-- nothing is at a key that isn't a place
nothing_at : (t : Tables) (k : Key) → is_place k ≡ false → item_at t k ≡ None
unfolding item_at
nothing_at t k e = elim (either (eqb k.kind 1)) [
  | inl one ↦ absurd (true≢false (rw one at e))
  | inr no_one ↦ elim (either (eqb k.kind 4)) [
    | inl four ↦ absurd (true≢false (rw (no_one, four) at e))
    | inr no_four ↦ elim (either (eqb k.kind 12)) [
      | inl twelve ↦ absurd (true≢false (rw (no_one, no_four, twelve) at e))
      | inr no_twelve ↦ elim (either (eqb k.kind 2)) [
        | inl two ↦ let b : eqb k.b 0 ≡ false = rw (no_one, no_four, no_twelve, two) at e in rw (no_one, two, b) refl
        | inr no_two ↦ elim (either (eqb k.kind 6)) [
          | inl six ↦ let b : eqb k.b 0 ≡ false = rw (no_one, no_four, no_twelve, no_two, six) at e in let kind = eqb-true k.kind 6 six in rw (kind, b) refl
          | inr no_six ↦ elim (either (eqb k.kind 5)) [
            | inl five ↦ let none : (eqb k.a 0 && eqb k.b 0) ≡ false = rw (no_one, no_four, no_twelve, no_two, no_six, five) at e in let kind = eqb-true k.kind 5 five in rw (kind, none) refl
            | inr no_five ↦ elim (either (eqb k.kind 9)) [
              | inl nine ↦ let none : (eqb k.a 0 && eqb k.b 0) ≡ false = rw (no_one, no_four, no_twelve, no_two, no_six, no_five, nine) at e in let kind = eqb-true k.kind 9 nine in rw (kind, none) refl
              | inr no_nine ↦ rw (no_one, no_two, no_four, no_five, no_six, no_nine, no_twelve) refl
            ]
          ]
        ]
      ]
    ]
  ]
]

pub nothing_set : (t : Tables) (key : Key) → is_place key ≡ false → Sets t t key None
nothing_set t key e k = elim (either (is_key key k)) [
  | inl hit ↦ rw hit (ap (option_map value) (subst (λ (x : Key). item_at t x ≡ None) (same_key key k hit) (nothing_at t key e)))
  | inr miss ↦ rw miss refl
]

-- ---- records that are taken, where the answer says so

taken_is : {E : Type 0} (r : Result (Unit {0}) E) (b : Bool) (P Q : Type 0) → OnOk r (b ≡ true) → OnTrue b P → (P → Q) → OnOk r Q
taken_is (Ok x) true P Q e p f = f p
taken_is (Ok x) false P Q e p f = absurd (true≢false (sym e))
taken_is (Err x) b P Q e p f = tt

abbrev ByNumber : (ℕ → Option (List ℕ)) → (ℕ → Option (List ℕ)) → ℕ → Option (List ℕ) → Type 0
ByNumber new old a v = (n : ℕ) → new n ≡ cond (is_at (nat_cmp a) n) v (old n)

abbrev ByChunk : (Chunk → Option (List ℕ)) → (Chunk → Option (List ℕ)) → Chunk → Option (List ℕ) → Type 0
ByChunk new old c v = (x : Chunk) → new x ≡ cond (is_at (chunk_cmp c) x) v (old x)

pub head_taken : {E : Type 0} (r : Result (Unit {0}) E) (b : Bool) (t : Tables) (new : List NumberedFile) (key : Key) (v : Option (List ℕ)) → key.kind ≡ 1 → key.b ≡ 0 → OnOk r (b ≡ true)
    → OnTrue b (ByNumber (files.file_value_at new) (files.file_value_at t.files) key.a v) → OnOk r (Sets t (record t { files = new }) key v)
head_taken r b t new key v kind plain e put =
    taken_is r b (ByNumber (files.file_value_at new) (files.file_value_at t.files) key.a v) (Sets t (record t { files = new }) key v) e put (files_set t new key v kind plain)

pub chunk_taken : {E : Type 0} (r : Result (Unit {0}) E) (b : Bool) (t : Tables) (new : List Chunked) (f c : ℕ) (v : Option (List ℕ)) → OnOk r (b ≡ true)
    → OnTrue b (ByChunk (extents.chunk_value_at new) (extents.chunk_value_at t.extents) (f, c) v) → OnOk r (Sets t (record t { extents = new }) (record { kind = 1; a = f; b = c + 1 }) v)
chunk_taken r b t new f c v e put =
    taken_is r b (ByChunk (extents.chunk_value_at new) (extents.chunk_value_at t.extents) (f, c) v) (Sets t (record t { extents = new }) (record { kind = 1; a = f; b = c + 1 }) v) e put (extents_set t new f c v)

pub disk_taken : {E : Type 0} (r : Result (Unit {0}) E) (b : Bool) (t : Tables) (new : List disks.Disk) (key : Key) (v : Option (List ℕ)) → disks.is_key_of_disk key ≡ true → OnOk r (b ≡ true)
    → OnTrue b (ByNumber (disks.disk_value_at new) (disks.disk_value_at t.disks) key.a v) → OnOk r (Sets t (record t { disks = new }) key v)
disk_taken r b t new key v mine e put =
    let k = disk_key key mine in
    taken_is r b (ByNumber (disks.disk_value_at new) (disks.disk_value_at t.disks) key.a v) (Sets t (record t { disks = new }) key v) e put (disks_set t new key v k.0 k.1)

pub operation_taken : {E : Type 0} (r : Result (Unit {0}) E) (b : Bool) (t : Tables) (new : Operations) (key : Key) (v : Option (List ℕ)) → key.kind ≡ 4 → OnOk r (b ≡ true)
    → OnTrue b ((k : Key) → k.kind ≡ 4 → operations.operation_value_at new k ≡ cond (is_same_key key k) v (operations.operation_value_at t.operations k)) → OnOk r (Sets t (record t { operations = new }) key v)
operation_taken r b t new key v kind e put =
    taken_is r b ((k : Key) → k.kind ≡ 4 → operations.operation_value_at new k ≡ cond (is_same_key key k) v (operations.operation_value_at t.operations k)) (Sets t (record t { operations = new }) key v) e put (operations_set t new key v kind)

pub template_taken : {E : Type 0} (r : Result (Unit {0}) E) (b : Bool) (t : Tables) (new : Table) (key : Key) (v : Option (List ℕ)) → (eqb key.kind 5 || eqb key.kind 9) ≡ true → OnOk r (b ≡ true)
    → OnTrue b ((k : Key) → templates.template_value_at new k ≡ cond (is_same_key key k) v (templates.template_value_at t.templates k)) → OnOk r (Sets t (record t { templates = new }) key v)
template_taken r b t new key v kind e put =
    taken_is r b ((k : Key) → templates.template_value_at new k ≡ cond (is_same_key key k) v (templates.template_value_at t.templates k)) (Sets t (record t { templates = new }) key v) e put (templates_set t new key v kind)

pub node_taken : {E : Type 0} (r : Result (Unit {0}) E) (b : Bool) (t : Tables) (between new : List Numbered) (key : Key) (v : Option (List ℕ)) → key.kind ≡ 6 → key.b ≡ 0 → OnOk r (b ≡ true)
    → ByNumber (nodes.node_value_at between) (nodes.node_value_at t.nodes) key.a None
    → OnTrue b (ByNumber (nodes.node_value_at new) (nodes.node_value_at between) key.a v) → OnOk r (Sets t (record t { nodes = new }) key v)
node_taken r b t between new key v kind plain e gone put =
    taken_is r b (ByNumber (nodes.node_value_at new) (nodes.node_value_at between) key.a v) (Sets t (record t { nodes = new }) key v) e put (nodes_set_twice t between new key v kind plain gone)

pub marks_taken : {E : Type 0} (r : Result (Unit {0}) E) (b : Bool) (t : Tables) (new : List Marked) (key : Key) (v : Option (List ℕ)) → key.kind ≡ 12 → OnOk r (b ≡ true)
    → OnTrue b (ByChunk (stale.marks_value_at new) (stale.marks_value_at t.stale) (key.a, key.b) v) → OnOk r (Sets t (record t { stale = new }) key v)
marks_taken r b t new key v kind e put =
    taken_is r b (ByChunk (stale.marks_value_at new) (stale.marks_value_at t.stale) (key.a, key.b) v) (Sets t (record t { stale = new }) key v) e put (stale_set t new key v kind)
