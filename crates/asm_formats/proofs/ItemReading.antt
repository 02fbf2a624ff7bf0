-- The value of a directory record is read as it was written.
use Rattle.std.proofs.Common.{◌≡◌, ℕ, ◌+◌, ◌-◌, ◌^◌, ◌<◌, ◌≤◌, true, false, ◌&&◌, List, [], ◌∷◌, ◌++◌, length, refl, sym, ap, ◌∙◌, Option, Some, None, arith, append_assoc, w32, w64, ◌==◌}
use Rattle.std.specs.List.{list_all, flat_map}
use Rattle.std.specs.Prelude.{nat_le, nat_lt}
use Rattle.std.proofs.lemmas.Bool.{and_parts, and_from, ltb-true, leb-true, eqb-true, eq-eqb, ne_eqb, cond-false}
use Rattle.std.proofs.lemmas.List.{append-nil, take_all}
use Rattle.asm_group.specs.declared.Stripe.{Stripe}
use Rattle.asm_group.specs.declared.Stripe.TheVariants.{Coarse, Fine}
use Rattle.asm_group.specs.declared.NodeKind.{NodeKind}
use Rattle.asm_group.specs.declared.NodeKind.TheVariants.{Directory, System, Alias}
use Rattle.asm_group.specs.declared.PendingKind.{PendingKind}
use Rattle.asm_group.specs.declared.PendingKind.TheVariants.{Create, Remove, Grow, Shrink}
use Rattle.asm_group.specs.Names.{Bytes, is_name, is_part}
use Rattle.asm_group.specs.Group.{Template}
use Rattle.asm_formats.specs.Bytes.{number_bytes, name_field, values_at}
use Rattle.asm_formats.specs.Codes.{flag, stripe_code, stripe_of_code, node_code, node_kind_of, pending_code, pending_kind_of}
use Rattle.asm_formats.specs.Items.{FileHead, Home, Homes, DiskInfo, Pending, Node, Settings, Item, file_item, chunk_item, disk_item, rebalance_item, pending_item, templates_item, node_item, settings_item, marks_item, Key, item_key, is_same_key, is_redundancy, is_home, chunk_len, is_homes, is_text, names_ascend, is_template, is_item}
use Rattle.asm_formats.specs.Values.{home_fields, template_fields, file_value, disk_value, pending_value, node_value, settings_value, value, file_head_at, home_in_bytes, homes_in_bytes, disk_info_at, pending_at, template_in_bytes, templates_at, node_in_bytes, settings_at, item_by, decoded_item}
use Rattle.asm_formats.proofs.Codec.{own_spelling, spelled}
use Rattle.asm_formats.proofs.Fields.{number32, number64, end16, end32, end64, name_again, name_end, name_len, part_len, flag_again, repeated_again}

text_len : (t : Bytes) → is_text t ≡ true → length t ≤ 30
text_len t h = leb-true (length t) 30 (and_parts (nat_le (length t) 30) _ h).0

stripe_again : (s : Stripe) → stripe_of_code (stripe_code s) ≡ s
stripe_again Coarse = refl
stripe_again Fine = refl

node_kind_again : (k : NodeKind) → node_kind_of (node_code k) ≡ k
node_kind_again Directory = refl
node_kind_again System = refl
node_kind_again Alias = refl

pending_kind_again : (k : PendingKind) → pending_kind_of (pending_code k) ≡ k
pending_kind_again Create = refl
pending_kind_again Remove = refl
pending_kind_again Grow = refl
pending_kind_again Shrink = refl

-- ---- values

file_again : (h : FileHead) → length h.type_name ≤ 30 → h.size < 2 ^ 64 → h.incarnation < 2 ^ 64 → h.system < 2 ^ 32 → h.alias < 2 ^ 32 → file_head_at (file_value h) ≡ h
file_again h name size incarnation system alias =
    rw (
      name_again 30 h.type_name (number_bytes w64 h.size ++ (number_bytes w64 h.incarnation ++ (number_bytes w32 h.system ++ number_bytes w32 h.alias))) name,
      number64 h.size (number_bytes w64 h.incarnation ++ (number_bytes w32 h.system ++ number_bytes w32 h.alias)) size,
      number64 h.incarnation (number_bytes w32 h.system ++ number_bytes w32 h.alias) incarnation,
      number32 h.system (number_bytes w32 h.alias) system,
      end32 h.alias alias,
      stripe_again h.stripe,
    ) refl

disk_again : (d : DiskInfo) → d.birth < 2 ^ 64 → length d.name ≤ 30 → length d.failgroup ≤ 30 → disk_info_at (disk_value d) ≡ d
disk_again d birth name failgroup =
    rw (number64 d.birth (name_field 30 d.name ++ name_field 30 d.failgroup) birth, name_again 30 d.name (name_field 30 d.failgroup) name, name_end 30 d.failgroup failgroup) refl

pending_again : (p : Pending) → p.file < 2 ^ 32 → p.kept < 2 ^ 64 → pending_at (pending_value p) ≡ p
pending_again p file kept = rw (number32 p.file (number_bytes w64 p.kept) file, end64 p.kept kept, pending_kind_again p.kind) refl

node_again : (n : Node) → n.parent < 2 ^ 32 → n.file < 2 ^ 32 → length n.name ≤ 80 → node_in_bytes (node_value n) ≡ n
node_again n parent file name =
    rw (number32 n.parent (node_code n.kind ∷ (number_bytes w32 n.file ++ name_field 80 n.name)) parent, number32 n.file (name_field 80 n.name) file, name_end 80 n.name name, node_kind_again n.kind) refl

settings_again : (s : Settings) → s.incarnation < 2 ^ 64 → s.attributes.repair < 2 ^ 64 → length s.attributes.asm ≤ 30 → length s.attributes.rdbms ≤ 30 → length s.attributes.advm ≤ 30 → settings_at (settings_value s) ≡ s
settings_again s incarnation repair asm rdbms advm =
    let t = s.attributes in
    rw (
      number64 s.incarnation (number_bytes w64 t.repair ++ (name_field 30 t.asm ++ (name_field 30 t.rdbms ++ name_field 30 t.advm))) incarnation,
      number64 t.repair (name_field 30 t.asm ++ (name_field 30 t.rdbms ++ name_field 30 t.advm)) repair,
      name_again 30 t.asm (name_field 30 t.rdbms ++ name_field 30 t.advm) asm,
      name_again 30 t.rdbms (name_field 30 t.advm) rdbms,
      name_end 30 t.advm advm,
    ) refl

-- ---- lists of values

home_again : (o : Option Home) (rest : Bytes) → is_home o ≡ true → home_in_bytes (home_fields o ++ rest) ≡ (o, rest)
home_again None rest ok = rw (number32 0 rest (omega arith)) refl
home_again (Some h) rest ok =
    let p = and_parts (nat_lt h.disk 255) (nat_lt h.unit (2 ^ 32)) ok in
    let disk : (h.disk == 255) ≡ false = ne_eqb h.disk 255 (λ e. omega (arith, e, ltb-true h.disk 255 p.0)) in
    rw (number32 h.unit rest (ltb-true h.unit (2 ^ 32) p.1), disk) refl

homes_again : (hs : Homes) (rest : Bytes) → is_homes hs ≡ true → values_at home_in_bytes 3 (flat_map home_fields hs ++ rest) ≡ (hs, rest)
homes_again hs rest ok =
    let p = and_parts (length hs == 3) (list_all is_home hs) ok in
    ap (λ (n : ℕ). values_at home_in_bytes n (flat_map home_fields hs ++ rest)) (sym (eqb-true (length hs) 3 p.0)) ∙ repeated_again home_in_bytes home_fields is_home home_again hs rest p.1

chunk_again : (homes : List Homes) → length homes ≡ 256 → list_all is_homes homes ≡ true → homes_in_bytes (flat_map (flat_map home_fields) homes) ≡ homes
unfolding homes_in_bytes
chunk_again homes len ok =
    ap (λ (l : Bytes). (values_at (values_at home_in_bytes 3) 256 l).0) (sym (append-nil (flat_map (flat_map home_fields) homes)))
    ∙ ap (λ (n : ℕ). (values_at (values_at home_in_bytes 3) n (flat_map (flat_map home_fields) homes ++ [])).0) (sym len)
    ∙ ap (λ (y : List Homes × Bytes). y.0) (repeated_again (values_at home_in_bytes 3) (flat_map home_fields) is_homes homes_again homes [] ok)

template_again : (t : Template) (rest : Bytes) → is_template t ≡ true → template_in_bytes (template_fields t ++ rest) ≡ (t, rest)
template_again t rest ok =
    let p = and_parts (is_name t.name) (is_redundancy t.copies) ok in
    let tail = t.copies ∷ stripe_code t.stripe ∷ flag t.system ∷ [] in
    ap template_in_bytes (append_assoc (name_field 30 t.name) tail rest)
    ∙ rw (name_again 30 t.name (tail ++ rest) (name_len t.name p.0), stripe_again t.stripe, flag_again t.system) refl

templates_again : (ts : List Template) → list_all is_template ts ≡ true → templates_at (length ts ∷ flat_map template_fields ts) ≡ ts
templates_again ts ok =
    ap (λ (l : Bytes). (values_at template_in_bytes (length ts) l).0) (sym (append-nil (flat_map template_fields ts)))
    ∙ ap (λ (y : List Template × Bytes). y.0) (repeated_again template_in_bytes template_fields is_template template_again ts [] ok)

-- ---- items

after_zero : (c : ℕ) → ((c + 1) == 0) ≡ false
after_zero c = ne_eqb (c + 1) 0 (λ e. omega (arith, e))

pub item_again : (i : Item) → is_item i ≡ true → item_by (item_key i) (value i) ≡ i
unfolding item_by value is_item
item_again (file_item f h) ok =
    let a = and_parts (nat_lt f (2 ^ 32)) _ ok in
    let b = and_parts (is_redundancy h.copies) _ a.1 in
    let c = and_parts (is_part 30 h.type_name) _ b.1 in
    let d = and_parts (nat_lt h.size (2 ^ 64)) _ c.1 in
    let e = and_parts (nat_lt h.incarnation (2 ^ 64)) _ d.1 in
    let s = and_parts (nat_lt 0 h.system) _ e.1 in
    let g = and_parts (nat_lt h.system (2 ^ 32)) (nat_lt h.alias (2 ^ 32)) s.1 in
    ap (file_item f) (file_again h (part_len 30 h.type_name c.0) (ltb-true h.size (2 ^ 64) d.0) (ltb-true h.incarnation (2 ^ 64) e.0) (ltb-true h.system (2 ^ 32) g.0) (ltb-true h.alias (2 ^ 32) g.1))
item_again (chunk_item f c homes) ok =
    let a = and_parts (nat_lt f (2 ^ 32)) _ ok in
    let b = and_parts (nat_lt (c + 1) (2 ^ 32)) _ a.1 in
    let d = and_parts (length homes == chunk_len) (list_all is_homes homes) b.1 in
    let back : c + 1 - 1 ≡ c = omega arith in
    let whole = flat_map (flat_map home_fields) homes in
    cond-false ((c + 1) == 0) (file_item f (file_head_at whole)) (chunk_item f (c + 1 - 1) (homes_in_bytes whole)) (after_zero c)
    ∙ ap (λ (n : ℕ). chunk_item f n (homes_in_bytes whole)) back ∙ ap (chunk_item f c) (chunk_again homes (eqb-true (length homes) 256 d.0) d.1)
item_again (disk_item d info) ok =
    let a = and_parts (nat_lt d 64) _ ok in
    let b = and_parts (nat_lt info.birth (2 ^ 64)) _ a.1 in
    let c = and_parts (is_name info.name) (is_name info.failgroup) b.1 in
    ap (disk_item d) (disk_again info (ltb-true info.birth (2 ^ 64) b.0) (name_len info.name c.0) (name_len info.failgroup c.1))
item_again (rebalance_item power) ok = ap (λ (x : ℕ × Bytes). rebalance_item x.0) (end16 power (ltb-true power (2 ^ 16) ok))
item_again (pending_item op) ok =
    let a = and_parts (nat_lt op.file (2 ^ 32)) (nat_lt op.kept (2 ^ 64)) ok in
    ap pending_item (pending_again op (ltb-true op.file (2 ^ 32) a.0) (ltb-true op.kept (2 ^ 64) a.1))
item_again (templates_item ts) ok =
    let a = and_parts (nat_le (length ts) 64) _ ok in
    let b = and_parts (list_all is_template ts) (names_ascend ts) a.1 in
    ap templates_item (templates_again ts b.0)
item_again (node_item n node) ok =
    let z = and_parts (nat_lt 0 n) _ ok in
    let a = and_parts (nat_lt n (2 ^ 32)) _ z.1 in
    let b = and_parts (nat_lt node.parent (2 ^ 32)) _ a.1 in
    let c = and_parts (nat_lt node.file (2 ^ 32)) (is_part 80 node.name) b.1 in
    ap (node_item n) (node_again node (ltb-true node.parent (2 ^ 32) b.0) (ltb-true node.file (2 ^ 32) c.0) (part_len 80 node.name c.1))
item_again (settings_item s) ok =
    let t = s.attributes in
    let a = and_parts (nat_lt s.incarnation (2 ^ 64)) _ ok in
    let b = and_parts (nat_lt t.repair (2 ^ 64)) _ a.1 in
    let c = and_parts (is_text t.asm) _ b.1 in
    let d = and_parts (is_text t.rdbms) (is_text t.advm) c.1 in
    ap settings_item (settings_again s (ltb-true s.incarnation (2 ^ 64) a.0) (ltb-true t.repair (2 ^ 64) b.0) (text_len t.asm c.0) (text_len t.rdbms d.0) (text_len t.advm d.1))
item_again (marks_item f c marks) ok =
    let a = and_parts (nat_lt f (2 ^ 32)) _ ok in
    let b = and_parts (nat_lt (c + 1) (2 ^ 32)) _ a.1 in
    let d = and_parts (length marks == chunk_len) _ b.1 in
    ap (marks_item f c) (take_all 256 marks (omega (arith, eqb-true (length marks) 256 d.0)))

-- ---- an item of a key

same_key_self : (k : Key) → is_same_key k k ≡ true
same_key_self k =
    and_from (k.kind == k.kind) ((k.a == k.a) && (k.b == k.b)) (eq-eqb k.kind k.kind refl)
    (and_from (k.a == k.a) (k.b == k.b) (eq-eqb k.a k.a refl) (eq-eqb k.b k.b refl))

same_key : (j k : Key) → is_same_key j k ≡ true → j ≡ k
same_key j k h =
    let p = and_parts (j.kind == k.kind) ((j.a == k.a) && (j.b == k.b)) h in
    let q = and_parts (j.a == k.a) (j.b == k.b) p.1 in
    let kind = eqb-true j.kind k.kind p.0 in
    let a = eqb-true j.a k.a q.0 in
    let b = eqb-true j.b k.b q.1 in
    λ i. record { kind = kind i; a = a i; b = b i }

pub decoded_again : (i : Item) → is_item i ≡ true → decoded_item (item_key i) (value i) ≡ Some i
unfolding decoded_item
decoded_again i ok =
    own_spelling (λ j. is_item j && is_same_key (item_key j) (item_key i)) value i (item_by (item_key i) (value i)) (and_from (is_item i) (is_same_key (item_key i) (item_key i)) ok (same_key_self (item_key i))) (item_again i ok)

-- what is decoded is an item of this key, and the bytes are its value
pub record IsItemOf (k : Key) (bytes : Bytes) (i : Item) : Type 0 where
  pub allowed : is_item i ≡ true
  pub key_is : item_key i ≡ k
  pub same : bytes ≡ value i

pub item_spelled : (k : Key) (bytes : Bytes) (i : Item) → decoded_item k bytes ≡ Some i → IsItemOf k bytes i
unfolding decoded_item
item_spelled k bytes i e =
    let s = spelled (λ j. is_item j && is_same_key (item_key j) k) value bytes (item_by k bytes) i e in
    let p = and_parts (is_item i) (is_same_key (item_key i) k) s.allowed in
    record { allowed = p.0; key_is = same_key (item_key i) k p.1; same = s.same }
