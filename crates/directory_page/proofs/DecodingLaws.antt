-- The value of a record passes just where it is decoded.
use Rattle.std.proofs.Common.{◌≡◌, ◌≢◌, ℕ, zero, suc, ◌+◌, ◌-◌, ◌^◌, ◌<◌, Bool, true, false, cond, eqb, ltb, take, Option, Some, None, refl, sym, ap, subst, ◌∙◌, arith, inl, inr, ◌⊎◌}
use Rattle.std.specs.Prelude.{◌&&◌}
use Rattle.std.specs.Option.{is_some}
use Rattle.std.proofs.lemmas.Bool.{and_parts, and_from, cases_eq, cases_lt, ltb-true, lt-ltb, le-ltb, ne_eqb, true≢false}
use Rattle.std.proofs.lemmas.Option.{none-some}
use Rattle.asm_base.specs.asm_group.Names.{Bytes}
use Rattle.asm_base.specs.asm_formats.Items.{Item, Key, item_key, is_item, marks_item}
use Rattle.asm_base.specs.asm_formats.Values.{value, decoded_item, item_by, disk_info_at, node_in_bytes}
use Rattle.asm_base.proofs.asm_formats.Bodies.{item_codec}
use Rattle.asm_base.proofs.Exact.{IsBytes}
use Rattle.record_values.proofs.Decoded.{by_kind, nothing_decoded}
use Rattle.record_values.proofs.Disks.{disk_fits, disk_form}
use Rattle.record_values.proofs.Operations.{pending_form, power_form}
use Rattle.record_values.proofs.Templates.{templates_form}
use Rattle.record_values.proofs.Nodes.{node_fits, node_form}
use Rattle.record_values.proofs.Settings.{settings_form}
use Rattle.directory_page.specs.Checks.{is_all}
use Rattle.directory_page.specs.Values.{is_marks_value, operation_passes, single_passes, value_passes, disk_check, node_check, templates_check, settings_check}
use Rattle.directory_page.proofs.ReadingLaws.{file_passes, chunk_passes, disk_passes, power_passes, pending_passes, node_passes, settings_pass, templates_passes}

-- the item that a value would be
abbrev would_be : ℕ → ℕ → ℕ → Bytes → Item
would_be kind a b bytes = item_by (record { kind = kind; a = a; b = b }) bytes

abbrev Decoded : ℕ → ℕ → ℕ → Bytes → Bool → Type 0
Decoded kind a b bytes passes = passes ≡ is_some (decoded_item (record { kind = kind; a = a; b = b }) bytes)

-- nothing is decoded where that item is none of the key
none_decoded : (kind a b : ℕ) (bytes : Bytes) → (is_item (would_be kind a b bytes) ≡ true → item_key (would_be kind a b bytes) ≡ record { kind = kind; a = a; b = b } → ⊥) → Decoded kind a b bytes false
none_decoded kind a b bytes never = sym (ap is_some (nothing_decoded (record { kind = kind; a = a; b = b }) bytes (would_be kind a b bytes) refl never))

-- ---- files and chunks

first_kind : (a b : ℕ) (bytes : Bytes) → a < 2 ^ 32 → b < 2 ^ 32 → IsBytes bytes → Decoded 1 a b bytes (value_passes 1 a b bytes)
first_kind a zero bytes lt small are = file_passes a bytes lt are
first_kind a (suc c) bytes lt small are =
    let next : c + 1 ≡ suc c = omega arith in
    rw (ne_eqb (suc c) 0 (λ e. omega (arith, e)))
    (chunk_passes a c bytes lt (omega (arith, small)) are ∙ ap (λ (b : ℕ). is_some (decoded_item (record { kind = 1; a = a; b = b }) bytes)) next)

-- ---- marks

marks_spelt : (a b : ℕ) (marks : Bytes) → value (marks_item a b marks) ≡ marks
unfolding value
marks_spelt a b marks = refl

marks_form : (a b : ℕ) (bytes : Bytes) → would_be 12 a b bytes ≡ marks_item a b (take 256 bytes)
unfolding item_by
marks_form a b bytes = refl

marks_allowed : (a b : ℕ) (marks : Bytes) → a < 2 ^ 32 → b < 2 ^ 32 - 1 → is_marks_value marks ≡ true → is_item (marks_item a b marks) ≡ true
unfolding is_item is_marks_value
marks_allowed a b marks lt small ok = rw (lt-ltb a (2 ^ 32) lt, lt-ltb (b + 1) (2 ^ 32) (omega (arith, small))) ok

marks_fit : (a b : ℕ) (marks : Bytes) → is_item (marks_item a b marks) ≡ true → (b < 2 ^ 32 - 1) × (is_marks_value marks ≡ true)
unfolding is_item is_marks_value
marks_fit a b marks ok =
    let x = and_parts (ltb a (2 ^ 32)) _ ok in
    let y = and_parts (ltb (b + 1) (2 ^ 32)) _ x.1 in
    (omega (arith, ltb-true (b + 1) (2 ^ 32) y.0), y.1)

marks_pass : (a b : ℕ) (bytes : Bytes) → a < 2 ^ 32 → Decoded 12 a b bytes (ltb b (2 ^ 32 - 1) && is_marks_value bytes)
marks_pass a b bytes lt = go (ltb b (2 ^ 32 - 1) && is_marks_value bytes) refl (decoded_item (record { kind = 12; a = a; b = b }) bytes) refl where
  go : (p : Bool) → (ltb b (2 ^ 32 - 1) && is_marks_value bytes) ≡ p → (o : Option Item) → decoded_item (record { kind = 12; a = a; b = b }) bytes ≡ o → p ≡ is_some o
  go true e (Some i) d = refl
  go false e None d = refl
  go true e None d =
      let p = and_parts (ltb b (2 ^ 32 - 1)) (is_marks_value bytes) e in
      let ok = marks_allowed a b bytes lt (ltb-true b (2 ^ 32 - 1) p.0) p.1 in
      let again : decoded_item (record { kind = 12; a = a; b = b }) bytes ≡ Some (marks_item a b bytes) =
      ap (λ (v : Bytes). decoded_item (record { kind = 12; a = a; b = b }) v) (sym (marks_spelt a b bytes)) ∙ item_codec.again (marks_item a b bytes) ok in
      absurd (none-some (marks_item a b bytes) (sym d ∙ again))
  go false e (Some i) d =
      let c = item_codec.decoded (record { kind = 12; a = a; b = b }) bytes i d in
      let same : marks_item a b (take 256 bytes) ≡ i = sym (marks_form a b bytes) ∙ by_kind (record { kind = 12; a = a; b = b }) bytes i d in
      let all : bytes ≡ take 256 bytes = c.2 ∙ ap value (sym same) ∙ marks_spelt a b (take 256 bytes) in
      let fit = marks_fit a b (take 256 bytes) (ap is_item same ∙ c.0) in
      let ok : (ltb b (2 ^ 32 - 1) && is_marks_value bytes) ≡ true = and_from (ltb b (2 ^ 32 - 1)) (is_marks_value bytes) (lt-ltb b (2 ^ 32 - 1) fit.0) (ap is_marks_value all ∙ fit.1) in
      absurd (true≢false (sym ok ∙ e))

-- ---- the kinds of one number at most

disks : (a : ℕ) (bytes : Bytes) → IsBytes bytes → Decoded 2 a 0 bytes (ltb a 64 && is_all (disk_check bytes))
disks a bytes are = elim (cases_lt a 64) [
  | inl lt ↦ rw (lt-ltb a 64 lt) (disk_passes a bytes lt are)
  | inr past ↦ rw (le-ltb a 64 past) (none_decoded 2 a 0 bytes (λ ok at. omega (arith, past, (disk_fits a (disk_info_at bytes) (ap is_item (sym (disk_form a 0 bytes)) ∙ ok)).0)))
]

nodes : (a : ℕ) (bytes : Bytes) → a < 2 ^ 32 → IsBytes bytes → Decoded 6 a 0 bytes (ltb 0 a && is_all (node_check bytes))
nodes a bytes lt are = elim (cases_lt 0 a) [
  | inl some ↦ rw (lt-ltb 0 a some) (node_passes a bytes some lt are)
  | inr none ↦ rw (le-ltb 0 a none) (none_decoded 6 a 0 bytes (λ ok at. omega (arith, none, (node_fits a (node_in_bytes bytes) (ap is_item (sym (node_form a 0 bytes)) ∙ ok)).0)))
]

-- a key whose numbers aren't those that the item has
another_a : (kind a b n : ℕ) (bytes : Bytes) → (item_key (would_be kind a b bytes)).a ≡ n → n ≢ a → Decoded kind a b bytes false
another_a kind a b n bytes has other = none_decoded kind a b bytes (λ ok at. other (sym has ∙ ap (λ (k : Key). k.a) at))

another_b : (kind a b : ℕ) (bytes : Bytes) → (item_key (would_be kind a (suc b) bytes)).b ≡ 0 → Decoded kind a (suc b) bytes false
another_b kind a b bytes has = none_decoded kind a (suc b) bytes (λ ok at. omega (arith, has, ap (λ (k : Key). k.b) at))

operations : (a : ℕ) (bytes : Bytes) → IsBytes bytes → Decoded 4 a 0 bytes (operation_passes a bytes)
operations a bytes are = elim (cases_eq a 0) [
  | inl e ↦ subst (λ (n : ℕ). Decoded 4 n 0 bytes (operation_passes n bytes)) (sym e) (power_passes bytes are)
  | inr some ↦ elim (cases_eq a 1) [
    | inl e ↦ subst (λ (n : ℕ). Decoded 4 n 0 bytes (operation_passes n bytes)) (sym e) (pending_passes bytes are)
    | inr more ↦ rw (ne_eqb a 0 some, ne_eqb a 1 more) (another_a 4 a 0 1 bytes (ap (λ (i : Item). (item_key i).a) (pending_form a 0 bytes some)) (λ e. more (sym e)))
  ]
]

templates : (a : ℕ) (bytes : Bytes) → IsBytes bytes → Decoded 5 a 0 bytes (eqb a 0 && is_all (templates_check bytes))
templates a bytes are = elim (cases_eq a 0) [
  | inl e ↦ subst (λ (n : ℕ). Decoded 5 n 0 bytes (eqb n 0 && is_all (templates_check bytes))) (sym e) (templates_passes bytes are)
  | inr some ↦ rw (ne_eqb a 0 some) (another_a 5 a 0 0 bytes (ap (λ (i : Item). (item_key i).a) (templates_form a 0 bytes)) (λ e. some (sym e)))
]

settings : (a : ℕ) (bytes : Bytes) → IsBytes bytes → Decoded 9 a 0 bytes (eqb a 0 && is_all (settings_check bytes))
settings a bytes are = elim (cases_eq a 0) [
  | inl e ↦ subst (λ (n : ℕ). Decoded 9 n 0 bytes (eqb n 0 && is_all (settings_check bytes))) (sym e) (settings_pass bytes are)
  | inr some ↦ rw (ne_eqb a 0 some) (another_a 9 a 0 0 bytes (ap (λ (i : Item). (item_key i).a) (settings_form a 0 bytes)) (λ e. some (sym e)))
]

-- none of the kinds
record IsOther (kind : ℕ) : Type 0 where
  not_1 : kind ≢ 1
  not_2 : kind ≢ 2
  not_4 : kind ≢ 4
  not_5 : kind ≢ 5
  not_6 : kind ≢ 6
  not_9 : kind ≢ 9

other_form : (kind a b : ℕ) (bytes : Bytes) → IsOther kind → would_be kind a b bytes ≡ marks_item a b (take 256 bytes)
unfolding item_by
other_form kind a b bytes o =
    rw (ne_eqb kind 1 o.not_1, ne_eqb kind 2 o.not_2, ne_eqb kind 4 o.not_4, ne_eqb kind 5 o.not_5, ne_eqb kind 6 o.not_6, ne_eqb kind 9 o.not_9) refl

others : (kind a b : ℕ) (bytes : Bytes) → IsOther kind → kind ≢ 12 → Decoded kind a b bytes false
others kind a b bytes o not_12 =
    none_decoded kind a b bytes (λ ok at. not_12 (sym (ap (λ (k : Key). k.kind) at) ∙ ap (λ (i : Item). (item_key i).kind) (other_form kind a b bytes o)))

abbrev Single : ℕ → Bytes → ℕ → Type 0
Single a bytes n = Decoded n a 0 bytes (single_passes n a bytes)

single_decoded : (kind a : ℕ) (bytes : Bytes) → kind ≢ 1 → kind ≢ 12 → a < 2 ^ 32 → IsBytes bytes → Decoded kind a 0 bytes (single_passes kind a bytes)
single_decoded kind a bytes not_1 not_12 lt are = at_2 (cases_eq kind 2) where
  at_9 : kind ≢ 2 → kind ≢ 4 → kind ≢ 5 → kind ≢ 6 → (kind ≡ 9) ⊎ (kind ≢ 9) → Single a bytes kind
  at_9 n2 n4 n5 n6 (inl e) = subst (λ (n : ℕ). Single a bytes n) (sym e) (settings a bytes are)
  at_9 n2 n4 n5 n6 (inr n9) =
      rw (ne_eqb kind 2 n2, ne_eqb kind 4 n4, ne_eqb kind 5 n5, ne_eqb kind 6 n6, ne_eqb kind 9 n9)
      (others kind a 0 bytes (record { not_1 = not_1; not_2 = n2; not_4 = n4; not_5 = n5; not_6 = n6; not_9 = n9 }) not_12)

  at_6 : kind ≢ 2 → kind ≢ 4 → kind ≢ 5 → (kind ≡ 6) ⊎ (kind ≢ 6) → Single a bytes kind
  at_6 n2 n4 n5 (inl e) = subst (λ (n : ℕ). Single a bytes n) (sym e) (nodes a bytes lt are)
  at_6 n2 n4 n5 (inr n6) = at_9 n2 n4 n5 n6 (cases_eq kind 9)

  at_5 : kind ≢ 2 → kind ≢ 4 → (kind ≡ 5) ⊎ (kind ≢ 5) → Single a bytes kind
  at_5 n2 n4 (inl e) = subst (λ (n : ℕ). Single a bytes n) (sym e) (templates a bytes are)
  at_5 n2 n4 (inr n5) = at_6 n2 n4 n5 (cases_eq kind 6)

  at_4 : kind ≢ 2 → (kind ≡ 4) ⊎ (kind ≢ 4) → Single a bytes kind
  at_4 n2 (inl e) = subst (λ (n : ℕ). Single a bytes n) (sym e) (operations a bytes are)
  at_4 n2 (inr n4) = at_5 n2 n4 (cases_eq kind 5)

  at_2 : (kind ≡ 2) ⊎ (kind ≢ 2) → Single a bytes kind
  at_2 (inl e) = subst (λ (n : ℕ). Single a bytes n) (sym e) (disks a bytes are)
  at_2 (inr n2) = at_4 n2 (cases_eq kind 4)

-- a second number at a kind without one
no_second : (kind a b : ℕ) (bytes : Bytes) → kind ≢ 1 → kind ≢ 12 → Decoded kind a (suc b) bytes false
no_second kind a b bytes not_1 not_12 = at_2 (cases_eq kind 2) where
  operation_b : (a : ℕ) → Decoded 4 a (suc b) bytes false
  operation_b c = elim (cases_eq c 0) [
    | inl e ↦ subst (λ (n : ℕ). Decoded 4 n (suc b) bytes false) (sym e) (another_b 4 0 b bytes (ap (λ (i : Item). (item_key i).b) (power_form (suc b) bytes).1))
    | inr some ↦ another_b 4 c b bytes (ap (λ (i : Item). (item_key i).b) (pending_form c (suc b) bytes some))
  ]

  at_9 : kind ≢ 2 → kind ≢ 4 → kind ≢ 5 → kind ≢ 6 → (kind ≡ 9) ⊎ (kind ≢ 9) → Decoded kind a (suc b) bytes false
  at_9 n2 n4 n5 n6 (inl e) = subst (λ (n : ℕ). Decoded n a (suc b) bytes false) (sym e) (another_b 9 a b bytes (ap (λ (i : Item). (item_key i).b) (settings_form a (suc b) bytes)))
  at_9 n2 n4 n5 n6 (inr n9) = others kind a (suc b) bytes (record { not_1 = not_1; not_2 = n2; not_4 = n4; not_5 = n5; not_6 = n6; not_9 = n9 }) not_12

  at_6 : kind ≢ 2 → kind ≢ 4 → kind ≢ 5 → (kind ≡ 6) ⊎ (kind ≢ 6) → Decoded kind a (suc b) bytes false
  at_6 n2 n4 n5 (inl e) = subst (λ (n : ℕ). Decoded n a (suc b) bytes false) (sym e) (another_b 6 a b bytes (ap (λ (i : Item). (item_key i).b) (node_form a (suc b) bytes)))
  at_6 n2 n4 n5 (inr n6) = at_9 n2 n4 n5 n6 (cases_eq kind 9)

  at_5 : kind ≢ 2 → kind ≢ 4 → (kind ≡ 5) ⊎ (kind ≢ 5) → Decoded kind a (suc b) bytes false
  at_5 n2 n4 (inl e) = subst (λ (n : ℕ). Decoded n a (suc b) bytes false) (sym e) (another_b 5 a b bytes (ap (λ (i : Item). (item_key i).b) (templates_form a (suc b) bytes)))
  at_5 n2 n4 (inr n5) = at_6 n2 n4 n5 (cases_eq kind 6)

  at_4 : kind ≢ 2 → (kind ≡ 4) ⊎ (kind ≢ 4) → Decoded kind a (suc b) bytes false
  at_4 n2 (inl e) = subst (λ (n : ℕ). Decoded n a (suc b) bytes false) (sym e) (operation_b a)
  at_4 n2 (inr n4) = at_5 n2 n4 (cases_eq kind 5)

  at_2 : (kind ≡ 2) ⊎ (kind ≢ 2) → Decoded kind a (suc b) bytes false
  at_2 (inl e) = subst (λ (n : ℕ). Decoded n a (suc b) bytes false) (sym e) (another_b 2 a b bytes (ap (λ (i : Item). (item_key i).b) (disk_form a (suc b) bytes)))
  at_2 (inr n2) = at_4 n2 (cases_eq kind 4)

-- ---- any key

pub value_is_decoded : (kind a b : ℕ) (bytes : Bytes) → a < 2 ^ 32 → b < 2 ^ 32 → IsBytes bytes → value_passes kind a b bytes ≡ is_some (decoded_item (record { kind = kind; a = a; b = b }) bytes)
value_is_decoded kind a b bytes lt small are = at_1 (cases_eq kind 1) where
  behind : (b : ℕ) → kind ≢ 1 → kind ≢ 12 → Decoded kind a b bytes (cond (eqb b 0) (single_passes kind a bytes) false)
  behind zero n1 n12 = single_decoded kind a bytes n1 n12 lt are
  behind (suc b) n1 n12 = rw (ne_eqb (suc b) 0 (λ e. omega (arith, e))) (no_second kind a b bytes n1 n12)

  at_12 : kind ≢ 1 → (kind ≡ 12) ⊎ (kind ≢ 12) → Decoded kind a b bytes (value_passes kind a b bytes)
  at_12 n1 (inl e) = subst (λ (n : ℕ). Decoded n a b bytes (value_passes n a b bytes)) (sym e) (marks_pass a b bytes lt)
  at_12 n1 (inr n12) = rw (ne_eqb kind 1 n1, ne_eqb kind 12 n12) (behind b n1 n12)

  at_1 : (kind ≡ 1) ⊎ (kind ≢ 1) → Decoded kind a b bytes (value_passes kind a b bytes)
  at_1 (inl e) = subst (λ (n : ℕ). Decoded n a b bytes (value_passes n a b bytes)) (sym e) (first_kind a b bytes lt small are)
  at_1 (inr n1) = at_12 n1 (cases_eq kind 12)
