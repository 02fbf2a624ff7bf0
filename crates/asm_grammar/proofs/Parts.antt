-- The paths of verbs, by stages and by their parts.
use Rattle.std.proofs.Common.{◌≡◌, ◌≢◌, ℕ, suc, ◌+◌, ◌<◌, ◌≤◌, Bool, true, false, ◌&&◌, ◌||◌, not, nat_lt, nat_le, inl, inr, List, [], ◌∷◌, length, refl, sym, ap, subst, ◌∙◌, Some, None, arith}
use Rattle.std.specs.Prelude.{◌==◌, if◌then◌else◌}
use Rattle.std.specs.List.{list_all}
use Rattle.std.proofs.lemmas.Bool.{eqb-true, leb-true, le-leb, ltb-true, ltb-false}
use Rattle.asm_grammar.specs.Bytes.{is_word, is_letter_byte}
use Rattle.asm_grammar.specs.Argument.{TextKind, PlainName, GroupPath, PathPattern, NotLong, PartPattern, HostPath, Text, Parts, Plain, Starred, Single, PathStart, Plus, GroupName, Slash, Dot, Part, NotLongStart, Dash, OutsideStart, OutsidePath, is_path_byte, is_visible, has_slashes, part_begins, ends_at, onward, reached, accepts, is_of}
use Rattle.asm_grammar.specs.Word.{same_bytes}
use Rattle.asm_grammar.specs.Kinds.{onto_first_part, split, is_path_part, is_in_group, is_behind_plus, is_path, is_outside, is_text_of_kind}
use Rattle.asm_grammar.proofs.Plain.{name_is_name}
use Rattle.asm_grammar.proofs.Tests.{is_true_or_false}

and_false : (b : Bool) → (b && false) ≡ false
and_false true = refl
and_false false = refl

no_slash_byte : (parts : Parts) → is_path_byte parts 47 ≡ false
no_slash_byte Plain = refl
no_slash_byte Starred = refl
no_slash_byte Single = refl

dot_byte : (parts : Parts) → is_path_byte parts 46 ≡ true
dot_byte Plain = refl
dot_byte Starred = refl
dot_byte Single = refl

-- the rest of a part of which n bytes came before, and the parts behind it
abbrev goes : Parts → ℕ → List ℕ → List (List ℕ) → Bool
goes parts n p ps = nat_le (n + length p) 80 && list_all (λ b. is_path_byte parts b) p && list_all (λ q. is_path_part parts q) ps

-- what stands behind a dot
abbrev dots : Parts → List ℕ → List (List ℕ) → Bool
dots parts p ps = not (same_bytes p []) && goes parts 1 p ps

record From (parts : Parts) (bytes : List ℕ) (p : List ℕ) (ps : List (List ℕ)) : Type 0 where
  slash : accepts (Slash parts) bytes ≡ list_all (λ q. is_path_part parts q) (p ∷ ps)
  dot : accepts (Dot parts) bytes ≡ dots parts p ps
  part : (n : ℕ) → n ≤ 80 → accepts (Part parts n) bytes ≡ goes parts n p ps

at_end : (parts : Parts) → From parts [] [] []
at_end parts = record { slash = refl; dot = refl; part = λ n l. rw (le-leb (n + 0) 80 (omega arith)) refl }

at_slash : (parts : Parts) (bytes p : List ℕ) (ps : List (List ℕ)) → has_slashes parts ≡ true → From parts bytes p ps → From parts (47 ∷ bytes) [] (p ∷ ps)
at_slash parts bytes p ps h f = record {
  slash = rw (no_slash_byte parts) refl;
  dot = rw (no_slash_byte parts) refl;
  part = λ n l. rw (h, le-leb (n + 0) 80 (omega arith)) f.slash;
}

too_long : (n : ℕ) → 80 < n → nat_le n 80 ≡ false
too_long n l = elim (is_true_or_false (nat_le n 80)) [
  | inl h ↦ absurd (let k = leb-true n 80 h in omega arith)
  | inr h ↦ h
]

-- a byte that is of no part
at_other : (parts : Parts) (b : ℕ) (bytes p : List ℕ) (ps : List (List ℕ)) → (has_slashes parts && (b == 47)) ≡ false → is_path_byte parts b ≡ false → From parts (b ∷ bytes) (b ∷ p) ps
at_other parts b bytes p ps s n =
    let d : (b == 46) ≡ false = elim (is_true_or_false (b == 46)) [
      | inr h ↦ h
      | inl h ↦ absurd (let k = subst (λ x. is_path_byte parts x ≡ true) (sym (eqb-true b 46 h)) (dot_byte parts) in cc)
    ] in
    record {
      slash = rw (n, d, and_false (nat_le (suc (length p)) 80)) refl;
      dot = rw (n, and_false (nat_le (1 + suc (length p)) 80)) refl;
      part = λ m l. rw (s, n, and_false (nat_le (m + suc (length p)) 80)) refl;
    }

and_true : (x z : Bool) → (x && z) ≡ (x && true && z)
and_true true z = refl
and_true false z = refl

after_dot : (parts : Parts) (p : List ℕ) (ps : List (List ℕ)) → dots parts p ps ≡ list_all (λ q. is_path_part parts q) ((46 ∷ p) ∷ ps)
after_dot parts [] ps = refl
after_dot parts (c ∷ p) ps =
    let e : 1 + suc (length p) ≡ suc (suc (length p)) = omega arith in
    let k : (nat_le (suc (suc (length p))) 80 && (is_path_byte parts c && list_all (λ b. is_path_byte parts b) p) && list_all (λ q. is_path_part parts q) ps)
    ≡ (nat_le (suc (suc (length p))) 80 && (is_path_byte parts c && list_all (λ b. is_path_byte parts b) p) && true && list_all (λ q. is_path_part parts q) ps) = and_true (nat_le (suc (suc (length p))) 80 && (is_path_byte parts c && list_all (λ b. is_path_byte parts b) p)) (list_all (λ q. is_path_part parts q) ps) in
    rw e k

at_more : (parts : Parts) (n b : ℕ) (bytes p : List ℕ) (ps : List (List ℕ)) → (has_slashes parts && (b == 47)) ≡ false → is_path_byte parts b ≡ true → From parts bytes p ps → n ≤ 80
    → accepts (Part parts n) (b ∷ bytes) ≡ goes parts n (b ∷ p) ps
at_more parts n b bytes p ps s y f l = elim (is_true_or_false (nat_lt n 80)) [
  | inl k ↦
      (let m = ltb-true n 80 k in
      let e : n + 1 + length p ≡ n + suc (length p) = omega arith in
      rw (s, y, k) (f.part (n + 1) (omega arith) ∙ ap (λ x. nat_le x 80 && list_all (λ b. is_path_byte parts b) p && list_all (λ q. is_path_part parts q) ps) e))
  | inr k ↦
      (let m = ltb-false n 80 k in
      let t : nat_le (n + suc (length p)) 80 ≡ false = too_long (n + suc (length p)) (omega arith) in
      rw (s, y, k, t) refl)
]

at_part : (parts : Parts) (b : ℕ) (bytes p : List ℕ) (ps : List (List ℕ)) → (has_slashes parts && (b == 47)) ≡ false → is_path_byte parts b ≡ true → From parts bytes p ps → From parts (b ∷ bytes) (b ∷ p) ps
at_part parts b bytes p ps s y f = record {
  slash = elim (is_true_or_false (b == 46)) [
    | inl h ↦ subst (λ x. accepts (Slash parts) (x ∷ bytes) ≡ list_all (λ q. is_path_part parts q) ((x ∷ p) ∷ ps)) (sym (eqb-true b 46 h)) (f.dot ∙ after_dot parts p ps)
    | inr h ↦ rw (y, h) (f.part 1 (omega arith) ∙ (let e : 1 + length p ≡ suc (length p) = omega arith in ap (λ x. nat_le x 80 && list_all (λ b. is_path_byte parts b) p && list_all (λ q. is_path_part parts q) ps) e
        ∙ and_true (nat_le (suc (length p)) 80 && list_all (λ b. is_path_byte parts b) p) (list_all (λ q. is_path_part parts q) ps)))
  ];
  dot = rw y (f.part 2 (omega arith) ∙ (let e : 2 + length p ≡ 1 + suc (length p) = omega arith in ap (λ x. nat_le x 80 && list_all (λ b. is_path_byte parts b) p && list_all (λ q. is_path_part parts q) ps) e));
  part = λ n l. at_more parts n b bytes p ps s y f l;
}

no_slash : (parts : Parts) (b : ℕ) → (b == 47) ≡ false → (has_slashes parts && (b == 47)) ≡ false
no_slash parts b s = rw s (and_false (has_slashes parts))

record Cut (parts : Parts) (bytes : List ℕ) : Type 0 where
  p : List ℕ
  ps : List (List ℕ)
  is : split bytes ≡ p ∷ ps
  from : From parts bytes p ps

cut : (parts : Parts) (bytes : List ℕ) → has_slashes parts ≡ true → Cut parts bytes
cut parts [] h = record { p = []; ps = []; is = refl; from = at_end parts }
cut parts (b ∷ bytes) h =
    let c = cut parts bytes h in
    elim (is_true_or_false (b == 47)) [
      | inl s ↦ record {
        p = [];
        ps = c.p ∷ c.ps;
        is = rw s (ap (λ x. [] ∷ x) c.is);
        from = subst (λ x. From parts (x ∷ bytes) [] (c.p ∷ c.ps)) (sym (eqb-true b 47 s)) (at_slash parts bytes c.p c.ps h c.from);
      }
      | inr s ↦ record {
        p = b ∷ c.p;
        ps = c.ps;
        is = rw s (ap (onto_first_part b) c.is);
        from = elim (is_true_or_false (is_path_byte parts b)) [
          | inl y ↦ at_part parts b bytes c.p c.ps (no_slash parts b s) y c.from
          | inr n ↦ at_other parts b bytes c.p c.ps (no_slash parts b s) n
        ];
      }
    ]

pub parts_are : (parts : Parts) (bytes : List ℕ) → has_slashes parts ≡ true → accepts (Slash parts) bytes ≡ list_all (λ q. is_path_part parts q) (split bytes)
parts_are parts bytes h = let c = cut parts bytes h in c.from.slash ∙ ap (λ x. list_all (λ q. is_path_part parts q) x) (sym c.is)

single : (bytes : List ℕ) → From Single bytes bytes []
single [] = at_end Single
single (b ∷ bytes) = elim (is_true_or_false (is_path_byte Single b)) [
  | inl y ↦ at_part Single b bytes bytes [] refl y (single bytes)
  | inr n ↦ at_other Single b bytes bytes [] refl n
]

and_true_last : (x : Bool) → (x && true) ≡ x
and_true_last true = refl
and_true_last false = refl

part_is : (bytes : List ℕ) → is_of (Text PartPattern) bytes ≡ is_path_part Single bytes
part_is bytes = (single bytes).slash ∙ and_true_last (is_path_part Single bytes)

-- GROUPS

too_long_name : (n : ℕ) → 30 < n → nat_le n 30 ≡ false
too_long_name n l = elim (is_true_or_false (nat_le n 30)) [
  | inl h ↦ absurd (let k = leb-true n 30 h in omega arith)
  | inr h ↦ h
]

abbrev names : Parts → ℕ → List (List ℕ) → Bool
names parts n [] = false
names parts n (p ∷ ps) = nat_le (n + length p) 30 && list_all is_word p && list_all (λ q. is_path_part parts q) ps

one_more : (parts : Parts) (n b : ℕ) (xs : List (List ℕ)) → is_word b ≡ true → xs ≢ [] → names parts (n + 1) xs ≡ names parts n (onto_first_part b xs)
one_more parts n b [] w s = absurd (s refl)
one_more parts n b (p ∷ ps) w s = let e : n + 1 + length p ≡ n + suc (length p) = omega arith in rw w (ap (λ x. nat_le x 30 && list_all is_word p && list_all (λ q. is_path_part parts q) ps) e)

none_more : (parts : Parts) (n b : ℕ) (xs : List (List ℕ)) → is_word b ≡ false → xs ≢ [] → names parts n (onto_first_part b xs) ≡ false
none_more parts n b [] w s = absurd (s refl)
none_more parts n b (p ∷ ps) w s = rw (w, and_false (nat_le (n + suc (length p)) 30)) refl

too_many : (parts : Parts) (n b : ℕ) (xs : List (List ℕ)) → 30 ≤ n → xs ≢ [] → names parts n (onto_first_part b xs) ≡ false
too_many parts n b [] l s = absurd (s refl)
too_many parts n b (p ∷ ps) l s = rw (too_long_name (n + suc (length p)) (omega arith)) refl

onto_some : (b : ℕ) (xs : List (List ℕ)) → onto_first_part b xs ≡ [] → ⊥
onto_some b [] e = cc
onto_some b (p ∷ ps) e = cc

split_some : (bytes : List ℕ) → split bytes ≢ []
split_some [] e = cc
split_some (b ∷ bytes) e = elim (is_true_or_false (b == 47)) [
  | inl h ↦ (let f = rw h at e in cc)
  | inr h ↦ onto_some b (split bytes) (rw h at e)
]

group_from : (parts : Parts) → has_slashes parts ≡ true → (n : ℕ) (bytes : List ℕ) → n ≤ 30 → accepts (GroupName parts n) bytes ≡ names parts n (split bytes)
group_from parts h n [] l = rw (le-leb (n + 0) 30 (omega arith)) refl
group_from parts h n (b ∷ bytes) l = elim (is_true_or_false (b == 47)) [
  | inl s ↦ rw (s, le-leb (n + 0) 30 (omega arith)) (parts_are parts bytes h)
  | inr s ↦ rw s (elim (is_true_or_false (is_word b)) [
    | inr w ↦ rw w (sym (none_more parts n b (split bytes) w (split_some bytes)))
    | inl w ↦ (elim (is_true_or_false (nat_lt n 30)) [
      | inl k ↦ (let m = ltb-true n 30 k in rw (w, k) (group_from parts h (n + 1) bytes (omega arith) ∙ one_more parts n b (split bytes) w (split_some bytes)))
      | inr k ↦ (let m = ltb-false n 30 k in rw (w, k) (sym (too_many parts n b (split bytes) m (split_some bytes))))
    ])
  ])
]

letter_first : (parts : Parts) (b : ℕ) (xs : List (List ℕ)) → is_letter_byte b ≡ true → xs ≢ [] → names parts 1 xs ≡ is_in_group parts (onto_first_part b xs)
letter_first parts b [] d s = absurd (s refl)
letter_first parts b (p ∷ ps) d s =
    let e : 1 + length p ≡ suc (length p) = omega arith in
    rw d (ap (λ x. nat_le x 30 && list_all is_word p && list_all (λ q. is_path_part parts q) ps) e)

other_first : (parts : Parts) (b : ℕ) (xs : List (List ℕ)) → is_letter_byte b ≡ false → xs ≢ [] → is_in_group parts (onto_first_part b xs) ≡ false
other_first parts b [] d s = absurd (s refl)
other_first parts b (p ∷ ps) d s = rw d refl

plus_from : (parts : Parts) (bytes : List ℕ) → has_slashes parts ≡ true → accepts (Plus parts) bytes ≡ is_behind_plus parts bytes
plus_from parts [] h = refl
plus_from parts (b ∷ bytes) h = elim (is_true_or_false (b == 47)) [
  | inl s ↦ subst (λ x. accepts (Plus parts) (x ∷ bytes) ≡ is_behind_plus parts (x ∷ bytes)) (sym (eqb-true b 47 s)) refl
  | inr s ↦ rw s (elim (is_true_or_false (is_letter_byte b)) [
    | inl d ↦ rw d (group_from parts h 1 bytes (omega arith) ∙ letter_first parts b (split bytes) d (split_some bytes))
    | inr d ↦ rw d (sym (other_first parts b (split bytes) d (split_some bytes)))
  ])
]

path_from : (parts : Parts) (bytes : List ℕ) → has_slashes parts ≡ true → accepts (PathStart parts) bytes ≡ is_path parts bytes
path_from parts [] h = refl
path_from parts (b ∷ bytes) h = elim (is_true_or_false (b == 43)) [
  | inl s ↦ rw s (plus_from parts bytes h)
  | inr s ↦ rw s (parts_are parts (b ∷ bytes) h)
]

-- NOT -l

-- behind the dash
dash : (bytes : List ℕ) → accepts NotLongStart (45 ∷ bytes) ≡ (is_path Starred (45 ∷ bytes) && not (same_bytes (45 ∷ bytes) (45 ∷ 108 ∷ [])))
dash [] = refl
dash (c ∷ []) = elim (is_true_or_false (c == 108)) [
  | inl h ↦ subst (λ x. accepts NotLongStart (45 ∷ x ∷ []) ≡ (is_path Starred (45 ∷ x ∷ []) && not (same_bytes (45 ∷ x ∷ []) (45 ∷ 108 ∷ [])))) (sym (eqb-true c 108 h)) refl
  | inr h ↦ rw h (path_from Starred (45 ∷ c ∷ []) refl ∙ sym (and_true_last (is_path Starred (45 ∷ c ∷ []))))
]
dash (c ∷ d ∷ bytes) = elim (is_true_or_false (c == 108)) [
  | inl h ↦ subst (λ x. accepts NotLongStart (45 ∷ x ∷ d ∷ bytes) ≡ (is_path Starred (45 ∷ x ∷ d ∷ bytes) && not (same_bytes (45 ∷ x ∷ d ∷ bytes) (45 ∷ 108 ∷ [])))) (sym (eqb-true c 108 h))
      (path_from Starred (45 ∷ 108 ∷ d ∷ bytes) refl ∙ sym (and_true_last (is_path Starred (45 ∷ 108 ∷ d ∷ bytes))))
  | inr h ↦ rw h (path_from Starred (45 ∷ c ∷ d ∷ bytes) refl ∙ sym (and_true_last (is_path Starred (45 ∷ c ∷ d ∷ bytes))))
]

not_long : (bytes : List ℕ) → accepts NotLongStart bytes ≡ (is_path Starred bytes && not (same_bytes bytes (45 ∷ 108 ∷ [])))
not_long [] = refl
not_long (b ∷ bytes) = elim (is_true_or_false (b == 45)) [
  | inl h ↦ subst (λ x. accepts NotLongStart (x ∷ bytes) ≡ (is_path Starred (x ∷ bytes) && not (same_bytes (x ∷ bytes) (45 ∷ 108 ∷ [])))) (sym (eqb-true b 45 h)) (dash bytes)
  | inr h ↦
      (let step_is : accepts NotLongStart (b ∷ bytes) ≡ accepts (PathStart Starred) (b ∷ bytes) =
      ap (λ x. onward false ends_at (onward None (λ t. reached t bytes) (if x then Some Dash else (if b == 43 then Some (Plus Starred) else part_begins Starred b)))) h in
      let same : same_bytes (b ∷ bytes) (45 ∷ 108 ∷ []) ≡ false = ap (λ x. x && same_bytes bytes (108 ∷ [])) h in
      step_is ∙ path_from Starred (b ∷ bytes) refl
      ∙ sym (ap (λ x. is_path Starred (b ∷ bytes) && not x) same ∙ and_true_last (is_path Starred (b ∷ bytes))))
]

-- OUTSIDE

seen : (bytes : List ℕ) → accepts OutsidePath bytes ≡ list_all is_visible bytes
seen [] = refl
seen (b ∷ bytes) = elim (is_true_or_false (is_visible b)) [
  | inl h ↦ rw h (seen bytes)
  | inr h ↦ rw h refl
]

or_false : (x : Bool) → (x || false) ≡ x
or_false true = refl
or_false false = refl

outside_is : (bytes : List ℕ) → accepts OutsideStart bytes ≡ is_outside bytes
outside_is [] = refl
outside_is (b ∷ []) = elim (is_true_or_false (b == 47)) [
  | inl h ↦ rw h refl
  | inr h ↦ rw h (elim (is_true_or_false (b == 46)) [ inl d ↦ rw d refl | inr d ↦ rw d refl ])
]
outside_is (b ∷ c ∷ bytes) = elim (is_true_or_false (b == 47)) [
  | inl h ↦ subst (λ x. accepts OutsideStart (x ∷ c ∷ bytes) ≡ is_outside (x ∷ c ∷ bytes)) (sym (eqb-true b 47 h)) (seen (c ∷ bytes) ∙ sym (or_false (list_all is_visible (c ∷ bytes))))
  | inr h ↦ rw h (elim (is_true_or_false (b == 46)) [
    | inr d ↦ rw d refl
    | inl d ↦ rw d (elim (is_true_or_false (c == 47)) [
      | inl e ↦ rw e (seen bytes)
      | inr e ↦ rw e refl
    ])
  ])
]

pub text_is : (t : TextKind) (bytes : List ℕ) → is_of (Text t) bytes ≡ is_text_of_kind t bytes
text_is PlainName bytes = name_is_name bytes
text_is GroupPath bytes = path_from Plain bytes refl
text_is PathPattern bytes = path_from Starred bytes refl
text_is NotLong bytes = not_long bytes
text_is PartPattern bytes = part_is bytes
text_is HostPath bytes = outside_is bytes
