-- A path that the grammar has leads somewhere: each of its parts is one.
use Rattle.std.proofs.Common.{◌≡◌, ◌⊎◌, ⊎_elim, inl, inr, ℕ, ◌+◌, ◌≤◌, Bool, true, false, List, [], ◌∷◌, ◌++◌, length, Option, Some, None, refl, sym, ◌∙◌, ap, subst, arith, append_assoc, append-nil}
use Rattle.std.specs.Prelude.{◌&&◌, ◌||◌, ◌==◌, is_some, nat_le, nat_lt, not}
use Rattle.std.specs.List.{list_all}
use Rattle.std.specs.Str.{bytes_eq}
use Rattle.std.proofs.lemmas.Bool.{and_parts, cases_Bool, eqb-true, false_from_ne_true, false≢true, le-leb, ltb-true, ne_eqb, true≢false}
use Rattle.std.proofs.lemmas.List.{length-append}
use Rattle.std.proofs.lemmas.List.Folds.{list_all-append}
use Rattle.std.proofs.lemmas.Option.{same_Some}
use Rattle.std.proofs.lemmas.Slice.Eq.{bytes_eq-Decides}
use Rattle.asm_grammar.specs.Argument as grammar
use Rattle.asm_grammar.specs.Argument.{Parts, Plain, Starred, Stage, Rest, NameStart, Letters, PathStart, Plus, GroupName, Slash, Dot, Part, NotLongStart, Dash, DashL, accepts, ends_at, has_slashes, onward, reached, step}
use Rattle.asm_grammar.specs.Bytes.{is_letter_byte, is_word}
use Rattle.asm_group.specs.Names.{Bytes}
use Rattle.asm_world.specs.Paths.{before_first, between_slashes, resolved_by, two_points, up, walk}

-- ---- walks

-- the part goes up, or meets the test
abbrev pub goes : (Bytes → Bool) → Bytes → Bool
goes test part = bytes_eq part two_points || test part

walk_some : (test : Bytes → Bool) (parts place : List Bytes) → list_all (goes test) parts ≡ true → is_some (walk test place parts) ≡ true
walk_some test [] place all = refl
walk_some test (part ∷ parts) place all =
    let p = and_parts (goes test part) (list_all (goes test) parts) all in
    ⊎_elim
    (λ (points : bytes_eq part two_points ≡ true). rw points (walk_some test parts (up place) p.1))
    (λ (no : bytes_eq part two_points ≡ false).
    let is : test part ≡ true = rw no at p.0 in
    rw (no, is) (walk_some test parts (place ++ part ∷ []) p.1))
    (cases_Bool (bytes_eq part two_points))

-- ---- what stands between slashes

first_none : (bytes : Bytes) → before_first [] (between_slashes bytes) ≡ between_slashes bytes
first_none bytes = any (between_slashes bytes) (filled bytes) where
  filled : (bytes : Bytes) → (part : Bytes) × (parts : List Bytes) × (between_slashes bytes ≡ part ∷ parts)
  filled [] = ([], [], refl)
  filled (b ∷ bytes) = ⊎_elim
      (λ (yes : (b == 47) ≡ true). ([], between_slashes bytes, rw yes refl))
      (λ (no : (b == 47) ≡ false). let f = filled bytes in (b ∷ f.0, f.1, rw (no, f.2) refl))
      (cases_Bool (b == 47))

  any : (l : List Bytes) → (part : Bytes) × (parts : List Bytes) × (l ≡ part ∷ parts) → before_first [] l ≡ l
  any [] f = absurd cc
  any (part ∷ parts) f = refl

first_more : (front : Bytes) (b : ℕ) (parts : List Bytes) → before_first front (before_first (b ∷ []) parts) ≡ before_first (front ++ b ∷ []) parts
first_more front b [] = refl
first_more front b (part ∷ parts) = ap (λ (p : Bytes). p ∷ parts) (sym (append_assoc front (b ∷ []) part))

-- ---- parts of bytes that meet a test

-- as is_part and is_pattern
abbrev pub is_made : (ℕ → Bool) → Bytes → Bool
is_made byte cs = list_all byte cs && nat_lt 0 (length cs) && nat_le (length cs) 80 && not (bytes_eq cs (46 ∷ []))

-- the front of a part
record IsFront (byte : ℕ → Bool) (front : Bytes) (n : ℕ) : Type 0 where
  all : list_all byte front ≡ true
  len : length front ≡ n
  some : 1 ≤ n
  few : n ≤ 80
  other : bytes_eq front (46 ∷ []) ≡ false

module _ (p : Parts) (byte : ℕ → Bool) (same : (b : ℕ) → grammar.is_path_byte p b ≡ byte b) (slashes : has_slashes p ≡ true) (no_slash : byte 47 ≡ false) where
  abbrev is_it : Bytes → Bool
  is_it part = is_made byte part

  made : (front : Bytes) (n : ℕ) → IsFront byte front n → is_it front ≡ true
  made front n f =
      let long : nat_lt 0 (length front) ≡ true = le-leb 1 (length front) (omega (arith, f.len, f.some)) in
      let short : nat_le (length front) 80 ≡ true = le-leb (length front) 80 (omega (arith, f.len, f.few)) in
      rw (f.all, long, short, f.other) refl

  made_goes : (front : Bytes) (n : ℕ) → IsFront byte front n → goes is_it front ≡ true
  made_goes front n f = rw (made front n f) (or_true (bytes_eq front two_points)) where
    or_true : (b : Bool) → (b || true) ≡ true
    or_true true = refl
    or_true false = refl

  longer : (front : Bytes) (n b : ℕ) → IsFront byte front n → byte b ≡ true → n + 1 ≤ 80 → IsFront byte (front ++ b ∷ []) (n + 1)
  longer front n b f is few =
      let count : length (front ++ b ∷ []) ≡ n + 1 = length-append front (b ∷ []) ∙ ap (λ (k : ℕ). k + 1) f.len in
      record {
        all = list_all-append byte front (b ∷ []) ∙ rw (f.all, is) refl;
        len = count;
        some = omega arith;
        few = few;
        other = false_from_ne_true (bytes_eq (front ++ b ∷ []) (46 ∷ [])) (λ e.
            let alike : front ++ b ∷ [] ≡ 46 ∷ [] = (bytes_eq-Decides (front ++ b ∷ []) (46 ∷ [])).0 e in
            let one : n + 1 ≡ 1 = sym count ∙ ap (λ (l : Bytes). length l) alike in
            absurd (omega (arith, one, f.some)));
      }

  single : (b : ℕ) → byte b ≡ true → (b == 46) ≡ false → IsFront byte (b ∷ []) 1
  single b is other = record { all = rw is refl; len = refl; some = omega arith; few = omega arith; other = rw other refl }

  is_no_slash : (b : ℕ) → byte b ≡ true → (b == 47) ≡ false
  is_no_slash b is = ne_eqb b 47 (λ e. true≢false (sym is ∙ (ap byte e ∙ no_slash)))

  word_is : (b : ℕ) → is_word b ≡ true → byte b ≡ true
  word_is b word = sym (same b) ∙ rw word refl

  letter_is : (b : ℕ) → is_letter_byte b ≡ true → byte b ≡ true
  letter_is b letter = word_is b (rw letter refl)

  point_is : byte 46 ≡ true
  point_is = sym (same 46)

  -- ---- stages

  -- what a word has at its front that came to a stage
  abbrev Holds : Stage → Bytes → Type 0
  Holds (Slash q) front = (q ≡ p) × (front ≡ [])
  Holds (Dot q) front = (q ≡ p) × (front ≡ 46 ∷ [])
  Holds (Part q n) front = (q ≡ p) × IsFront byte front n
  Holds (GroupName q n) front = (q ≡ p) × (IsFront byte front n × (n ≤ 30))
  Holds Dash front = (Starred ≡ p) × (front ≡ 45 ∷ [])
  Holds DashL front = (Starred ≡ p) × (front ≡ 45 ∷ 108 ∷ [])
  Holds other front = ⊥

  -- one byte more ends the part at a slash, or goes on with it
  abbrev Cut : Bytes → ℕ → Stage → Type 0
  Cut front b t = (((b == 47) ≡ true) × ((goes is_it front ≡ true) × Holds t [])) ⊎ (((b == 47) ≡ false) × Holds t (front ++ b ∷ []))

  at_end : (front : Bytes) (b : ℕ) (s t : Stage) → Some s ≡ Some t → Cut front b s → Cut front b t
  at_end front b s t e cut = subst (λ (x : Stage). Cut front b x) (same_Some s t e) cut

  from_slash : (front : Bytes) (b : ℕ) (t : Stage) → step (Slash p) b ≡ Some t → front ≡ [] → Cut front b t
  from_slash front b t e empty = ⊎_elim
      (λ (point : (b == 46) ≡ true).
      let is : b ≡ 46 = eqb-true b 46 point in
      at_end front b (Dot p) t (rw point at e) (inr (is_no_slash b (ap byte is ∙ point_is), (refl, ap (λ (f : Bytes). f ++ b ∷ []) empty ∙ ap (λ (x : ℕ). x ∷ []) is))))
      (λ (other : (b == 46) ≡ false). ⊎_elim
      (λ (yes : grammar.is_path_byte p b ≡ true).
      let is : byte b ≡ true = sym (same b) ∙ yes in
      at_end front b (Part p 1) t (rw (yes, other) at e) (inr (is_no_slash b is, (refl, subst (λ (f : Bytes). IsFront byte (f ++ b ∷ []) 1) (sym empty) (single b is other)))))
      (λ (no : grammar.is_path_byte p b ≡ false). absurd (let f = rw (no, other) at e in cc))
      (cases_Bool (grammar.is_path_byte p b)))
      (cases_Bool (b == 46))

  from_part : (front : Bytes) (n b : ℕ) (t : Stage) → step (Part p n) b ≡ Some t → IsFront byte front n → Cut front b t
  from_part front n b t e f = ⊎_elim
      (λ (slash : (b == 47) ≡ true). at_end front b (Slash p) t (rw (slashes, slash) at e) (inl (slash, (made_goes front n f, (refl, refl)))))
      (λ (no : (b == 47) ≡ false). ⊎_elim
      (λ (yes : (grammar.is_path_byte p b && nat_lt n 80) ≡ true).
      let both = and_parts (grammar.is_path_byte p b) (nat_lt n 80) yes in
      let few = ltb-true n 80 both.1 in
      at_end front b (Part p (n + 1)) t (rw (slashes, no, yes) at e) (inr (no, (refl, longer front n b f (sym (same b) ∙ both.0) (omega (arith, few))))))
      (λ (none : (grammar.is_path_byte p b && nat_lt n 80) ≡ false). absurd (let g = rw (slashes, no, none) at e in cc))
      (cases_Bool (grammar.is_path_byte p b && nat_lt n 80)))
      (cases_Bool (b == 47))

  from_group : (front : Bytes) (n b : ℕ) (t : Stage) → step (GroupName p n) b ≡ Some t → IsFront byte front n → n ≤ 30 → Cut front b t
  from_group front n b t e f most = ⊎_elim
      (λ (slash : (b == 47) ≡ true). at_end front b (Slash p) t (rw slash at e) (inl (slash, (made_goes front n f, (refl, refl)))))
      (λ (no : (b == 47) ≡ false). ⊎_elim
      (λ (yes : (is_word b && nat_lt n 30) ≡ true).
      let both = and_parts (is_word b) (nat_lt n 30) yes in
      let few = ltb-true n 30 both.1 in
      at_end front b (GroupName p (n + 1)) t (rw (no, yes) at e) (inr (no, (refl, (longer front n b f (word_is b both.0) (omega (arith, few)), omega (arith, few))))))
      (λ (none : (is_word b && nat_lt n 30) ≡ false). absurd (let g = rw (no, none) at e in cc))
      (cases_Bool (is_word b && nat_lt n 30)))
      (cases_Bool (b == 47))

  from_dot : (front : Bytes) (b : ℕ) (t : Stage) → step (Dot p) b ≡ Some t → front ≡ 46 ∷ [] → Cut front b t
  from_dot front b t e is_front = ⊎_elim
      (λ (yes : grammar.is_path_byte p b ≡ true).
      let is : byte b ≡ true = sym (same b) ∙ yes in
      let two : IsFront byte (46 ∷ b ∷ []) 2 = record { all = rw (point_is, is) refl; len = refl; some = omega arith; few = omega arith; other = refl } in
      at_end front b (Part p 2) t (rw yes at e) (inr (is_no_slash b is, (refl, subst (λ (f : Bytes). IsFront byte (f ++ b ∷ []) 2) (sym is_front) two))))
      (λ (no : grammar.is_path_byte p b ≡ false). absurd (let f = rw no at e in cc))
      (cases_Bool (grammar.is_path_byte p b))

  abbrev dash_front : byte 45 ≡ true → IsFront byte (45 ∷ []) 1
  dash_front is = single 45 is refl

  dash_is : byte 45 ≡ true
  dash_is = sym (same 45)

  dash_l_front : IsFront byte (45 ∷ 108 ∷ []) 2
  dash_l_front = longer (45 ∷ []) 1 108 (dash_front dash_is) (sym (same 108)) (omega arith)

  from_dash : (front : Bytes) (b : ℕ) (t : Stage) → step Dash b ≡ Some t → Starred ≡ p → front ≡ 45 ∷ [] → Cut front b t
  from_dash front b t e starred is_front = ⊎_elim
      (λ (l : (b == 108) ≡ true).
      let is : b ≡ 108 = eqb-true b 108 l in
      at_end front b DashL t (rw l at e)
      (inr (is_no_slash b (ap byte is ∙ sym (same 108)), (starred, ap (λ (f : Bytes). f ++ b ∷ []) is_front ∙ ap (λ (x : ℕ). 45 ∷ x ∷ []) is))))
      (λ (no : (b == 108) ≡ false).
      let go : step (Part p 1) b ≡ Some t = ap (λ (q : Parts). step (Part q 1) b) (sym starred) ∙ (rw no at e) in
      from_part front 1 b t go (subst (λ (f : Bytes). IsFront byte f 1) (sym is_front) (dash_front dash_is)))
      (cases_Bool (b == 108))

  from_dash_l : (front : Bytes) (b : ℕ) (t : Stage) → step DashL b ≡ Some t → Starred ≡ p → front ≡ 45 ∷ 108 ∷ [] → Cut front b t
  from_dash_l front b t e starred is_front =
      from_part front 2 b t (ap (λ (q : Parts). step (Part q 2) b) (sym starred) ∙ e) (subst (λ (f : Bytes). IsFront byte f 2) (sym is_front) dash_l_front)

  next : (s : Stage) (front : Bytes) (b : ℕ) (t : Stage) → step s b ≡ Some t → Holds s front → Cut front b t
  next (Slash q) front b t e h = from_slash front b t (ap (λ (x : Parts). step (Slash x) b) (sym h.0) ∙ e) h.1
  next (Dot q) front b t e h = from_dot front b t (ap (λ (x : Parts). step (Dot x) b) (sym h.0) ∙ e) h.1
  next (Part q n) front b t e h = from_part front n b t (ap (λ (x : Parts). step (Part x n) b) (sym h.0) ∙ e) h.1
  next (GroupName q n) front b t e h = from_group front n b t (ap (λ (x : Parts). step (GroupName x n) b) (sym h.0) ∙ e) h.1.0 h.1.1
  next Dash front b t e h = from_dash front b t e h.0 h.1
  next DashL front b t e h = from_dash_l front b t e h.0 h.1
  next other front b t e h = absurd h

  ended : (s : Stage) (front : Bytes) → Holds s front → ends_at s ≡ true → goes is_it front ≡ true
  ended (Slash q) front h e = absurd (false≢true e)
  ended (Dot q) front h e = absurd (false≢true e)
  ended (Part q n) front h e = made_goes front n h.1
  ended (GroupName q n) front h e = made_goes front n h.1.0
  ended Dash front h e = made_goes front 1 (subst (λ (f : Bytes). IsFront byte f 1) (sym h.1) (dash_front dash_is))
  ended DashL front h e = absurd (false≢true e)
  ended other front h e = absurd h

  -- each part goes, from a stage on
  from : (s : Stage) (front bytes : Bytes) → Holds s front → accepts s bytes ≡ true → list_all (goes is_it) (before_first front (between_slashes bytes)) ≡ true
  from s front [] holds ends = rw (append-nil front, ended s front holds ends) refl
  from s front (b ∷ bytes) holds ends = by (step s b) refl ends (λ t f h e. from t f bytes h e) where
    by : (o : Option Stage) → step s b ≡ o → onward false ends_at (onward None (λ t. reached t bytes) o) ≡ true
        → ((t : Stage) (f : Bytes) → Holds t f → accepts t bytes ≡ true → list_all (goes is_it) (before_first f (between_slashes bytes)) ≡ true)
        → list_all (goes is_it) (before_first front (between_slashes (b ∷ bytes))) ≡ true
    by None is ends go = absurd (false≢true ends)
    by (Some t) is ends go = ⊎_elim
        (λ (cut : ((b == 47) ≡ true) × ((goes is_it front ≡ true) × Holds t [])).
        let rest : list_all (goes is_it) (between_slashes bytes) ≡ true = ap (list_all (goes is_it)) (sym (first_none bytes)) ∙ go t [] cut.1.1 ends in
        rw (cut.0, append-nil front, cut.1.0, rest) refl)
        (λ (more : ((b == 47) ≡ false) × Holds t (front ++ b ∷ [])).
        rw more.0 (ap (list_all (goes is_it)) (first_more front b (between_slashes bytes)) ∙ go t (front ++ b ∷ []) more.1 ends))
        (next s front b t is holds)

  -- ---- whole words

  below_slash : (bytes : Bytes) → accepts (Slash p) bytes ≡ true → list_all (goes is_it) (between_slashes bytes) ≡ true
  below_slash bytes ends = ap (list_all (goes is_it)) (sym (first_none bytes)) ∙ from (Slash p) [] bytes (refl, refl) ends

  behind_plus : (bytes : Bytes) → accepts (Plus p) bytes ≡ true → (length bytes == 0) ≡ false → list_all (goes is_it) (between_slashes bytes) ≡ true
  behind_plus [] ends some = absurd (false≢true (sym some))
  behind_plus (c ∷ bytes) ends some = ⊎_elim
      (λ (letter : is_letter_byte c ≡ true).
      let is : byte c ≡ true = letter_is c letter in
      let no : (c == 47) ≡ false = is_no_slash c is in
      let other : (c == 46) ≡ false = ne_eqb c 46 (λ e. true≢false (sym letter ∙ ap is_letter_byte e)) in
      rw no (from (GroupName p 1) (c ∷ []) bytes (refl, (single c is other, omega arith)) (rw letter at ends)))
      (λ (none : is_letter_byte c ≡ false). absurd (let f = rw none at ends in false≢true f))
      (cases_Bool (is_letter_byte c))

  plus_leads : (place : List Bytes) (b : ℕ) (bytes : Bytes) → (b == 43) ≡ true → accepts (Plus p) bytes ≡ true → is_some (resolved_by is_it place (b ∷ bytes)) ≡ true
  plus_leads place b bytes plus ends = ⊎_elim
      (λ (alone : (length bytes == 0) ≡ true). rw (plus, alone) refl)
      (λ (more : (length bytes == 0) ≡ false). rw (plus, more) (walk_some is_it (between_slashes bytes) [] (behind_plus bytes ends more)))
      (cases_Bool (length bytes == 0))

  pub path_leads : (place : List Bytes) (path : Bytes) → accepts (PathStart p) path ≡ true → is_some (resolved_by is_it place path) ≡ true
  path_leads place [] ends = absurd (false≢true ends)
  path_leads place (b ∷ bytes) ends = ⊎_elim
      (λ (plus : (b == 43) ≡ true). plus_leads place b bytes plus (rw plus at ends))
      (λ (no : (b == 43) ≡ false). rw no (walk_some is_it (between_slashes (b ∷ bytes)) place (below_slash (b ∷ bytes) (rw no at ends))))
      (cases_Bool (b == 43))

  falls : (b : ℕ) (bytes : Bytes) → (b == 45) ≡ false → (b == 43) ≡ false → accepts (Slash Starred) (b ∷ bytes) ≡ accepts NotLongStart (b ∷ bytes)
  falls b bytes other not_plus = rw (other, not_plus) refl

  pub long_leads : Starred ≡ p → (place : List Bytes) (path : Bytes) → accepts NotLongStart path ≡ true → is_some (resolved_by is_it place path) ≡ true
  long_leads starred place [] ends = absurd (false≢true ends)
  long_leads starred place (b ∷ bytes) ends = ⊎_elim
      (λ (dash : (b == 45) ≡ true).
      let is : b ≡ 45 = eqb-true b 45 dash in
      let no : (b == 43) ≡ false = ne_eqb b 43 (λ e. absurd (omega (arith, is, e))) in
      let slash : (b == 47) ≡ false = ne_eqb b 47 (λ e. absurd (omega (arith, is, e))) in
      let all : list_all (goes is_it) (before_first (b ∷ []) (between_slashes bytes)) ≡ true = from Dash (b ∷ []) bytes (starred, ap (λ (x : ℕ). x ∷ []) is) (rw dash at ends) in
      rw no (walk_some is_it (between_slashes (b ∷ bytes)) place (rw slash all)))
      (λ (other : (b == 45) ≡ false). ⊎_elim
      (λ (plus : (b == 43) ≡ true). plus_leads place b bytes plus (ap (λ (q : Parts). accepts (Plus q) bytes) (sym starred) ∙ (rw (other, plus) at ends)))
      (λ (no : (b == 43) ≡ false).
      let begins : accepts (Slash p) (b ∷ bytes) ≡ true = ap (λ (q : Parts). accepts (Slash q) (b ∷ bytes)) (sym starred) ∙ falls b bytes other no ∙ ends in
      rw no (walk_some is_it (between_slashes (b ∷ bytes)) place (below_slash (b ∷ bytes) begins)))
      (cases_Bool (b == 43)))
      (cases_Bool (b == 45))
