-- Some text of the grammar goes with a text as far as reading says.
use Rattle.std.proofs.Common.{◌≡◌, ℕ, zero, suc, ◌+◌, ◌-◌, ◌<◌, ◌≤◌, min, true, false, ◌⊎◌, inl, inr, List, [], ◌∷◌, ◌++◌, length, refl, sym, ap, subst, ◌∙◌, Option, Some, None, arith, append_assoc}
use Rattle.std.specs.Prelude.{Err}
use Rattle.std.specs.Prelude.{nat_le}
use Rattle.std.proofs.lemmas.Bool.{leb-true, leb-false}
use Rattle.asm_grammar.specs.Bytes.{is_blank, is_word, run_of, after_run, common}
use Rattle.asm_grammar.specs.Word.{Word, Mark, Meaning, fit, fit_here, near, gap, begins_argument}
use Rattle.asm_grammar.specs.Syntax.{SyntaxRule, One, Then, Either, Maybe, Many, Value, Has}
use Rattle.asm_grammar.specs.Reading.{Outcome, Took, Failed, ◌>>=◌, mapped, one, repeated_while, parse, leads, miss, nullable, decides, starts, all_words_apart, is_solid, ends, finish, whole}
use Rattle.asm_grammar.specs.Reading.{first as heads}
use Rattle.asm_grammar.proofs.Tests.{both, is_true_or_false}
use Rattle.asm_grammar.proofs.Outcomes.{chosen}
use Rattle.asm_grammar.proofs.Consumes.{takes, shortens, either_parts, maybe_parts}
use Rattle.asm_grammar.proofs.Sound.{sound}
use Rattle.asm_grammar.proofs.Near.{short}
use Rattle.asm_grammar.proofs.Written.{rest_all, mark_spelled, space_first}
use Rattle.asm_grammar.proofs.Nearest.{Reaches, spelling, CanSpell, run_words, common_same}
use Rattle.asm_grammar.proofs.Replaced.{Joins, run_then_rest, replaced, joins_behind}
use Rattle.std.proofs.lemmas.List.{length-append}
use Rattle.asm_grammar.specs.Laws.{IsText}
use Rattle.asm_grammar.proofs.Closing.{mark_exact}
use Rattle.asm_grammar.proofs.Farthest.{picked, final, final_mapped, Among, among_left, none_among}

-- WORDS

record Goes (w : Word) (text s tail : List ℕ) : Type 0 where
  says : Meaning w
  fit_is : fit w (s ++ tail) ≡ Some (says, tail)
  joins : Joins text (s ++ tail)
  far : near w text ≤ common text (s ++ tail)

abbrev WordGoes : Word → List ℕ → Type 0
WordGoes w text = (s : List ℕ) × ((tail : List ℕ) → begins_argument tail ≡ false → Goes w text s tail)

near_goes : (w : Word) (text : List ℕ) (s : List ℕ) → ((tail : List ℕ) → begins_argument tail ≡ false → Reaches w (after_run (gap w) text) s tail) → 0 < near w text → WordGoes w text
near_goes w text s each far =
    let bl : List ℕ = run_of (gap w) text in (
      bl ++ s,
      λ tail b.
          let r = each tail b in
          let k : after_run (gap w) (bl ++ (s ++ tail)) ≡ s ++ tail = rest_all (gap w) bl (s ++ tail) (run_words (gap w) text) r.start in
          let t = run_then_rest (gap w) text in
          let c : common text (bl ++ (s ++ tail)) ≡ length bl + common (after_run (gap w) text) (s ++ tail) =
          subst (λ x. common x (bl ++ (s ++ tail)) ≡ length bl + common (after_run (gap w) text) (s ++ tail)) (sym t) (common_same bl (after_run (gap w) text) (s ++ tail)) in
          let f : near w text ≤ common text (bl ++ (s ++ tail)) = (let g = r.far in omega arith) in
          record {
            says = r.says;
            fit_is = rw (append_assoc bl s tail, k) r.fit_is;
            joins = inr (rw (append_assoc bl s tail) (omega arith));
            far = rw (append_assoc bl s tail) f;
          },
    )

blank_goes : (w : Word) (text : List ℕ) (s : List ℕ) → ((tail : List ℕ) → begins_argument tail ≡ false → Reaches w (after_run (gap w) text) s tail) → near w text ≡ 0 → WordGoes w text
blank_goes w text s each none = (
  32 ∷ s,
  λ tail b.
      let r = each tail b in
      let k : after_run (gap w) (32 ∷ (s ++ tail)) ≡ s ++ tail = space_first w (s ++ tail) ∙ r.start in
      record { says = r.says; fit_is = subst (λ x. fit_here w x ≡ Some (r.says, tail)) (sym k) r.fit_is; joins = inl refl; far = omega arith },
)

word_goes : (w : Word) (text : List ℕ) → CanSpell w → fit w text ≡ None → WordGoes w text
word_goes w text c e =
    let s = spelling w (after_run (gap w) text) c e in
    elim (near w text) as (λ n. near w text ≡ n → WordGoes w text) [
      | zero ↦ λ k. blank_goes w text s.0 s.1 k
      | suc n ↦ λ k. near_goes w text s.0 s.1 (omega arith)
    ] refl

-- SHORTEST TEXTS

abbrev pub AllCanSpell : SyntaxRule → Type 0
AllCanSpell (One w) = CanSpell w
AllCanSpell (Then a b) = AllCanSpell a × AllCanSpell b
AllCanSpell (Either a b) = AllCanSpell a × AllCanSpell b
AllCanSpell (Maybe a) = AllCanSpell a
AllCanSpell (Many a) = AllCanSpell a

-- A text of the grammar stands before anything that is empty or begins with a space, and is so itself.
abbrev pub Ends : SyntaxRule → List ℕ → List ℕ → Type 0
Ends g s tail = (begins_argument (s ++ tail) ≡ false) × ((v : Value g) × Has g v (s ++ tail) tail)

abbrev pub Shortest : SyntaxRule → Type 0
Shortest g = (s : List ℕ) × ((tail : List ℕ) → begins_argument tail ≡ false → Ends g s tail)

no_text : (w : Word) (o : Option (Meaning w × List ℕ)) → is_solid w ≡ true → fit w [] ≡ o → fit w [] ≡ None
no_text w None d e = e
no_text w (Some (v, rest)) d e = absurd (let t = takes w [] v rest d e in omega arith)

word_begins : (text t : List ℕ) → text ≡ [] → Joins text t → begins_argument t ≡ false
word_begins text t e (inl j) = j
word_begins [] t e (inr j) = absurd (omega arith)
word_begins (b ∷ text) t e (inr j) = cc

pub shortest : (g : SyntaxRule) (follow : List Word) → decides g follow ≡ true → AllCanSpell g → Shortest g
shortest (One w) follow d c =
    let g = word_goes w [] c (no_text w (fit w []) d refl) in
    (g.0, λ tail b. let r = g.1 tail b in (word_begins [] (g.0 ++ tail) refl r.joins, (r.says, r.fit_is)))
shortest (Then a b) follow d c =
    let p = both (decides a (starts b follow)) (decides b follow) d in
    let x = shortest a (starts b follow) p.0 c.0 in
    let y = shortest b follow p.1 c.1 in (
      x.0 ++ y.0,
      λ tail e.
          let q = y.1 tail e in
          let r = x.1 (y.0 ++ tail) q.0 in
          rw (append_assoc x.0 y.0 tail) (r.0, ((r.1.0, q.1.0), (y.0 ++ tail, r.1.1, q.1.1))),
    )
shortest (Either a b) follow d c =
    let x = shortest a follow (either_parts a b follow d).first c.0 in
    (x.0, λ tail e. let r = x.1 tail e in (r.0, (inl r.1.0, r.1.1)))
shortest (Maybe a) follow d c = ([], λ tail e. (e, (None, refl)))
shortest (Many a) follow d c = ([], λ tail e. (e, ([], refl)))

-- FROM A FIRST WORD

-- Where s begins with the word, whatever begins no word behind it, s and more is a text of the grammar.
abbrev WordBefore : Word → List ℕ → Type 0
WordBefore w s = (tail : List ℕ) → begins_argument tail ≡ false → (x : Meaning w) × (fit w (s ++ tail) ≡ Some (x, tail))

abbrev Goes_on : SyntaxRule → List ℕ → Type 0
Goes_on g s = (more : List ℕ) × ((tail : List ℕ) → begins_argument tail ≡ false → (begins_argument (more ++ tail) ≡ false) × ((v : Value g) × Has g v (s ++ (more ++ tail)) tail))

nothing : (g : SyntaxRule) → nullable g ≡ true → (v : Value g) × ((text : List ℕ) → Has g v text text)
nothing (One w) n = cc
nothing (Then a b) n =
    let p = both (nullable a) (nullable b) n in
    let x = nothing a p.0 in let y = nothing b p.1 in
    ((x.0, y.0), λ t. (t, x.1 t, y.1 t))
nothing (Either a b) n = cc
nothing (Maybe a) n = (None, λ t. refl)
nothing (Many a) n = ([], λ t. refl)

from_first : (g : SyntaxRule) (follow : List Word) (w : Word) (s : List ℕ) → decides g follow ≡ true → AllCanSpell g → Among w (heads g) → WordBefore w s → Goes_on g s
from_first (One u) follow w s d c m before =
    elim m [
      | inr h ↦ absurd h
      | inl h ↦ ([], λ tail e. (e, subst (λ z. (x : Meaning z) × (fit z (s ++ tail) ≡ Some (x, tail))) (sym h) (before tail e)))
    ]
from_first (Then a b) follow w s d c m before =
    let p = both (decides a (starts b follow)) (decides b follow) d in
    let y = shortest b follow p.1 c.1 in
    let on_a : Among w (heads a) → Goes_on (Then a b) s = λ k.
    (let x = from_first a (starts b follow) w s p.0 c.0 k before in (
      x.0 ++ y.0,
      λ tail e.
          let q = y.1 tail e in
          let r = x.1 (y.0 ++ tail) q.0 in
          rw (append_assoc x.0 y.0 tail) (r.0, ((r.1.0, q.1.0), (y.0 ++ tail, r.1.1, q.1.1))),
    )) in
    elim (is_true_or_false (nullable a)) [
      | inr n ↦ on_a (rw n at m)
      | inl n ↦ (elim (among_left (heads a) (heads b) w (rw n at m)) [
        | inl k ↦ on_a k
        | inr k ↦
            (let x = from_first b follow w s p.1 c.1 k before in
            let z = nothing a n in
            (x.0, λ tail e. let r = x.1 tail e in (r.0, ((z.0, r.1.0), (s ++ (x.0 ++ tail), z.1 (s ++ (x.0 ++ tail)), r.1.1)))))
      ])
    ]
from_first (Either a b) follow w s d c m before =
    let p = either_parts a b follow d in
    elim (among_left (heads a) (heads b) w m) [
      | inl k ↦ (let x = from_first a follow w s p.first c.0 k before in (x.0, λ tail e. let r = x.1 tail e in (r.0, (inl r.1.0, r.1.1))))
      | inr k ↦ (let x = from_first b follow w s p.second c.1 k before in (x.0, λ tail e. let r = x.1 tail e in (r.0, (inr r.1.0, r.1.1))))
    ]
from_first (Maybe a) follow w s d c m before =
    let p = maybe_parts (decides a follow) (nullable a) (all_words_apart (heads a) follow) d in
    let x = from_first a follow w s p.inner c m before in (x.0, λ tail e. let r = x.1 tail e in (r.0, (Some r.1.0, r.1.1)))
from_first (Many a) follow w s d c m before =
    let p = maybe_parts (decides a (heads a ++ follow)) (nullable a) (all_words_apart (heads a) follow) d in
    let x = from_first a (heads a ++ follow) w s p.inner c m before in (x.0, λ tail e. let r = x.1 tail e in (r.0, (r.1.0 ∷ [], (tail, r.1.1, refl))))

can_spell : (g : SyntaxRule) (w : Word) → AllCanSpell g → Among w (heads g) → CanSpell w
can_spell (One u) w c m = elim m [ inl h ↦ subst (λ z. CanSpell z) h c | inr h ↦ absurd h ]
can_spell (Then a b) w c m = elim (is_true_or_false (nullable a)) [
  | inr n ↦ can_spell a w c.0 (rw n at m)
  | inl n ↦ (elim (among_left (heads a) (heads b) w (rw n at m)) [ inl k ↦ can_spell a w c.0 k | inr k ↦ can_spell b w c.1 k ])
]
can_spell (Either a b) w c m = elim (among_left (heads a) (heads b) w m) [ inl k ↦ can_spell a w c.0 k | inr k ↦ can_spell b w c.1 k ]
can_spell (Maybe a) w c m = can_spell a w c m
can_spell (Many a) w c m = can_spell a w c m

-- AS FAR AS

-- A text of the grammar, behind which the tail stands, goes with the text so far that only so many bytes are left.
pub record FarText (g : SyntaxRule) (text : List ℕ) (left : ℕ) (tail : List ℕ) : Type 0 where
  pub front : List ℕ
  pub says : Value g
  pub has : Has g says (front ++ tail) tail
  pub joins : Joins text (front ++ tail)
  pub far : length text ≤ left + common text (front ++ tail)

abbrev pub GoesFar : SyntaxRule → List ℕ → ℕ → Type 0
GoesFar g text left = (tail : List ℕ) → begins_argument tail ≡ false → FarText g text left tail

abbrev pub Far : SyntaxRule → List ℕ → ℕ → ℕ → Type 0
Far g text first left = (left ≡ first) ⊎ GoesFar g text left

pub min_is : (a b : ℕ) → (min a b ≡ a) ⊎ (min a b ≡ b)
min_is a b = elim (is_true_or_false (nat_le a b)) [ inl h ↦ inl (let k = leb-true a b h in omega arith) | inr h ↦ inr (let k = leb-false a b h in omega arith) ]

-- Of the words that were missed none was near, or one as near as the outcome says.
miss_is : (words : List Word) (text : List ℕ) (left : ℕ) → (miss words text left ≡ left) ⊎ ((w : Word) × Among w words × (miss words text left ≡ length text - near w text))
miss_is [] text left = inl refl
miss_is (w ∷ words) text left =
    elim (miss_is words text (min left (length text - near w text))) [
      | inr h ↦ inr (h.0, inr h.1, h.2)
      | inl h ↦ (elim (min_is left (length text - near w text)) [
        | inl k ↦ inl (h ∙ k)
        | inr k ↦ inr (w, inl refl, h ∙ k)
      ])
    ]

-- A missed first word is carried on to a text of the grammar.
miss_far : (a : SyntaxRule) (follow : List Word) (text : List ℕ) (left : ℕ) → decides a follow ≡ true → AllCanSpell a → leads a text ≡ false → Far a text left (miss (heads a) text left)
miss_far a follow text left d c l =
    elim (miss_is (heads a) text left) [
      | inl h ↦ inl h
      | inr h ↦
          (let w = h.0 in
          let g = word_goes w text (can_spell a w c h.1) (none_among (heads a) w text h.1 l) in
          let x = from_first a follow w g.0 d c h.1 (λ tail e. let r = g.1 tail e in (r.says, r.fit_is)) in
          inr (λ tail e.
          let q = x.1 tail e in
          let r = g.1 (x.0 ++ tail) q.0 in
          let s = short w text in
          let f : length text ≤ miss (heads a) text left + common text (g.0 ++ (x.0 ++ tail)) = (let k = r.far in let z = h.2 in omega arith) in
          record {
            front = g.0 ++ x.0;
            says = q.1.0;
            has = rw (append_assoc g.0 x.0 tail) q.1.1;
            joins = rw (append_assoc g.0 x.0 tail) r.joins;
            far = rw (append_assoc g.0 x.0 tail) f;
          }))
    ]

lift : (a g : SyntaxRule) (f : Value a → Value g) (text : List ℕ) (left : ℕ) → ((v : Value a) (s t : List ℕ) → Has a v s t → Has g (f v) s t) → GoesFar a text left → GoesFar g text left
lift a g f text left h far = λ tail e. (let r = far tail e in record { front = r.front; says = f r.says; has = h r.says (r.front ++ tail) tail r.has; joins = r.joins; far = r.far })

lift_far : (a g : SyntaxRule) (f : Value a → Value g) (text : List ℕ) (first left : ℕ) → ((v : Value a) (s t : List ℕ) → Has a v s t → Has g (f v) s t) → Far a text first left → Far g text first left
lift_far a g f text first left h far = elim far [ inl k ↦ inl k | inr k ↦ inr (lift a g f text left h k) ]

-- The first part goes far, and any second one stands behind it.
front_far : (a b : SyntaxRule) (text : List ℕ) (left : ℕ) → Shortest b → GoesFar a text left → GoesFar (Then a b) text left
front_far a b text left y far = λ tail e.
    (let q = y.1 tail e in
    let r = far (y.0 ++ tail) q.0 in
    record {
      front = r.front ++ y.0;
      says = (r.says, q.1.0);
      has = rw (append_assoc r.front y.0 tail) (y.0 ++ tail, r.has, q.1.1);
      joins = rw (append_assoc r.front y.0 tail) r.joins;
      far = rw (append_assoc r.front y.0 tail) r.far;
    })

-- What is put before both makes both longer.
behind_far : (front middle other : List ℕ) (text : List ℕ) (left : ℕ) → text ≡ front ++ middle → length middle ≤ left + common middle other → length text ≤ left + common text (front ++ other)
behind_far front middle other text left e far =
    subst (λ x. length x ≤ left + common x (front ++ other)) (sym e)
    (let a = length-append front middle in let c = common_same front middle other in omega arith)

-- The second part goes far behind the first one that was read.
back_far : (a b : SyntaxRule) (follow : List Word) (text middle : List ℕ) (v : Value a) (left : ℕ) → decides a follow ≡ true → Has a v text middle → GoesFar b middle left → GoesFar (Then a b) text left
back_far a b follow text middle v left d h far = λ tail e.
    (let q = far tail e in
    let r = replaced a follow v text middle (q.front ++ tail) d h q.joins in
    let j : Joins text (r.front ++ (q.front ++ tail)) = subst (λ x. Joins x (r.front ++ (q.front ++ tail))) (sym r.shape) (joins_behind r.front middle (q.front ++ tail) q.joins) in
    record {
      front = r.front ++ q.front;
      says = (v, q.says);
      has = rw (append_assoc r.front q.front tail) (q.front ++ tail, r.has, q.has);
      joins = rw (append_assoc r.front q.front tail) j;
      far = rw (append_assoc r.front q.front tail) (behind_far r.front middle (q.front ++ tail) text left r.shape q.far);
    })

then_far : (a b : SyntaxRule) (follow : List Word) (text : List ℕ) (first : ℕ) (o : Outcome (Value a)) → decides a follow ≡ true → Shortest b → parse a text first ≡ o → Far a text first (final o)
    → ((middle : List ℕ) (m : ℕ) → Far b middle m (final (parse b middle m)))
    → Far (Then a b) text first (final (o >>= λ v rest m. mapped {B = Value (Then a b)} (λ w. (v, w)) (parse b rest m)))
then_far a b follow text first (Failed left) d y e fa fb = elim fa [ inl k ↦ inl k | inr k ↦ inr (front_far a b text left y k) ]
then_far a b follow text first (Took v middle m) d y e fa fb =
    rw (final_mapped {B = Value (Then a b)} (λ w. (v, w)) (parse b middle m))
    (elim (fb middle m) [
      | inr k ↦ inr (back_far a b follow text middle v (final (parse b middle m)) d (sound a text first v middle m e) k)
      | inl k ↦ (elim fa [
        | inl h ↦ inl (k ∙ h)
        | inr h ↦ inr (subst (λ l. GoesFar (Then a b) text l) (sym k) (front_far a b text m y h))
      ])
    ])

one_far : (w : Word) (text : List ℕ) (left : ℕ) (o : Option (Meaning w × List ℕ)) → CanSpell w → fit w text ≡ o → Far (One w) text left (final (one w text left o))
one_far w text left (Some found) c e = inl refl
one_far w text left None c e =
    elim (min_is left (length text - near w text)) [
      | inl k ↦ inl k
      | inr k ↦
          (let g = word_goes w text c e in
          let s = short w text in
          inr (λ tail b. (let r = g.1 tail b in record { front = g.0; says = r.says; has = r.fit_is; joins = r.joins; far = (let f = r.far in omega arith) })))
    ]

solid_first : (g : SyntaxRule) (follow : List Word) (w : Word) → decides g follow ≡ true → Among w (heads g) → is_solid w ≡ true
solid_first (One u) follow w d m = elim m [ inl h ↦ subst (λ z. is_solid z ≡ true) h d | inr h ↦ absurd h ]
solid_first (Then a b) follow w d m =
    let p = both (decides a (starts b follow)) (decides b follow) d in
    elim (is_true_or_false (nullable a)) [
      | inr n ↦ solid_first a (starts b follow) w p.0 (rw n at m)
      | inl n ↦ (elim (among_left (heads a) (heads b) w (rw n at m)) [ inl k ↦ solid_first a (starts b follow) w p.0 k | inr k ↦ solid_first b follow w p.1 k ])
    ]
solid_first (Either a b) follow w d m =
    let p = either_parts a b follow d in
    elim (among_left (heads a) (heads b) w m) [ inl k ↦ solid_first a follow w p.first k | inr k ↦ solid_first b follow w p.second k ]
solid_first (Maybe a) follow w d m = solid_first a follow w (maybe_parts (decides a follow) (nullable a) (all_words_apart (heads a) follow) d).inner m
solid_first (Many a) follow w d m = solid_first a (heads a ++ follow) w (maybe_parts (decides a (heads a ++ follow)) (nullable a) (all_words_apart (heads a) follow) d).inner m

empty_leads : (a : SyntaxRule) (follow : List Word) (text : List ℕ) → decides a follow ≡ true → length text ≤ 0 → leads a text ≡ false
empty_leads a follow text d l = elim (is_true_or_false (leads a text)) [
  | inr h ↦ h
  | inl h ↦ absurd (let p = picked (heads a) text h in let t = takes p.word text p.says p.rest (solid_first a follow p.word d p.among) p.fit_is in omega arith)
]

one_of_many : (a : SyntaxRule) (v : Value a) (s t : List ℕ) → Has a v s t → Has (Many a) (v ∷ []) s t
one_of_many a v s t h = (t, h, refl)

-- One more, and behind it others that go far.
more_far : (a : SyntaxRule) (follow : List Word) (text middle : List ℕ) (v : Value a) (left : ℕ) → decides a follow ≡ true → Has a v text middle → GoesFar (Many a) middle left → GoesFar (Many a) text left
more_far a follow text middle v left d h far = λ tail e.
    (let q = far tail e in
    let r = replaced a follow v text middle (q.front ++ tail) d h q.joins in
    let j : Joins text (r.front ++ (q.front ++ tail)) = subst (λ x. Joins x (r.front ++ (q.front ++ tail))) (sym r.shape) (joins_behind r.front middle (q.front ++ tail) q.joins) in
    record {
      front = r.front ++ q.front;
      says = v ∷ q.says;
      has = rw (append_assoc r.front q.front tail) (q.front ++ tail, r.has, q.has);
      joins = rw (append_assoc r.front q.front tail) j;
      far = rw (append_assoc r.front q.front tail) (behind_far r.front middle (q.front ++ tail) text left r.shape q.far);
    })

again_far : (a : SyntaxRule) (follow : List Word) (text : List ℕ) (first : ℕ) (o : Outcome (Value a)) (next : List ℕ → ℕ → Outcome (List (Value a)))
    → decides a follow ≡ true → parse a text first ≡ o → Far a text first (final o) → ((v : Value a) (middle : List ℕ) (m : ℕ) → parse a text first ≡ Took v middle m → Far (Many a) middle m (final (next middle m)))
    → Far (Many a) text first (final (o >>= λ v rest m. mapped (λ vs. v ∷ vs) (next rest m)))
again_far a follow text first (Failed left) next d e fa fn = lift_far a (Many a) (λ v. v ∷ []) text first left (λ v s t h. one_of_many a v s t h) fa
again_far a follow text first (Took v middle m) next d e fa fn =
    rw (final_mapped (λ vs. v ∷ vs) (next middle m))
    (elim (fn v middle m e) [
      | inr k ↦ inr (more_far a follow text middle v (final (next middle m)) d (sound a text first v middle m e) k)
      | inl k ↦ (elim fa [
        | inl h ↦ inl (k ∙ h)
        | inr h ↦ inr (subst (λ l. GoesFar (Many a) text l) (sym k) (lift a (Many a) (λ v. v ∷ []) text m (λ v s t h. one_of_many a v s t h) h))
      ])
    ])

repeated_far : (a : SyntaxRule) (follow : List Word) → decides a follow ≡ true → nullable a ≡ false → AllCanSpell a → ((text : List ℕ) (left : ℕ) → Far a text left (final (parse a text left)))
    → (n : ℕ) (text : List ℕ) (left : ℕ) → length text ≤ n → Far (Many a) text left (final (repeated_while n (λ r. leads a r) (λ r m. miss (heads a) r m) (λ r m. parse a r m) text left))
repeated_far a follow d full c each zero text left l =
    lift_far a (Many a) (λ v. v ∷ []) text left (miss (heads a) text left) (λ v s t h. one_of_many a v s t h) (miss_far a follow text left d c (empty_leads a follow text d l))
repeated_far a follow d full c each (suc n) text left l = elim (is_true_or_false (leads a text)) [
  | inr h ↦ rw h (lift_far a (Many a) (λ v. v ∷ []) text left (miss (heads a) text left) (λ v s t k. one_of_many a v s t k) (miss_far a follow text left d c h))
  | inl h ↦ rw h (again_far a follow text left (parse a text left) (λ rest m. repeated_while n (λ r. leads a r) (λ r m. miss (heads a) r m) (λ r m. parse a r m) rest m)
      d refl (each text left) (λ v middle m e. repeated_far a follow d full c each n middle m (let s = shortens a follow v text middle full d (sound a text left v middle m e) in omega arith)))
]

after_miss : (a b : SyntaxRule) (follow : List Word) (text : List ℕ) (left l : ℕ) → Far b text (miss (heads a) text left) l → Far a text left (miss (heads a) text left) → Far (Either a b) text left l
after_miss a b follow text left l fb fa =
    elim fb [
      | inr k ↦ inr (lift b (Either a b) (λ v. inr v) text l (λ v s t h. h) k)
      | inl k ↦ (elim fa [
        | inl h ↦ inl (k ∙ h)
        | inr h ↦ inr (subst (λ x. GoesFar (Either a b) text x) (sym k) (lift a (Either a b) (λ v. inl v) text (miss (heads a) text left) (λ v s t q. q) h))
      ])
    ]

pub far : (g : SyntaxRule) (follow : List Word) (text : List ℕ) (left : ℕ) → decides g follow ≡ true → AllCanSpell g → Far g text left (final (parse g text left))
far (One w) follow text left d c = one_far w text left (fit w text) c refl
far (Then a b) follow text left d c =
    let p = both (decides a (starts b follow)) (decides b follow) d in
    then_far a b (starts b follow) text left (parse a text left) p.0 (shortest b follow p.1 c.1) refl (far a (starts b follow) text left p.0 c.0) (λ middle m. far b follow middle m p.1 c.1)
far (Either a b) follow text left d c =
    let p = either_parts a b follow d in
    elim (is_true_or_false (leads a text)) [
      | inl h ↦ rw (h, final_mapped {B = Value a ⊎ Value b} (λ v. inl v) (parse a text left)) (lift_far a (Either a b) (λ v. inl v) text left (final (parse a text left)) (λ v s t k. k) (far a follow text left p.first c.0))
      | inr h ↦ rw (h, final_mapped {B = Value a ⊎ Value b} (λ v. inr v) (parse b text (miss (heads a) text left)))
          (after_miss a b follow text left (final (parse b text (miss (heads a) text left))) (far b follow text (miss (heads a) text left) p.second c.1) (miss_far a follow text left p.first c.0 h))
    ]
far (Maybe a) follow text left d c =
    let p = maybe_parts (decides a follow) (nullable a) (all_words_apart (heads a) follow) d in
    elim (is_true_or_false (leads a text)) [
      | inl h ↦ rw (h, final_mapped {B = Option (Value a)} (λ v. Some v) (parse a text left)) (lift_far a (Maybe a) (λ v. Some v) text left (final (parse a text left)) (λ v s t k. k) (far a follow text left p.inner c))
      | inr h ↦ rw h (lift_far a (Maybe a) (λ v. Some v) text left (miss (heads a) text left) (λ v s t k. k) (miss_far a follow text left p.inner c h))
    ]
far (Many a) follow text left d c =
    let p = maybe_parts (decides a (heads a ++ follow)) (nullable a) (all_words_apart (heads a) follow) d in
    repeated_far a (heads a ++ follow) p.inner p.full c (λ t m. far a (heads a ++ follow) t m p.inner c) (length text) text left (omega arith)

-- WHOLE TEXTS

-- The mark in the place of what stands there, as near it as it can be.
record MarkFar (m : ℕ) (rest : List ℕ) : Type 0 where
  other : List ℕ
  end : fit (Mark m) other ≡ Some (tt, [])
  joins : Joins rest other
  far : near (Mark m) rest ≤ common rest other

mark_far : (m : ℕ) (rest : List ℕ) (o : Option (Unit {0} × List ℕ)) → is_blank m ≡ false → fit (Mark m) rest ≡ o → MarkFar m rest
mark_far m rest None b e =
    let g = word_goes (Mark m) rest b e in
    let r = g.1 [] refl in
    record { other = g.0 ++ []; end = r.fit_is; joins = r.joins; far = r.far }
mark_far m rest (Some (u, behind)) b e =
    let r = replaced (One (Mark m)) [] tt rest behind [] refl e (inl refl) in
    let n : near (Mark m) rest ≤ length r.front = (let x = mark_exact m rest behind e in let y = short (Mark m) rest in
    let z : length rest ≡ length r.front + length behind = ap length r.shape ∙ length-append r.front behind in omega arith) in
    let c : common rest (r.front ++ []) ≡ length r.front + common behind [] = subst (λ x. common x (r.front ++ []) ≡ length r.front + common behind []) (sym r.shape) (common_same r.front behind []) in
    let j : Joins rest (r.front ++ []) = subst (λ x. Joins x (r.front ++ [])) (sym r.shape) (joins_behind r.front behind [] (inl refl)) in
    record { other = r.front ++ []; end = r.has; joins = j; far = omega arith }

pub record Witness (g : SyntaxRule) (m : ℕ) (text : List ℕ) (at : ℕ) : Type 0 where
  pub other : List ℕ
  pub says : Value g
  pub is_text : IsText g m other says
  pub far : at ≤ common text other

-- A part that goes far and the mark behind it are a text.
part_witness : (g : SyntaxRule) (m : ℕ) (text : List ℕ) (left at : ℕ) → is_blank m ≡ false → is_word m ≡ false → at ≤ length text - left → FarText g text left (32 ∷ m ∷ []) → Witness g m text at
part_witness g m text left at b w l f = record {
  other = f.front ++ 32 ∷ m ∷ [];
  says = f.says;
  is_text = record { rest = 32 ∷ m ∷ []; has = f.has; end = mark_spelled m [] b };
  far = (let k = f.far in omega arith);
}

-- Where nothing fits, any text of the grammar does.
any_witness : (g : SyntaxRule) (m : ℕ) (text : List ℕ) (at : ℕ) → is_blank m ≡ false → is_word m ≡ false → at ≤ 0 → Shortest g → Witness g m text at
any_witness g m text at b w l s =
    let r = s.1 (32 ∷ m ∷ []) refl in
    record { other = s.0 ++ 32 ∷ m ∷ []; says = r.1.0; is_text = record { rest = 32 ∷ m ∷ []; has = r.1.1; end = mark_spelled m [] b }; far = omega arith }

far_witness : (g : SyntaxRule) (m : ℕ) (text : List ℕ) (left at : ℕ) → is_blank m ≡ false → is_word m ≡ false → at ≤ length text - left → Shortest g → Far g text (length text) left → Witness g m text at
far_witness g m text left at b w l s f =
    elim f [
      | inl k ↦ any_witness g m text at b w (omega arith) s
      | inr k ↦ part_witness g m text left at b w l (k (32 ∷ m ∷ []) refl)
    ]

finish_witness : (g : SyntaxRule) (follow : List Word) (m : ℕ) (text : List ℕ) (at : ℕ) (o : Outcome (Value g)) → decides g follow ≡ true → is_blank m ≡ false → is_word m ≡ false
    → Shortest g → parse g text (length text) ≡ o → Far g text (length text) (final o) → finish (Mark m) (length text) o ≡ Err at → Witness g m text at
finish_witness g follow m text at (Failed left) d b w s p f e =
    let k : length text - left ≡ at = cc in far_witness g m text left at b w (omega arith) s f
finish_witness g follow m text at (Took v rest left) d b w s p f e =
    elim (chosen (ends (Mark m) rest) _ _ _ e) [
      | inl q ↦ absurd (let z = q.1 in cc)
      | inr q ↦
          let k : length text - min left (length rest - near (Mark m) rest) ≡ at = (let z = q.1 in cc) in
          elim (min_is left (length rest - near (Mark m) rest)) [
            | inl h ↦ far_witness g m text left at b w (omega arith) s f
            | inr h ↦
                (let mf = mark_far m rest (fit (Mark m) rest) b refl in
                let r = replaced g follow v text rest mf.other d (sound g text (length text) v rest left p) mf.joins in
                let c : common text (r.front ++ mf.other) ≡ length r.front + common rest mf.other =
                subst (λ x. common x (r.front ++ mf.other) ≡ length r.front + common rest mf.other) (sym r.shape) (common_same r.front rest mf.other) in
                let z : length text ≡ length r.front + length rest = ap length r.shape ∙ length-append r.front rest in
                let n = short (Mark m) rest in
                let y = mf.far in
                record { other = r.front ++ mf.other; says = v; is_text = record { rest = mf.other; has = r.has; end = mf.end }; far = omega arith })
          ]
    ]

pub some_text : (g : SyntaxRule) (m : ℕ) (text : List ℕ) (at : ℕ) → decides g (Mark m ∷ []) ≡ true → AllCanSpell g → is_blank m ≡ false → is_word m ≡ false
    → whole g (Mark m) text ≡ Err at → Witness g m text at
some_text g m text at d c b w e =
    finish_witness g (Mark m ∷ []) m text at (parse g text (length text)) d b w (shortest g (Mark m ∷ []) d c) refl (far g (Mark m ∷ []) text (length text) d c) e
