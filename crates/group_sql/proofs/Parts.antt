-- How rows are read part by part.
use Rattle.std.proofs.Common.{◌≡◌, ℕ, ◌-◌, min, Bool, List, length, refl, ap, ◌∙◌, Option, Some, None, ◌⊎◌, inl, inr}
use Rattle.asm_grammar.specs.Reads.{items_of}
use Rattle.asm_group.specs.Names.{Bytes}
use Rattle.asm_world.specs.Grammar as g
use Rattle.asm_world.specs.Meaning.{new_disk_of}
use Rattle.asm_world.specs.Statement as s
use Rattle.group_sql.specs.Rows.{named_in}
use Rattle.asm_grammar.specs.Word.{Keyword, fit, near}
use Rattle.asm_grammar.specs.Syntax.{SyntaxRule, One, Then, Either, Value}
use Rattle.asm_grammar.specs.Reading.{Outcome, Took, Failed, ◌>>=◌, mapped, parse}

-- TWO PARTS, one behind the other

last_part : {V W B C : Type 0} (sb : W → B) (s : V × W → C) (f : B → C) (v : V) (o : Outcome W) → ((w : W) → s (v, w) ≡ f (sb w)) → mapped s (mapped (λ w. (v, w)) o) ≡ mapped f (mapped sb o)
last_part sb s f v (Took w r l) h = ap (λ z. Took z r l) (h w)
last_part sb s f v (Failed l) h = refl

two : {V W A B C : Type 0} (sa : V → A) (sb : W → B) (f : A → B → C) (s : V × W → C) → ((v : V) (w : W) → s (v, w) ≡ f (sa v) (sb w)) → (o : Outcome V) (k : List ℕ → ℕ → Outcome W)
    → mapped s (o >>= λ v r l. mapped (λ w. (v, w)) (k r l)) ≡ (mapped sa o >>= λ x r l. mapped (λ y. f x y) (mapped sb (k r l)))
two sa sb f s h (Took v r l) k = last_part sb s (λ y. f (sa v) y) v (k r l) (λ w. h v w)
two sa sb f s h (Failed l) k = refl

-- reading a row of two parts
pub then_is : {A B C : Type 0} (a b : SyntaxRule) (sa : Value a → A) (sb : Value b → B) (f : A → B → C) (s : Value (Then a b) → C) → ((v : Value a) (w : Value b) → s (v, w) ≡ f (sa v) (sb w))
    → (text : List ℕ) (left : ℕ) → mapped s (parse (Then a b) text left) ≡ (mapped sa (parse a text left) >>= λ x r l. mapped (λ y. f x y) (mapped sb (parse b r l)))
then_is a b sa sb f s h text left = two sa sb f s h (parse a text left) (λ r l. parse b r l)

pub then_took : {A B C : Type 0} (a b : SyntaxRule) (sa : Value a → A) (sb : Value b → B) (f : A → B → C) (s : Value (Then a b) → C) → ((v : Value a) (w : Value b) → s (v, w) ≡ f (sa v) (sb w))
    → (text : List ℕ) (left : ℕ) (x : A) (r : List ℕ) (l : ℕ) (y : B) (rest : List ℕ) (m : ℕ) → mapped sa (parse a text left) ≡ Took x r l → mapped sb (parse b r l) ≡ Took y rest m
    → mapped s (parse (Then a b) text left) ≡ Took (f x y) rest m
then_took a b sa sb f s h text left x r l y rest m e k =
    then_is a b sa sb f s h text left ∙ (ap (λ o. o >>= λ x r l. mapped (λ y. f x y) (mapped sb (parse b r l))) e ∙ ap (λ o. mapped (λ y. f x y) o) k)

pub then_bad : {A B C : Type 0} (a b : SyntaxRule) (sa : Value a → A) (sb : Value b → B) (f : A → B → C) (s : Value (Then a b) → C) → ((v : Value a) (w : Value b) → s (v, w) ≡ f (sa v) (sb w))
    → (text : List ℕ) (left : ℕ) (x : A) (r : List ℕ) (l m : ℕ) → mapped sa (parse a text left) ≡ Took x r l → mapped sb (parse b r l) ≡ Failed m
    → mapped s (parse (Then a b) text left) ≡ Failed m
then_bad a b sa sb f s h text left x r l m e k =
    then_is a b sa sb f s h text left ∙ (ap (λ o. o >>= λ x r l. mapped (λ y. f x y) (mapped sb (parse b r l))) e ∙ ap (λ o. mapped (λ y. f x y) o) k)

pub then_none : {A B C : Type 0} (a b : SyntaxRule) (sa : Value a → A) (sb : Value b → B) (f : A → B → C) (s : Value (Then a b) → C) → ((v : Value a) (w : Value b) → s (v, w) ≡ f (sa v) (sb w))
    → (text : List ℕ) (left m : ℕ) → mapped sa (parse a text left) ≡ Failed m → mapped s (parse (Then a b) text left) ≡ Failed m
then_none a b sa sb f s h text left m e =
    then_is a b sa sb f s h text left ∙ ap (λ o. o >>= λ x r l. mapped (λ y. f x y) (mapped sb (parse b r l))) e

-- A CHOICE whose first side begins with a keyword

left_side : {V W C : Type 0} (s : V ⊎ W → C) (o : Outcome V) → mapped s (mapped (λ v. inl v) o) ≡ mapped (λ v. s (inl v)) o
left_side s (Took v r l) = refl
left_side s (Failed l) = refl

right_side : {V W C : Type 0} (s : V ⊎ W → C) (o : Outcome W) → mapped s (mapped (λ w. inr w) o) ≡ mapped (λ w. s (inr w)) o
right_side s (Took v r l) = refl
right_side s (Failed l) = refl

left_word : {W V C : Type 0} (s : (Unit {0} × V) ⊎ W → C) (o : Outcome V) → mapped s (mapped (λ v. inl v) (mapped (λ v. (tt, v)) o)) ≡ mapped (λ v. s (inl (tt, v))) o
left_word s (Took v r l) = refl
left_word s (Failed l) = refl

-- The keyword is next: what stands behind it is read.
pub this : {C : Type 0} (k : List ℕ) (a b : SyntaxRule) (s : Value (Either (Then (One (Keyword k)) a) b) → C) (text : List ℕ) (left : ℕ) (rest : List ℕ)
    → fit (Keyword k) text ≡ Some (tt, rest) → mapped s (parse (Either (Then (One (Keyword k)) a) b) text left) ≡ mapped (λ v. s (inl (tt, v))) (parse a rest left)
this k a b s text left rest e = rw e (left_word s (parse a rest left))

-- It is not: the other side is read, with the miss noted.
pub other : {C : Type 0} (k : List ℕ) (a b : SyntaxRule) (s : Value (Either (Then (One (Keyword k)) a) b) → C) (text : List ℕ) (left : ℕ)
    → fit (Keyword k) text ≡ None → mapped s (parse (Either (Then (One (Keyword k)) a) b) text left) ≡ mapped (λ w. s (inr w)) (parse b text (min left (length text - near (Keyword k) text)))
other k a b s text left e = rw e (right_side s (parse b text (min left (length text - near (Keyword k) text))))

-- THE DISKS OF A FAILURE GROUP

pub named_took : (quorum : Bool) (name : Bytes) (o : Outcome (Value (g.listed g.disk))) (ds : List s.NewDisk) (r : List ℕ) (l : ℕ) → mapped (λ v. items_of new_disk_of v) o ≡ Took ds r l
    → mapped (named_in quorum) (mapped (λ w. (name, w)) (mapped (λ w. (tt, w)) o)) ≡ Took (record { quorum = quorum; name = Some name; disks = ds }) r l
named_took quorum name (Took v t m) ds r l e =
    let d : items_of new_disk_of v ≡ ds = cc in
    let q : t ≡ r = cc in
    let n : m ≡ l = cc in
    rw (← d, ← q, ← n) refl
named_took quorum name (Failed m) ds r l e = cc

pub named_bad : (quorum : Bool) (name : Bytes) (o : Outcome (Value (g.listed g.disk))) (l : ℕ) → mapped (λ v. items_of new_disk_of v) o ≡ Failed l
    → mapped (named_in quorum) (mapped (λ w. (name, w)) (mapped (λ w. (tt, w)) o)) ≡ Failed l
named_bad quorum name (Took v t m) l e = cc
named_bad quorum name (Failed m) l e = let q : m ≡ l = cc in ap (λ z. Failed z) q
