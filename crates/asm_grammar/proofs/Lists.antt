-- Reading items behind marks, one behind another.
use Rattle.std.proofs.Common.{◌≡◌, ℕ, ◌-◌, ◌<◌, min, true, List, [], ◌∷◌, ◌++◌, length, map, refl, sym, ap, Some, None, append_assoc, append-nil, arith}
use Rattle.std.specs.Prelude.{if◌then◌else◌}
use Rattle.asm_grammar.specs.Word.{Word, Mark, fit, near}
use Rattle.asm_grammar.specs.Syntax.{SyntaxRule, One, Then, Many, Value}
use Rattle.asm_grammar.specs.Reading.{Outcome, Took, Failed, ◌>>=◌, mapped, parse, leads, miss, decides}
use Rattle.asm_grammar.specs.Reads.{items_from, items_of}
use Rattle.asm_grammar.proofs.Again.{many_is}
use Rattle.asm_grammar.proofs.Consumes.{takes, shrinks}
use Rattle.asm_grammar.proofs.Sound.{sound}
use Rattle.asm_grammar.proofs.Outcomes.{mapped_took}

module _ {A : Type 0} (item : SyntaxRule) (says : Value item → A) (mark : ℕ) (follow : List Word) (d : decides item follow ≡ true) where
  one_more : (rest : List ℕ) (left : ℕ) → parse (Many (Then (One (Mark mark)) item)) rest left
      ≡ (if leads (Then (One (Mark mark)) item) rest then (parse (Then (One (Mark mark)) item) rest left >>= λ v r l. mapped (λ vs. v ∷ vs) (parse (Many (Then (One (Mark mark)) item)) r l))
      else Took [] rest (miss (Mark mark ∷ []) rest left))
  one_more rest left = many_is (Then (One (Mark mark)) item) follow d refl refl rest left

  pub no_more : (front : List A) (rest : List ℕ) (left : ℕ) → fit (Mark mark) rest ≡ None → items_from item says mark front rest left ≡ Took front rest (min left (length rest - near (Mark mark) rest))
  no_more front rest left e = rw (one_more rest left, e) (ap (λ f. Took f rest (min left (length rest - near (Mark mark) rest))) (append-nil front))

  regroup : (front : List A) (v : Value item) (x : A) (o : Outcome (List (Value (Then (One (Mark mark)) item)))) → says v ≡ x
      → mapped (λ vs. front ++ map (λ p. says p.1) vs) (mapped (λ vs. (tt, v) ∷ vs) o) ≡ mapped (λ vs. (front ++ x ∷ []) ++ map (λ p. says p.1) vs) o
  regroup front v x (Took vs rest left) e =
      rw (← e) (ap (λ f. Took f rest left) (sym (append_assoc front (says v ∷ []) (map (λ p. says p.1) vs))))
  regroup front v x (Failed left) e = refl

  pub and_more : (front : List A) (rest behind : List ℕ) (left : ℕ) (x : A) (next : List ℕ) (l : ℕ) → fit (Mark mark) rest ≡ Some (tt, behind)
      → mapped says (parse item behind left) ≡ Took x next l → items_from item says mark front rest left ≡ items_from item says mark (front ++ x ∷ []) next l
  and_more front rest behind left x next l e f =
      let u = mapped_took says (parse item behind left) x next l f in
      rw (one_more rest left, e, u.was) (regroup front u.value x (parse (Many (Then (One (Mark mark)) item)) next l) u.gives)

  failed_under : (o : Outcome (Value item)) (l : ℕ) → mapped says o ≡ Failed l → o ≡ Failed l
  failed_under (Took v rest left) l e = cc
  failed_under (Failed left) l e = let k : left ≡ l = cc in ap (λ x. Failed x) k

  pub bad_more : (front : List A) (rest behind : List ℕ) (left l : ℕ) → fit (Mark mark) rest ≡ Some (tt, behind)
      → mapped says (parse item behind left) ≡ Failed l → items_from item says mark front rest left ≡ Failed l
  bad_more front rest behind left l e f =
      let u = failed_under (parse item behind left) l f in rw (one_more rest left, e, u) refl

  -- A mark and an item take some bytes.
  pub item_falls : (rest behind : List ℕ) (left : ℕ) (x : A) (next : List ℕ) (l : ℕ) → fit (Mark mark) rest ≡ Some (tt, behind)
      → mapped says (parse item behind left) ≡ Took x next l → length next < length rest
  item_falls rest behind left x next l e f =
      let u = mapped_took says (parse item behind left) x next l f in
      omega (arith, takes (Mark mark) rest tt behind refl e, shrinks item follow u.value behind next d (sound item behind left u.value next l u.was))

  headed : (v : Value item) (x : A) (o : Outcome (List (Value (Then (One (Mark mark)) item)))) → says v ≡ x
      → mapped (λ y. items_of says y) (mapped {B = Value item × List (Unit {0} × Value item)} (λ w. (v, w)) o) ≡ mapped (λ vs. (x ∷ []) ++ map (λ p. says p.1) vs) o
  headed v x (Took vs rest left) e = rw (← e) refl
  headed v x (Failed left) e = refl

  -- A list is its first item, and those behind marks.
  pub list_from : (rest : List ℕ) (left : ℕ) (x : A) (next : List ℕ) (l : ℕ) → mapped says (parse item rest left) ≡ Took x next l
      → mapped (λ v. items_of says v) (parse (Then item (Many (Then (One (Mark mark)) item))) rest left) ≡ items_from item says mark (x ∷ []) next l
  list_from rest left x next l e =
      let u = mapped_took says (parse item rest left) x next l e in
      rw u.was (headed u.value x (parse (Many (Then (One (Mark mark)) item)) next l) u.gives)
