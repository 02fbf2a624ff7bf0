-- Whole lines, which end where the text does.
use Rattle.std.proofs.Common.{◌≡◌, ◌↔◌, ℕ, ◌+◌, ◌-◌, ◌≤◌, min, true, false, inl, inr, List, [], ◌∷◌, ◌++◌, length, take, drop, refl, sym, ap, subst, ◌∙◌, Option, Some, None, arith, append-nil}
use Rattle.std.specs.Prelude.{is_some, Ok, Err}
use Rattle.std.proofs.lemmas.List.{length-append}
use Rattle.asm_grammar.specs.Bytes.{common, is_space, run_of, after_run}
use Rattle.asm_grammar.specs.Word.{End, end_of_text, fit, fits, near, begins_argument}
use Rattle.asm_grammar.specs.Syntax.{SyntaxRule, Value, Has}
use Rattle.asm_grammar.specs.Reading.{Outcome, Took, Failed, parse, decides, is_all, ends, finish, whole}
use Rattle.asm_grammar.specs.Writing.{all_can_spell}
use Rattle.asm_grammar.specs.Laws.{IsLine, IsLongestLineFront}
use Rattle.asm_grammar.proofs.Tests.{or_left, is_true_or_false}
use Rattle.asm_grammar.proofs.Outcomes.{chosen}
use Rattle.asm_grammar.proofs.Consumes.{some_pair, run_and_rest}
use Rattle.asm_grammar.proofs.Sound.{sound}
use Rattle.asm_grammar.proofs.Complete.{complete}
use Rattle.asm_grammar.proofs.Near.{near_law, short}
use Rattle.asm_grammar.proofs.Written.{rest_all}
use Rattle.asm_grammar.proofs.Nearest.{run_words, common_same, take_common}
use Rattle.asm_grammar.proofs.Replaced.{run_then_rest, replaced}
use Rattle.asm_grammar.proofs.Farthest.{Bound, bounded, final, fits_of}
use Rattle.asm_grammar.proofs.Reached.{Shortest, shortest, Far, far, min_is}
use Rattle.asm_grammar.proofs.Longest.{all_can, front_of}

all_is : (o : Option (Unit {0} × List ℕ)) → is_all o ≡ true → o ≡ Some (tt, [])
all_is None e = cc
all_is (Some (u, [])) e = refl
all_is (Some (u, b ∷ rest)) e = cc

is_line : (g : SyntaxRule) (text : List ℕ) (v : Value g) (o : Outcome (Value g)) → parse g text (length text) ≡ o → finish End (length text) o ≡ Ok v → IsLine g text v
is_line g text v (Failed left) p e = cc
is_line g text v (Took w rest left) p e =
    elim (chosen (ends End rest) _ _ _ e) [
      | inr q ↦ let f = q.1 in cc
      | inl q ↦ (let s : w ≡ v = (let f = q.1 in cc) in
          record { rest = rest; has = subst (λ x. Has g x text rest) s (sound g text (length text) w rest left p); end = all_is (fit End rest) q.0 })
    ]

reads_line : (g : SyntaxRule) (text : List ℕ) (v : Value g) → decides g (End ∷ []) ≡ true → IsLine g text v → whole g End text ≡ Ok v
reads_line g text v d t =
    let f : fits End t.rest ≡ true = ap (λ o. is_some o) t.end in
    let p = complete g (End ∷ []) v text t.rest (length text) d t.has (or_left (fits End t.rest) false f) in
    let k : ends End t.rest ≡ true = ap (λ o. is_all o) t.end in
    rw (p.1, k) refl

pub whole_lines : (g : SyntaxRule) (text : List ℕ) (v : Value g) → decides g (End ∷ []) ≡ true → (whole g End text ≡ Ok v) ↔ IsLine g text v
whole_lines g text v d = (λ e. is_line g text v (parse g text (length text)) refl e, λ t. reads_line g text v d t)

end_rest : (x : List ℕ) (u : Unit {0}) (b : ℕ) (r : List ℕ) → end_of_text x ≡ Some (u, b ∷ r) → ⊥
end_rest [] u b r e = let q = (some_pair e).1 in cc
end_rest (c ∷ x) u b r e = cc

no_end : (text t : List ℕ) (o : Option (Unit {0} × List ℕ)) → fit End text ≡ o → is_all o ≡ false → fit End t ≡ Some (tt, []) → common text t ≤ near End text
no_end text t None e n f = near_law End text t tt [] e f
no_end text t (Some (u, [])) e n f = cc
no_end text t (Some (u, b ∷ rest)) e n f = absurd (end_rest (after_run is_space text) u b rest e)

line_bound : {A : Type 0} (text t r : List ℕ) (o : Outcome A) (at : ℕ) → Bound text t r o → fit End r ≡ Some (tt, []) → finish End (length text) o ≡ Err at → common text t ≤ at
line_bound text t r (Failed left) at b f e = let k : length text - left ≡ at = cc in omega arith
line_bound text t r (Took v rest left) at b f e =
    elim (chosen (ends End rest) _ _ _ e) [
      | inl p ↦ let q = p.1 in cc
      | inr p ↦
          let k : length text - min left (length rest - near End rest) ≡ at = (let q = p.1 in cc) in
          let n = no_end rest r (fit End rest) refl p.0 f in
          let s = short End rest in
          elim b [ inl c ↦ omega arith | inr c ↦ omega arith ]
    ]

no_further : (g : SyntaxRule) (text : List ℕ) (at : ℕ) (t : List ℕ) (v : Value g) → decides g (End ∷ []) ≡ true → whole g End text ≡ Err at → IsLine g t v → common text t ≤ at
no_further g text at t v d e l =
    line_bound text t l.rest (parse g text (length text)) at
    (bounded g (End ∷ []) v text t l.rest (length text) d l.has (or_left (fits End l.rest) false (fits_of End l.rest tt [] l.end))) l.end e

record Witness (g : SyntaxRule) (text : List ℕ) (at : ℕ) : Type 0 where
  other : List ℕ
  says : Value g
  is : IsLine g other says
  far_as : at ≤ common text other

far_witness : (g : SyntaxRule) (text : List ℕ) (left at : ℕ) → at ≤ length text - left → Shortest g → Far g text (length text) left → Witness g text at
far_witness g text left at l s f =
    elim f [
      | inl k ↦ (let r = s.1 [] refl in
          record { other = s.0 ++ []; says = r.1.0; is = record { rest = []; has = r.1.1; end = refl }; far_as = omega arith })
      | inr k ↦ (let r = k [] refl in
          record { other = r.front ++ []; says = r.says; is = record { rest = []; has = r.has; end = refl }; far_as = (let z = r.far in omega arith) })
    ]

blanks_begin : (rest : List ℕ) → begins_argument (run_of is_space rest) ≡ false
blanks_begin [] = refl
blanks_begin (b ∷ rest) = elim (is_true_or_false (is_space b)) [
  | inr h ↦ rw h refl
  | inl h ↦ rw (h, h) refl
]

blanks_end : (rest : List ℕ) → fit End (run_of is_space rest) ≡ Some (tt, [])
blanks_end rest =
    let e : after_run is_space (run_of is_space rest ++ []) ≡ [] = rest_all is_space (run_of is_space rest) [] (run_words is_space rest) refl in
    let k : after_run is_space (run_of is_space rest) ≡ [] = subst (λ x. after_run is_space x ≡ []) (append-nil (run_of is_space rest)) e in
    rw k refl

blanks_common : (rest : List ℕ) → length (run_of is_space rest) ≤ common rest (run_of is_space rest)
blanks_common rest =
    let c = common_same (run_of is_space rest) (after_run is_space rest) [] in
    let a : common rest (run_of is_space rest ++ []) ≡ length (run_of is_space rest) + common (after_run is_space rest) [] =
    subst (λ x. common x (run_of is_space rest ++ []) ≡ length (run_of is_space rest) + common (after_run is_space rest) []) (sym (run_then_rest is_space rest)) c in
    let b : common rest (run_of is_space rest) ≡ length (run_of is_space rest) + common (after_run is_space rest) [] =
    subst (λ x. common rest x ≡ length (run_of is_space rest) + common (after_run is_space rest) []) (append-nil (run_of is_space rest)) a in omega arith

line_witness : (g : SyntaxRule) (text : List ℕ) (at : ℕ) (o : Outcome (Value g)) → decides g (End ∷ []) ≡ true → Shortest g → parse g text (length text) ≡ o → Far g text (length text) (final o)
    → finish End (length text) o ≡ Err at → Witness g text at
line_witness g text at (Failed left) d s p f e = let k : length text - left ≡ at = cc in far_witness g text left at (omega arith) s f
line_witness g text at (Took v rest left) d s p f e =
    elim (chosen (ends End rest) _ _ _ e) [
      | inl q ↦ absurd (let z = q.1 in cc)
      | inr q ↦
          let k : length text - min left (length rest - near End rest) ≡ at = (let z = q.1 in cc) in
          elim (min_is left (length rest - near End rest)) [
            | inl h ↦ far_witness g text left at (omega arith) s f
            | inr h ↦
                (let other : List ℕ = run_of is_space rest in
                let r = replaced g (End ∷ []) v text rest other d (sound g text (length text) v rest left p) (inl (blanks_begin rest)) in
                let c : common text (r.front ++ other) ≡ length r.front + common rest other =
                subst (λ x. common x (r.front ++ other) ≡ length r.front + common rest other) (sym r.shape) (common_same r.front rest other) in
                let z : length text ≡ length r.front + length rest = ap length r.shape ∙ length-append r.front rest in
                let y = blanks_common rest in
                let n : near End rest ≡ length (run_of is_space rest) = omega arith in
                let u = run_and_rest is_space rest in
                record { other = r.front ++ other; says = v; is = record { rest = other; has = r.has; end = blanks_end rest }; far_as = omega arith })
          ]
    ]

line_within : {A : Type 0} (len at : ℕ) (o : Outcome A) → finish End len o ≡ Err at → at ≤ len
line_within len at (Failed left) e = let k : len - left ≡ at = cc in omega arith
line_within len at (Took v rest left) e = elim (chosen (ends End rest) _ _ _ e) [
  | inl p ↦ absurd (let q = p.1 in cc)
  | inr p ↦ (let k : len - min left (length rest - near End rest) ≡ at = (let q = p.1 in cc) in omega arith)
]

pub longest_line : (g : SyntaxRule) (text : List ℕ) (at : ℕ) → decides g (End ∷ []) ≡ true → all_can_spell g ≡ true → whole g End text ≡ Err at → IsLongestLineFront g text at
longest_line g text at d c e =
    let a = all_can g c in
    let s = line_witness g text at (parse g text (length text)) d (shortest g (End ∷ []) d a) refl (far g (End ∷ []) text (length text) d a) e in
    record {
      within = line_within (length text) at (parse g text (length text)) e;
      begins = (drop at s.other, s.says, subst (λ x. IsLine g x s.says) (front_of at text s.other s.far_as) s.is);
      longest = λ n l k more v t.
          (let f = no_further g text at (take n text ++ more) v d e t in
          let h = take_common n text more k in absurd (omega arith));
    }
