-- A name of the grammar is a name of the base.
use Rattle.std.proofs.Common.{◌≡◌, ℕ, suc, ◌≤◌, Bool, eqb, true, false, List, [], ◌∷◌, length, Option, Some, None, refl, ap, subst, inl, inr, arith, sym, ◌∙◌}
use Rattle.std.specs.Prelude.{◌&&◌, ◌||◌, not, if◌then◌else◌, nat_le, nat_lt}
use Rattle.std.specs.List.{list_all}
use Rattle.std.specs.Str.{bytes_eq}
use Rattle.std.proofs.lemmas.Bool.{and_parts, and_from, or_left, true≢false, eqb-true, lt-ltb}
use Rattle.asm_base.specs.Names.{name_of}
use Rattle.asm_group.specs.Names.{is_name_byte, is_part_byte, is_part}
use Rattle.asm_grammar.specs.Bytes.{is_word, is_letter_byte, run_of, after_run, is_blank}
use Rattle.asm_grammar.specs.Word.{Name, fit, is_name_word, starts_with_letter, when}
use Rattle.asm_grammar.specs.Reading.{one, Took, Failed}
use Rattle.asm_grammar.proofs.Tests.{is_true_or_false}
use Rattle.asm_grammar.proofs.Consumes.{taken, when_true, some_pair}

part_byte : (b : ℕ) → is_word b ≡ true → is_part_byte b ≡ true
part_byte b e = or_left _ _ (or_left (is_name_byte b) _ e)

part_bytes : (test : ℕ → Bool) → ((b : ℕ) → test b ≡ true → is_part_byte b ≡ true) → (text : List ℕ) → list_all is_part_byte (run_of test text) ≡ true
part_bytes test h [] = refl
part_bytes test h (b ∷ text) = elim (is_true_or_false (test b)) [
  | inl x ↦ rw x (and_from (is_part_byte b) (list_all is_part_byte (run_of test text)) (h b x) (part_bytes test h text))
  | inr x ↦ rw x refl
]

nothing : is_name_word [] ≡ true → ⊥
nothing e = cc

no_point : (b : ℕ) (u : List ℕ) → is_letter_byte b ≡ true → not (bytes_eq (b ∷ u) (46 ∷ [])) ≡ true
no_point b u e = by_test (eqb b 46) refl where
  by_test : (t : Bool) → eqb b 46 ≡ t → not (t && bytes_eq u []) ≡ true
  by_test false k = refl
  by_test true k = absurd (true≢false (sym e ∙ ap is_letter_byte (eqb-true b 46 k)))

some_length : (n : ℕ) → nat_lt 0 (suc n) ≡ true
some_length n = lt-ltb 0 (suc n) (omega arith)

pub part_of_name : (v : List ℕ) → is_name_word v ≡ true → list_all is_part_byte v ≡ true → is_part 30 v ≡ true
unfolding is_part
part_of_name [] n e = absurd (nothing n)
part_of_name (b ∷ u) n e =
    let p = and_parts (is_letter_byte b) (nat_le (length (b ∷ u)) 30) n in
    and_from _ _ (and_from _ _ (and_from _ _ e (some_length (length u))) p.1) (no_point b u p.0)

fit_name : (text v rest : List ℕ) → fit Name text ≡ Some (v, rest) → name_of 30 v ≡ Some v
fit_name text v rest e =
    let here = after_run is_blank text in
    let t = taken (after_run is_word here) (when (is_name_word (run_of is_word here)) (run_of is_word here)) v rest e in
    let w = when_true (is_name_word (run_of is_word here)) (run_of is_word here) v t.0 in
    let k : is_part 30 v ≡ true = subst (λ z. is_part 30 z ≡ true) w.1 (part_of_name (run_of is_word here) w.0 (part_bytes is_word part_byte here)) in
    rw k refl

pub name_is : (text : List ℕ) (left : ℕ) (v rest : List ℕ) (l : ℕ) → one Name text left (fit Name text) ≡ Took v rest l → name_of 30 v ≡ Some v
name_is text left v rest l e = by_fit (fit Name text) refl e where
  by_fit : (o : Option (List ℕ × List ℕ)) → fit Name text ≡ o → one Name text left o ≡ Took v rest l → name_of 30 v ≡ Some v
  by_fit None k e = cc
  by_fit (Some (u, r)) k e = let q : u ≡ v = cc in subst (λ z. name_of 30 z ≡ Some z) q (fit_name text u r k)
