-- A word of a verb that is a name is a name of the program.
use Rattle.std.proofs.Common.{◌≡◌, ℕ, Bool, true, false, ◌&&◌, not, inl, inr, List, [], ◌∷◌, length, refl, sym, ap, subst, ◌∙◌, Option, Some, None, arith}
use Rattle.std.specs.Prelude.{nat_le, nat_lt}
use Rattle.std.specs.List.{list_all}
use Rattle.std.specs.Str.{bytes_eq}
use Rattle.std.proofs.lemmas.Bool.{leb-true, lt-ltb}
use Rattle.std.proofs.lemmas.Slice.Eq.{bytes_eq-Decides}
use Rattle.asm_group.specs.Names.{is_part, is_part_byte}
use Rattle.asm_base.proofs.NameLaws.{Part, part_is}
use Rattle.asm_grammar.specs.Argument.{TextKind, Text, PlainName, is_of, argument_of}
use Rattle.asm_grammar.specs.Bytes.{is_space, is_filled, is_word, run_of, after_run}
use Rattle.asm_grammar.specs.Kinds.{is_group_name}
use Rattle.asm_grammar.specs.Word.{Argument, fit, is_name_word, starts_with_letter}
use Rattle.asm_grammar.specs.Reading.{Took, one}
use Rattle.asm_grammar.proofs.Consumes.{some_pair}
use Rattle.asm_grammar.proofs.Parts.{text_is}
use Rattle.asm_grammar.proofs.Taken.{text_yes, text_no}
use Rattle.asm_grammar.proofs.Tests.{both, is_true_or_false}

-- a word that stands next is of its kind
fits_kind : (t : TextKind) (text word rest : List ℕ) → fit (Argument (Text t)) text ≡ Some (word, rest) → is_of (Text t) word ≡ true
fits_kind t text word rest e =
    let run = run_of is_filled (after_run is_space text) in
    elim (is_true_or_false (is_of (Text t) run)) [
      | inl h ↦ (let f = rw (text_yes t run h) at e in subst (λ w. is_of (Text t) w ≡ true) (some_pair f).0 h)
      | inr h ↦ absurd (let f = rw (text_no t run h) at e in cc)
    ]

word_part : (b : ℕ) → is_word b ≡ true → is_part_byte b ≡ true
word_part b e = let f : is_word b ≡ true = e in rw f refl

word_parts : (word : List ℕ) → list_all is_word word ≡ true → list_all is_part_byte word ≡ true
word_parts [] e = refl
word_parts (b ∷ word) e = let p = both (is_word b) (list_all is_word word) e in rw (word_part b p.0, word_parts word p.1) refl

no_point : (word : List ℕ) → list_all is_word word ≡ true → not (bytes_eq word (46 ∷ [])) ≡ true
no_point word e = elim (is_true_or_false (bytes_eq word (46 ∷ []))) [
  | inr h ↦ rw h refl
  | inl h ↦ absurd (let q : word ≡ 46 ∷ [] = (bytes_eq-Decides word (46 ∷ [])).0 h in let f : list_all is_word (46 ∷ []) ≡ true = subst (λ w. list_all is_word w ≡ true) q e in cc)
]

some_bytes : (word : List ℕ) → starts_with_letter word ≡ true → nat_lt 0 (length word) ≡ true
some_bytes [] e = cc
some_bytes (b ∷ word) e = lt-ltb 0 (length (b ∷ word)) (omega arith)

name_part : (word : List ℕ) → is_group_name word ≡ true → is_part 30 word ≡ true
name_part word e =
    let p = both (is_name_word word) (list_all is_word word) e in
    let q = both (starts_with_letter word) (nat_le (length word) 30) p.0 in
    part_is 30 word (record { made = word_parts word p.1; some = some_bytes word q.0; few = leb-true (length word) 30 q.1; no_point = no_point word p.1 })

pub named : (text word rest : List ℕ) → fit (Argument (Text PlainName)) text ≡ Some (word, rest) → is_part 30 word ≡ true
named text word rest e = name_part word (sym (text_is PlainName word) ∙ fits_kind PlainName text word rest e)

one_fits : (text word rest : List ℕ) (left l : ℕ) (o : Option (List ℕ × List ℕ)) → one (Argument (Text PlainName)) text left o ≡ Took word rest l → o ≡ Some (word, rest)
one_fits text word rest left l None e = cc
one_fits text word rest left l (Some (w, r)) e = let p : w ≡ word = cc in let q : r ≡ rest = cc in rw (p, q) refl

pub named_next : (text word rest : List ℕ) (left l : ℕ) → one (Argument (Text PlainName)) text left (fit (Argument (Text PlainName)) text) ≡ Took word rest l → is_part 30 word ≡ true
named_next text word rest left l e = named text word rest (one_fits text word rest left l (fit (Argument (Text PlainName)) text) e)
