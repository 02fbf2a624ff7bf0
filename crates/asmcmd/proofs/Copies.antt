-- A copy from a group.
use Rattle.std.proofs.Common.{◌≡◌, ℕ, List, Option, Some, None, inl, inr, refl}
use Rattle.std.specs.Option.{option_map}
use Rattle.asm_grammar.specs.Argument.{Kind, Text, GroupPath}
use Rattle.asm_grammar.specs.Word.{Argument, fit}
use Rattle.asm_grammar.specs.Syntax.{Value, Maybe}
use Rattle.asm_grammar.specs.Reading.{Outcome, Took, Failed, mapped, parse}
use Rattle.asm_world.specs.Command.{CopyFile}
use Rattle.asm_world.specs.Verbs.{path}
use Rattle.asmcmd.specs.Rows.{target, target_of, copy_rest, copy_verb_of}

-- a path that was read stands there
pub path_stands : (text next source : List ℕ) (left l : ℕ) → mapped (λ v. option_map (λ t. t) v) (parse (Maybe path) text left) ≡ Took (Some source) next l
    → (fit (Argument (Text GroupPath)) text ≡ Some (source, next)) × (l ≡ left)
path_stands text next source left l e = by_fit (fit (Argument (Text GroupPath)) text) refl where
  by_fit : (o : Option (List ℕ × List ℕ)) → fit (Argument (Text GroupPath)) text ≡ o → (fit (Argument (Text GroupPath)) text ≡ Some (source, next)) × (l ≡ left)
  by_fit None h = absurd (let f = rw h at e in cc)
  by_fit (Some (v, r)) h = let f = rw h at e in let p : v ≡ source = cc in let q : r ≡ next = cc in (rw h (rw (p, q) refl), cc)

pub copied : (text next source : List ℕ) (left l : ℕ) → (fit (Argument (Text GroupPath)) text ≡ Some (source, next)) × (l ≡ left)
    → mapped copy_verb_of (parse copy_rest text left) ≡ mapped (λ v. CopyFile source (target_of v)) (parse target next l)
copied text next source left l (e, q) = rw (q, e) (through (parse target next left)) where
  through : (o : Outcome (Value target)) → mapped copy_verb_of (mapped {A = List ℕ × Value target} {B = Value copy_rest} (λ v. inl v) (mapped (λ v. (source, v)) o)) ≡ mapped (λ v. CopyFile source (target_of v)) o
  through (Took (inl v) r m) = refl
  through (Took (inr v) r m) = refl
  through (Failed m) = refl
