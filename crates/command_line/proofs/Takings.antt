-- What is taken, and that nothing is where something is wrong.
use Rattle.std.proofs.Common.{◌≡◌, ◌∙◌, ℕ, ◌≤◌, List, Option, Some, None, IsSome, length, find, refl, sym, subst, arith}
use Rattle.command_line.specs.Misuses.{IsMisuseOf}
use Rattle.command_line.specs.Paths.{WordBytes, IsNumber, IsNumberOf, IsTaken, first_twice, is_control, is_quoted}
use Rattle.command_line.specs.declared.misuse.Misuse.{Misuse}
use Rattle.command_line.specs.declared.misuse.Misuse.TheVariants.{Form, TooMany, Control, Twice, NotNumber, NotFour, Quoted}
use Rattle.command_line.proofs.Finds.{none_any, none_twice, some_any, some_twice}

-- ---- taken

pub taken_none : (paths : List WordBytes) → length paths ≤ 512 → find is_control paths ≡ None → first_twice paths ≡ None → IsTaken None paths None paths
taken_none paths few plain distinct = record {
  same = refl;
  number = tt;
  few = few;
  plain = none_any is_control paths plain;
  distinct = none_twice paths distinct;
  four = λ some. absurd (cc (some));
  unquoted = λ some. absurd (cc (some));
}

pub taken_some : (text : WordBytes) (paths : List WordBytes) (n : ℕ) → length paths ≤ 512 → find is_control paths ≡ None → first_twice paths ≡ None
    → IsNumber text n → length paths ≡ 4 → find is_quoted paths ≡ None → IsTaken (Some text) paths (Some n) paths
taken_some text paths n few plain distinct number four unquoted = record {
  same = refl;
  number = number;
  few = few;
  plain = none_any is_control paths plain;
  distinct = none_twice paths distinct;
  four = λ some. four;
  unquoted = λ some. none_any is_quoted paths unquoted;
}

-- ---- not taken

no_number : (text : WordBytes) (generate : Option ℕ) → ((n : ℕ) → IsNumber text n → ⊥) → IsNumberOf (Some text) generate → ⊥
no_number text None none is = is
no_number text (Some n) none is = none n is

some_number : (number : Option WordBytes) (generate : Option ℕ) → IsSome number → IsNumberOf number generate → IsSome generate
some_number None generate some is = absurd (cc (some))
some_number (Some text) None some is = absurd is
some_number (Some text) (Some n) some is = refl

-- nothing is taken where this is wrong
pub not_taken : (number : Option WordBytes) (paths : List WordBytes) (misuse : Misuse) → IsMisuseOf number paths misuse
    → (generate : Option ℕ) (images : List WordBytes) → IsTaken number paths generate images → ⊥
not_taken number paths (Form kind reason) is generate images taken = is
not_taken number paths (TooMany count) is generate images taken = omega (arith, is.0, is.1, taken.few)
not_taken number paths (Control path) is generate images taken = cc (some_any is_control paths path.now is, taken.plain)
not_taken number paths (Twice path) is generate images taken = cc (some_twice paths path.now is, taken.distinct)
not_taken number paths (NotNumber text) is generate images taken =
    no_number text.now generate is.1 (subst (λ (o : Option WordBytes). IsNumberOf o generate) is.0 taken.number)
not_taken number paths (NotFour count) is generate images taken =
    is.2 (sym is.1 ∙ taken.four (some_number number generate is.0 taken.number))
not_taken number paths (Quoted path) is generate images taken =
    cc (some_any is_quoted paths path.now is.1, taken.unquoted (some_number number generate is.0 taken.number))
