-- What was read, by the words.
use Rattle.std.proofs.Common.{◌≡◌, ◌∙◌, ℕ, List, [], Option, Some, None, Result, Ok, Err, IfOk, IfErr, IfSome, IsNone, unwrap_or, option_map, Bor, codes, ap, refl, subst}
use Rattle.std.specs.Result.{result_err}
use Rattle.clap.specs.Words.{all_of, fault_of, first_of, first_value, matched_of, matches_of, raw_values, rows_of}
use Rattle.clap.specs.declared.parser.matches.Found.{Found}
use Rattle.clap.proofs.WalkLemmas.{first_value-rows, raw_values-rows}
use Rattle.command_line.specs.Command.{IsRead, asm_command, number_in, images_in}
use Rattle.command_line.specs.Misuses.{IsMisuse, IsMisuseOf}
use Rattle.command_line.specs.Paths.{WordBytes, texts, IsTaken}
use Rattle.command_line.specs.declared.misuse.Misuse.{Misuse}
use Rattle.command_line.specs.declared.misuse.Misuse.TheVariants.{Form, TooMany, Control, Twice, NotNumber, NotFour, Quoted}

unwrapped : (lent : Option (Bor (List (Bor WordBytes)))) (other : Bor (List (Bor WordBytes))) → texts other.now ≡ []
    → texts (unwrap_or lent other).now ≡ unwrap_or (option_map (λ s. texts s.now) lent) []
unwrapped None other empty = empty
unwrapped (Some s) other empty = refl

-- what is got of the matches is what stands in the words
pub number_got : (words : List WordBytes) (found : Found) (got : Option (Bor WordBytes)) → option_map (λ s. s.now) got ≡ first_value found (codes "generate") → rows_of found ≡ matches_of asm_command words
    → option_map (λ s. s.now) got ≡ number_in words
number_got words found got is rows = is ∙ first_value-rows found (codes "generate") ∙ ap (first_of (codes "generate")) rows

pub paths_got : (words : List WordBytes) (found : Found) (got : Option (Bor (List (Bor WordBytes)))) (other paths : Bor (List (Bor WordBytes))) → option_map (λ s. texts s.now) got ≡ option_map raw_values (matched_of found (codes "IMAGE"))
    → rows_of found ≡ matches_of asm_command words → paths ≡ unwrap_or got other → texts other.now ≡ [] → texts paths.now ≡ images_in words
paths_got words found got other paths is rows unwraps empty = ap (λ (s : Bor (List (Bor WordBytes))). texts s.now) unwraps ∙ unwrapped got other empty
    ∙ ap (λ (o : Option (List WordBytes)). unwrap_or o []) (is ∙ raw_values-rows found (codes "IMAGE") ∙ ap (all_of (codes "IMAGE")) rows)

-- a number and paths that are equal are taken alike
pub taken_as : {a b : Option WordBytes} {xs ys : List WordBytes} {generate : Option ℕ} {images : List WordBytes}
    → a ≡ b → xs ≡ ys → IsTaken a xs generate images → IsTaken b ys generate images
taken_as {a} {b} {xs} {ys} {generate} {images} number paths taken =
    subst (λ (zs : List WordBytes). IsTaken b zs generate images) paths (subst (λ (c : Option WordBytes). IsTaken c xs generate images) number taken)

-- ---- what is wrong

of_form : (words : List WordBytes) (misuse : Misuse) → fault_of asm_command words ≡ [] → IsMisuseOf (number_in words) (images_in words) misuse → IsMisuse words misuse
of_form words (Form kind reason) form is = absurd is
of_form words (TooMany count) form is = (form, is)
of_form words (Control path) form is = (form, is)
of_form words (Twice path) form is = (form, is)
of_form words (NotNumber text) form is = (form, is)
of_form words (NotFour count) form is = (form, is)
of_form words (Quoted path) form is = (form, is)

-- what is wrong with the number and the paths is wrong with words of the form that have these
pub misuse_found : (words : List WordBytes) (number : Option WordBytes) (paths : List WordBytes) (r : Result (Option ℕ) Misuse) → fault_of asm_command words ≡ []
    → number ≡ number_in words → paths ≡ images_in words → IfErr r (λ misuse. IsMisuseOf number paths misuse) → IfSome (result_err r) (λ misuse. IsMisuse words misuse)
misuse_found words number paths (Ok generate) form same_number same_paths is = tt
misuse_found words number paths (Err misuse) form same_number same_paths is = of_form words misuse form
    (subst (λ (zs : List WordBytes). IsMisuseOf (number_in words) zs misuse) same_paths (subst (λ (c : Option WordBytes). IsMisuseOf c paths misuse) same_number is))

-- and where nothing is, they are read
pub read_found : (words : List WordBytes) (number : Option WordBytes) (paths : List WordBytes) (r : Result (Option ℕ) Misuse) → fault_of asm_command words ≡ []
    → number ≡ number_in words → paths ≡ images_in words → IfOk r (λ generate. IsTaken number paths generate paths) → IsNone (result_err r)
    → (generate : Option ℕ) × IsRead words generate (images_in words)
read_found words number paths (Ok generate) form same_number same_paths is none = (
  generate,
  record {
    form = form;
    taken = subst (λ (zs : List WordBytes). IsTaken (number_in words) zs generate zs) same_paths (subst (λ (c : Option WordBytes). IsTaken c paths generate paths) same_number is);
  },
)
read_found words number paths (Err misuse) form same_number same_paths is none = absurd (cc (none))
