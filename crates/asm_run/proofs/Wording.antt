-- What the words give, and what statuses say.
use Rattle.std.proofs.Common.{◌≡◌, ◌≢◌, ℕ, Bool, true, false, Option, Some, None, option_map, Result, Ok, Err, List, IfErr, refl, sym, ◌∙◌, ap, arith}
use Rattle.std.specs.Str.Parse.{digits_value}
use Rattle.command_line.specs.Command.{IsRead, number_in}
use Rattle.command_line.specs.Paths.{WordBytes, IsNumberOf}
use Rattle.serving.specs.declared.stop.Stop.{Stop}
use Rattle.serving.specs.declared.stop.Stop.TheVariants.{ReadFault, WriteFault, NoMemory, TooLong}
use Rattle.serving.specs.Serves.{IsInputStop}
use Rattle.asm_run.specs.Headline.{number_given, status_number}

-- ---- words

number_is : (text : Option WordBytes) (generate : Option ℕ) → IsNumberOf text generate → option_map (digits_value 10) text ≡ generate
number_is None None is = refl
number_is (Some text) (Some n) is = ap (λ k. Some k) (sym is.1)
number_is None (Some n) is = absurd is
number_is (Some text) None is = absurd is

-- the number that was read is the one given
pub given_is : (words : List WordBytes) (generate : Option ℕ) (images : List WordBytes) → IsRead words generate images → number_given words ≡ generate
given_is words generate images read = number_is (number_in words) generate read.taken.number

pub same_number : (o : Option ℕ) (m n : ℕ) → o ≡ Some m → o ≡ Some n → m ≡ n
same_number o m n first second = let f : Some m ≡ Some n = sym first ∙ second in cc

-- ---- statuses

-- a script that was begun doesn't end with status 2
pub not_usage : (served : Result (Unit {0}) Stop) (refused : Bool) → status_number served refused ≢ 2
not_usage (Ok done) false is = absurd (omega (arith, is))
not_usage (Ok done) true is = absurd (omega (arith, is))
not_usage (Err ReadFault) refused is = absurd (omega (arith, is))
not_usage (Err WriteFault) refused is = absurd (omega (arith, is))
not_usage (Err NoMemory) refused is = absurd (omega (arith, is))
not_usage (Err TooLong) refused is = absurd (omega (arith, is))

-- where the source never fails, the status isn't 3
pub not_read_fault : (served : Result (Unit {0}) Stop) (refused : Bool) → IfErr served (λ stop. IsInputStop stop 0 0) → status_number served refused ≢ 3
not_read_fault (Ok done) false input is = absurd (omega (arith, is))
not_read_fault (Ok done) true input is = absurd (omega (arith, is))
not_read_fault (Err ReadFault) refused input is = absurd (omega (arith, input))
not_read_fault (Err WriteFault) refused input is = absurd (omega (arith, is))
not_read_fault (Err NoMemory) refused input is = absurd (omega (arith, is))
not_read_fault (Err TooLong) refused input is = absurd (omega (arith, is))
