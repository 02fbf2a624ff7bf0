-- What a step of reading says of the steps around it.
use Rattle.std.proofs.Common.{◌≡◌, ℕ, ap}
use Rattle.asm_grammar.specs.Reading.{Outcome, Took, Failed, mapped}
use Rattle.asm_grammar.specs.Reads.{RefusesReading}
use Rattle.asm_grammar.specs.declared.words.ReadError.{ReadError}
use Rattle.asm_grammar.specs.declared.words.ReadError.TheVariants.{Syntax, NoMemory}

-- A refusal of a part is one of the whole that fails with it.
pub refuses_by : {Y Z : Type 0} (e : ReadError) (part : Outcome Y) (all : Outcome Z) → ((l : ℕ) → part ≡ Failed l → all ≡ Failed l) → RefusesReading e part → RefusesReading e all
refuses_by NoMemory part all h r = tt
refuses_by (Syntax left) part all h r = h left r

pub failed_under : {A B : Type 0} (f : A → B) (o : Outcome A) (l : ℕ) → mapped f o ≡ Failed l → o ≡ Failed l
failed_under f (Took v rest left) l e = cc
failed_under f (Failed left) l e = let k : left ≡ l = cc in ap (λ x. Failed x) k
