use Rattle.std.proofs.Common.{map, refl, sym}
use Rattle.std.proofs.lemmas.Result.{IfOk-weaker}
use Rattle.std.specs.String.{string_bytes}
use Rattle.clap.specs.Words.{found_of}
use Rattle.command_line.proofs.Readings.{number_got, paths_got, taken_as}
use Rattle.command_line.proofs.words.read_words.Goals as goal

pub returns-clause-read : goal.returns-clause-read
returns-clause-read c =
    let words = map string_bytes c.args.words.now in
    let found = found_of c.in_ok-matches.matches in
    let number = number_got words found c.get_str.result c.get_str.ensures c.in_ok-matches.ensures.rows in
    let paths = paths_got words found c.get_strs.result _ c.unwrap_or-paths.result c.get_strs.ensures c.in_ok-matches.ensures.rows c.unwrap_or-paths.ensures refl in
    IfOk-weaker c.take.result _ _ (λ read taken. record { form = c.in_ok-matches.ensures.form; taken = taken_as number paths taken }) c.take.ensures.taken

pub returns-clause-usage : goal.returns-clause-usage
returns-clause-usage c is generate images read =
    let words = map string_bytes c.args.words.now in
    let found = found_of c.in_ok-matches.matches in
    let number = number_got words found c.get_str.result c.get_str.ensures c.in_ok-matches.ensures.rows in
    let paths = paths_got words found c.get_strs.result _ c.unwrap_or-paths.result c.get_strs.ensures c.in_ok-matches.ensures.rows c.unwrap_or-paths.ensures refl in
    c.take.ensures.usage is generate images (taken_as (sym number) (sym paths) read.taken)
