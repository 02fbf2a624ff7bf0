use Rattle.std.proofs.Common.{Option, IfSome, IsNone, map, refl, sym, subst}
use Rattle.std.specs.String.{string_bytes}
use Rattle.clap.specs.Words.{found_of}
use Rattle.command_line.specs.Misuses.{IsMisuse}
use Rattle.command_line.specs.declared.misuse.Misuse.{Misuse}
use Rattle.command_line.proofs.Readings.{number_got, paths_got, misuse_found, read_found}
use Rattle.command_line.proofs.misuse.misuse_of.Goals as goal

pub returns-in-Ok-clause-misuse : goal.returns-in-Ok-clause-misuse
returns-in-Ok-clause-misuse c =
    let words = map string_bytes c.args.words.now in
    let rows = c.in-Ok.ensures.rows in
    subst (λ (found : Option Misuse). IfSome found (λ misuse. IsMisuse words misuse)) (sym c.err.ensures.value) (misuse_found words _ _ c.checked.result c.in-Ok.ensures.form
    (number_got words (found_of c.in-Ok.matches) c.get_str.result c.get_str.ensures rows)
    (paths_got words (found_of c.in-Ok.matches) c.get_strs.result _ c.unwrap_or-paths.result c.get_strs.ensures rows c.unwrap_or-paths.ensures refl) c.checked.ensures.misuse)

pub returns-in-Ok-clause-none : goal.returns-in-Ok-clause-none
returns-in-Ok-clause-none c = λ none.
    let words = map string_bytes c.args.words.now in
    let rows = c.in-Ok.ensures.rows in
    read_found words _ _ c.checked.result c.in-Ok.ensures.form
    (number_got words (found_of c.in-Ok.matches) c.get_str.result c.get_str.ensures rows)
    (paths_got words (found_of c.in-Ok.matches) c.get_strs.result _ c.unwrap_or-paths.result c.get_strs.ensures rows c.unwrap_or-paths.ensures refl)
    c.checked.ensures.taken (subst (λ (found : Option Misuse). IsNone found) c.err.ensures.value none)
