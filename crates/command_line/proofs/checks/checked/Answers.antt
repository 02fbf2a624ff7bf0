use Rattle.std.proofs.Common.{◌≡◌, ◌≤◌, rules, arith, None, find, length}
use Rattle.std.proofs.lemmas.List.{length-map}
use Rattle.command_line.specs.Paths.{first_twice, is_control, texts}
use Rattle.command_line.proofs.Takings.{taken_none, taken_some}
use Rattle.command_line.proofs.checks.checked.Goals as goal

pub returns-in-None-clause-taken : goal.returns-in-None-clause-taken
returns-in-None-clause-taken c =
    let few : length (texts c.args.paths.now) ≤ 512 = omega (arith, c.if-paths-gt-MOST_IMAGES.false, length-map c.args.paths.now (λ s. s.now)) in
    let plain : find is_control (texts c.args.paths.now) ≡ None = search rules in
    let distinct : first_twice (texts c.args.paths.now) ≡ None = search rules in
    rw c.in-None.is (taken_none (texts c.args.paths.now) few plain distinct)

pub returns-in_ok-checked_generator-in-Some-number-clause-taken :
    goal.returns-in_ok-checked_generator-in-Some-number-clause-taken
returns-in_ok-checked_generator-in-Some-number-clause-taken c =
    let few : length (texts c.args.paths.now) ≤ 512 = omega (arith, c.if-paths-gt-MOST_IMAGES.false, length-map c.args.paths.now (λ s. s.now)) in
    let plain : find is_control (texts c.args.paths.now) ≡ None = search rules in
    let distinct : first_twice (texts c.args.paths.now) ≡ None = search rules in
    let read = c.in_ok-checked_generator-in-Some-number.ensures in
    rw c.in-Some-number.is (taken_some c.in-Some-number.text.now (texts c.args.paths.now) c.in_ok-checked_generator-in-Some-number.field-0 few plain distinct read.number read.four read.unquoted)
