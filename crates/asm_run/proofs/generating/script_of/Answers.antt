use Rattle.std.proofs.Common.{◌≡◌, ◌∙◌, List, IfOk, subst}
use Rattle.asm_group.specs.Names.{Bytes}
use Rattle.asm_world.specs.Generator.{generated_script}
use Rattle.generated_script.specs.Source.{left_in}
use Rattle.asm_run.proofs.generating.script_of.Goals as goal

pub returns : goal.returns
returns c =
    let P : List Bytes → Type 0 = λ paths. IfOk c.new.result (λ script. left_in script ≡ generated_script c.args.number paths) in
    subst P (c.deref.ensures.value ∙ c.in_ok-paths.ensures) c.new.ensures
