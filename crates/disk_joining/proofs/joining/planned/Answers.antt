use Rattle.std.proofs.Common.{[], inr, map, refl}
use Rattle.std.specs.String.{string_bytes}
use Rattle.std.proofs.lemmas.Result.{IfErr-weaker}
use Rattle.refusal_lines.specs.Refusals.{meaning_of}
use Rattle.disk_joining.proofs.Unfit.{unfit_first}
use Rattle.disk_joining.proofs.joining.planned.Goals as goal

pub returns-in-Err-clause-refused : goal.returns-in-Err-clause-refused
unfolding meaning_of
returns-in-Err-clause-refused c = inr refl

pub returns-in-Ok-fit_disks-clause-refused : goal.returns-in-Ok-fit_disks-clause-refused
returns-in-Ok-fit_disks-clause-refused c = IfErr-weaker c.checked.result _ _ (λ refusal is. inr is) c.checked.ensures.refused

pub returns-clause-refused : goal.returns-clause-refused
returns-clause-refused c =
    unfit_first c.args.known.now c.args.m.now (map string_bytes c.args.paths.now) c.args.looked.now c.args.asked.now c.in-Ok.all (meaning_of (λ any. []) c.in-Err-fit_disks.refusal) c.in-Ok.ensures c.in-Err-fit_disks.ensures.refused
