use Rattle.std.proofs.Common.{refl}
use Rattle.asm_world.proofs.language.verb_rows.Goals as goal

pub returns : goal.returns
returns c = record { create = refl; create_by = refl; write = refl; fill = refl; read = refl; resize = refl; list = refl; list_long = refl; list_some = refl; go = refl; place = refl; make = refl; remove = refl; copy_out = refl; copy_in = refl; copy_within = refl; usage = refl; search = refl; alias = refl; no_alias = refl; groups = refl; disks = refl; templates = refl; attributes = refl; offline = refl; online = refl; power = refl; carriage_return = refl; unfinished_keyword = refl; wrong_keyword = refl; no_verb = refl; upper_case = refl; two_outside = refl; odd_digits = refl; star_elsewhere = refl; statement = refl; add_alone = refl }
