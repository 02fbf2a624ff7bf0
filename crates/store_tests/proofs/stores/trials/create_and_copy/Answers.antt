use Rattle.std.proofs.Common.{List, inl, refl, sym, subst}
use Rattle.asm_formats.specs.Among.{IsAmong}
use Rattle.change_directory.specs.declared.copy.DirCopy.{DirCopy}
use Rattle.store_tests.proofs.stores.trials.create_and_copy.Goals as goal

pub copy_to-requires-clause-size : goal.copy_to-requires-clause-size
copy_to-requires-clause-size g c =
    let first : DirCopy = record { number = 0; slot = 0; dir_blocks = 128; sector = 512 } in
    c.in-Ok-create.ensures.kept.pages first (subst (λ (l : List DirCopy). IsAmong l first) (sym c.in-Ok-create.ensures.copies) (inl refl))
