use Rattle.std.specs.List.{AllByRecursion}
use Rattle.asm_formats.specs.Among.{IsAmong}
use Rattle.file_directory.specs.Files.{NumberedFile}
use Rattle.catalog_tables.specs.Rules.{HasExtents}
use Rattle.catalog_tables.proofs.parts.Parts.short_file.Given as goal

abbrev pub invariant-loop-file : goal.invariant-loop-file
invariant-loop-file l = record {
  among : (x : NumberedFile) → IsAmong l.file-iterator x → IsAmong l.self.files x;
  all : AllByRecursion (HasExtents l.self l.shape) l.file-iterator → AllByRecursion (HasExtents l.self l.shape) l.self.files;
}
