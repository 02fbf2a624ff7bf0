use Rattle.std.proofs.Common.{◌≡◌, ◌*◌, length, take}
use Rattle.std.specs.List.{flat_map, All}
use Rattle.change_directory.specs.Logs.{bytes_of_page}
use Rattle.change_directory.proofs.pages.gather.Given as goal

abbrev pub invariant-loop-page : goal.invariant-loop-page
invariant-loop-page l = record {
  at : l.at ≡ l.page-index * 4096;
  size : length l.to ≡ length l.initial.to;
  gathered : take (l.page-index * 4096) l.to ≡ flat_map bytes_of_page (take l.page-index l.pages);
  blocks : All (λ p. length (bytes_of_page p) ≡ 4096) (take l.page-index l.pages);
}
