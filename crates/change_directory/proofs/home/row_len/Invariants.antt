use Rattle.std.proofs.Common.{◌≡◌, ◌≤◌, ◌+◌, take, true}
use Rattle.change_directory.specs.Homes.{is_row}
use Rattle.change_directory.proofs.home.row_len.Given as goal

abbrev pub invariant-loop-page : goal.invariant-loop-page
invariant-loop-page l = record {
  counted : l.count ≡ l.page-index;
  few : l.count ≤ 63;
  row : is_row (l.before + 1) (take l.count l.pages) ≡ true;
}
