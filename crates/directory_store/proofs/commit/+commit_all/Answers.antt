use Rattle.std.proofs.Common.{rules, ap, ◌∙◌, ◌≡◌, ℕ, [], List, get_or, sym, subst, arith}
use Rattle.std.specs.Bool.{IsTrue}
use Rattle.asm_base.specs.declared.block.Block.{Block}
use Rattle.asm_formats.specs.Sets.{has_bit}
use Rattle.change_directory.specs.declared.copy.DirCopy.{DirCopy}
use Rattle.change_directory.specs.Logs.{are_pages}
use Rattle.directory_store.specs.Commits.{CommitsPages}
use Rattle.directory_store.specs.Copies.{IsKept}
use Rattle.directory_store.proofs.Rows.{all_apart, first_among, kept_still, logs_still, missed_first, named_still, no_bit, no_commits, no_copy, rest_may_put, split_first, took_first}
use Rattle.directory_store.proofs.Steps.{empty_list}
use Rattle.directory_store.proofs.commit.+commit_all.Goals as goal

pub commit_one-taken-requires-clause-copy : goal.commit_one-taken-requires-clause-copy
commit_one-taken-requires-clause-copy g t c =
    (c.requires.named (get_or c.args.copies.now 0 no_copy) (first_among c.args.copies.now no_copy c.in-len1-up.len_at_least)).copy_is

pub commit_one-taken-requires-clause-due : goal.commit_one-taken-requires-clause-due
commit_one-taken-requires-clause-due g t c =
    let first = get_or c.args.copies.now 0 no_copy in
    subst (λ (l : List (ℕ × Block)). IsTrue (are_pages first.dir_blocks l)) (sym c.due_of-due.ensures) (c.requires.named first (first_among c.args.copies.now no_copy c.in-len1-up.len_at_least)).due

pub commit_one-taken-requires-clause-put : goal.commit_one-taken-requires-clause-put
commit_one-taken-requires-clause-put g t c =
    c.requires.put (get_or c.args.copies.now 0 no_copy) (first_among c.args.copies.now no_copy c.in-len1-up.len_at_least)

pub commit_one-taken-requires-clause-kept : goal.commit_one-taken-requires-clause-kept
commit_one-taken-requires-clause-kept g t c =
    let first = get_or c.args.copies.now 0 no_copy in
    let e = c.requires.kept in
    record {
      before = e.before;
      page = e.page;
      smaller = e.smaller;
      holds = record {
        now = λ x left. subst (λ (l : List (ℕ × Block)). IsKept first l e.before e.page x) (sym c.due_of-due.ensures) (e.holds.now x left first (first_among c.args.copies.now no_copy c.in-len1-up.len_at_least));
      };
    }

pub commit_all-failed-requires : goal.commit_all-failed-requires
commit_all-failed-requires g t c =
    let split = split_first c.args.copies.now no_copy c.in-len1-up.len_at_least in
    let due_is = c.due_of-due.ensures in
    let one = c.commit_one-taken.ensures in
    let named = named_still split due_is c.args.number c.args.pages.now c.requires.named c.requires.apart _ one in
    let apart = (all_apart split c.requires.apart).1 in
    let put = rest_may_put split c.requires.put in
    let kept = kept_still split due_is c.args.number c.args.pages.now c.requires.named c.requires.apart _ one c.requires.kept in
    let logs = logs_still split due_is c.args.number c.args.pages.now c.requires.named c.requires.apart _ one c.requires.logs in
    search rules

pub returns-in-Ok : goal.returns-in-Ok
returns-in-Ok g t c = took_first (split_first c.args.copies.now no_copy c.in-len1-up.len_at_least) c.due_of-due.ensures c.args.number c.args.pages.now c.requires.named c.requires.apart
    c.in-Ok.ensures c.commit_all-failed.ensures

pub returns-in-Err : goal.returns-in-Err
returns-in-Err g t c = missed_first (split_first c.args.copies.now no_copy c.in-len1-up.len_at_least) c.due_of-due.ensures c.args.number c.args.pages.now c.requires.named c.requires.apart
    c.in-Err.ensures c.commit_all-failed.ensures c.with.ensures

pub returns-in_default : goal.returns-in_default
returns-in_default g t c =
    let s = g.B.Bay.state c.args.bay.now in
    subst (λ (l : List DirCopy). CommitsPages l c.args.dues.now c.args.number c.args.pages.now c.empty.result s s) (sym (empty_list c.args.copies.now (omega (arith, c.in_default.len_below))))
    (no_commits c.args.dues.now c.args.number c.args.pages.now c.empty.result s (λ k small. ap (λ (n : ℕ). has_bit n k) c.empty.ensures ∙ no_bit k))
