use Rattle.std.proofs.Common.{[], List, sym, subst, ◌∙◌}
use Rattle.directory_store.specs.change_directory.declared.copy.DirCopy.{DirCopy}
use Rattle.directory_store.specs.Copies as copies
use Rattle.directory_store.specs.Stores.{HaveOneSize}
use Rattle.new_groups.proofs.DiskLists.{copies_are_apart, copies_named, one_size}
use Rattle.new_groups.proofs.Works.{copy_cause, directories_work, gone_slot, works_none}
use Rattle.new_groups.proofs.forming.give_directories.Goals as goal

pub returns-then-is_empty-clause-works : goal.returns-then-is_empty-clause-works
returns-then-is_empty-clause-works g c = works_none c.args.draft.now.disks.items (g.B.Bay.state c.args.bay.now)

pub create-requires-clause-named : goal.create-requires-clause-named
create-requires-clause-named g c =
    subst (λ (l : List DirCopy). copies.AreNamedCopies l [] (g.B.Bay.state c.args.bay.now)) (sym (c.deref.ensures.value ∙ c.requires.lists.copies)) (copies_named c.args.draft.now c.requires.agrees (g.B.Bay.state c.args.bay.now) c.requires.disks)

pub create-requires-clause-apart : goal.create-requires-clause-apart
create-requires-clause-apart g c = subst copies.AreCopiesApart (sym (c.deref.ensures.value ∙ c.requires.lists.copies)) (copies_are_apart c.args.draft.now c.requires.agrees)

pub create-requires-clause-size : goal.create-requires-clause-size
create-requires-clause-size g c = subst HaveOneSize (sym (c.deref.ensures.value ∙ c.requires.lists.copies)) (one_size c.args.draft.now c.requires.agrees)

pub create-requires-clause-items : goal.create-requires-clause-items
create-requires-clause-items g c = c.requires.agrees.items

pub returns-in-Ok-clause-works : goal.returns-in-Ok-clause-works
returns-in-Ok-clause-works g c = directories_work c.args.draft.now.status.directories c.args.draft.now.disks.items _ (c.deref.ensures.value ∙ c.requires.lists.copies) c.create.ensures.attached c.create.ensures.runs

pub returns-in-Ok-clause-copies : goal.returns-in-Ok-clause-copies
returns-in-Ok-clause-copies g c = c.in-Ok.ensures.copies ∙ (c.deref.ensures.value ∙ c.requires.lists.copies)

pub returns-in-Err-Gone-clause-works : goal.returns-in-Err-Gone-clause-works
returns-in-Err-Gone-clause-works g c = directories_work c.args.draft.now.status.directories c.args.draft.now.disks.items _ (c.deref.ensures.value ∙ c.requires.lists.copies) c.create.ensures.attached c.create.ensures.runs

pub returns-in-Err-Full-clause-works : goal.returns-in-Err-Full-clause-works
returns-in-Err-Full-clause-works g c = directories_work c.args.draft.now.status.directories c.args.draft.now.disks.items _ (c.deref.ensures.value ∙ c.requires.lists.copies) c.create.ensures.attached c.create.ensures.runs

pub returns-in-Err-NoMemory-clause-works : goal.returns-in-Err-NoMemory-clause-works
returns-in-Err-NoMemory-clause-works g c = directories_work c.args.draft.now.status.directories c.args.draft.now.disks.items _ (c.deref.ensures.value ∙ c.requires.lists.copies) c.create.ensures.attached c.create.ensures.runs

pub returns-in-Err-Gone-clause-cause : goal.returns-in-Err-Gone-clause-cause
returns-in-Err-Gone-clause-cause g c =
    copy_cause c.args.draft.now.status.directories c.args.draft.now.disks.items _ (g.B.Bay.state c.args.bay.now) (g.B.Bay.state c.create.new.bay) (c.deref.ensures.value ∙ c.requires.lists.copies) c.in-Err-Gone.slot
    (gone_slot _ _ _ (g.B.Bay.state c.args.bay.now) (g.B.Bay.state c.create.new.bay) c.in-Err-Gone.field-0 c.in-Err-Gone.slot c.in-Err-Gone.field-0-is c.in-Err-Gone.ensures.refused)
