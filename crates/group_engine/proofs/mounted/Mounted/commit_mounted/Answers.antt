use Rattle.std.proofs.Common.{◌∙◌, Ok, Err, refl, sym, subst}
use Rattle.bay.specs.State.{IsSound}
use Rattle.directory_store.specs.declared.error.StoreError.{StoreError}
use Rattle.directory_store.specs.declared.error.StoreError.TheVariants.{Full, NoMemory}
use Rattle.refusal_lines.specs.declared.refusal.Refusal.TheVariants as cause
use Rattle.directory_store.specs.StoreCalls.{CommitsRecords}
use Rattle.group_engine.specs.Commits.{CommitsChange}
use Rattle.group_engine.specs.Mounts.{IsMounted, IsReady, IsWhole, MountedGroup}
use Rattle.group_engine.proofs.Ends.{ends_all, ends_dead, ends_fewer, ends_gone, ends_unchanged}
use Rattle.group_engine.proofs.Mounting.{still_ready}
use Rattle.group_engine.proofs.Seen.{seen}
use Rattle.group_engine.proofs.mounted.Mounted.commit_mounted.Goals as goal

pub drop_copies-requires-clause-ready : goal.drop_copies-requires-clause-ready
drop_copies-requires-clause-ready g c =
    let s = g.B.Bay.state c.args.bay.now in
    let t = g.B.Bay.state c.commit_change.new.bay in
    let was = seen c.self.inside in
    let commits = c.in-Ok.ensures.commits in
    (still_ready was (record was { store = c.commit_change.new.store }) s t refl refl commits.kept commits.attached (subst (λ (v : MountedGroup). IsReady v s) (sym c.self.view_is) c.requires.ready)).register

pub returns-then-bits-eq0 : goal.returns-then-bits-eq0
returns-then-bits-eq0 g c =
    let s = g.B.Bay.state c.args.bay.now in
    let t = g.B.Bay.state c.commit_change.new.bay in
    let was = seen c.self.inside in
    let put = c.args.change.now.put in
    let gone = c.args.change.now.gone in
    let new = c.commit_change.new.store in
    let cat = c.commit_change.new.catalog in
    subst (λ (v : MountedGroup). CommitsChange v put gone (Ok tt) (record was { catalog = cat; store = new }) s t) c.self.view_is
    (ends_all was (subst (λ (v : MountedGroup). IsMounted v) (sym c.self.view_is) c.requires.mounted) (subst (λ (v : MountedGroup). IsWhole v) (sym c.self.view_is) c.requires.whole) put gone s t (subst (λ (v : MountedGroup). IsReady v s) (sym c.self.view_is) c.requires.ready)
    new cat c.in-Ok.failed (sym c.bits.ensures.bits ∙ c.if-bits-eq0.true) c.in-Ok.ensures.commits c.in-Ok.ensures.applies)

pub returns-in-Ok-drop_copies : goal.returns-in-Ok-drop_copies
returns-in-Ok-drop_copies g c =
    let s = g.B.Bay.state c.args.bay.now in
    let t = g.B.Bay.state c.commit_change.new.bay in
    let w = g.B.Bay.state c.drop_copies.new.bay in
    let was = seen c.self.inside in
    let put = c.args.change.now.put in
    let gone = c.args.change.now.gone in
    let new = c.commit_change.new.store in
    let cat = c.commit_change.new.catalog in
    let sound : IsSound t = g.met.B.Bay.sound c.commit_change.new.bay in
    subst (λ (v : MountedGroup). CommitsChange v put gone (Ok tt) (record was { catalog = cat; store = new; register = c.drop_copies.new.register }) s w) c.self.view_is
    (ends_fewer was (subst (λ (v : MountedGroup). IsMounted v) (sym c.self.view_is) c.requires.mounted) (subst (λ (v : MountedGroup). IsWhole v) (sym c.self.view_is) c.requires.whole) put gone s t (subst (λ (v : MountedGroup). IsReady v s) (sym c.self.view_is) c.requires.ready)
    new cat c.in-Ok.failed (λ none. c.if-bits-eq0.false (c.bits.ensures.bits ∙ none)) c.bits.ensures.small c.in-Ok.ensures.commits c.in-Ok.ensures.applies w sound c.drop_copies.result c.drop_copies.new.register c.drop_copies.ensures c.in-Ok-drop_copies.field-0 c.in-Ok-drop_copies.is)

pub returns-in-Err : goal.returns-in-Err
returns-in-Err g c =
    let s = g.B.Bay.state c.args.bay.now in
    let t = g.B.Bay.state c.commit_change.new.bay in
    let w = g.B.Bay.state c.drop_copies.new.bay in
    let was = seen c.self.inside in
    let put = c.args.change.now.put in
    let gone = c.args.change.now.gone in
    let new = c.commit_change.new.store in
    let cat = c.commit_change.new.catalog in
    let sound : IsSound t = g.met.B.Bay.sound c.commit_change.new.bay in
    subst (λ (v : MountedGroup). CommitsChange v put gone (Err c.dismount.result) c.dismount.new.self s w) c.self.view_is
    (ends_dead was (subst (λ (v : MountedGroup). IsMounted v) (sym c.self.view_is) c.requires.mounted) (subst (λ (v : MountedGroup). IsWhole v) (sym c.self.view_is) c.requires.whole) put gone s t (subst (λ (v : MountedGroup). IsReady v s) (sym c.self.view_is) c.requires.ready)
    new cat c.in-Ok.failed (λ none. c.if-bits-eq0.false (c.bits.ensures.bits ∙ none)) c.bits.ensures.small c.in-Ok.ensures.commits c.in-Ok.ensures.applies w sound c.drop_copies.result c.drop_copies.new.register c.drop_copies.ensures c.in-Err.dead c.dismount.result c.dismount.new.self c.in-Err.is c.dismount.ensures)

pub returns-in-Err-Gone : goal.returns-in-Err-Gone
returns-in-Err-Gone g c =
    let s = g.B.Bay.state c.args.bay.now in
    let t = g.B.Bay.state c.commit_change.new.bay in
    let was = seen c.self.inside in
    let put = c.args.change.now.put in
    let gone = c.args.change.now.gone in
    let new = c.commit_change.new.store in
    let commits = subst (λ (e : StoreError). CommitsRecords was.store new put gone (Err e) s t) c.in-Err-Gone.field-0-is c.in-Err-Gone.ensures.commits in
    subst (λ (v : MountedGroup). CommitsChange v put gone (Err c.dismount-in-Err-Gone.result) c.dismount-in-Err-Gone.new.self s t) c.self.view_is
    (ends_gone was (subst (λ (v : MountedGroup). IsMounted v) (sym c.self.view_is) c.requires.mounted) (subst (λ (v : MountedGroup). IsWhole v) (sym c.self.view_is) c.requires.whole) put gone s t (subst (λ (v : MountedGroup). IsReady v s) (sym c.self.view_is) c.requires.ready)
    new c.commit_change.new.catalog c.in-Err-Gone.slot c.dismount-in-Err-Gone.result c.dismount-in-Err-Gone.new.self commits c.in-Err-Gone.ensures.same c.dismount-in-Err-Gone.ensures)

pub returns-in-Err-Full : goal.returns-in-Err-Full
returns-in-Err-Full g c =
    let s = g.B.Bay.state c.args.bay.now in
    let t = g.B.Bay.state c.commit_change.new.bay in
    let was = seen c.self.inside in
    let put = c.args.change.now.put in
    let gone = c.args.change.now.gone in
    let new = c.commit_change.new.store in
    let cat = c.commit_change.new.catalog in
    let error : StoreError = Full c.in-Err-Full.need c.in-Err-Full.free in
    let commits = subst (λ (e : StoreError). CommitsRecords was.store new put gone (Err e) s t) c.in-Err-Full.field-0-is c.in-Err-Full.ensures.commits in
    let why = commits.refused in
    subst (λ (v : MountedGroup). CommitsChange v put gone (Err (cause.DirectoryFull c.in-Err-Full.need c.in-Err-Full.free)) (record was { catalog = cat; store = new }) s t) c.self.view_is
    (ends_unchanged was (subst (λ (v : MountedGroup). IsMounted v) (sym c.self.view_is) c.requires.mounted) (subst (λ (v : MountedGroup). IsWhole v) (sym c.self.view_is) c.requires.whole) put gone s t (subst (λ (v : MountedGroup). IsReady v s) (sym c.self.view_is) c.requires.ready)
    new cat error commits why.3 c.in-Err-Full.ensures.same (cause.DirectoryFull c.in-Err-Full.need c.in-Err-Full.free)
    (record { mounted = subst (λ (v : MountedGroup). IsMounted v) (sym c.self.view_is) c.requires.mounted; copies = commits.full; need_is = why.0; free_is = why.1; few = why.2 }))

pub returns-in-Err-NoMemory : goal.returns-in-Err-NoMemory
returns-in-Err-NoMemory g c =
    let s = g.B.Bay.state c.args.bay.now in
    let t = g.B.Bay.state c.commit_change.new.bay in
    let was = seen c.self.inside in
    let put = c.args.change.now.put in
    let gone = c.args.change.now.gone in
    let new = c.commit_change.new.store in
    let cat = c.commit_change.new.catalog in
    let commits = subst (λ (e : StoreError). CommitsRecords was.store new put gone (Err e) s t) c.in-Err-NoMemory.field-0-is c.in-Err-NoMemory.ensures.commits in
    subst (λ (v : MountedGroup). CommitsChange v put gone (Err cause.NoMemory) (record was { catalog = cat; store = new }) s t) c.self.view_is
    (ends_unchanged was (subst (λ (v : MountedGroup). IsMounted v) (sym c.self.view_is) c.requires.mounted) (subst (λ (v : MountedGroup). IsWhole v) (sym c.self.view_is) c.requires.whole) put gone s t (subst (λ (v : MountedGroup). IsReady v s) (sym c.self.view_is) c.requires.ready)
    new cat NoMemory commits commits.refused c.in-Err-NoMemory.ensures.same cause.NoMemory tt)

pub invariant_of-self : goal.invariant_of-self
invariant_of-self g c = record { places = c.self.invariant.places; search = c.start-self-inside.ensures c.commit_change.new.catalog c.self.inside.register.value }

pub invariant_of-self-in-Ok-drop_copies : goal.invariant_of-self-in-Ok-drop_copies
invariant_of-self-in-Ok-drop_copies g c = record { places = c.self.invariant.places; search = c.start-self-inside.ensures c.commit_change.new.catalog c.drop_copies.new.register.value }

pub invariant_of-self-in-Err : goal.invariant_of-self-in-Err
invariant_of-self-in-Err g c = record { places = c.self.invariant.places; search = c.start-self-inside.ensures c.commit_change.new.catalog c.drop_copies.new.register.value }
