use Rattle.std.proofs.Common.{Ok, Err, refl, sym, ap, subst}
use Rattle.refusal_lines.specs.declared.refusal.DiskRef.TheVariants.{Number}
use Rattle.refusal_lines.specs.declared.refusal.Refusal.{Refusal}
use Rattle.refusal_lines.specs.declared.refusal.Refusal.TheVariants as cause
use Rattle.directory_store.specs.Stores.{Stored}
use Rattle.directory_store.specs.declared.copying.CopyError.{CopyError}
use Rattle.group_engine.specs.Mounts.{MountedGroup}
use Rattle.group_engine.specs.Copying.{CopiesTo, MayStoreOn}
use Rattle.group_engine.proofs.Copied.{copy_apart, copy_is, copy_pages, copy_small, ends_copied, ends_uncopied, ends_unnamed, entry_there, why_uncopied}
use Rattle.group_engine.proofs.Mounting.{still_ready}
use Rattle.group_engine.proofs.Seen.{seen}
use Rattle.group_engine.proofs.mounted.Mounted.store_copy.Goals as goal

pub copy_to-requires : goal.copy_to-requires
copy_to-requires g c =
    let s = g.B.Bay.state c.args.bay.now in
    let was = seen c.self.inside in
    let may : MayStoreOn was c.args.to c.args.copy s = subst (λ (v : MountedGroup). MayStoreOn v c.args.to c.args.copy s) (sym c.self.view_is) c.requires in
    record { kept = may.ready.store; copy = copy_is was may.whole s may.ready c.args.to c.args.copy may.copy; number = copy_small was may.whole s may.ready c.args.to c.args.copy may.copy; size = copy_pages was may.whole s may.ready c.args.to c.args.copy may.copy; apart = copy_apart was may.whole s may.ready c.args.to c.args.copy may.copy may.unnamed }

pub name_copy-requires : goal.name_copy-requires
name_copy-requires g c =
    let s = g.B.Bay.state c.args.bay.now in
    let t = g.B.Bay.state c.copy_to.new.bay in
    let was = seen c.self.inside in
    let may : MayStoreOn was c.args.to c.args.copy s = subst (λ (v : MountedGroup). MayStoreOn v c.args.to c.args.copy s) (sym c.self.view_is) c.requires in
    record {
      small = may.copy.small;
      status = may.whole.status;
      entry = entry_there was.register.value.entries may.copy.member c.args.to (may.whole.numbers c.args.to may.copy.member may.copy.attached) may.copy.entry;
      written = may.whole.written;
      ready = (still_ready was (record was { store = c.copy_to.new.self }) s t refl refl c.copy_to.ensures.kept c.copy_to.ensures.calls.attached may.ready).register;
      majority = may.whole.reached;
    }

pub returns-in-Ok-name_copy : goal.returns-in-Ok-name_copy
returns-in-Ok-name_copy g c =
    let s = g.B.Bay.state c.args.bay.now in
    let t = g.B.Bay.state c.copy_to.new.bay in
    let was = seen c.self.inside in
    let may : MayStoreOn was c.args.to c.args.copy s = subst (λ (v : MountedGroup). MayStoreOn v c.args.to c.args.copy s) (sym c.self.view_is) c.requires in
    let w = g.B.Bay.state c.name_copy.new.bay in
    subst (λ (v : MountedGroup). CopiesTo v c.args.to (Ok tt) (record was { store = c.copy_to.new.self; register = c.name_copy.new.register }) s w) c.self.view_is
    (ends_copied was may.whole s may.ready c.args.to c.args.copy may.copy may.unnamed (g.met.B.Bay.sound c.args.bay.now) t c.copy_to.new.self c.copy_to.ensures.calls.runs c.copy_to.ensures.kept c.copy_to.ensures.calls.attached c.copy_to.ensures.table c.copy_to.ensures.commit c.in-Ok.ensures.done (g.met.B.Bay.sound c.copy_to.new.bay) w c.name_copy.result c.name_copy.new.register c.name_copy.ensures
    may.mounted c.in-Ok-name_copy.field-0 c.in-Ok-name_copy.is)

pub returns-in-Err : goal.returns-in-Err
returns-in-Err g c =
    let s = g.B.Bay.state c.args.bay.now in
    let t = g.B.Bay.state c.copy_to.new.bay in
    let was = seen c.self.inside in
    let may : MayStoreOn was c.args.to c.args.copy s = subst (λ (v : MountedGroup). MayStoreOn v c.args.to c.args.copy s) (sym c.self.view_is) c.requires in
    let w = g.B.Bay.state c.name_copy.new.bay in
    subst (λ (v : MountedGroup). CopiesTo v c.args.to (Err c.dismount.result) c.dismount.new.self s w) c.self.view_is
    (ends_unnamed was may.whole s may.ready c.args.to c.args.copy may.copy may.unnamed (g.met.B.Bay.sound c.args.bay.now) t c.copy_to.new.self c.copy_to.ensures.calls.runs c.copy_to.ensures.kept c.copy_to.ensures.calls.attached c.copy_to.ensures.table c.copy_to.ensures.commit c.in-Ok.ensures.done (g.met.B.Bay.sound c.copy_to.new.bay) w c.name_copy.result c.name_copy.new.register c.name_copy.ensures
    c.in-Err.dead c.dismount.result c.dismount.new.self c.in-Err.is c.dismount.ensures)

pub returns-in-Err-Fault : goal.returns-in-Err-Fault
returns-in-Err-Fault g c =
    let s = g.B.Bay.state c.args.bay.now in
    let t = g.B.Bay.state c.copy_to.new.bay in
    let was = seen c.self.inside in
    let may : MayStoreOn was c.args.to c.args.copy s = subst (λ (v : MountedGroup). MayStoreOn v c.args.to c.args.copy s) (sym c.self.view_is) c.requires in
    subst (λ (e : Refusal). CopiesTo c.args.self.now c.args.to (Err e) (record was { store = c.copy_to.new.self }) s t) (sym c.write_fault.ensures)
    (subst (λ (v : MountedGroup). CopiesTo v c.args.to (Err (cause.WriteFault (Number c.args.to))) (record was { store = c.copy_to.new.self }) s t) c.self.view_is
    (ends_uncopied was may.whole s may.ready c.args.to c.args.copy may.copy may.unnamed (g.met.B.Bay.sound c.args.bay.now) t c.copy_to.new.self c.copy_to.ensures.calls.runs c.copy_to.ensures.kept c.copy_to.ensures.calls.attached (cause.WriteFault (Number c.args.to)) c.in-Err-Fault.ensures.same (ap (λ (x : Stored). record was { store = x }) c.in-Err-Fault.ensures.same) (refl, why_uncopied was may.whole s may.ready c.args.to c.args.copy may.copy may.unnamed (g.met.B.Bay.sound c.args.bay.now) t c.copy_to.new.self c.copy_to.ensures.calls.runs c.copy_to.ensures.kept c.copy_to.ensures.calls.attached (c.in-Err-Fault.ensures.fault (ap (λ (e : CopyError). Err e) c.in-Err-Fault.field-0-is)))))

pub returns-in-Err-NoMemory : goal.returns-in-Err-NoMemory
returns-in-Err-NoMemory g c =
    let s = g.B.Bay.state c.args.bay.now in
    let t = g.B.Bay.state c.copy_to.new.bay in
    let was = seen c.self.inside in
    let may : MayStoreOn was c.args.to c.args.copy s = subst (λ (v : MountedGroup). MayStoreOn v c.args.to c.args.copy s) (sym c.self.view_is) c.requires in
    subst (λ (v : MountedGroup). CopiesTo v c.args.to (Err cause.NoMemory) (record was { store = c.copy_to.new.self }) s t) c.self.view_is
    (ends_uncopied was may.whole s may.ready c.args.to c.args.copy may.copy may.unnamed (g.met.B.Bay.sound c.args.bay.now) t c.copy_to.new.self c.copy_to.ensures.calls.runs c.copy_to.ensures.kept c.copy_to.ensures.calls.attached cause.NoMemory c.in-Err-NoMemory.ensures.same (ap (λ (x : Stored). record was { store = x }) c.in-Err-NoMemory.ensures.same) tt)
