use Rattle.std.proofs.Common.{◌≡◌, ◌∙◌, ◌^◌, ℕ, List, Some, None, IsTrue, sym, ap, subst, true}
use Rattle.std.proofs.lemmas.Bool.{ltb-true}
use Rattle.asm_formats.specs.Following.{Follows, sets}
use Rattle.asm_formats.specs.Status.{Status, is_status, have_entries}
use Rattle.asm_images.proofs.Sharing.{follows_itself}
use Rattle.status_register.specs.Holders.{attached_to}
use Rattle.status_register.specs.Surveys.{missing, shortfall}
use Rattle.status_register.specs.declared.member.Member.{Member}
use Rattle.group_engine.specs.Copying.{IsWith}
use Rattle.status_register.specs.RegisterCalls.{HasWritten}
use Rattle.group_engine.proofs.Including.{with_have}
use Rattle.group_engine.proofs.Records.{record_parts, same_below}
use Rattle.group_engine.proofs.copying.name_copy.Goals as goal

pub write-requires-clause-status : goal.write-requires-clause-status
write-requires-clause-status g c =
    let v = c.args.register.now.value in
    let more = c.with-more.result in
    let all : c.value.inside.dirs ≡ v.directories = ap (λ (s : Status). s.directories) (c.value.view_is ∙ c.value-value.ensures) in
    let with : IsWith more v.directories c.args.disk = subst (λ (n : ℕ). IsWith more n c.args.disk) all c.with-more.ensures in
    let have : have_entries v.entries more ≡ true = with_have more v.directories c.args.disk with v.entries c.requires.entry (record_parts v c.requires.status).have_directories in
    c.with_dirs-next.ensures.kept (subst (λ (s : Status). IsTrue (is_status s)) (sym c.value-value.ensures) c.requires.status)
    (subst (λ (s : Status). IsTrue (have_entries s.entries more)) (sym c.value-value.ensures) have)

pub write-requires-clause-follows : goal.write-requires-clause-follows
write-requires-clause-follows g c =
    let v = c.args.register.now.value in
    let is : c.with_dirs-next.result ≡ record v { directories = c.with-more.result } = c.with_dirs-next.ensures.value ∙ ap (λ (s : Status). record s { directories = c.with-more.result }) c.value-value.ensures in
    subst (λ (n : Status). Follows v n) (sym is) (follows_itself v)

pub write-requires-clause-majority : goal.write-requires-clause-majority
write-requires-clause-majority g c =
    let v = c.args.register.now.value in
    let ms = c.args.register.now.members in
    let more = c.with-more.result in
    let is : c.with_dirs-next.result ≡ record v { directories = more } = c.with_dirs-next.ensures.value ∙ ap (λ (s : Status). record s { directories = more }) c.value-value.ensures in
    subst (λ (n : Status). missing (attached_to ms n) (Some n) ≡ None) (sym is) (ap (λ (l : List Member). shortfall l (sets v)) (same_below ms v more 64) ∙ c.requires.majority)

pub returns : goal.returns
returns g c =
    let v = c.args.register.now.value in
    let more = c.with-more.result in
    let s = g.B.Bay.state c.args.bay.now in
    let t = g.B.Bay.state c.write.new.bay in
    let all : c.value.inside.dirs ≡ v.directories = ap (λ (r : Status). r.directories) (c.value.view_is ∙ c.value-value.ensures) in
    let is : c.with_dirs-next.result ≡ record v { directories = more } = c.with_dirs-next.ensures.value ∙ ap (λ (r : Status). record r { directories = more }) c.value-value.ensures in
    let with : IsWith more v.directories c.args.disk = subst (λ (n : ℕ). IsWith more n c.args.disk) all c.with-more.ensures in
    let have : have_entries v.entries more ≡ true = with_have more v.directories c.args.disk with v.entries c.requires.entry (record_parts v c.requires.status).have_directories in
    record {
      more = more;
      small = ltb-true more (2 ^ 64) (record_parts (record v { directories = more }) (subst (λ (r : Status). IsTrue (is_status r)) is (c.with_dirs-next.ensures.kept (subst (λ (q : Status). IsTrue (is_status q)) (sym c.value-value.ensures) c.requires.status) (subst (λ (q : Status). IsTrue (have_entries q.entries more)) (sym c.value-value.ensures) have)))).directories;
      with = with;
      written = subst (λ (n : Status). HasWritten c.args.register.now n c.write.result c.write.new.self s t) is c.write.ensures;
    }
