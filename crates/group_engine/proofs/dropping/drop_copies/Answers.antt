use Rattle.std.proofs.Common.{◌≡◌, ◌∙◌, ◌^◌, ℕ, List, Some, None, IsTrue, sym, ap, subst, true}
use Rattle.std.proofs.lemmas.Bool.{ltb-true}
use Rattle.asm_formats.specs.Following.{Follows, sets}
use Rattle.asm_formats.specs.Status.{Status, is_status, have_entries}
use Rattle.asm_images.proofs.Sharing.{follows_itself}
use Rattle.status_register.specs.Holders.{attached_to}
use Rattle.status_register.specs.Surveys.{missing, shortfall}
use Rattle.status_register.specs.declared.member.Member.{Member}
use Rattle.status_register.specs.RegisterCalls.{HasWritten}
use Rattle.group_engine.specs.Dropping.{IsWithout}
use Rattle.group_engine.proofs.Records.{record_parts, same_below}
use Rattle.group_engine.proofs.Sets.{bit_element, is_less, left_have_entries}
use Rattle.group_engine.proofs.dropping.drop_copies.Goals as goal

pub write-requires-clause-status : goal.write-requires-clause-status
write-requires-clause-status g c =
    let v = c.args.register.now.value in
    let left = c.without-left.result in
    let all : c.value.inside.dirs ≡ v.directories = ap (λ (s : Status). s.directories) (c.value.view_is ∙ c.value-value.ensures) in
    let without : IsWithout left v.directories c.args.gone = subst (λ (n : ℕ). IsWithout left n c.args.gone) all c.without-left.ensures in
    let have : have_entries v.entries left ≡ true = left_have_entries v.entries left v.directories (λ d h. bit_element left v.directories d h (is_less left v.directories c.args.gone without d h).0)
    (record_parts v c.requires.status).have_directories in
    c.with_dirs-next.ensures.kept (subst (λ (s : Status). IsTrue (is_status s)) (sym c.value-value.ensures) c.requires.status)
    (subst (λ (s : Status). IsTrue (have_entries s.entries left)) (sym c.value-value.ensures) have)

pub write-requires-clause-follows : goal.write-requires-clause-follows
write-requires-clause-follows g c =
    let v = c.args.register.now.value in
    let is : c.with_dirs-next.result ≡ record v { directories = c.without-left.result } = c.with_dirs-next.ensures.value ∙ ap (λ (s : Status). record s { directories = c.without-left.result }) c.value-value.ensures in
    subst (λ (n : Status). Follows v n) (sym is) (follows_itself v)

pub write-requires-clause-majority : goal.write-requires-clause-majority
write-requires-clause-majority g c =
    let v = c.args.register.now.value in
    let ms = c.args.register.now.members in
    let left = c.without-left.result in
    let is : c.with_dirs-next.result ≡ record v { directories = left } = c.with_dirs-next.ensures.value ∙ ap (λ (s : Status). record s { directories = left }) c.value-value.ensures in
    subst (λ (n : Status). missing (attached_to ms n) (Some n) ≡ None) (sym is) (ap (λ (l : List Member). shortfall l (sets v)) (same_below ms v left 64) ∙ c.requires.majority)

pub returns : goal.returns
returns g c =
    let v = c.args.register.now.value in
    let left = c.without-left.result in
    let s = g.B.Bay.state c.args.bay.now in
    let t = g.B.Bay.state c.write.new.bay in
    let all : c.value.inside.dirs ≡ v.directories = ap (λ (r : Status). r.directories) (c.value.view_is ∙ c.value-value.ensures) in
    let is : c.with_dirs-next.result ≡ record v { directories = left } = c.with_dirs-next.ensures.value ∙ ap (λ (r : Status). record r { directories = left }) c.value-value.ensures in
    let less : IsWithout left v.directories c.args.gone = subst (λ (n : ℕ). IsWithout left n c.args.gone) all c.without-left.ensures in
    let have : have_entries v.entries left ≡ true = left_have_entries v.entries left v.directories (λ d h. bit_element left v.directories d h (is_less left v.directories c.args.gone less d h).0)
    (record_parts v c.requires.status).have_directories in
    record {
      fewer = left;
      small = ltb-true left (2 ^ 64) (record_parts (record v { directories = left }) (subst (λ (r : Status). IsTrue (is_status r)) is (c.with_dirs-next.ensures.kept (subst (λ (q : Status). IsTrue (is_status q)) (sym c.value-value.ensures) c.requires.status) (subst (λ (q : Status). IsTrue (have_entries q.entries left)) (sym c.value-value.ensures) have)))).directories;
      without = subst (λ (n : ℕ). IsWithout left n c.args.gone) all c.without-left.ensures;
      written = subst (λ (n : Status). HasWritten c.args.register.now n c.write.result c.write.new.self s t) is c.write.ensures;
    }
