use Rattle.std.proofs.Common.{◌≡◌, ◌≤◌, ℕ, refl, sym, ap, subst, arith, [], ◌<◌, None, is_ok, length, map}
use Rattle.std.specs.String.{string_bytes}
use Rattle.std.proofs.lemmas.List.{length-map}
use Rattle.std.specs.Prelude.{IfSome, IsSome}
use Rattle.std.proofs.lemmas.Option.{IfSome_then}
use Rattle.asm_group.specs.Refusal as r
use Rattle.refusal_lines.specs.Refusals.{meaning_of}
use Rattle.asm_world.specs.Reply.{Done, Refused}
use Rattle.session.specs.mounted_groups.Found.{IsEarly, RefusalCause, counts_of}
use Rattle.session.specs.Sessions.{SessionView}
use Rattle.session.specs.mounted_groups.Creating.{made_group}
use Rattle.session.specs.mounted_groups.FirstParts.{IsNewlyMounted, MountsNew}
use Rattle.group_commands.proofs.Formed.{answered-found, formed_ready, short_told, still_ready}
use Rattle.group_commands.proofs.Named.{of_ok, of_err, of_value, as_many, was_created, was_refused}
use Rattle.group_commands.proofs.groups.form.Goals as goal

pub enter-requires-clause-mounted : goal.enter-requires-clause-mounted
enter-requires-clause-mounted g c =
    (of_value (λ m. IsNewlyMounted c.args.held.now c.args.name c.create_group-made.result.0 m _) c.create_group-made.result.1 c.in-Ok.group c.in-Ok.is c.create_group-made.ensures.mounted).mounted

pub returns-in-Ok-enter : goal.returns-in-Ok-enter
returns-in-Ok-enter g c =
    let old = c.args.desk.now.session in
    let s = g.B.Bay.state c.args.desk.now.bay in
    let t = g.B.Bay.state c.create_group-made.new.bay in
    let made = c.create_group-made.result.0 in
    let n = length c.deref.result.now in
    let seen = map string_bytes c.deref.result.now in
    let fresh : IfSome made (λ id. old.given ≤ id) = IfSome_then made c.create_group-made.ensures.floor (λ id above. omega (arith, above, c.next_id-floor.ensures.floor)) in
    let new : IsNewlyMounted c.args.held.now c.args.name made c.in-Ok.group t = of_value (λ m. IsNewlyMounted c.args.held.now c.args.name made m t) c.create_group-made.result.1 c.in-Ok.group c.in-Ok.is c.create_group-made.ensures.mounted in
    let stands : MountsNew n (made_group c.args.name) c.in-Ok.group s t = of_value (λ m. MountsNew n (made_group c.args.name) m s t) c.create_group-made.result.1 c.in-Ok.group c.in-Ok.is c.create_group-made.ensures.stands in
    let some : IsSome made = of_ok c.create_group-made.result.1 c.in-Ok.group c.in-Ok.is c.create_group-made.ensures.given in
    record {
      answers = answered-found c.args.text.now _ c.args.desk.now _ c.create_group-made.new.ids.items made seen (Done []) refl refl
          (formed_ready old.groups c.args.held.now n s t c.requires.held c.requires.ready c.create_group-made.ensures.attached c.create_group-made.ensures.spares c.enter.new.self.groups c.args.name made c.in-Ok.group new c.in-Ok-enter.ensures.groups)
          (ap (map string_bytes) c.deref.ensures.value) refl (ap Done c.new.ensures)
          (λ w below knows. was_created seen c.args.text.now c.args.name c.args.path.now c.requires.says c.create_group-made.new.ids.items (λ slot. slot < n) old below w knows (c.requires.room w knows.entries_are) c.requires.absent
          c.next_id-floor.ensures.given s t c.create_group-made.ensures.ids (is_ok c.create_group-made.result.1) (g.met.B.Bay.sound c.args.desk.now.bay) c.create_group-made.ensures.attached made c.enter.new.self c.in-Ok.group some fresh c.create_group-made.ensures.above_read
          (as_many (λ slot. slot < n) n (length seen) c.args.name (is_ok c.create_group-made.result.1) s t made (sym (length-map c.deref.result.now string_bytes)) c.create_group-made.ensures.moments)
          (record { id = new.id_is; whole = new.whole; mounts = subst (λ (k : ℕ). MountsNew k (made_group c.args.name) c.in-Ok.group s t) (sym (length-map c.deref.result.now string_bytes)) stands })
          c.enter.ensures.given c.in-Ok-enter.ensures.entered c.in-Ok-enter.ensures.groups c.enter.ensures.place);
    }

pub returns-in-Err-enter : goal.returns-in-Err-enter
returns-in-Err-enter g c =
    let old = c.args.desk.now.session in
    let s = g.B.Bay.state c.args.desk.now.bay in
    let t = g.B.Bay.state c.create_group-made.new.bay in
    let made = c.create_group-made.result.0 in
    let n = length c.deref.result.now in
    let seen = map string_bytes c.deref.result.now in
    let fresh : IfSome made (λ id. old.given ≤ id) = IfSome_then made c.create_group-made.ensures.floor (λ id above. omega (arith, above, c.next_id-floor.ensures.floor)) in
    record {
      answers = answered-found c.args.text.now _ c.args.desk.now _ c.create_group-made.new.ids.items made seen (Refused [] r.NoMemory) refl refl
          (still_ready old.groups c.args.held.now n s t c.requires.held c.requires.ready c.create_group-made.ensures.attached c.create_group-made.ensures.spares c.enter.new.self.groups c.in-Err-enter.ensures.refused.1)
          (ap (map string_bytes) c.deref.ensures.value) refl short_told
          (λ w below knows. was_refused seen c.args.text.now c.args.name c.args.path.now c.requires.says c.create_group-made.new.ids.items (λ slot. slot < n) old below w knows (c.requires.room w knows.entries_are) c.requires.absent
          c.next_id-floor.ensures.given s t c.create_group-made.ensures.ids (is_ok c.create_group-made.result.1) (g.met.B.Bay.sound c.args.desk.now.bay) c.create_group-made.ensures.attached made c.enter.new.self r.NoMemory (λ is. absurd is) tt fresh c.create_group-made.ensures.above_read
          (as_many (λ slot. slot < n) n (length seen) c.args.name (is_ok c.create_group-made.result.1) s t made (sym (length-map c.deref.result.now string_bytes)) c.create_group-made.ensures.moments)
          c.enter.ensures.given c.in-Err-enter.ensures.refused.0 c.in-Err-enter.ensures.refused.1 c.enter.ensures.place);
    }

pub returns-in-Err : goal.returns-in-Err
returns-in-Err g c =
    let old = c.args.desk.now.session in
    let s = g.B.Bay.state c.args.desk.now.bay in
    let t = g.B.Bay.state c.create_group-made.new.bay in
    let made = c.create_group-made.result.0 in
    let n = length c.deref.result.now in
    let seen = map string_bytes c.deref.result.now in
    let why = meaning_of (λ _. []) c.in-Err.refusal in
    let fresh : IfSome made (λ id. old.given ≤ id) = IfSome_then made c.create_group-made.ensures.floor (λ id above. omega (arith, above, c.next_id-floor.ensures.floor)) in
    record {
      answers = answered-found c.args.text.now _ c.args.desk.now _ c.create_group-made.new.ids.items made seen (Refused [] why) refl refl
          (still_ready old.groups c.args.held.now n s t c.requires.held c.requires.ready c.create_group-made.ensures.attached c.create_group-made.ensures.spares c.gave.new.self.groups (ap (λ (v : SessionView). v.groups) c.gave.ensures))
          (ap (map string_bytes) c.deref.ensures.value) refl refl
          (λ w below knows. was_refused seen c.args.text.now c.args.name c.args.path.now c.requires.says c.create_group-made.new.ids.items (λ slot. slot < n) old below w knows (c.requires.room w knows.entries_are) c.requires.absent
          c.next_id-floor.ensures.given s t c.create_group-made.ensures.ids (is_ok c.create_group-made.result.1) (g.met.B.Bay.sound c.args.desk.now.bay) c.create_group-made.ensures.attached made c.gave.new.self why
          (of_err (λ refusal. IsEarly (meaning_of (λ _. []) refusal) → made ≡ None) c.create_group-made.result.1 c.in-Err.refusal c.in-Err.is c.create_group-made.ensures.early)
          (of_err (λ refusal. RefusalCause seen c.args.path.now (meaning_of (λ _. []) refusal) (counts_of s) (counts_of t)) c.create_group-made.result.1 c.in-Err.refusal c.in-Err.is c.create_group-made.ensures.cause)
          fresh c.create_group-made.ensures.above_read
          (as_many (λ slot. slot < n) n (length seen) c.args.name (is_ok c.create_group-made.result.1) s t made (sym (length-map c.deref.result.now string_bytes)) c.create_group-made.ensures.moments)
          (ap (λ (v : SessionView). v.given) c.gave.ensures) (ap (λ (v : SessionView). v.entries) c.gave.ensures) (ap (λ (v : SessionView). v.groups) c.gave.ensures) (ap (λ (v : SessionView). v.place) c.gave.ensures));
    }
