use Rattle.std.proofs.Common.{◌≡◌, List, length, ap, subst, refl, sym, ◌∙◌, is_some, true, false}
use Rattle.refusal_lines.specs.Refusals.{meaning_of}
use Rattle.asm_world.specs.Command.{Said}
use Rattle.asm_world.specs.Statement.{Alter, Dismount}
use Rattle.asm_world.specs.World.{SessionEntry, entry_in, without_entry}
use Rattle.session.specs.group_engine.Mounts.{MountedGroup}
use Rattle.session.specs.Meaning.{meaning}
use Rattle.session.specs.Sessions.{AreToldBy, groups_below, without_groups}
use Rattle.session.proofs.Languages.{meaning_is}
use Rattle.session.proofs.Entries.{none-leaves}
use Rattle.session.proofs.Knowing.{groups_without_none, left_told}
use Rattle.group_commands.proofs.Leaving.{absent, left}
use Rattle.session.proofs.Ready.{left_ready}
use Rattle.group_commands.proofs.groups.dismount.Goals as goal

pub returns-then-not-leave : goal.returns-then-not-leave
unfolding meaning_of
returns-then-not-leave g c =
    let says : meaning c.args.text.now ≡ Said (Alter c.args.name (Dismount c.args._force)) = meaning_is c.args.text.now _ c.requires.asked in
    record {
      answers = record {
        paths = refl;
        host_stays = λ is. refl;
        ready = rw c.leave.ensures.groups (left_ready c.args.desk.now.session.entries c.args.desk.now.session.groups c.args.name c.requires.ready);
        served = λ w below knows.
            let none : is_some (entry_in w c.args.name) ≡ false = rw knows.entries_are (sym c.leave.ensures.found ∙ c.if-not-leave.true) in
            let stay : c.leave.new.self.groups ≡ c.args.desk.now.session.groups = c.leave.ensures.groups
            ∙ groups_without_none c.args.desk.now.session.entries c.args.desk.now.session.groups c.args.name c.leave.ensures.paired (sym c.leave.ensures.found ∙ c.if-not-leave.true) in (
              w,
              groups_below c.leave.new.self.entries c.leave.new.self.groups,
              record {
                entries_are = sym (none-leaves w.session c.args.name none) ∙ rw (knows.entries_are, c.leave.ensures.left) refl;
                place_is = knows.place_is ∙ sym c.leave.ensures.place;
                below_is = refl;
                told = λ lengths. subst (λ (l : List MountedGroup). AreToldBy w l) (sym stay) (knows.told (ap (λ (l : List MountedGroup). length l) (sym stay) ∙ lengths));
              },
              rw (c.refused.ensures.reply, c.refused.ensures.found, c.leave.ensures.given, stay) (absent _ c.args.text.now c.args.name _ says _ _ w none),
            );
      };
    }

pub returns : goal.returns
returns g c =
    let says : meaning c.args.text.now ≡ Said (Alter c.args.name (Dismount c.args._force)) = meaning_is c.args.text.now _ c.requires.asked in
    record {
      answers = record {
        paths = refl;
        host_stays = λ is. refl;
        ready = rw c.leave.ensures.groups (left_ready c.args.desk.now.session.entries c.args.desk.now.session.groups c.args.name c.requires.ready);
        served = λ w below knows.
            let some : is_some (entry_in w c.args.name) ≡ true = rw knows.entries_are (sym c.leave.ensures.found ∙ c.if-not-leave.false) in
            let gone : c.leave.new.self.groups ≡ without_groups w.session c.args.desk.now.session.groups c.args.name = c.leave.ensures.groups
            ∙ ap (λ (l : List SessionEntry). without_groups l c.args.desk.now.session.groups c.args.name) (sym knows.entries_are) in (
              record w { session = without_entry w.session c.args.name },
              groups_below c.leave.new.self.entries c.leave.new.self.groups,
              record {
                entries_are = rw (knows.entries_are, c.leave.ensures.left) refl;
                place_is = knows.place_is ∙ sym c.leave.ensures.place;
                below_is = refl;
                told = λ lengths. subst (λ (l : List MountedGroup). AreToldBy (record w { session = without_entry w.session c.args.name }) l) (sym gone)
                    (left_told w c.args.desk.now.session.groups c.args.name (knows.told (c.leave.ensures.paired ∙ ap (λ (l : List SessionEntry). length l) (sym knows.entries_are))));
              },
              rw (c.plain.ensures.reply, c.plain.ensures.found, c.new.ensures, c.leave.ensures.given, gone) (left _ c.args.text.now c.args.name _ says _ _ w some),
            );
      };
    }
