-- What a call keeps of a group, where it lets no disk go and where it does nothing.
use Rattle.std.proofs.Common.{◌≡◌, ℕ, None, inl, refl, sym, ap, ◌∙◌}
use Rattle.std.specs.Prelude.{get_or}
use Rattle.bay.specs.State.{BayState}
use Rattle.bay.proofs.Calls.{started}
use Rattle.group_contents.specs.group_engine.Mounts.{IsOwn, MountedGroup, Takes}
use Rattle.group_contents.specs.group_engine.Own.{KeepsGroup}
use Rattle.group_contents.specs.group_engine.Members.{LetsGo}

pub lets_go : (a b : MountedGroup) (s t : BayState) → KeepsGroup a b s t → LetsGo a b s t
lets_go a b s t keeps = record {
  name = keeps.same.name;
  id = keeps.same.id;
  shape = keeps.same.shape;
  own = λ slot own. (own.0, own.1, sym (ap (λ ms. get_or ms own.0 None) keeps.same.members) ∙ own.2, own.3);
  attached = keeps.attached;
  runs = keeps.runs;
  whole = keeps.whole;
  ready = keeps.ready;
}

-- nothing is done
pub lets_none : (m : MountedGroup) (s : BayState) → Takes m s → LetsGo m m s s
lets_none m s takes = record {
  name = refl;
  id = refl;
  shape = refl;
  own = λ slot own. own;
  attached = record { same = λ k. refl };
  runs = started (λ x. record { size = λ k. refl; byte = λ k j out. refl });
  whole = λ mounted. (takes mounted).0;
  ready = λ mounted. (takes mounted).1;
}

pub keeps_none : (m : MountedGroup) (s : BayState) → Takes m s → KeepsGroup m m s s
keeps_none m s takes = record {
  same = record { name = refl; id = refl; shape = refl; members = refl; disks = refl; flight = inl refl };
  attached = record { same = λ k. refl };
  runs = started (λ x. record { size = λ k. refl; byte = λ k j out. refl });
  whole = λ mounted. (takes mounted).0;
  ready = λ mounted. (takes mounted).1;
}

-- a group that is mounted takes the next call
pub takes_next : (a b : MountedGroup) (s t : BayState) → KeepsGroup a b s t → Takes b t
takes_next a b s t keeps mounted = (keeps.whole mounted, keeps.ready mounted)
