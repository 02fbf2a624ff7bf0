-- Entries that are changed one by one.
use Rattle.std.proofs.Common.{◌≡◌, inl, inr, ⊎_elim, ℕ, List, map, refl, sym, ap, subst, ◌∙◌, ◌==◌, Option, Some, None}
use Rattle.std.specs.Option.{option_map}
use Rattle.std.proofs.lemmas.Option.{same_Some, none-some}
use Rattle.asm_formats.specs.Among.{IsAmong}
use Rattle.asm_formats.specs.Status.{Entry, entry_of}
use Rattle.asm_placement.proofs.Chosen.{entry_among}
use Rattle.asm_placement.specs.Partners.{partner_set, with_partners}
use Rattle.asm_images.proofs.Replacing.{find_map}
use Rattle.mode_laws.specs.Events.{EntryChange, KeepsMode, ModeChange, ModeEvent}

-- the entry of a disk is the one before, changed
pub changed_entry : (change : Entry → Entry) → ((e : Entry) → (change e).number ≡ e.number) → (es : List Entry) (d : ℕ) → entry_of (map change es) d ≡ option_map change (entry_of es d)
unfolding entry_of
changed_entry change same es d = find_map change (λ (e : Entry). e.number == d) es (λ e. ap (λ (n : ℕ). n == d) (same e))

module _ (happens : ℕ → ModeEvent → Type 0) where
  -- nothing happened to the entry
  pub kept_entry : (e : Entry) → EntryChange happens e e
  kept_entry e = record { number = refl; birth = refl; failgroup = refl; quorum = refl; mode = inl (record { mode = refl; times = refl }); units = inl refl }

  -- where each entry is changed by events, all are
  pub all_changed : (es : List Entry) (change : Entry → Entry) → ((e : Entry) → (change e).number ≡ e.number)
      → ((e : Entry) → entry_of es e.number ≡ Some e → IsAmong es e → EntryChange happens e (change e)) → ModeChange happens es (map change es)
  all_changed es change same each = record {
    stays = λ d e f was is.
        let among = entry_among es d e was in
        let at : entry_of es e.number ≡ Some e = ap (entry_of es) among.1 ∙ was in
        subst (EntryChange happens e) (same_Some (change e) f (sym (found d e was) ∙ is)) (each e at among.0);
    goes = λ d e was is. absurd (none-some (change e) (sym is ∙ found d e was));
    comes = λ d f was is. absurd (none-some f (sym (changed_entry change same es d ∙ ap (option_map change) was) ∙ is));
  }
    where
      found : (d : ℕ) (e : Entry) → entry_of es d ≡ Some e → entry_of (map change es) d ≡ Some (change e)
      found d e was = changed_entry change same es d ∙ ap (option_map change) was

  -- the partners may be others
  others_as : (e f : Entry) (partners : ℕ) → EntryChange happens e f → EntryChange happens e (record f { partners = partners })
  others_as e f partners c = record {
    number = c.number;
    birth = c.birth;
    failgroup = c.failgroup;
    quorum = c.quorum;
    mode = ⊎_elim (λ (k : KeepsMode e f). inl (record { mode = k.mode; times = k.times })) (λ h. inr (h.0, h.1, record { mode = h.2.mode; times = h.2.times })) c.mode;
    units = c.units;
  }

  pub partners_anew : (es xs : List Entry) → ModeChange happens es xs → ModeChange happens es (with_partners xs)
  partners_anew es xs c = record {
    stays = λ d e f was is.
        let x = before (entry_of xs d) f (sym (at d) ∙ is) in
        subst (EntryChange happens e) (sym x.2) (others_as e x.0 (partner_set xs x.0.number) (c.stays d e x.0 was x.1));
    goes = λ d e was is. c.goes d e was (gone (entry_of xs d) (sym (at d) ∙ is));
    comes = λ d f was is.
        let x = before (entry_of xs d) f (sym (at d) ∙ is) in
        let r = c.comes d x.0 was x.1 in
        (ap (λ (e : Entry). e.mode) x.2 ∙ r.0, r.1);
  }
    where
      anew : Entry → Entry
      anew e = record e { partners = partner_set xs e.number }

      at : (d : ℕ) → entry_of (with_partners xs) d ≡ option_map anew (entry_of xs d)
      at = changed_entry anew (λ e. refl) xs

      before : (o : Option Entry) (f : Entry) → option_map anew o ≡ Some f → (x : Entry) × (o ≡ Some x) × (f ≡ anew x)
      before None f is = absurd (none-some f is)
      before (Some x) f is = (x, refl, sym (same_Some (anew x) f is))

      gone : (o : Option Entry) → option_map anew o ≡ None → o ≡ None
      gone None is = refl
      gone (Some x) is = absurd (none-some (anew x) (sym is))

  -- nothing happened
  pub none_changed : (es : List Entry) → ModeChange happens es es
  none_changed es = record {
    stays = λ d e f was is. subst (EntryChange happens e) (same_Some e f (sym was ∙ is)) (kept_entry e);
    goes = λ d e was is. absurd (none-some e (sym is ∙ was));
    comes = λ d f was is. absurd (none-some f (sym was ∙ is));
  }
