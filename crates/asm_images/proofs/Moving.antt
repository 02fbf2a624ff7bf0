-- Every kind of step keeps an image sound, and so does a row of them.
use Rattle.std.proofs.Common.{◌≡◌, inl, inr, ℕ, List, [], ◌∷◌, sym, subst}
use Rattle.asm_formats.specs.Among.{IsAmong}
use Rattle.asm_images.specs.Moves.{Situation, IsSoundSituation, MovesTo, IsRowOfMoves, spare, write_elsewhere, claim, begin, store, complete, commit, write_in_span, settle, narrow, widen, leave, join}
use Rattle.asm_images.proofs.Describing.{spare_keeps}
use Rattle.asm_images.proofs.Claiming.{claim_keeps}
use Rattle.asm_images.proofs.Recording.{begin_keeps, store_keeps}
use Rattle.asm_images.proofs.Completing.{complete_keeps}
use Rattle.asm_images.proofs.Committing.{commit_keeps}
use Rattle.asm_images.proofs.Spans.{piece_keeps, settle_keeps, narrow_keeps, widen_keeps}
use Rattle.asm_images.proofs.Joining.{leave_keeps, join_keeps, outside_keeps}

arrives : (id : ℕ) (y z : Situation) → y ≡ z → IsSoundSituation id z → IsSoundSituation id y
arrives id y z e sound = subst (λ (w : Situation). IsSoundSituation id w) (sym e) sound

pub step_keeps : (id : ℕ) (x y : Situation) → MovesTo id x y → IsSoundSituation id x → IsSoundSituation id y
step_keeps id x y (spare new s e) sound = arrives id y _ e (spare_keeps id x.image new x.groups x.completed x.begun sound s)
step_keeps id x y (write_elsewhere slot bytes s e) sound = arrives id y _ e (outside_keeps id x.image x.groups x.completed x.begun sound slot bytes s)
step_keeps id x y (claim slot bytes s e) sound = arrives id y _ e (claim_keeps id x.image x.groups x.completed x.begun sound slot bytes s)
step_keeps id x y (begin r s e) sound = arrives id y _ e (begin_keeps id x.image x.groups x.completed x.begun sound r s)
step_keeps id x y (store r slot bytes s e) sound = arrives id y _ e (store_keeps id x.image x.groups x.completed x.begun sound r slot bytes s)
step_keeps id x y (complete r s e) sound = arrives id y _ e (complete_keeps id x.image x.groups x.completed x.begun sound r s)
step_keeps id x y (commit slot bytes s e) sound = arrives id y _ e (commit_keeps id x.image x.groups x.completed x.begun sound slot bytes s)
step_keeps id x y (write_in_span new span s e) sound = arrives id y _ e (piece_keeps id x.image new x.groups x.completed x.begun sound span s)
step_keeps id x y (settle span bytes s e) sound = arrives id y _ e (settle_keeps id x.image x.groups x.completed x.begun sound span bytes s)
step_keeps id x y (narrow fewer s e) sound = arrives id y _ e (narrow_keeps id x.image x.groups fewer x.completed x.begun sound s)
step_keeps id x y (widen more s e) sound = arrives id y _ e (widen_keeps id x.image x.groups more x.completed x.begun sound s)
step_keeps id x y (leave slot bytes s e) sound = arrives id y _ e (leave_keeps id x.image x.groups x.completed x.begun sound slot bytes s)
step_keeps id x y (join slot bytes h s e) sound = arrives id y _ e (join_keeps id x.image x.groups x.completed x.begun sound slot bytes h s)

pub rows_keep : (id : ℕ) (x : Situation) (ys : List Situation) → IsRowOfMoves id x ys → IsSoundSituation id x → (y : Situation) → IsAmong ys y → IsSoundSituation id y
rows_keep id x [] row sound y h = absurd h
rows_keep id x (z ∷ ys) row sound y (inl e) = arrives id y z e (step_keeps id x z row.0 sound)
rows_keep id x (z ∷ ys) row sound y (inr h) = rows_keep id z ys row.1 (step_keeps id x z row.0 sound) y h
