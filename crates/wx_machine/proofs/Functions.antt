-- No function is begun of a job that doesn't live.
use Rattle.std.proofs.Common.{◌≡◌, Bool, true, false, cond, List, [], ◌∷◌, None, Ok, refl}
use Rattle.std.specs.Prelude.{◌==◌, ◌&&◌, ◌||◌, not}
use Rattle.std.proofs.lemmas.Bool.{or_parts}
use Rattle.wx_control.specs.declared.id.Id.{Id}
use Rattle.wx_control.specs.declared.level.Level.{Level}
use Rattle.wx_control.specs.declared.level.Level.TheVariants.{Normal, High, Urgent}
use Rattle.wx_control.specs.Levels.{rank}
use Rattle.wx_journal.specs.declared.entry.Entry.{Entry}
use Rattle.wx_journal.specs.declared.entry.Entry.TheVariants.{Made, Asked, Pick, GraceOver, Signal, Raise, Gone, Begun, Poll}
use Rattle.wx_machine.specs.History.{same, lives, has_above, without, waits, picked_control, child, is_child, with_ticket, picked_last, begun_with, begun}

-- behind the entry that a job was made it lives
none_made : {A : Type 0} (b l : Bool) (x y : A) → (b || l) ≡ false → (l ≡ false → y ≡ x) → cond b x y ≡ x
none_made b l x y e h = let parts = or_parts b l e in rw parts.0 (h parts.1)

none_gone : {A : Type 0} (b l : Bool) (x y : A) → (not b && l) ≡ false → (l ≡ false → y ≡ x) → cond b x y ≡ x
none_gone true l x y e h = refl
none_gone false l x y e h = h e

-- what may be picked of none that waits is none
none_stays : {A : Type 0} (b : Bool) (x y z : A) → x ≡ z → y ≡ z → cond b x y ≡ z
none_stays true x y z e f = e
none_stays false x y z e f = f

and_dead : (a b l : Bool) → l ≡ false → (a && b && l) ≡ false
and_dead true true l e = e
and_dead true false l e = refl
and_dead false b l e = refl

waits_none : (id : Id) (level : Level) (p : List Entry) → lives id p ≡ false → waits id level p ≡ []
waits_none id level [] e = refl
waits_none id level (Made job ∷ p) e = none_made (same job id) (lives id p) [] (waits id level p) e (λ h. waits_none id level p h)
waits_none id level (Asked t job at control ∷ p) e = rw (and_dead (same job id) (rank at == rank level) (lives id p) e) (waits_none id level p e)
waits_none id level (Pick job t ∷ p) e = none_stays (same job id && not (has_above t level (waits id Urgent p) (waits id High p))) (without t (waits id level p)) (waits id level p) [] (rw (waits_none id level p e) refl) (waits_none id level p e)
waits_none id level (Gone job ∷ p) e = none_gone (same job id) (lives id p) [] (waits id level p) e (λ h. waits_none id level p h)
waits_none id level (_ ∷ p) e = waits_none id level p e

picked_none : (id : Id) (p : List Entry) → lives id p ≡ false → picked_last id p ≡ None
picked_none id [] e = refl
picked_none id (Made job ∷ p) e = none_made (same job id) (lives id p) None (picked_last id p) e (λ h. picked_none id p h)
picked_none id (Pick job t ∷ p) e = none_stays (same job id) (with_ticket t (picked_control id t p)) (picked_last id p) None (rw (waits_none id Urgent p e, waits_none id High p e, waits_none id Normal p e) refl) (picked_none id p e)
picked_none id (GraceOver job ∷ p) e = none_stays (same job id) None (picked_last id p) None refl (picked_none id p e)
picked_none id (Signal c number (Ok done) ∷ p) e = none_stays (is_child c (child id p)) None (picked_last id p) None refl (picked_none id p e)
picked_none id (Begun job n ∷ p) e = none_stays (same job id) None (picked_last id p) None refl (picked_none id p e)
picked_none id (Raise t ∷ p) e = rw (picked_none id p e) refl
picked_none id (Gone job ∷ p) e = none_gone (same job id) (lives id p) None (picked_last id p) e (λ h. picked_none id p h)
picked_none id (_ ∷ p) e = picked_none id p e

pub begun_none : (id : Id) (p : List Entry) → lives id p ≡ false → begun id p ≡ None
begun_none id [] e = refl
begun_none id (Made job ∷ p) e = none_made (same job id) (lives id p) None (begun id p) e (λ h. begun_none id p h)
begun_none id (Begun job n ∷ p) e = none_stays (same job id) (begun_with n (picked_last id p)) (begun id p) None (rw (picked_none id p e) refl) (begun_none id p e)
begun_none id (Poll job n true ∷ p) e = none_stays (same job id) None (begun id p) None refl (begun_none id p e)
begun_none id (Gone job ∷ p) e = none_gone (same job id) (lives id p) None (begun id p) e (λ h. begun_none id p h)
begun_none id (_ ∷ p) e = begun_none id p e
