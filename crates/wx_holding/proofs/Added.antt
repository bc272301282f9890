-- The four cases of an addition, and unwatching one after the other.
use Rattle.std.proofs.Common.{arith, ◌≤◌, ◌<◌, ◌-◌, length, get_or, take, drop, ◌≡◌, ℕ, true, false, List, [], ◌∷◌, ◌++◌, refl, subst}
use Rattle.std.specs.Prelude.{Option, None}
use Rattle.std.proofs.Math.Seq.{take-length}
use Rattle.wx_watch.specs.declared.notify_fault.NotifyFault.{NotifyFault}
use Rattle.wx_tree.specs.Paths.{Path}
use Rattle.wx_recursor.specs.States.{RecursorState}
use Rattle.wx_recursor.specs.Identities.{has_identity, refusal}
use Rattle.wx_recursor.specs.Owning.{answered, answered_result, is_held_back, is_known_otherwise, unwatched}
use Rattle.wx_recursor.specs.Steps.{unwatch_each}
use Rattle.wx_recursor.specs.declared.answers.AddResult.{AddResult}
use Rattle.wx_recursor.specs.declared.answers.AddResult.TheVariants.{LeftOut, Stands}
use Rattle.wx_recursor.specs.declared.answers.Look.TheVariants.{Absent}
use Rattle.wx_recursor.specs.declared.answers.Watched.{Watched}
use Rattle.wx_recursor.specs.declared.answers.Watched.TheVariants.{Kept}
use Rattle.wx_recursor.specs.declared.known.Identity.{Identity}
use Rattle.wx_recursor.specs.declared.known.Known.{Known}
use Rattle.wx_holding.specs.Effects.{Adds}

pub excludes : (p q : Path) (i : Identity) (es : List Path) (s : RecursorState) → is_known_otherwise p i s ≡ true → q ≡ p → es ≡ s.excluded ++ q ∷ []
    → Adds p i s (record s { excluded = es; asks_rebuild = true }) LeftOut
excludes p q i es s h e f = (Kept Absent, None, rw (h, f, e) refl, rw h refl)

pub shares : (p : Path) (i : Identity) (s : RecursorState) → is_known_otherwise p i s ≡ false → has_identity i s.registrations ≡ true → Adds p i s s Stands
shares p i s h k = (Kept Absent, None, rw (h, k) refl, rw (h, k) refl)

pub leaves : (p : Path) (i : Identity) (s : RecursorState) → is_known_otherwise p i s ≡ false → has_identity i s.registrations ≡ false → is_held_back p s ≡ true → Adds p i s s LeftOut
leaves p i s h k b = (Kept Absent, None, rw (h, k, b) refl, rw (h, k, b) refl)

pub answers : (p : Path) (i : Identity) (w : Watched) (u : Option NotifyFault) (s t : RecursorState) (end : AddResult) → is_known_otherwise p i s ≡ false → has_identity i s.registrations ≡ false → is_held_back p s ≡ false
    → t ≡ answered p i w u s → end ≡ answered_result p i w s → Adds p i s t end
answers p i w u s t end h k b f g = (w, u, rw (h, k, b) f, rw (h, k, b) g)

pub unwatched_more : (rest : List Known) (k : Known) (n : ℕ) (u : Option NotifyFault) (vs : List (Option NotifyFault)) (s t x : RecursorState) → 1 ≤ length rest → n ≡ length rest → get_or rest 0 k ≡ k → t ≡ unwatched k.path (refusal u) s
    → unwatch_each rest (u ∷ vs) s ≡ x → unwatch_each (take (n - 1) (drop 1 rest)) vs t ≡ x
unwatched_more [] k n u vs s t x le e f g h = absurd (omega arith)
unwatched_more (y ∷ ys) k n u vs s t x le e f g h =
    let m : n - 1 ≡ length ys = omega arith in
    rw (m, take-length ys, g) (subst (λ z. unwatch_each ys vs (unwatched z.path (refusal u) s) ≡ x) f h)

pub unwatched_end : (rest : List Known) (s x : RecursorState) → length rest < 1 → unwatch_each rest [] s ≡ x → s ≡ x
unwatched_end [] s x lt h = h
unwatched_end (y ∷ ys) s x lt h = absurd (omega arith)
