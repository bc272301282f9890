-- Registrations that are watched again, one after the other.
use Rattle.std.proofs.Common.{arith, ◌≤◌, ◌<◌, ◌-◌, length, get_or, take, drop, ◌≡◌, ℕ, suc, true, false, List, [], ◌∷◌, ◌++◌, refl, ap, sym, ◌∙◌, subst}
use Rattle.std.proofs.Common.{inl, inr}
use Rattle.std.proofs.lemmas.Bool.{cases_Bool}
use Rattle.std.proofs.Math.Seq.{take-length}
use Rattle.wx_watch.specs.declared.notify_fault.NotifyFault.{NotifyFault}
use Rattle.wx_tree.specs.Paths.{Path}
use Rattle.wx_recursor.specs.States.{RecursorState}
use Rattle.wx_recursor.specs.Identities.{is_path_gone}
use Rattle.wx_recursor.specs.Owners.{has_path}
use Rattle.wx_recursor.specs.Owning.{failed_watch, is_resource_fault, stop}
use Rattle.wx_recursor.specs.Rebuilds.{is_replay_over, keep_waiting, replayed_all, replayed_one, upheld}
use Rattle.wx_recursor.specs.declared.answers.Look.TheVariants.{Absent}
use Rattle.wx_recursor.specs.declared.answers.Watched.{Watched}
use Rattle.wx_recursor.specs.declared.answers.Watched.TheVariants.{Failed, Kept}
use Rattle.wx_recursor.specs.declared.known.Known.{Known}
use Rattle.wx_rebuild.specs.Replays.{Replays, ReplaysAll, ReplaysOne}

pub replayed_more : (rest : List Known) (k : Known) (n : ℕ) (w : Watched) (vs : List Watched) (s t x : RecursorState) → 1 ≤ length rest → n ≡ length rest → get_or rest 0 k ≡ k → is_replay_over s ≡ false → t ≡ replayed_one k w s
    → replayed_all rest (w ∷ vs) s ≡ x → replayed_all (take (n - 1) (drop 1 rest)) vs t ≡ x
replayed_more [] k n w vs s t x le e f o g h = absurd (omega arith)
replayed_more (y ∷ ys) k n w vs s t x le e f o g h =
    let m : n - 1 ≡ length ys = omega arith in
    let goes : replayed_all (y ∷ ys) (w ∷ vs) s ≡ replayed_all ys vs (replayed_one y w s) = rw o refl in
    rw (m, take-length ys, g) (subst (λ z. replayed_all ys vs (replayed_one z w s) ≡ x) f (sym goes ∙ h))

pub replayed_end : (rest : List Known) (s x : RecursorState) → length rest < 1 → replayed_all rest [] s ≡ x → s ≡ x
replayed_end [] s x lt h = h
replayed_end (y ∷ ys) s x lt h = absurd (omega arith)

pub none_left : (rest : List Known) → length rest < 1 → 0 ≡ length rest
none_left [] lt = refl
none_left (y ∷ ys) lt = absurd (omega arith)

-- an answer for each, where none is read any more
pub unread : List Known → List Watched
unread [] = []
unread (g ∷ gs) = Kept Absent ∷ unread gs

pub unread_each : (gs : List Known) → length (unread gs) ≡ length gs
unfolding unread
unread_each [] = refl
unread_each (g ∷ gs) = ap suc (unread_each gs)

pub replayed_over : (rest : List Known) (s t x : RecursorState) → 1 ≤ length rest → is_replay_over s ≡ true → t ≡ keep_waiting rest s → replayed_all rest (unread rest) s ≡ x → t ≡ x
unfolding unread
replayed_over [] s t x le o g h = absurd (omega arith)
replayed_over (y ∷ ys) s t x le o g h = g ∙ (sym (rw o refl) ∙ h)

pub replays_kept : (g k : Known) (rs : List Known) (s : RecursorState) → rs ≡ s.registrations ++ k ∷ [] → k ≡ g → ReplaysOne g s (record s { registrations = rs })
replays_kept g k rs s e f = (Kept Absent, rw (e, f) refl)

-- a watch that failed leaves the registrations as they are
stop_registrations : (f : NotifyFault) (s : RecursorState) → (stop f s).registrations ≡ s.registrations
stop_registrations f s =
    elim (cases_Bool s.stopped) [
      | inl e ↦ rw e refl
      | inr e ↦ rw e refl
    ]

failed_registrations : (p : Path) (f : NotifyFault) (s : RecursorState) → (failed_watch p f s).registrations ≡ s.registrations
failed_registrations p f s =
    elim (cases_Bool (has_path p s.failed)) [
      | inl e ↦ rw e refl
      | inr e ↦ rw e refl
    ]

pub refused_registrations : (g : Known) (f : NotifyFault) (s : RecursorState) → (replayed_one g (Failed f) s).registrations ≡ s.registrations
refused_registrations g f s =
    elim (cases_Bool (is_path_gone f)) [
      | inl e ↦ rw e refl
      | inr e ↦ elim (cases_Bool (is_resource_fault f)) [
        | inl r ↦ rw (e, r) (stop_registrations f s)
        | inr r ↦ elim (cases_Bool (has_path g.path s.failed)) [
          | inl second ↦ rw (e, r, second) refl
          | inr first ↦ rw (e, r, first) refl
        ]
      ]
    ]

-- what was watched again, and then what stays of owned paths and guards
pub replays_from : (s a t u : RecursorState) (gs : List Known) → gs ≡ s.waiting → a ≡ record s { waiting = [] } → ReplaysAll gs a t → u ≡ upheld t → Replays s u
replays_from s a t u gs is from (ws, each, e) f =
    (ws, each ∙ ap length is, f ∙ ap upheld (e ∙ (ap (λ x. replayed_all x ws a) is ∙ ap (replayed_all s.waiting ws) from)))

pub one_more : (rest : List Known) (n : ℕ) (w : Watched) (vs : List Watched) → 1 ≤ length rest → n ≡ length rest → length vs ≡ length (take (n - 1) (drop 1 rest)) → length (w ∷ vs) ≡ length rest
one_more [] n w vs le e h = absurd (omega arith)
one_more (y ∷ ys) n w vs le e h =
    let m : n - 1 ≡ length ys = omega arith in
    let all : take (n - 1) ys ≡ ys = rw (m, take-length ys) refl in
    ap suc (h ∙ ap length all)
