-- What each part of a step makes, by the answers that it got.
use Rattle.std.proofs.Common.{◌≡◌, ℕ, Bool, true, false, [], refl, ap, sym, ◌∙◌, subst}
use Rattle.std.specs.Prelude.{Option, None, ◌&&◌}
use Rattle.wx_watch.specs.declared.notify_fault.NotifyFault.{NotifyFault}
use Rattle.wx_tree.specs.Paths.{Path}
use Rattle.wx_tree.specs.declared.root.Root.{Root}
use Rattle.wx_recursor.specs.States.{Evidence, RecursorState}
use Rattle.wx_recursor.specs.Guarding.{guard_placed, guarded, guarded_at, looked_again, unguarded}
use Rattle.wx_recursor.specs.Holding.{keep_retry, lose, show}
use Rattle.wx_recursor.specs.Identities.{is_of_directory}
use Rattle.wx_recursor.specs.Owning.{added, added_result, owned}
use Rattle.wx_recursor.specs.Steps.{refound, tried, visited}
use Rattle.wx_recursor.specs.declared.answers.AddResult.{AddResult}
use Rattle.wx_recursor.specs.declared.answers.Found.{Found}
use Rattle.wx_recursor.specs.declared.answers.Found.TheVariants.{Barred, Fault, Here, Missing}
use Rattle.wx_recursor.specs.declared.answers.GuardFound.{GuardFound}
use Rattle.wx_recursor.specs.declared.answers.GuardFound.TheVariants.{At, Faulty, Nowhere}
use Rattle.wx_recursor.specs.declared.answers.Look.TheVariants.{Absent}
use Rattle.wx_recursor.specs.declared.answers.Watched.{Watched}
use Rattle.wx_recursor.specs.declared.answers.Watched.TheVariants.{Kept}
use Rattle.wx_recursor.specs.declared.errors.ScanFault.TheVariants.{Io, NotFound}
use Rattle.wx_recursor.specs.declared.errors.ShownError.TheVariants.{PathScan}
use Rattle.wx_recursor.specs.declared.known.Identity.{Identity}
use Rattle.wx_recursor.specs.declared.work.Item.TheVariants.{Candidate, Visit}
use Rattle.wx_recursor.specs.declared.work.Work.{Work}
use Rattle.wx_recursor.specs.declared.work.Work.TheVariants.{Plain}
use Rattle.wx_holding.specs.Effects.{Guards, GuardsAt, LooksAgain, Owns, Tries, Visits}

abbrev pub evidence : Watched → Option NotifyFault → Bool → Evidence
evidence w u safe = record { found = Missing; guard_found = Nowhere; watched = w; undone = u; root_is_safe = safe; releases = [] }

abbrev pub no_evidence : Evidence
no_evidence = evidence (Kept Absent) None false

-- the guard at a place, by how its addition ended
pub guards_by : (r : Root) (p : Path) (i : Identity) (s a t : RecursorState) (w : Watched) (u : Option NotifyFault) (result end : AddResult) (safe : Bool) → a ≡ added p i w u s → result ≡ added_result p i w s → result ≡ end → t ≡ guard_placed r p i safe end a → GuardsAt r (At p i) s t
guards_by r p i s a t w u result end safe e f g h =
    (evidence w u safe, h ∙ ap (λ x. guard_placed r p i safe x a) (sym g ∙ f) ∙ ap (λ x. guard_placed r p i safe (added_result p i w s) x) e)

pub guards_nowhere : (r : Root) (g : GuardFound) (s a t : RecursorState) → g ≡ Nowhere → a ≡ unguarded r s → LooksAgain r a t → GuardsAt r g s t
guards_nowhere r g s a t is e (safe, h) = subst (λ x. GuardsAt r x s t) (sym is) (evidence (Kept Absent) None safe, h ∙ ap (looked_again r safe) e)

pub guards_faulty : (r : Root) (g : GuardFound) (p : Path) (c : ℕ) (s a t : RecursorState) → g ≡ Faulty p c → a ≡ show (PathScan p (Io c)) s → t ≡ keep_retry r r.path a → GuardsAt r g s t
guards_faulty r g p c s a t is e h = subst (λ x. GuardsAt r x s t) (sym is) (no_evidence, h ∙ ap (keep_retry r r.path) e)

-- what was found isn't nowhere
pub not_at : (g : GuardFound) (p : Path) (i : Identity) (X : Type 0) → g ≡ At p i → g ≡ Nowhere → X
not_at g p i X e f = (let z : At p i ≡ Nowhere = sym e ∙ f in cc)

pub not_faulty : (g : GuardFound) (p : Path) (c : ℕ) (X : Type 0) → g ≡ Faulty p c → g ≡ Nowhere → X
not_faulty g p c X e f = (let z : Faulty p c ≡ Nowhere = sym e ∙ f in cc)

-- what isn't looked at doesn't count
search_free : (r : Root) (g h : GuardFound) (e : Evidence) (s : RecursorState) → guarded_at r g (record e { guard_found = h }) s ≡ guarded_at r g e s
search_free r Nowhere h e s = refl
search_free r (At p i) h e s = refl
search_free r (Faulty p c) h e s = refl

pub guards_found : (r : Root) (g : GuardFound) (s t : RecursorState) → GuardsAt r g s t → Guards r s t
guards_found r g s t (e, h) = (record e { guard_found = g }, h ∙ sym (search_free r g g e s))

visits_from : (r : Root) (f : Found) (s a t : RecursorState) → ((e : Evidence) → visited r f e s ≡ guarded r e a) → Guards r a t → Visits r f s t
visits_from r f s a t same (e, h) = (e, h ∙ sym (same e))

pub visits_missing : (r : Root) (f : Found) (s a t : RecursorState) → f ≡ Missing → a ≡ lose r r.path (show (PathScan r.path NotFound) s) → Guards r a t → Visits r f s t
visits_missing r f s a t is e k = subst (λ x. Visits r x s t) (sym is) (visits_from r Missing s a t (λ x. ap (guarded r x) (sym e)) k)

pub visits_barred : (r : Root) (f : Found) (s a t : RecursorState) → f ≡ Barred → a ≡ lose r r.path s → Guards r a t → Visits r f s t
visits_barred r f s a t is e k = subst (λ x. Visits r x s t) (sym is) (visits_from r Barred s a t (λ x. ap (guarded r x) (sym e)) k)

pub visits_fault : (r : Root) (f : Found) (p : Path) (c : ℕ) (s a t : RecursorState) → f ≡ Fault p c → a ≡ keep_retry r r.path (show (PathScan p (Io c)) s) → Guards r a t → Visits r f s t
visits_fault r f p c s a t is e k = subst (λ x. Visits r x s t) (sym is) (visits_from r (Fault p c) s a t (λ x. ap (guarded r x) (sym e)) k)

pub visits_here : (r : Root) (f : Found) (i : Identity) (s t : RecursorState) → f ≡ Here i → Owns r r.path i (r.recursive && is_of_directory i) (Plain (Visit r)) (unguarded r (refound r s)) t → Visits r f s t
visits_here r f i s t is (w, u, h) = subst (λ x. Visits r x s t) (sym is) (evidence w u false, h)

pub visits_none : (r : Root) (f k : Found) (s : RecursorState) → f ≡ k → ((e : Evidence) → visited r k e s ≡ s) → Visits r f s s
visits_none r f k s is same = subst (λ x. Visits r x s s) (sym is) (no_evidence, sym (same no_evidence))

pub tries_any : (r : Root) (p : Path) (f k : Found) (s t : RecursorState) → f ≡ k → t ≡ tried r p k no_evidence s → Tries r p f s t
tries_any r p f k s t is h = subst (λ x. Tries r p x s t) (sym is) (no_evidence, h)

pub tries_here : (r : Root) (p : Path) (f : Found) (i : Identity) (s t : RecursorState) → f ≡ Here i → Owns r p i true (Plain (Candidate r p)) s t → Tries r p f s t
tries_here r p f i s t is (w, u, h) = subst (λ x. Tries r p x s t) (sym is) (evidence w u false, h)

pub owns_root : (r : Root) (p : Path) (i : Identity) (b c : Bool) (v x : Work) (a s t : RecursorState) → b ≡ c → v ≡ x → a ≡ s → Owns r p i b v a t → Owns r p i c x s t
owns_root r p i b c v x a s t e f g (w, u, h) = (w, u, h ∙ ap (λ y. owned r p i y v w u a) e ∙ ap (λ y. owned r p i c y w u a) f ∙ ap (λ y. owned r p i c x w u y) g)
