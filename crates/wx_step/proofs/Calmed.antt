-- What each part of a step makes where the tree is told and nothing fails: its evidence is read off the tree.
use Rattle.std.proofs.Common.{◌≡◌, ℕ, Bool, true, List, [], ◌∷◌, inl, inr, refl, ap, sym, ◌∙◌, subst}
use Rattle.std.specs.Prelude.{◌⊎◌, ◌&&◌, Option, Some, None, if◌then◌else◌}
use Rattle.wx_watch.specs.declared.notify_fault.NotifyFault.{NotifyFault}
use Rattle.wx_tree.specs.Paths.{Path}
use Rattle.wx_tree.specs.Trees.{Tree, is_directory, is_directory_node, is_there_node, node_at}
use Rattle.wx_tree.specs.declared.node.Node.{Node}
use Rattle.wx_tree.specs.declared.node.Node.TheVariants.{Dir, File, Link}
use Rattle.wx_tree.specs.declared.root.Root.{Root}
use Rattle.wx_scan.specs.Backings.{Backing}
use Rattle.wx_scan.specs.Looked.{Looked, OnlyLooks}
use Rattle.wx_recursor.specs.Holding.{show}
use Rattle.wx_recursor.specs.Seen.{Sees, SeesFirst, look_at_node, passes, root_found, try_found}
use Rattle.wx_recursor.specs.Sound.{AreSound, Things, things}
use Rattle.wx_recursor.specs.States.{Evidence, RecursorState}
use Rattle.wx_recursor.specs.Steps.{acted_item, released, scanned, stepped_at, swept, told, tried, visited}
use Rattle.wx_recursor.specs.declared.answers.Found.{Found}
use Rattle.wx_recursor.specs.declared.answers.Found.TheVariants.{Barred, Entries, Fault, Here, Missing, Refused, Rejected}
use Rattle.wx_recursor.specs.declared.answers.Look.{Look}
use Rattle.wx_recursor.specs.declared.answers.Look.TheVariants.{Absent, Broken, Directory, Linked, Other}
use Rattle.wx_recursor.specs.declared.errors.ScanFault.TheVariants.{Io}
use Rattle.wx_recursor.specs.declared.errors.ShownError.{ShownError}
use Rattle.wx_recursor.specs.declared.errors.ShownError.TheVariants.{PathScan}
use Rattle.wx_recursor.specs.declared.known.Identity.TheVariants.{Canonical, Lexical}
use Rattle.wx_recursor.specs.declared.known.Known.{Known}
use Rattle.wx_recursor.specs.declared.work.Item.{Item}
use Rattle.wx_recursor.specs.declared.work.Item.TheVariants.{Candidate, Guard, Scan, Visit}
use Rattle.wx_recursor.specs.declared.work.Work.{Work}
use Rattle.wx_recursor.specs.declared.work.Work.TheVariants.{Plain, Probe}
use Rattle.wx_recursor.proofs.SoundSteps.{first_sound, things_retry}
use Rattle.wx_holding.specs.Calm.{FindsEntries, GuardsCalmly, IsCalm, IsStill, ReleasesCalmly, StandsBy, TriesCalmly, VisitsCalmly}
use Rattle.wx_holding.proofs.Watching.{rose_later, rose_sooner}
use Rattle.wx_holding.proofs.StandingBy.{stands_same}
use Rattle.wx_step.specs.Calmly.{ActsCalmly, FirstsCalmly, HandsCalmly, IsFirstReadable, IsReadableItem, StepsCalmly, judged_found}
use Rattle.wx_step.proofs.Acted.{first_released, no_evidence}

-- of two calls one after the other each is calm

pub still_first : (t : Tree) (a b c : Looked) → IsStill t a c → OnlyLooks a b → OnlyLooks b c → IsStill t a b
still_first t a b c h f g = record { told = h.told; no_fault = λ r. h.no_fault (rose_later a.faults b.faults c.faults r g.faults) }

pub still_then : (t : Tree) (a b c : Looked) → IsStill t a c → OnlyLooks a b → OnlyLooks b c → IsStill t b c
still_then t a b c h f g = record { told = f.same.tree ∙ h.told; no_fault = λ r. h.no_fault (rose_sooner a.faults b.faults c.faults f.faults r) }

pub calm_first : (t : Tree) (follow : Bool) (a b c : Looked) (ks : List Known) (x : Backing) (X : Type 0) → IsCalm t follow a c ks x X → OnlyLooks a b → OnlyLooks b c → IsCalm t follow a b ks x X
calm_first t follow a b c ks x X h f g = record { links = h.links; still = still_first t a b c h.still f g; stands = h.stands }

pub calm_then : (t : Tree) (follow : Bool) (a b c : Looked) (ks : List Known) (x : Backing) (X : Type 0) → IsCalm t follow a c ks x X → OnlyLooks a b → OnlyLooks b c → IsCalm t follow b c ks x X
calm_then t follow a b c ks x X h f g = record { links = h.links; still = still_then t a b c h.still f g; stands = h.stands }

-- a look at a candidate

-- what is found where this stands
abbrev found_of_node : (Path → Bool) → Root → Path → Option Node → Found
found_of_node ok r p n =
    if is_there_node n
    then (if is_directory_node n && passes ok r p then Here (if is_directory_node n then Canonical p else Lexical p) else Rejected)
    else Missing

directory_found : (ok : Path → Bool) (r : Root) (p q : Path) (n : Option Node) → Directory q ≡ look_at_node p n → judged_found ok r p (Canonical q) ≡ found_of_node ok r p n
directory_found ok r p q None e = cc
directory_found ok r p q (Some Dir) e = (let k : q ≡ p = cc in ap (λ x. judged_found ok r p (Canonical x)) k)
directory_found ok r p q (Some (File c)) e = cc
directory_found ok r p q (Some (Link l)) e = cc

linked_found : (ok : Path → Bool) (r : Root) (p : Path) (n : Option Node) → Linked ≡ look_at_node p n → Rejected ≡ found_of_node ok r p n
linked_found ok r p None e = cc
linked_found ok r p (Some Dir) e = cc
linked_found ok r p (Some (File c)) e = refl
linked_found ok r p (Some (Link l)) e = refl

other_found : (ok : Path → Bool) (r : Root) (p : Path) (n : Option Node) → Other ≡ look_at_node p n → Rejected ≡ found_of_node ok r p n
other_found ok r p None e = cc
other_found ok r p (Some Dir) e = cc
other_found ok r p (Some (File c)) e = refl
other_found ok r p (Some (Link l)) e = refl

absent_found : (ok : Path → Bool) (r : Root) (p : Path) (n : Option Node) → Absent ≡ look_at_node p n → Missing ≡ found_of_node ok r p n
absent_found ok r p None e = refl
absent_found ok r p (Some Dir) e = cc
absent_found ok r p (Some (File c)) e = cc
absent_found ok r p (Some (Link l)) e = cc

no_broken_look : (p : Path) (n : Option Node) (code : ℕ) → Broken code ≡ look_at_node p n → ⊥
no_broken_look p None code e = cc
no_broken_look p (Some Dir) code e = cc
no_broken_look p (Some (File c)) code e = cc
no_broken_look p (Some (Link l)) code e = cc

pub found_directory : (t : Tree) (ok : Path → Bool) (r : Root) (p q : Path) (f : Found) → Directory q ≡ look_at_node p (node_at t p) → f ≡ judged_found ok r p (Canonical q) → f ≡ try_found t ok r p
found_directory t ok r p q f e h = h ∙ directory_found ok r p q (node_at t p) e

pub found_linked_or_other : (t : Tree) (ok : Path → Bool) (r : Root) (p : Path) (look : Look) → (look ≡ Linked) ⊎ (look ≡ Other) → look ≡ look_at_node p (node_at t p) → Rejected ≡ try_found t ok r p
found_linked_or_other t ok r p look which e =
    elim which [
      | inl is ↦ linked_found ok r p (node_at t p) (sym is ∙ e)
      | inr is ↦ other_found ok r p (node_at t p) (sym is ∙ e)
    ]

pub found_absent : (t : Tree) (ok : Path → Bool) (r : Root) (p : Path) → Absent ≡ look_at_node p (node_at t p) → Missing ≡ try_found t ok r p
found_absent t ok r p e = absent_found ok r p (node_at t p) e

pub found_broken : (t : Tree) (p : Path) (code : ℕ) (X : Type 0) → Broken code ≡ look_at_node p (node_at t p) → X
found_broken t p code X e = absurd (no_broken_look p (node_at t p) code e)

-- items

pub guard_calm : (t : Tree) (ok : Path → Bool) (i : Item) (r : Root) (s u : RecursorState) → i ≡ Guard r → GuardsCalmly t r s u → ActsCalmly t ok i s u
guard_calm t ok i r s u is (e, sees, h) = subst (λ x. ActsCalmly t ok x s u) (sym is) (e, sees, h)

pub visit_calm : (t : Tree) (ok : Path → Bool) (i : Item) (r : Root) (f : Found) (s u : RecursorState) → i ≡ Visit r → f ≡ root_found t r.path → VisitsCalmly t r f s u → ActsCalmly t ok i s u
visit_calm t ok i r f s u is at (e, sees, h) = subst (λ x. ActsCalmly t ok x s u) (sym is) (e, sees, h ∙ ap (λ x. visited r x e s) (at ∙ sym sees.found))

pub scan_calm : (t : Tree) (ok : Path → Bool) (i : Item) (r : Root) (p : Path) (f : Found) (s u : RecursorState) → i ≡ Scan r p → (is_directory t p ≡ true → FindsEntries t p f) → u ≡ scanned r p f s → ActsCalmly t ok i s u
scan_calm t ok i r p f s u is finds h = subst (λ x. ActsCalmly t ok x s u) (sym is) (record no_evidence { found = f }, finds, h)

pub try_calm : (t : Tree) (ok : Path → Bool) (i : Item) (r : Root) (p : Path) (f : Found) (s u : RecursorState) → i ≡ Candidate r p → f ≡ try_found t ok r p → TriesCalmly t ok r p f s u → ActsCalmly t ok i s u
try_calm t ok i r p f s u is at (e, sees, h) = subst (λ x. ActsCalmly t ok x s u) (sym is) (e, sees, h ∙ ap (λ x. tried r p x e s) (at ∙ sym sees.found))

pub readable_item : (t : Tree) (i j : Item) → i ≡ j → IsReadableItem t i → IsReadableItem t j
readable_item t i j is h = subst (IsReadableItem t) is h

-- a listing changes no registration
scanned_registrations : (r : Root) (p : Path) (f : Found) (s : RecursorState) → (scanned r p f s).registrations ≡ s.registrations
scanned_registrations r p Missing s = refl
scanned_registrations r p Barred s = refl
scanned_registrations r p Rejected s = refl
scanned_registrations r p (Fault q c) s = ap (λ (h : Things). h.registrations) (things_retry r p (show (PathScan q (Io c)) s))
scanned_registrations r p (Refused c) s = refl
scanned_registrations r p (Here i) s = refl
scanned_registrations r p (Entries cs) s = refl

pub scan_stands : (t : Tree) (r : Root) (p : Path) (f : Found) (s u : RecursorState) (x : Backing) (X : Type 0) → u ≡ scanned r p f s → StandsBy t s.registrations x X → StandsBy t u.registrations x X
scan_stands t r p f s u x X h k = stands_same t s.registrations u.registrations x X (ap (λ (y : RecursorState). y.registrations) h ∙ scanned_registrations r p f s) k

-- the first of the queue, or the sweep

abbrev item_in : Item → Work → Item
item_in i (Plain j) = j
item_in i (Probe p owners) = i

pub same_item : (w : Work) (i j : Item) → w ≡ Plain i → w ≡ Plain j → i ≡ j
same_item w i j e f = ap (item_in i) (sym e ∙ f)

pub no_probe : (w : Work) (i : Item) (p : Path) (owners : List Root) → w ≡ Probe p owners → w ≡ Plain i → (X : Type 0) → X
no_probe w i p owners e f X = (let k : Plain i ≡ Probe p owners = sym f ∙ e in absurd cc)

pub sweep_calm : (t : Tree) (ok : Path → Bool) (s u : RecursorState) → s.queue ≡ [] → u ≡ swept s → FirstsCalmly t ok s u
sweep_calm t ok s u e h = (no_evidence, subst (λ q. SeesFirst t ok q no_evidence) (sym e) tt, h ∙ ap (λ x. stepped_at x no_evidence s) (sym e))

pub first_plain : (t : Tree) (q r : List Work) (w : Work) → q ≡ w ∷ r → IsFirstReadable t q → (i : Item) × (w ≡ Plain i) × IsReadableItem t i
first_plain t q r w e h = go w (subst (IsFirstReadable t) e h)
  where
    go : (x : Work) → IsFirstReadable t (x ∷ r) → (i : Item) × (x ≡ Plain i) × IsReadableItem t i
    go (Plain i) k = (i, refl, k)
    go (Probe p owners) k = absurd k

pub firsts_calm : (t : Tree) (ok : Path → Bool) (q : List Work) (w : Work) (i : Item) (s v u : RecursorState) → s.queue ≡ w ∷ q → v ≡ record s { queue = q } → w ≡ Plain i → ActsCalmly t ok i v u → FirstsCalmly t ok s u
firsts_calm t ok q w i s v u is e k (ev, sees, h) =
    let at : s.queue ≡ Plain i ∷ q = is ∙ ap (λ x. x ∷ q) k in
    (ev, subst (λ x. SeesFirst t ok x ev) (sym at) sees, h ∙ ap (acted_item i ev) e ∙ ap (λ x. stepped_at x ev s) (sym at))

-- the step

-- what is seen isn't what is let go
item_sees : (t : Tree) (ok : Path → Bool) (i : Item) (us : List (Option NotifyFault)) (e : Evidence) → Sees t ok i e → Sees t ok i (record e { releases = us })
item_sees t ok (Guard r) us e h = record { guard_found = h.guard_found; watched = h.watched; root_is_safe = h.root_is_safe }
item_sees t ok (Visit r) us e h = record { found = h.found; guard_found = h.guard_found; watched = h.watched; root_is_safe = h.root_is_safe }
item_sees t ok (Scan r p) us e h = h
item_sees t ok (Candidate r p) us e h = record { found = h.found; watched = h.watched }

first_sees : (t : Tree) (ok : Path → Bool) (q : List Work) (us : List (Option NotifyFault)) (e : Evidence) → SeesFirst t ok q e → SeesFirst t ok q (record e { releases = us })
first_sees t ok [] us e h = tt
first_sees t ok (Plain i ∷ q) us e h = item_sees t ok i us e h
first_sees t ok (Probe p owners ∷ q) us e h = tt

pub firsts_sound : (t : Tree) (ok : Path → Bool) (s v : RecursorState) → FirstsCalmly t ok s v → AreSound (things s) → AreSound (things v)
firsts_sound t ok s v (e, sees, h) k = subst (λ x. AreSound (things x)) (sym h) (first_sound s.queue e s k)

pub steps_calm : (t : Tree) (ok : Path → Bool) (s v u : RecursorState) → FirstsCalmly t ok s v → ReleasesCalmly v u → StepsCalmly t ok s u
steps_calm t ok s v u (e, sees, h) (us, none, k) =
    (record e { releases = us }, first_sees t ok s.queue us e sees, none, k ∙ ap (released us) (h ∙ sym (first_released s.queue us e s)))

pub hands_calm : (t : Tree) (ok : Path → Bool) (s v u : RecursorState) (errors : List ShownError) (asks : Bool) → StepsCalmly t ok s v → u ≡ told v → errors ≡ v.shown → asks ≡ v.asks_rebuild → HandsCalmly t ok s u errors asks
hands_calm t ok s v u errors asks (e, sees, none, h) f g k =
    record {
      evidence = e;
      sees = sees;
      released = none;
      state = f ∙ ap told h;
      shown = g ∙ ap (λ (x : RecursorState). x.shown) h;
      rebuild = k ∙ ap (λ (x : RecursorState). x.asks_rebuild) h;
    }
