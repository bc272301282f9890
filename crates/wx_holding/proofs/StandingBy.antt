-- Calls in which nothing fails, over a backend that stands by what is registered.
use Rattle.std.proofs.Common.{◌≡◌, ◌≤◌, ◌<◌, ◌-◌, ℕ, Bool, true, false, List, [], ◌∷◌, ◌++◌, Some, None, Ok, Err, inl, inr, refl, ap, sym, ◌∙◌, subst, arith, length, get_or, take, drop}
use Rattle.std.specs.Prelude.{Option, filter, if◌then◌else◌, ltb, not}
use Rattle.std.proofs.Math.Seq.{take-length}
use Rattle.std.proofs.lemmas.Bool.{cases_Bool, not-true}
use Rattle.wx_watch.specs.declared.notify_fault.NotifyFault.{NotifyFault}
use Rattle.wx_watch.specs.declared.notify_fault.NotifyFaultKind.{NotifyFaultKind}
use Rattle.wx_tree.specs.Lists.{AllOnce, In}
use Rattle.wx_tree.specs.Paths.{Path, same_part}
use Rattle.wx_tree.specs.Places.{place, spelled}
use Rattle.wx_tree.specs.Trees.{Tree, is_directory_node, is_fit_node, node_at}
use Rattle.wx_tree.specs.declared.node.Node.{Node}
use Rattle.wx_tree.specs.declared.node.Node.TheVariants.{Dir, File, Link}
use Rattle.wx_tree.specs.declared.root.Root.{Root}
use Rattle.wx_tree.proofs.ListLemmas.{In-cases, In-filter}
use Rattle.wx_tree.proofs.PathLemmas.{same-refl, same_part-refl}
use Rattle.wx_recursor.specs.Holding.{deepest_first, put_deep, serves, still_known}
use Rattle.wx_recursor.specs.Identities.{has_identity, named, without}
use Rattle.wx_recursor.specs.Owning.{added_result, answered, answered_result, is_held_back, is_known_otherwise, is_still, owned, registered, taken}
use Rattle.wx_recursor.specs.Seen.{identity_at, look_at_node, watch_of_node, watched_at}
use Rattle.wx_recursor.specs.Sound.{AreSound, IdentitiesOnce, things}
use Rattle.wx_recursor.specs.States.{RecursorState}
use Rattle.wx_recursor.specs.Steps.{idle_registrations, released, serving_registrations, unwatch_each}
use Rattle.wx_recursor.specs.declared.answers.AddResult.{AddResult}
use Rattle.wx_recursor.specs.declared.answers.AddResult.TheVariants.{LeftOut, Stands}
use Rattle.wx_recursor.specs.declared.answers.Look.{Look}
use Rattle.wx_recursor.specs.declared.answers.Watched.TheVariants.{Kept}
use Rattle.wx_recursor.specs.declared.known.Identity.{Identity}
use Rattle.wx_recursor.specs.declared.known.Identity.TheVariants.{Canonical, Lexical}
use Rattle.wx_recursor.specs.declared.known.Known.{Known}
use Rattle.wx_recursor.specs.declared.owner.GuardWatch.{GuardWatch}
use Rattle.wx_recursor.specs.declared.work.Work.{Work}
use Rattle.wx_recursor.proofs.SoundLemmas.{has_there}
use Rattle.wx_scan.specs.Backings.{AllSpellPaths, Backing, Changes, GivesUp, IsExact, WatchesAt, is_memory, is_registered, is_watch_fault, register, unregister}
use Rattle.wx_scan.specs.Looked.{Looked, OnlyLooks, Rose}
use Rattle.wx_scan.specs.Told.{SpellsPath}
use Rattle.wx_holding.specs.Backed.{AreRegistered, AreWatched, LetsGo, paths_spelled}
use Rattle.wx_holding.specs.Calm.{AddsCalmly, IsFit, IsReadable, IsStill, ReleasesCalmly, StandsBy}
use Rattle.wx_holding.specs.Standing.{AreLeft, AreToGo, GoCalmly, IsAtTree}
use Rattle.wx_holding.proofs.LettingGo.{deep_from, deepest_from, keeps_released, one_given, released_registrations, spelled_from, there_registered}
use Rattle.wx_holding.proofs.Watching.{keeps_watch, rose_later, rose_sooner}

-- ---- where no look fails, none of its parts does

pub still_before : (t : Tree) (a b c : Looked) → OnlyLooks b c → IsStill t a c → IsStill t a b
still_before t a b c more still = record { told = still.told; no_fault = λ rose. still.no_fault (rose_later a.faults b.faults c.faults rose more.faults) }

pub still_after : (t : Tree) (a b c : Looked) → OnlyLooks a b → IsStill t a c → IsStill t b c
still_after t a b c first still = record { told = first.same.tree ∙ still.told; no_fault = λ rose. still.no_fault (rose_sooner a.faults b.faults c.faults first.faults rose) }

-- ---- what a second look finds

-- a directory or a file is found again under its identity
fit_still : (p : Path) (n : Option Node) → is_fit_node n ≡ true → is_still p (if is_directory_node n then Canonical p else Lexical p) (look_at_node p n) ≡ true
fit_still p None h = cc
fit_still p (Some Dir) h = same-refl p
fit_still p (Some (File stamp)) h = same-refl p
fit_still p (Some (Link target)) h = cc

fit_watch : (p : Path) (n : Option Node) → is_fit_node n ≡ true → watch_of_node p n ≡ Kept (look_at_node p n)
fit_watch p None h = cc
fit_watch p (Some Dir) h = refl
fit_watch p (Some (File stamp)) h = refl
fit_watch p (Some (Link target)) h = refl

pub still_found : (t : Tree) (p : Path) (i : Identity) (look : Look) → IsFit t p → i ≡ identity_at t p → look ≡ look_at_node p (node_at t p) → is_still p i look ≡ true
still_found t p i look fit e f = rw (e, f) (fit_still p (node_at t p) fit.1)

-- a directory or a file doesn't change
pub never_changed : (t : Tree) (p : Path) (i : Identity) (look : Look) (answer : Bool) (Y : Type 0) → IsFit t p → i ≡ identity_at t p → look ≡ look_at_node p (node_at t p) → answer ≡ is_still p i look → answer ≡ false → Y
never_changed t p i look answer Y fit e f g h = (let z : false ≡ true = sym h ∙ (g ∙ still_found t p i look fit e f) in cc)

-- so it is registered
fit_answered : (t : Tree) (p : Path) (i : Identity) (s : RecursorState) → IsFit t p → i ≡ identity_at t p → (answered p i (watched_at t p) None s ≡ registered p i s) × (answered_result p i (watched_at t p) s ≡ Stands)
fit_answered t p i s fit e =
    let w : watched_at t p ≡ Kept (look_at_node p (node_at t p)) = fit_watch p (node_at t p) fit.1 in
    let still : is_still p i (look_at_node p (node_at t p)) ≡ true = still_found t p i (look_at_node p (node_at t p)) fit e refl in
    rw (w, still) (refl, refl)

pub now_registered : (p q : Path) (i j : Identity) (gs ws : List Known) (s : RecursorState) → q ≡ p → j ≡ i → gs ≡ s.registrations ++ record { path = q; identity = j } ∷ [] → ws ≡ without i s.waiting
    → record s { registrations = gs; waiting = ws } ≡ registered p i s
now_registered p q i j gs ws s e f g h = rw (g, h, e, f) refl

-- ---- how a calm addition ends

pub calm_excludes : (t : Tree) (p q : Path) (i : Identity) (es : List Path) (s : RecursorState) → is_known_otherwise p i s ≡ true → q ≡ p → es ≡ s.excluded ++ q ∷ []
    → AddsCalmly t p i s (record s { excluded = es; asks_rebuild = true }) LeftOut
calm_excludes t p q i es s h e f = (rw (h, f, e) refl, rw h refl)

pub calm_shares : (t : Tree) (p : Path) (i : Identity) (s : RecursorState) → is_known_otherwise p i s ≡ false → has_identity i s.registrations ≡ true → AddsCalmly t p i s s Stands
calm_shares t p i s h k = (rw (h, k) refl, rw (h, k) refl)

pub calm_leaves : (t : Tree) (p : Path) (i : Identity) (s : RecursorState) → is_known_otherwise p i s ≡ false → has_identity i s.registrations ≡ false → is_held_back p s ≡ true → AddsCalmly t p i s s LeftOut
calm_leaves t p i s h k b = (rw (h, k, b) refl, rw (h, k, b) refl)

pub calm_registers : (t : Tree) (p : Path) (i : Identity) (s u : RecursorState) (end : AddResult) → is_known_otherwise p i s ≡ false → has_identity i s.registrations ≡ false → is_held_back p s ≡ false
    → IsFit t p → i ≡ identity_at t p → u ≡ registered p i s → end ≡ Stands → AddsCalmly t p i s u end
calm_registers t p i s u end h k b fit e f g =
    let x = fit_answered t p i s fit e in
    (rw (h, k, b) (f ∙ sym x.0), rw (h, k, b) (g ∙ sym x.1))

-- ---- the backend of a calm addition

-- a backend of the same paths, of which no call failed
abbrev quiet : List (List ℕ) → Backing
quiet paths = record { registrations = paths; brought = []; faults = 0; exact = true }

no_rise : Rose 0 0 → ⊥
no_rise (inl lt) = omega arith
no_rise (inr end) = omega arith

pub all_spell : (t : Tree) (paths : List (List ℕ)) → ((bytes : List ℕ) → In bytes paths → (p : Path) × SpellsPath t p bytes) → AllSpellPaths t paths
all_spell t [] h = tt
all_spell t (bytes ∷ more) h = (h bytes (inl refl), all_spell t more (λ b m. h b (inr m)))

pub reads_registered : (t : Tree) (gs : List Known) (paths : List (List ℕ)) → AreRegistered gs paths → ((k : Known) → In k gs → IsReadable t k.path) → (bytes : List ℕ) → In bytes paths → (p : Path) × SpellsPath t p bytes
reads_registered t gs paths r readable bytes m =
    let x = r bytes m in
    (x.0.path, subst (SpellsPath t x.0.path) (sym x.2) (readable x.0 x.1))

-- what stands by what is registered is at the tree
pub at_tree : (t : Tree) (gs : List Known) (a : Backing) (X : Type 0) → StandsBy t gs a X → IsAtTree t a X
at_tree t gs a X h = record { exact = h.exact; readable = reads_registered t gs a.registrations h.registered h.readable; seen = h.seen }

pub is_exact : (t : Tree) (a : Backing) (before after : Looked) → a.exact ≡ true → IsStill t before after → IsExact a before after t
is_exact t a before after e still = record { exact = e; told = still.told; no_fault = still.no_fault }

-- what it watches, and a path beside, are paths of the tree
pub spell_all : (t : Tree) (bytes : List ℕ) (p : Path) (a : Backing) (X : Type 0) → SpellsPath t p bytes → IsAtTree t a X → AllSpellPaths t (bytes ∷ a.registrations)
spell_all t bytes p a X spells h = ((p, spells), all_spell t a.registrations h.readable)

pub spells_as : (t : Tree) (p : Path) (bytes : List ℕ) → bytes ≡ spelled p → IsReadable t p → SpellsPath t p bytes
spells_as t p bytes e h = subst (SpellsPath t p) (sym e) h

-- the same registrations
pub stands_same : (t : Tree) (gs hs : List Known) (a : Backing) (X : Type 0) → hs ≡ gs → StandsBy t gs a X → StandsBy t hs a X
stands_same t gs hs a X e h = subst (λ xs. StandsBy t xs a X) (sym e) h

-- a path was watched, and is registered now
pub stands_more : (t : Tree) (p : Path) (i : Identity) (bytes : List ℕ) (gs hs : List Known) (a b : Backing) (X Y : Type 0) → bytes ≡ spelled p → place bytes ≡ p → IsReadable t p → Changes (register bytes) is_watch_fault (Ok tt) a b
    → hs ≡ gs ++ named p i ∷ [] → StandsBy t gs a X → Y → StandsBy t hs b Y
stands_more t p i bytes gs hs a b X Y spells back readable changes e h seen =
    let now : Changes (register bytes) is_watch_fault (Ok tt) (quiet a.registrations) (quiet b.registrations) = record { registrations = changes.registrations; brought = refl; faults = omega arith; failed = λ never. cc; exact = refl } in
    let kept = keeps_watch (named p i) bytes is_watch_fault gs hs (quiet a.registrations) (quiet b.registrations) spells back now e in
    record {
      exact = changes.exact ∙ h.exact;
      watched = kept.watched h.watched;
      registered = kept.registered no_rise h.registered;
      readable = λ k m. elim (In-cases k gs (named p i ∷ []) (subst (In k) e m)) [
        | inl old ↦ h.readable k old
        | inr new ↦ elim new [ inl is ↦ subst (λ (x : Known). IsReadable t x.path) is readable | inr never ↦ absurd never ]
      ];
      seen = seen;
    }

-- an exact backend refuses nothing that is there
pub none_refused : (t : Tree) (p : Path) (f : NotifyFault) (Y : Type 0) → IsFit t p → is_memory f.kind ≡ false → WatchesAt t p (Err f) → Y
none_refused t p f Y fit memory h =
    let none : node_at t p ≡ None = (h memory).0 in
    let z : false ≡ true = sym (ap is_fit_node none) ∙ fit.1 in
    cc

-- ---- a calm ownership

pub calm_owned : (t : Tree) (r : Root) (p : Path) (i : Identity) (scans : Bool) (item : Work) (s a u : RecursorState) (result end : AddResult) → result ≡ end → AddsCalmly t p i s a result → u ≡ taken r p i scans item end a
    → u ≡ owned r p i scans item (watched_at t p) None s
calm_owned t r p i scans item s a u result end e h f =
    f ∙ ap (λ x. taken r p i scans item x a) (sym e ∙ h.1) ∙ ap (taken r p i scans item (added_result p i (watched_at t p) s)) h.0

-- ---- giving up

-- an exact backend gives up what it watches
pub refused_none : (f : NotifyFault) (Y : Type 0) → is_memory f.kind ≡ false → GivesUp (Err f) → Y
refused_none f Y memory h = (let z : false ≡ true = sym memory ∙ h in cc)

pub registered_there : (p : Path) (bytes : List ℕ) (paths : List (List ℕ)) → bytes ≡ spelled p → In (spelled p) paths → is_registered bytes paths ≡ true
registered_there p bytes paths e m = there_registered bytes paths (subst (λ x. In x paths) (sym e) m)

pub spell_there : (t : Tree) (p : Path) (bytes : List ℕ) (a : Backing) (X : Type 0) → bytes ≡ spelled p → In (spelled p) a.registrations → IsAtTree t a X → AllSpellPaths t (bytes ∷ a.registrations)
spell_there t p bytes a X e m h = (h.readable bytes (subst (λ x. In x a.registrations) (sym e) m), all_spell t a.registrations h.readable)

given_differs : (p q : List ℕ) → not (same_part q p) ≡ true → p ≡ q → ⊥
given_differs p q h e =
    let t : same_part q p ≡ true = subst (λ y. same_part q y ≡ true) (sym e) (same_part-refl q) in
    let z : true ≡ false = sym t ∙ not-true (same_part q p) h in
    cc

left_at_tree : (t : Tree) (given : List (List ℕ)) (a b : Backing) (X Y : Type 0) → AreLeft given a.registrations b.registrations → b.exact ≡ a.exact → IsAtTree t a X → Y → IsAtTree t b Y
left_at_tree t given a b X Y left e h seen = record { exact = e ∙ h.exact; readable = λ bytes m. h.readable bytes (left bytes m).0; seen = seen }

pub calm_unwatched : (t : Tree) (p : Path) (bytes : List ℕ) (s : RecursorState) (is_one : NotifyFaultKind → Bool) (a b : Backing) (X Y : Type 0) → bytes ≡ spelled p → Changes (unregister bytes) is_one (Ok tt) a b → IsAtTree t a X → Y
    → GoCalmly t (spelled p ∷ []) s s a b Y
calm_unwatched t p bytes s is_one a b X Y e changes h seen =
    let left : AreLeft (spelled p ∷ []) a.registrations b.registrations = λ q m.
    (let x = In-filter (λ x. not (same_part x bytes)) q a.registrations (subst (In q) changes.registrations m) in
    (x.0, λ given. absurd (given_differs bytes q x.1 (e ∙ one_given (spelled p) q given)))) in
    record { state = refl; left = left; at_tree = left_at_tree t (spelled p ∷ []) a b X Y left changes.exact h seen }

-- ---- one after the other

-- what is to be given up in a loop: it can be, and what is left by the rest is what is left by all
pub record IsLeaving (t : Tree) (given rest : List Known) (s u : RecursorState) (a b : Backing) (has_seen : Type 0) : Type 0 where
  pub state : u ≡ s
  pub to_go : AreToGo (paths_spelled rest) b.registrations
  pub left : (after : List (List ℕ)) → AreLeft (paths_spelled rest) b.registrations after → AreLeft (paths_spelled given) a.registrations after
  pub at_tree : IsAtTree t b has_seen

pub leaving_begins : (t : Tree) (given : List Known) (s : RecursorState) (a : Backing) (X : Type 0) → IsAtTree t a X → AreToGo (paths_spelled given) a.registrations → IsLeaving t given given s s a a X
leaving_begins t given s a X h to_go = record { state = refl; to_go = to_go; left = λ after left. left; at_tree = h }

-- the first of them is there
pub first_there : (t : Tree) (given rest : List Known) (k : Known) (s u : RecursorState) (a b : Backing) (X : Type 0) → 1 ≤ length rest → get_or rest 0 k ≡ k → IsLeaving t given rest s u a b X → In (spelled k.path) b.registrations
first_there t given [] k s u a b X le e h = absurd (omega arith)
first_there t given (y ∷ ys) k s u a b X le e h = subst (λ (x : Known). In (spelled x.path) b.registrations) e (h.to_go.1 (spelled y.path) (inl refl))

one_less : (p : List ℕ) (qs before between after : List (List ℕ)) → AreLeft (p ∷ []) before between → AreLeft qs between after → AreLeft (p ∷ qs) before after
one_less p qs before between after first more bytes m =
    let x = more bytes m in
    let y = first bytes x.0 in
    (y.0, λ given. elim given [ inl e ↦ y.1 (inl e) | inr n ↦ x.1 n ])

still_to_go : (p : List ℕ) (qs : List (List ℕ)) (a b : Backing) → AreToGo (p ∷ qs) a.registrations → LetsGo (p ∷ []) a b → AreToGo qs b.registrations
still_to_go p qs a b h l = (h.0.1, λ bytes m. l.others bytes (h.1 bytes (inr m)) (λ given. h.0.0 (subst (λ x. In x qs) (sym (one_given p bytes given)) m)))

leaves_first : (t : Tree) (given ys : List Known) (y : Known) (s u v : RecursorState) (a b d : Backing) (X Y : Type 0) → IsLeaving t given (y ∷ ys) s u a b X → LetsGo (spelled y.path ∷ []) b d → GoCalmly t (spelled y.path ∷ []) u v b d Y → IsLeaving t given ys s v a d Y
leaves_first t given ys y s u v a b d X Y h l go = record {
  state = go.state ∙ h.state;
  to_go = still_to_go (spelled y.path) (paths_spelled ys) b d h.to_go l;
  left = λ after more. h.left after (one_less (spelled y.path) (paths_spelled ys) b.registrations d.registrations after go.left more);
  at_tree = go.at_tree;
}

pub leaving_goes_on : (t : Tree) (given rest : List Known) (k : Known) (n : ℕ) (s u v : RecursorState) (a b d : Backing) (X Y : Type 0) → 1 ≤ length rest → n ≡ length rest → get_or rest 0 k ≡ k
    → IsLeaving t given rest s u a b X → LetsGo (spelled k.path ∷ []) b d → GoCalmly t (spelled k.path ∷ []) u v b d Y → IsLeaving t given (take (n - 1) (drop 1 rest)) s v a d Y
leaving_goes_on t given [] k n s u v a b d X Y le e f h l go = absurd (omega arith)
leaving_goes_on t given (y ∷ ys) k n s u v a b d X Y le e f h l go =
    let m : n - 1 ≡ length ys = omega arith in
    let all : take (n - 1) ys ≡ ys = rw (m, take-length ys) refl in
    let l' = subst (λ (x : Known). LetsGo (spelled x.path ∷ []) b d) (sym f) l in
    let go' = subst (λ (x : Known). GoCalmly t (spelled x.path ∷ []) u v b d Y) (sym f) go in
    subst (λ x. IsLeaving t given x s v a d Y) (sym all) (leaves_first t given ys y s u v a b d X Y h l' go')

pub leaving_ends : (t : Tree) (given rest : List Known) (s u : RecursorState) (a b : Backing) (X : Type 0) → length rest < 1 → IsLeaving t given rest s u a b X → GoCalmly t (paths_spelled given) s u a b X
leaving_ends t given [] s u a b X lt h = record { state = h.state; left = h.left b.registrations (λ bytes m. (m, λ never. never)); at_tree = h.at_tree }
leaving_ends t given (y ∷ ys) s u a b X lt h = absurd (omega arith)

-- ---- what serves nothing is let go

-- what is registered is there once
all_once : (ks : List Known) → IdentitiesOnce ks → AllOnce ks
all_once [] h = tt
all_once (k ∷ ks) h = (λ m. (let z : true ≡ false = sym (has_there k ks m) ∙ h.0 in cc), all_once ks h.1)

once_kept : (f : Known → Bool) (ks : List Known) → AllOnce ks → AllOnce (filter f ks)
once_kept f [] h = tt
once_kept f (k ∷ ks) h =
    elim (cases_Bool (f k)) [
      | inl e ↦ rw e (λ m. h.0 (In-filter f k ks m).0, once_kept f ks h.1)
      | inr e ↦ rw e (once_kept f ks h.1)
    ]

once_deep : (k : Known) (xs : List Known) → (In k xs → ⊥) → AllOnce xs → AllOnce (put_deep k xs)
once_deep k [] new h = (λ never. never, tt)
once_deep k (y ∷ ys) new h =
    elim (cases_Bool (ltb (length y.path) (length k.path))) [
      | inl e ↦ rw e (new, h)
      | inr e ↦ rw e (
        λ m. elim (deep_from k y ys m) [ inl is ↦ new (inl (sym is)) | inr old ↦ h.0 old ],
        once_deep k ys (λ m. new (inr m)) h.1,
      )
    ]

once_deepest : (ks out : List Known) → AllOnce ks → AllOnce out → ((k : Known) → In k ks → In k out → ⊥) → AllOnce (deepest_first ks out)
once_deepest [] out h o apart = o
once_deepest (k ∷ ks) out h o apart =
    once_deepest ks (put_deep k out) h.1 (once_deep k out (apart k (inl refl)) o)
    (λ x m n. elim (deep_from k x out n) [ inl is ↦ h.0 (subst (λ y. In y ks) (sym is) m) | inr old ↦ apart x (inr m) old ])

-- paths that are told apart by their bytes
once_spelled : (ks : List Known) → AllOnce ks → ((k l : Known) → In k ks → In l ks → spelled k.path ≡ spelled l.path → k ≡ l) → AllOnce (paths_spelled ks)
once_spelled [] h one = tt
once_spelled (k ∷ ks) h one = (
  λ m. (let x = spelled_from (spelled k.path) ks m in h.0 (subst (λ y. In y ks) (one x.0 k (inr x.1) (inl refl) x.2) x.1)),
  once_spelled ks h.1 (λ x y m n. one x y (inr m) (inr n)),
)

idle_registered : (ks : List Known) (gs : List GuardWatch) (registrations : List Known) (k : Known) → In k (idle_registrations ks gs registrations) → In k registrations
idle_registered ks gs registrations k m =
    elim (deepest_from k (filter (λ (g : Known). not (serves ks gs g.identity)) registrations) [] m) [
      | inl old ↦ (In-filter (λ (g : Known). not (serves ks gs g.identity)) k registrations old).0
      | inr never ↦ absurd never
    ]

same_known : (k l : Known) → k.path ≡ l.path → k.identity ≡ l.identity → k ≡ l
same_known k l e f = rw (e, f) refl

-- so it can be given up
pub idle_to_go : (s : RecursorState) (idle : List Known) (paths : List (List ℕ)) → idle ≡ idle_registrations (still_known s.owners s.known) s.guards s.registrations → AreSound (things s) → AreWatched s.registrations paths → AreToGo (paths_spelled idle) paths
idle_to_go s idle paths is sound w =
    let ks : List Known = still_known s.owners s.known in
    let all : List Known = idle_registrations ks s.guards s.registrations in
    let once : AllOnce all = once_deepest (filter (λ (g : Known). not (serves ks s.guards g.identity)) s.registrations) [] (once_kept (λ (g : Known). not (serves ks s.guards g.identity)) s.registrations (all_once s.registrations sound.once)) tt (λ k m never. never) in
    let there : (k : Known) → In k all → In k s.registrations = idle_registered ks s.guards s.registrations in
    subst (λ xs. AreToGo (paths_spelled xs) paths) (sym is) (
      once_spelled all once (λ k l m n e.
          (let same : k.path ≡ l.path = sym (w k (there k m)).1 ∙ (ap place e ∙ (w l (there l n)).1) in
          same_known k l same (sound.uniform k l (inr (inr (inl (there k m)))) (inr (inr (inl (there l n)))) same))),
      λ bytes m. (let x = spelled_from bytes all m in subst (λ y. In y paths) x.2 (w x.0 (there x.0 x.1)).0),
    )

-- where none is refused, the state stays
pub none_unwatched : (gs : List Known) (s u : RecursorState) → u ≡ s → u ≡ unwatch_each gs [] s
none_unwatched [] s u e = e
none_unwatched (g ∷ gs) s u e = e

pub calm_released : (s u : RecursorState) → u ≡ released [] s → ReleasesCalmly s u
calm_released s u e = ([], λ x never. absurd never, e)

pub stands_released : (t : Tree) (s u : RecursorState) (idle : List Known) (a b : Backing) (X Y : Type 0) → idle ≡ idle_registrations (still_known s.owners s.known) s.guards s.registrations → u ≡ released [] s
    → LetsGo (paths_spelled idle) a b → AreLeft (paths_spelled idle) a.registrations b.registrations → IsAtTree t b Y → AreSound (things s) → StandsBy t s.registrations a X → StandsBy t u.registrations b Y
stands_released t s u idle a b X Y is e l left at sound h =
    let ks : List Known = still_known s.owners s.known in
    let now : LetsGo (paths_spelled idle) (quiet a.registrations) (quiet b.registrations) = record { others = l.others; gone = λ never. left; faults = omega arith; brought = refl; exact = refl } in
    let kept = keeps_released s u [] idle (quiet a.registrations) (quiet b.registrations) is e now sound in
    let stays : u.registrations ≡ serving_registrations ks s.guards s.registrations = ap (λ x. x.registrations) e ∙ released_registrations [] s in
    record {
      exact = at.exact;
      watched = kept.watched h.watched;
      registered = kept.registered no_rise h.registered;
      readable = λ k m. h.readable k (In-filter (λ (g : Known). serves ks s.guards g.identity) k s.registrations (subst (In k) stays m)).0;
      seen = at.seen;
    }
