-- A poller that fits a tree still does.
use Rattle.std.proofs.Common.{◌≡◌, ℕ, ◌+◌, length-append, Bool, true, false, cond, Option, None, Some, Result, Ok, Err, List, [], ◌∷◌, ◌++◌, arith, refl, ap, sym, subst, ◌∙◌, inl, inr}
use Rattle.std.proofs.Math.Seq.{take-append_seam}
use Rattle.std.specs.Prelude.{◌-◌, take, ◌&&◌, ◌||◌, ◌==◌, IfNone, IfSome, filter, is_some, length, map, not, option_map}
use Rattle.std.specs.Option.{option_or}
use Rattle.std.proofs.lemmas.Bool.{both_ways, cases_Bool, eqb-true, not-true, or_right}
use Rattle.std.proofs.Math.Bool.{or-false, or_assoc}
use Rattle.wx_events.specs.declared.file_type.FileType.{FileType}
use Rattle.wx_events.specs.declared.file_type.FileType.TheVariants as type
use Rattle.wx_notify.specs.declared.notify.Notify.{Notify}
use Rattle.wx_tree.specs.Lists.{In}
use Rattle.wx_tree.specs.Paths.{Path, has_entry, same_part}
use Rattle.wx_tree.specs.Places.{place}
use Rattle.wx_tree.specs.Trees.{Tree, is_directory, is_directory_node, is_there_node, node_at}
use Rattle.wx_tree.specs.declared.node.Node.{Node}
use Rattle.wx_tree.specs.declared.node.Node.TheVariants.{Dir, File, Link}
use Rattle.wx_tree.proofs.ListLemmas.{In-filter}
use Rattle.wx_tree.proofs.PathLemmas.{same_part-refl, same_part-true}
use Rattle.wx_scan.specs.Backings.{AllSpellPaths, Backing, BringsNoChange, failed_by, IsExact, is_memory, is_registered, is_watch_fault, register, tells_change, unregister}
use Rattle.wx_scan.specs.Looked.{Looked, Rose}
use Rattle.wx_scan.specs.Told.{IsNamed, SpellsPath}
use Rattle.wx_scan.specs.declared.scanner.ScanError.{ScanError}
use Rattle.wx_scan.specs.declared.scanner.ScanError.TheVariants.{Memory as OutOfMemory}
use Rattle.wx_scan.proofs.LookLemmas.{registered_in}
use Rattle.wx_watch.specs.declared.notify_fault.NotifyFault.{NotifyFault}
use Rattle.wx_watch.specs.declared.notify_fault.NotifyFaultKind.{NotifyFaultKind}
use Rattle.wx_watch.specs.declared.notify_fault.NotifyFaultKind.TheVariants.{Generic, InvalidConfig, Io, MaxFilesWatch, Memory, PathNotFound, WatchNotFound}
use Rattle.wx_poller.specs.declared.seen.Seen.{Seen}
use Rattle.wx_poller.specs.Changes.{changes, creation, has_type, is_kept, is_modified, modification, removal, told}
use Rattle.wx_poller.specs.Covering.{covers, is_covered, is_lone}
use Rattle.wx_poller.specs.Fitting.{Agrees, FitsTree, IsTold, NoneTells, any_shows, is_spelled, shown, shows, type_of}
use Rattle.wx_poller.specs.Listings.{IsMap, Sight, same_type, seen_at, type_at}
use Rattle.wx_poller.specs.declared.poller.Poller.{Poller}
use Rattle.wx_poller.specs.Polled.{Brought, Gives, GivesNext, IsPending, TellsNone, fault_of, gives_next}
use Rattle.wx_poller.proofs.Shown.{spelled_of}

abbrev Kind : Type 0
Kind = Option FileType

abbrev kind_of_seen : Option Seen → Kind
kind_of_seen x = option_map (λ s. s.file_type) x

-- an exact poller follows no links
pub exact_told : (backing : Backing) (follow : Bool) (a b : Looked) (t : Tree) → backing.exact ≡ not follow → IsExact backing a b t → IsTold t follow a b
exact_told backing follow a b t e x = record { no_links = not-true follow (sym e ∙ x.exact); told = x.told; no_fault = x.no_fault }

pub new_fits : (t : Tree) (rs : List (List ℕ)) (events : List Notify) (seen : List Sight) → IsNamed t → rs ≡ [] → events ≡ [] → seen ≡ [] → FitsTree t rs events seen
new_fits t rs events seen named r e s = record {
  named = named;
  quiet = subst NoneTells (sym e) tt;
  agrees = λ p. ap (λ es. type_at es p) s ∙ sym (ap (λ ks. shown t ks p) r);
}

-- ---- watch

shows_last : (t : Tree) (r p : List ℕ) (rs : List (List ℕ)) → any_shows t (rs ++ r ∷ []) p ≡ (any_shows t rs p || shows t r p)
shows_last t r p [] = or-false (shows t r p)
shows_last t r p (k ∷ rs) = ap (λ b. shows t k p || b) (shows_last t r p rs) ∙ sym (or_assoc (shows t k p) (any_shows t rs p) (shows t r p))

shown_last : (t : Tree) (r p : List ℕ) (rs : List (List ℕ)) → option_or (shown t rs p) (shown t (r ∷ []) p) ≡ shown t (rs ++ r ∷ []) p
shown_last t r p rs = rw (shows_last t r p rs) (last (any_shows t rs p) (shows t r p) (is_spelled p) (type_of (node_at t (place p))))
  where
    last : (a b s : Bool) (T : Kind) → option_or (cond (a && s) T None) (cond ((b || false) && s) T None) ≡ cond ((a || b) && s) T None
    last true true true None = refl
    last true true true (Some k) = refl
    last true true false T = refl
    last true false true None = refl
    last true false true (Some k) = refl
    last true false false T = refl
    last false true s T = refl
    last false false s T = refl

kind_or : (x y : Option Seen) → kind_of_seen (option_or x y) ≡ option_or (kind_of_seen x) (kind_of_seen y)
kind_or None y = refl
kind_or (Some s) y = refl

right_none : (T x : Kind) → x ≡ None → option_or T x ≡ T
right_none None x e = e
right_none (Some k) x e = refl

pub watch_fits : (t : Tree) (r : List ℕ) (rs : List (List ℕ)) (events : List Notify) (empty fresh old new : List Sight) → empty ≡ []
    → ((p : List ℕ) → type_at fresh p ≡ option_or (shown t (r ∷ []) p) (type_at empty p))
    → ((p : List ℕ) → seen_at new p ≡ cond (is_registered r rs) (seen_at old p) (option_or (seen_at old p) (seen_at fresh p)))
    → FitsTree t rs events old → FitsTree t (register r rs) events new
watch_fits t r rs events empty fresh old new e f h k = record {
  named = k.named;
  quiet = k.quiet;
  agrees = λ p. elim (cases_Bool (is_registered r rs)) [
    | inl a ↦ (let n : seen_at new p ≡ seen_at old p = h p ∙ ap (λ b. cond b (seen_at old p) (option_or (seen_at old p) (seen_at fresh p))) a in
        let m : type_at new p ≡ shown t rs p = ap kind_of_seen n ∙ k.agrees p in
        rw a m)
    | inr a ↦ (let n : seen_at new p ≡ option_or (seen_at old p) (seen_at fresh p) = h p ∙ ap (λ b. cond b (seen_at old p) (option_or (seen_at old p) (seen_at fresh p))) a in
        let g : type_at fresh p ≡ shown t (r ∷ []) p = f p ∙ right_none (shown t (r ∷ []) p) (type_at empty p) (ap (λ es. type_at es p) e) in
        let m : type_at new p ≡ shown t (rs ++ r ∷ []) p =
        ap kind_of_seen n ∙ (kind_or (seen_at old p) (seen_at fresh p) ∙ (ap (λ (z : Kind). option_or z (type_at fresh p)) (k.agrees p) ∙ (ap (λ (z : Kind). option_or (shown t rs p) z) g ∙ shown_last t r p rs))) in
        rw a m)
  ];
}

-- where the listing stays, so it does
pub same_fits : (t : Tree) (rs ks : List (List ℕ)) (events : List Notify) (old new : List Sight) → ks ≡ rs → ((p : List ℕ) → seen_at new p ≡ seen_at old p) → FitsTree t rs events old → FitsTree t ks events new
same_fits t rs ks events old new e h k = record { named = k.named; quiet = k.quiet; agrees = λ p. ap kind_of_seen (h p) ∙ (k.agrees p ∙ sym (ap (λ xs. shown t xs p) e)) }

-- ---- unwatch

shows_there : (t : Tree) (r p : List ℕ) (rs : List (List ℕ)) → In r rs → shows t r p ≡ true → any_shows t rs p ≡ true
shows_there t r p [] i h = absurd i
shows_there t r p (k ∷ rs) (inl e) h = (let m : shows t k p ≡ true = ap (λ x. shows t x p) e ∙ h in rw m refl)
shows_there t r p (k ∷ rs) (inr i) h = or_right (shows t k p) (any_shows t rs p) (shows_there t r p rs i h)

this_kind : (k : FileType) (x : Option Seen) → kind_of_seen x ≡ Some k → has_type type.Dir x ≡ same_type k type.Dir
this_kind k None h = absurd cc
this_kind k (Some s) h = (let e : s.file_type ≡ k = cc in ap (λ (z : FileType). same_type z type.Dir) e)

directory_seen : (x : Option Seen) (n : Option Node) → kind_of_seen x ≡ type_of n → has_type type.Dir x ≡ is_directory_node n
directory_seen x None h = no_kind x h
  where
    no_kind : (x : Option Seen) → kind_of_seen x ≡ None → has_type type.Dir x ≡ false
    no_kind None h = refl
    no_kind (Some s) h = absurd cc
directory_seen x (Some Dir) h = this_kind type.Dir x h
directory_seen x (Some (File stamp)) h = this_kind type.File x h
directory_seen x (Some (Link target)) h = this_kind type.Symlink x h

-- a registered path covers in the listing what it shows in the tree
covers_shown : (t : Tree) (q : Path) (r p : List ℕ) (rs : List (List ℕ)) (seen : List Sight) → Agrees t rs seen → SpellsPath t q r → In r rs → covers seen r p ≡ shows t r p
covers_shown t q r p rs seen h s i =
    let a : any_shows t rs r ≡ true = shows_there t r r rs i (rw (same_part-refl r) refl) in
    let b : shown t rs r ≡ type_of (node_at t (place r)) = rw (a, spelled_of t q r s) refl in
    let d : has_type type.Dir (seen_at seen r) ≡ is_directory t (place r) = directory_seen (seen_at seen r) (node_at t (place r)) (h r ∙ b) in
    ap (λ x. same_part r p || (x && has_entry (place r) (place p))) d

spelled_in : (t : Tree) (r : List ℕ) (rs : List (List ℕ)) → AllSpellPaths t rs → In r rs → (q : Path) × SpellsPath t q r
spelled_in t r [] h i = absurd i
spelled_in t r (k ∷ rs) h (inl e) = (h.0.0, subst (SpellsPath t h.0.0) e h.0.1)
spelled_in t r (k ∷ rs) h (inr i) = spelled_in t r rs h.1 i

covered_shown : (t : Tree) (p : List ℕ) (ks rs : List (List ℕ)) (seen : List Sight) → Agrees t rs seen → AllSpellPaths t rs → ((r : List ℕ) → In r ks → In r rs) → is_covered seen ks p ≡ any_shows t ks p
covered_shown t p [] rs seen h s f = refl
covered_shown t p (k ∷ ks) rs seen h s f =
    let i = f k (inl refl) in
    let w = spelled_in t k rs s i in
    let c : covers seen k p ≡ shows t k p = covers_shown t w.0 k p rs seen h w.1 i in
    let m : is_covered seen ks p ≡ any_shows t ks p = covered_shown t p ks rs seen h s (λ r j. f r (inr j)) in
    rw (c, m) refl

shows_apart : (t : Tree) (r p : List ℕ) (rs : List (List ℕ)) → any_shows t rs p ≡ (any_shows t (unregister r rs) p || (is_registered r rs && shows t r p))
shows_apart t r p [] = refl
shows_apart t r p (k ∷ rs) =
    let m = shows_apart t r p rs in
    elim (cases_Bool (same_part k r)) [
      | inl a ↦ (let e : shows t k p ≡ shows t r p = ap (λ x. shows t x p) (same_part-true k r a) in rw (a, e, m) (first (shows t r p) (any_shows t (unregister r rs) p) (is_registered r rs)))
      | inr a ↦ rw (a, m) (sym (or_assoc (shows t k p) (any_shows t (unregister r rs) p) (is_registered r rs && shows t r p)))
    ]
  where
    first : (a b c : Bool) → (a || (b || (c && a))) ≡ (b || (true && a))
    first true true c = refl
    first true false c = refl
    first false true c = refl
    first false false true = refl
    first false false false = refl

left_shown : (a b s : Bool) (T : Kind) (x : Option Seen) → kind_of_seen x ≡ cond ((b || (true && a)) && s) T None → kind_of_seen (cond ((a && not b) && is_some x) None x) ≡ cond (b && s) T None
left_shown true true s T x h = h
left_shown false true s T x h = h
left_shown true false s T None h = refl
left_shown true false s T (Some y) h = refl
left_shown false false s T x h = h

pub unwatch_fits : (t : Tree) (r : List ℕ) (rs ks : List (List ℕ)) (events : List Notify) (old new : List Sight) → AllSpellPaths t rs → is_registered r rs ≡ true → ks ≡ unregister r rs
    → ((p : List ℕ) → seen_at new p ≡ cond (is_lone old r (unregister r rs) p && is_some (seen_at old p)) None (seen_at old p))
    → FitsTree t rs events old → FitsTree t ks events new
unwatch_fits t r rs ks events old new s i e h k = record {
  named = k.named;
  quiet = k.quiet;
  agrees = λ p.
      let here = registered_in r rs i in
      let w = spelled_in t r rs s here in
      let c : covers old r p ≡ shows t r p = covers_shown t w.0 r p rs old k.agrees w.1 here in
      let d : is_covered old (unregister r rs) p ≡ any_shows t (unregister r rs) p = covered_shown t p (unregister r rs) rs old k.agrees s (λ x j. (In-filter (λ q. not (same_part q r)) x rs j).0) in
      let g : kind_of_seen (seen_at old p) ≡ cond ((any_shows t (unregister r rs) p || (true && shows t r p)) && is_spelled p) (type_of (node_at t (place p))) None =
      k.agrees p ∙ ap (λ b. cond (b && is_spelled p) (type_of (node_at t (place p))) None) (shows_apart t r p rs ∙ ap (λ b. any_shows t (unregister r rs) p || (b && shows t r p)) i) in
      let m = left_shown (shows t r p) (any_shows t (unregister r rs) p) (is_spelled p) (type_of (node_at t (place p))) (seen_at old p) g in
      let n : is_lone old r (unregister r rs) p ≡ (shows t r p && not (any_shows t (unregister r rs) p)) = ap (λ b. b && not (is_covered old (unregister r rs) p)) c ∙ ap (λ b. shows t r p && not b) d in
      ap kind_of_seen (h p) ∙ (ap (λ b. kind_of_seen (cond (b && is_some (seen_at old p)) None (seen_at old p))) n ∙ (m ∙ sym (ap (λ xs. shown t xs p) e)));
}

-- ---- next

same_type-refl : (k : FileType) → same_type k k ≡ true
same_type-refl type.File = refl
same_type-refl type.Dir = refl
same_type-refl type.Symlink = refl
same_type-refl type.Other = refl

type_had : (x : Option Seen) (k : FileType) → kind_of_seen x ≡ Some k → has_type k x ≡ true
type_had None k h = absurd cc
type_had (Some s) k h = (let e : s.file_type ≡ k = cc in ap (λ (z : FileType). same_type z k) e ∙ same_type-refl k)

kept : (t : Tree) (rs : List (List ℕ)) (old new : List Sight) → IsMap old → Agrees t rs old → Agrees t rs new → (s : Sight) → In s old → not (is_kept new s) ≡ false
kept t rs old new m f g s i = ap not (type_had (seen_at new s.0) s.1.file_type (g s.0 ∙ (sym (f s.0) ∙ ap kind_of_seen (m s i))))

none_left : (p : Sight → Bool) (es : List Sight) → ((s : Sight) → In s es → p s ≡ false) → filter p es ≡ []
none_left p [] h = refl
none_left p (e ∷ es) h = rw (h e (inl refl)) (none_left p es (λ s i. h s (inr i)))

modifications : (es : List Sight) → NoneTells (map (told modification) es)
modifications [] = tt
modifications (e ∷ es) = (refl, modifications es)

pub quiet_changes : (t : Tree) (rs : List (List ℕ)) (old new : List Sight) → IsMap old → IsMap new → Agrees t rs old → Agrees t rs new → NoneTells (changes old new)
quiet_changes t rs old new m n f g =
    rw (none_left (λ s. not (is_kept new s)) old (kept t rs old new m f g), none_left (λ s. not (is_kept old s)) new (kept t rs new old n g f)) (modifications (filter (is_modified old) new))

pub given_quiet : (events rest : List Notify) (found : Option Notify) → Gives events found rest → NoneTells events → NoneTells rest × TellsNone found
given_quiet events rest None h q = (subst NoneTells (sym h.1) tt, tt)
given_quiet events rest (Some event) h q = (let k : NoneTells (event ∷ rest) = subst NoneTells h q in (k.1, k.0))

pub next_fits : (t : Tree) (rs ks : List (List ℕ)) (events rest : List Notify) (found : Option Notify) (new : List Sight) → ks ≡ rs → IsNamed t → NoneTells events → Gives events found rest → Agrees t rs new → FitsTree t ks rest new × TellsNone found
next_fits t rs ks events rest found new e named q h a =
    let k = given_quiet events rest found h q in
    (record { named = named; quiet = k.0; agrees = λ p. a p ∙ sym (ap (λ xs. shown t xs p) e) }, k.1)

-- the first of what pends is given
pub take_gives : (r : Option Notify) (old new all : List Notify) → IfNone r (old ≡ []) → IfNone r (new ≡ []) → IfSome r (λ x. old ≡ x ∷ new) → all ≡ old → Gives all r new
take_gives None old new all h g k e = (e ∙ h, g)
take_gives (Some x) old new all h g k e = e ∙ k

pub pending_given : (ns rest changed : List Notify) (found : Option Notify) → (length ns == 0) ≡ false → Gives ns found rest → Gives (gives_next ns changed) found rest
pending_given [] rest changed found e h = absurd cc
pending_given (n ∷ ns) rest changed found e h = h

pub none_pending : (ns rest changed : List Notify) (found : Option Notify) → (length ns == 0) ≡ true → Gives changed found rest → Gives (gives_next ns changed) found rest
none_pending [] rest changed found e h = h
none_pending (n ∷ ns) rest changed found e h = (let k : length (n ∷ ns) ≡ 0 = eqb-true (length (n ∷ ns)) 0 e in absurd (omega arith))

pub not_pending : (ns : List Notify) → (length ns == 0) ≡ true → IsPending ns → ⊥
not_pending [] e h = h
not_pending (n ∷ ns) e h = (let k : length (n ∷ ns) ≡ 0 = eqb-true (length (n ∷ ns)) 0 e in absurd (omega arith))

pub registered_old : (r : List ℕ) (rs : List (List ℕ)) → is_registered r rs ≡ true → register r rs ≡ rs
registered_old r rs e = rw e refl

pub registered_new : (r : List ℕ) (rs : List (List ℕ)) → is_registered r rs ≡ false → register r rs ≡ rs ++ r ∷ []
registered_new r rs e = rw e refl

-- what was added last is gone again
pub last_gone : {X : Type 0} (xs old new : List X) (r : Option X) (x : X) (n : ℕ) → old ≡ xs ++ x ∷ [] → n ≡ length old → new ≡ take (n - 1) old → new ≡ xs
last_gone {X} xs old new r x n e l f =
    let a : length old ≡ length xs + 1 = ap length e ∙ length-append xs (x ∷ []) in
    let m : n - 1 ≡ length xs = omega (arith, a, l) in
    f ∙ (ap (λ k. take k old) m ∙ (ap (take (length xs)) e ∙ take-append_seam xs (x ∷ [])))

-- ---- the calls

pub kept_fits : (t : Tree) (rs ks : List (List ℕ)) (events pending : List Notify) (old new : List Sight) → ks ≡ rs → pending ≡ events → new ≡ old → FitsTree t rs events old → FitsTree t ks pending new
kept_fits t rs ks events pending old new e f h k = record { named = k.named; quiet = subst NoneTells (sym f) k.quiet; agrees = λ p. ap (λ es. type_at es p) h ∙ (k.agrees p ∙ sym (ap (λ xs. shown t xs p) e)) }

pub no_node : (n : Option Node) → is_there_node n ≡ false → n ≡ None
no_node None e = refl
no_node (Some Dir) e = absurd cc
no_node (Some (File stamp)) e = absurd cc
no_node (Some (Link target)) e = absurd cc

pub watch_fault : (kind : NotifyFaultKind) → is_watch_fault kind ≡ true → not (is_memory kind) ≡ true
watch_fault (Generic text) e = refl
watch_fault (Io code) e = refl
watch_fault PathNotFound e = absurd cc
watch_fault WatchNotFound e = refl
watch_fault InvalidConfig e = refl
watch_fault MaxFilesWatch e = refl
watch_fault Memory e = absurd cc

-- a fault of this kind counts for nothing
pub no_fault : (counts : NotifyFaultKind → Bool) (kind other : NotifyFaultKind) (Risen : Type 0) → kind ≡ other → counts other ≡ false → counts kind ≡ true → Risen
no_fault counts kind other Risen e f h = absurd (both_ways (counts kind) (ap counts e ∙ f) h)

pub is_lack : (kind : NotifyFaultKind) (error : ScanError) → kind ≡ fault_of error → error ≡ OutOfMemory → is_memory kind ≡ true
is_lack kind error e f = ap is_memory (e ∙ ap fault_of f)

abbrev Item : Type 0
Item = Result Notify NotifyFault

pub brought_one : (new mid old : List Item) (item result : Item) → new ≡ item ∷ mid → mid ≡ old → result ≡ item → new ≡ result ∷ old
brought_one new mid old item result e f g = e ∙ (ap (λ l. item ∷ l) f ∙ ap (λ i. i ∷ old) (sym g))

pub event_brought : (r : Item) (event : Notify) (Risen : Type 0) → r ≡ Ok event → failed_by (λ kind. not (is_memory kind)) r ≡ true → Risen
event_brought r event Risen e f = (let k : false ≡ true = ap (failed_by (λ kind. not (is_memory kind))) (sym e) ∙ f in absurd cc)

pub quiet_brought : (r : Item) (event : Notify) (found : Option Notify) → r ≡ Ok event → found ≡ Some event → TellsNone found → BringsNoChange (Some r)
quiet_brought r event found e f h = subst (λ i. BringsNoChange (Some i)) (sym e) (subst TellsNone f h)

pub fault_brought : (r : Item) (fault : NotifyFault) (error : ScanError) → r ≡ Err fault → fault.kind ≡ fault_of error → failed_by (λ kind. not (is_memory kind)) r ≡ true → not (is_memory (fault_of error)) ≡ true
fault_brought r fault error e f h = sym (ap (λ kind. not (is_memory kind)) f) ∙ (ap (failed_by (λ kind. not (is_memory kind))) (sym e) ∙ h)

pub lack_brought : (r : Item) (fault : NotifyFault) (error : ScanError) → r ≡ Err fault → fault.kind ≡ fault_of error → error ≡ OutOfMemory → BringsNoChange (Some r)
lack_brought r fault error e f m = subst (λ i. BringsNoChange (Some i)) (sym e) (is_lack fault.kind error f m)

pub rose_too : (a b c d : ℕ) → b ≡ a → d ≡ c → Rose b c → Rose a d
rose_too a b c d e f (inl r) = inl (omega (arith, e, f, r))
rose_too a b c d e f (inr r) = inr (omega (arith, e, f, r))

pub watched_kept : (b : Bool) (x y n : Option Seen) (s : Seen) → n ≡ cond b x (option_or x y) → x ≡ Some s → n ≡ Some s
watched_kept true x y n s e h = e ∙ h
watched_kept false x y n s e h = e ∙ ap (λ z. option_or z y) h

pub watched_same : (b : Bool) (x z n : Option Seen) → n ≡ cond b x z → b ≡ true → n ≡ x
watched_same b x z n e h = e ∙ ap (λ c. cond c x z) h

pub gone_only : (b : Bool) (x : Option Seen) → cond (b && is_some x) None x ≡ cond b None x
gone_only true None = refl
gone_only true (Some s) = refl
gone_only false x = refl

gives_kept : (found : Option Notify) (a b d : Poller) → GivesNext found a b → d.pending ≡ b.pending → d.listing.entries ≡ b.listing.entries → GivesNext found a d
gives_kept found a b d h e f =
    (subst (λ ns. Gives (gives_next a.pending (changes a.listing.entries d.listing.entries)) found ns) (sym e) (subst (λ es. Gives (gives_next a.pending (changes a.listing.entries es)) found b.pending) (sym f) h.0), λ i. f ∙ h.1 i)

pub none_brought : (found : Option Notify) (a b : Poller) → found ≡ None → GivesNext found a b → Brought None a b
none_brought found a b e h = subst (λ z. GivesNext z a b) e h

pub one_brought : (r : Item) (event : Notify) (found : Option Notify) (a b d : Poller) → r ≡ Ok event → found ≡ Some event → GivesNext found a b → d.pending ≡ b.pending → d.listing.entries ≡ b.listing.entries → Brought (Some r) a d
one_brought r event found a b d e i h f g = subst (λ z. Brought (Some z) a d) (sym e) (gives_kept (Some event) a b d (subst (λ z. GivesNext z a b) i h) f g)

pub none_lost : (r : Item) (fault : NotifyFault) (a d : Poller) → r ≡ Err fault → d.pending ≡ a.pending → d.listing.entries ≡ a.listing.entries → Brought (Some r) a d
none_lost r fault a d e f g = subst (λ z. Brought (Some z) a d) (sym e) (f, g)
