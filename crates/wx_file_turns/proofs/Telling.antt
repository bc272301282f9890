-- What a recursor is told of the tree leaves its roots, the number of its filter, and where its backend is; and what it is then.
use Rattle.std.proofs.Common.{◌≡◌, ◌<◌, ◌≤◌, ◌+◌, ℕ, suc, List, [], ◌∷◌, ◌++◌, length, drop, get_or, drop-cons, add-one, inl, refl, ap, sym, subst, ◌∙◌}
use Rattle.std.proofs.lemmas.List.{drop_all}
use Rattle.std.specs.Prelude.{Result, Ok, Err, OnOk}
use Rattle.wx_scan.specs.declared.backend.Backend.{Ghosts}
use Rattle.wx_tree.specs.Paths.{Path}
use Rattle.wx_lane.specs.declared.topology.Topology.{Topology}
use Rattle.wx_recursor.specs.States.{RecursorState}
use Rattle.wx_recursor.specs.Calls.{aliases, created, created_one, for_each, removed, removed_one, renamed, rescanned, unsure, unsure_one}
use Rattle.wx_holding.specs.Holding.{state_of}
use Rattle.wx_fs.specs.declared.recursor.Recursor.{Recursor}
use Rattle.wx_journal.specs.declared.entry.Entry.{Entry}
use Rattle.wx_journal.specs.declared.entry.Entry.TheVariants.{Heard}
use Rattle.wx_machine.specs.Start.{Start}
use Rattle.wx_machine.specs.Due.{rest_entry}
use Rattle.wx_worker.specs.Stands.{MayShow}
use Rattle.wx_file_turns.specs.declared.files.Watching.{Watching}
use Rattle.wx_file_turns.specs.declared.hearing.Hearing.{Hearing}
use Rattle.wx_file_turns.specs.Attended.{Rests}
use Rattle.wx_file_turns.specs.Hearing.{IsToHear, StaysWatching, messages_by, told_all, told_of}
use Rattle.wx_file_turns.specs.Stepping.{IsWatching}
use Rattle.wx_file_turns.proofs.Staying.{Asked, asked}

-- ---- what each is

each_stays : (f : Path → RecursorState → RecursorState) (ps : List Path) (s : RecursorState) → ((p : Path) (t : RecursorState) → asked (f p t) ≡ asked t) → asked (for_each f ps s) ≡ asked s
each_stays f [] s h = refl
each_stays f (p ∷ ps) s h = each_stays f ps (f p s) h ∙ h p s

created_stays : (p : Path) (s : RecursorState) → asked (created p s) ≡ asked s
created_stays p s = each_stays created_one (aliases p s) s (λ p t. refl)

removed_stays : (p : Path) (s : RecursorState) → asked (removed p s) ≡ asked s
removed_stays p s = each_stays removed_one (aliases p s) s (λ p t. refl)

unsure_stays : (p : Path) (s : RecursorState) → asked (unsure p s) ≡ asked s
unsure_stays p s = each_stays unsure_one (aliases p s) s (λ p t. refl)

renamed_stays : (p q : Path) (s : RecursorState) → asked (renamed p q s) ≡ asked s
renamed_stays p q s =
    let ps : List Path = aliases p s ++ aliases q s in
    each_stays created_one (aliases q s) (for_each removed_one ps s) (λ p t. refl) ∙ each_stays removed_one ps s (λ p t. refl)

rescanned_stays : (s : RecursorState) → asked (rescanned s) ≡ asked s
rescanned_stays s = refl

-- ---- a recursor that was told it

-- all but its state stays
pub record KeepsRest {B : Type 0} {G : Ghosts B} (r r' : Recursor B G) : Type 0 where
  pub others : (r'.back ≡ r.back) × (r'.kind ≡ r.kind) × (r'.follow ≡ r.follow) × (r'.cwd ≡ r.cwd) × (r'.spent ≡ r.spent)

told_stays : {B E : Type 0} {G : Ghosts B} (r r' : Recursor B G) (t : RecursorState) (result : Result (Unit {0}) E) → asked t ≡ asked (state_of r.held) → KeepsRest r r' → OnOk result (state_of r'.held ≡ t) → OnOk result (StaysWatching r r')
told_stays r r' t (Ok done) same rest state =
    let is : asked (state_of r'.held) ≡ asked (state_of r.held) = ap asked state ∙ same in
    record {
      back_kept = rest.others.0;
      kind_kept = rest.others.1;
      follow_kept = rest.others.2;
      folder_kept = rest.others.3;
      spent_kept = rest.others.4;
      place_kept = ap (λ (x : Asked). x.backend) is;
      roots_kept = ap (λ (x : Asked). x.roots) is;
      filter_kept = ap (λ (x : Asked). x.filter) is;
    }
told_stays r r' t (Err want) same rest state = tt

pub told_create : {B E : Type 0} {G : Ghosts B} (r r' : Recursor B G) (p : Path) (result : Result (Unit {0}) E) → KeepsRest r r' → OnOk result (state_of r'.held ≡ created p (state_of r.held)) → OnOk result (StaysWatching r r')
told_create r r' p result rest state = told_stays r r' (created p (state_of r.held)) result (created_stays p (state_of r.held)) rest state

pub told_remove : {B E : Type 0} {G : Ghosts B} (r r' : Recursor B G) (p : Path) (result : Result (Unit {0}) E) → KeepsRest r r' → OnOk result (state_of r'.held ≡ removed p (state_of r.held)) → OnOk result (StaysWatching r r')
told_remove r r' p result rest state = told_stays r r' (removed p (state_of r.held)) result (removed_stays p (state_of r.held)) rest state

pub told_rename : {B E : Type 0} {G : Ghosts B} (r r' : Recursor B G) (p q : Path) (result : Result (Unit {0}) E) → KeepsRest r r' → OnOk result (state_of r'.held ≡ renamed p q (state_of r.held)) → OnOk result (StaysWatching r r')
told_rename r r' p q result rest state = told_stays r r' (renamed p q (state_of r.held)) result (renamed_stays p q (state_of r.held)) rest state

pub told_ambiguous : {B E : Type 0} {G : Ghosts B} (r r' : Recursor B G) (p : Path) (result : Result (Unit {0}) E) → KeepsRest r r' → OnOk result (state_of r'.held ≡ unsure p (state_of r.held)) → OnOk result (StaysWatching r r')
told_ambiguous r r' p result rest state = told_stays r r' (unsure p (state_of r.held)) result (unsure_stays p (state_of r.held)) rest state

pub told_rescan : {B E : Type 0} {G : Ghosts B} (r r' : Recursor B G) (result : Result (Unit {0}) E) → KeepsRest r r' → OnOk result (state_of r'.held ≡ rescanned (state_of r.held)) → OnOk result (StaysWatching r r')
told_rescan r r' result rest state = told_stays r r' (rescanned (state_of r.held)) result (rescanned_stays (state_of r.held)) rest state

-- ---- all of it, in order

pub stays_none : {B : Type 0} {G : Ghosts B} (r : Recursor B G) → StaysWatching r r
stays_none r = record { back_kept = refl; kind_kept = refl; follow_kept = refl; folder_kept = refl; spent_kept = refl; place_kept = refl; roots_kept = refl; filter_kept = refl }

pub stays_then : {B : Type 0} {G : Ghosts B} (r t v : Recursor B G) → StaysWatching r t → StaysWatching t v → StaysWatching r v
stays_then r t v h g = record {
  back_kept = g.back_kept ∙ h.back_kept;
  kind_kept = g.kind_kept ∙ h.kind_kept;
  follow_kept = g.follow_kept ∙ h.follow_kept;
  folder_kept = g.folder_kept ∙ h.folder_kept;
  spent_kept = g.spent_kept ∙ h.spent_kept;
  place_kept = g.place_kept ∙ h.place_kept;
  roots_kept = g.roots_kept ∙ h.roots_kept;
  filter_kept = g.filter_kept ∙ h.filter_kept;
}

-- the same where it went well
pub stays_on : {B E : Type 0} {G : Ghosts B} (r t v : Recursor B G) (result : Result (Unit {0}) E) → StaysWatching r t → OnOk result (StaysWatching t v) → OnOk result (StaysWatching r v)
stays_on r t v (Ok done) h g = stays_then r t v h g
stays_on r t v (Err want) h g = tt

-- ---- what it is then

-- the next message was told, of those that are left
pub told_next : (folder cwd : List ℕ) (ms : List Topology) (i : ℕ) (m : Topology) (s t u : RecursorState) → i < length ms → m ≡ get_or ms i m → cwd ≡ folder → t ≡ told_of cwd m s → told_all folder (drop i ms) s ≡ u → told_all folder (drop (i + 1) ms) t ≡ u
told_next folder cwd ms i m s t u below is same told before =
    let first : told_all folder (drop i ms) s ≡ told_all folder (drop (suc i) ms) (told_of folder m s) = ap (λ (xs : List Topology). told_all folder xs s) (drop-cons ms i m below ∙ ap (λ (y : Topology). y ∷ drop (suc i) ms) (sym is)) in
    ap (told_all folder (drop (i + 1) ms)) (told ∙ ap (λ (f : List ℕ). told_of f m s) same)
    ∙ ap (λ (k : ℕ). told_all folder (drop k ms) (told_of folder m s)) (add-one i)
    ∙ sym first
    ∙ before

-- and then none is left
pub told_last : (folder : List ℕ) (ms : List Topology) (i : ℕ) (t u : RecursorState) → length ms ≤ i → told_all folder (drop i ms) t ≡ u → t ≡ u
told_last folder ms i t u past before = sym (ap (λ (xs : List Topology). told_all folder xs t) (drop_all i ms past)) ∙ before

-- ---- where there is no step to take

-- an entry came that says nothing of the tree
pub rests_silent : {B : Type 0} {G : Ghosts B} (s : Start) (w : Watching B G) (p p' : List Entry) (e : Entry) → rest_entry s p ≡ e → messages_by s p e ≡ [] → p' ≡ e ∷ p → Rests s w w p p'
rests_silent s w p p' e comes none grown = record {
  comes = inl (grown ∙ ap (λ (x : Entry). x ∷ p) (sym comes));
  told = ap (λ (ms : List Topology). told_all s.folder ms (state_of w.recursor.held)) (sym (ap (messages_by s p) comes ∙ none));
}

-- an item was heard
pub rests_heard : {B X E : Type 0} {G : Ghosts B} (s : Start) (w v : Watching B G) (h : Hearing) (p p' : List Entry) (result : Result X E) → IsToHear s h p → IsWatching s w p → OnOk result (MayShow (Heard h.name ∷ p) p') → OnOk result (state_of v.recursor.held ≡ told_all w.recursor.cwd h.messages (state_of w.recursor.held)) → OnOk result (Rests s w v p p')
rests_heard s w v h p p' (Ok x) next watching shown told = record {
  comes = subst (λ (e : Entry). MayShow (e ∷ p) p') (sym next.next) shown;
  told =
      told
      ∙ ap (λ (f : List ℕ). told_all f h.messages (state_of w.recursor.held)) watching.watches.folder_kept
      ∙ ap (λ (ms : List Topology). told_all s.folder ms (state_of w.recursor.held)) (next.messages ∙ sym (ap (messages_by s p) next.next));
}
rests_heard s w v h p p' (Err e) next watching shown told = tt
