-- What holds of each script that is read.
use Rattle.std.proofs.Common.{◌≡◌, ℕ, ◌<◌, ◌≤◌, Bool, true, false, cond, Option, Some, List, [], ◌∷◌, ◌++◌, length, refl, ap, subst, arith, length-append}
use Rattle.std.specs.Prelude.{◌==◌, ◌&&◌, nat_lt, nat_le, not}
use Rattle.std.specs.List.{list_all}
use Rattle.std.proofs.lemmas.Bool.{and_parts}
use Rattle.std.proofs.lemmas.Bool.Decides.{nat_tests}
use Rattle.std.proofs.lemmas.Option.{cond_some}
use Rattle.wx_words.specs.Line.{words_of, ◌>>=◌}
use Rattle.wx_words.specs.OptionLaws.{bind_some}
use Rattle.wx_words.specs.Combine.{whole}
use Rattle.wx_journal.specs.declared.entry.TurnKind.{TurnKind}
use Rattle.wx_journal.specs.declared.entry.TurnKind.TheVariants.{Last}
use Rattle.wx_machine.specs.Start.{is_absolute}
use Rattle.wx_machine.specs.Told.{is_last}
use Rattle.wx_script.specs.declared.script.Script.{Script}
use Rattle.wx_script.specs.declared.script.ScriptTurn.TheVariants.{Turn, Fault}
use Rattle.wx_script.specs.Follows.{IsScript, edits_of, is_placed_edit}
use Rattle.wx_script.specs.FollowLaws.{rises_turn, rises_fault, come_more}
use Rattle.wx_script.specs.declared.lines.Line.{Line}
use Rattle.wx_script.specs.declared.lines.Line.TheVariants.{Nothing, Throttle, Size, ErrorSize, Keyboard, Follow, JobSignals, Watcher, Folder, Path, Send, Turn as Turned, Fault as Failed, Acts, Filter, Dir, Ignore, Wishes, Poll, Hook, Spawn, Signal, Kill, Wait, Edit, Make, FailScan, FailWatch}
use Rattle.wx_script.specs.Lines.{can_bring, is_scripted, if_scripted, read_form, line_in}
use Rattle.wx_script.specs.Scripts.{start, is_early, is_placed, edited_path, with_turn, accepts, step, begun_by, IsScriptOf}

-- ---- no line brings a last turn

abbrev pub LineComes : Line → Type 0
LineComes (Turned t) = is_last t.kind ≡ false
LineComes (_) = Unit {0}

kind_comes : (kind : TurnKind) → can_bring kind ≡ true → is_last kind ≡ false
kind_comes Last e = absurd cc
kind_comes (_) e = refl

scripted_comes : (said : Line) → is_scripted said ≡ true → LineComes said
scripted_comes (Turned t) e = kind_comes t.kind e
scripted_comes (_) e = tt

pub line_comes : (line : List ℕ) (said : Line) → line_in line ≡ Some said → LineComes said
line_comes [] said e = let same : Nothing ≡ said = cc in subst LineComes same tt
line_comes (b ∷ bs) said e = go (b == 35) e
  where
    go : (test : Bool) → cond test (Some Nothing) (whole (read_form (words_of (b ∷ bs))) >>= if_scripted) ≡ Some said → LineComes said
    go true e = let same : Nothing ≡ said = cc in subst LineComes same tt
    go false e =
        let found = bind_some (whole (read_form (words_of (b ∷ bs)))) if_scripted said e in
        let test = cond_some (is_scripted found.0) found.0 said found.2 in
        subst LineComes test.1 (scripted_comes found.0 test.0)

-- ---- each line keeps what holds

all_more : {A : Type 0} (p : A → Bool) (xs : List A) (x : A) → list_all p xs ≡ true → p x ≡ true → list_all p (xs ++ x ∷ []) ≡ true
all_more p [] x all one = rw one refl
all_more p (y ∷ xs) x all one = let parts = and_parts (p y) (list_all p xs) all in rw parts.0 (all_more p xs x parts.1 one)

all_other : {A : Type 0} (p : A → Bool) (xs : List A) (x y : A) → (p x ≡ true → p y ≡ true) → list_all p (xs ++ x ∷ []) ≡ true → list_all p (xs ++ y ∷ []) ≡ true
all_other p [] x y one all = rw (one (and_parts (p x) true all).0) refl
all_other p (z ∷ xs) x y one all = let parts = and_parts (p z) (list_all p (xs ++ x ∷ [])) all in rw parts.0 (all_other p xs x y one parts.1)

pub start_lawful : IsScript start
start_lawful = record { size = record { some = omega arith; few = omega arith }; error_size = record { some = omega arith; few = omega arith }; sends = omega arith; folder = refl; comes = refl; rises = refl; placed = refl }

some_same : {A : Type 0} {x y : A} → ◌≡◌ {A = Option A} (Some x) (Some y) → x ≡ y
some_same e = cc

pub accepts_lawful : (s t : Script) (said : Line) → IsScript s → LineComes said → accepts s said ≡ Some t → IsScript t
accepts_lawful s t Nothing is come e = let same : s ≡ t = cc in subst IsScript same is
accepts_lawful s t (Throttle n) is come e =
    let g = cond_some (is_early s) (record s { throttle = n }) t e in
    subst IsScript g.1 (record { size = is.size; error_size = is.error_size; sends = is.sends; folder = is.folder; comes = is.comes; rises = is.rises; placed = is.placed })
accepts_lawful s t (Size n) is come e =
    let g = cond_some (is_early s && nat_le 1 n && nat_le n 65536) (record s { size = n }) t e in
    let test : (length s.sends == 0 && length s.turns == 0 && nat_le 1 n && nat_le n 65536) ≡ true = g.0 in
    let none : length s.sends ≡ 0 = grind (arith, nat_tests, test) in
    let some : 1 ≤ n = grind (arith, nat_tests, test) in
    let few : n ≤ 65536 = grind (arith, nat_tests, test) in
    subst IsScript g.1 (record { size = record { some = some; few = few }; error_size = is.error_size; sends = omega (arith, none); folder = is.folder; comes = is.comes; rises = is.rises; placed = is.placed })
accepts_lawful s t (ErrorSize n) is come e =
    let g = cond_some (is_early s && nat_le 1 n && nat_le n 65536) (record s { error_size = n }) t e in
    let test : (length s.sends == 0 && length s.turns == 0 && nat_le 1 n && nat_le n 65536) ≡ true = g.0 in
    let some : 1 ≤ n = grind (arith, nat_tests, test) in
    let few : n ≤ 65536 = grind (arith, nat_tests, test) in
    subst IsScript g.1 (record { size = is.size; error_size = record { some = some; few = few }; sends = is.sends; folder = is.folder; comes = is.comes; rises = is.rises; placed = is.placed })
accepts_lawful s t (Keyboard on) is come e =
    let g = cond_some (is_early s) (record s { keyboard = on }) t e in
    subst IsScript g.1 (record { size = is.size; error_size = is.error_size; sends = is.sends; folder = is.folder; comes = is.comes; rises = is.rises; placed = is.placed })
accepts_lawful s t (Follow on) is come e =
    let g = cond_some (is_early s) (record s { follow = on }) t e in
    subst IsScript g.1 (record { size = is.size; error_size = is.error_size; sends = is.sends; folder = is.folder; comes = is.comes; rises = is.rises; placed = is.placed })
accepts_lawful s t (JobSignals on) is come e =
    let g = cond_some (is_early s) (record s { job_signals = on }) t e in
    subst IsScript g.1 (record { size = is.size; error_size = is.error_size; sends = is.sends; folder = is.folder; comes = is.comes; rises = is.rises; placed = is.placed })
accepts_lawful s t (Watcher watcher) is come e =
    let g = cond_some (is_early s) (record s { watcher = watcher }) t e in
    subst IsScript g.1 (record { size = is.size; error_size = is.error_size; sends = is.sends; folder = is.folder; comes = is.comes; rises = is.rises; placed = is.placed })
accepts_lawful s t (Folder path) is come e =
    let g = cond_some (is_early s && is_absolute path) (record s { folder = Some path }) t e in
    let test = and_parts (is_early s) (is_absolute path) g.0 in
    subst IsScript g.1 (record { size = is.size; error_size = is.error_size; sends = is.sends; folder = test.1; comes = is.comes; rises = is.rises; placed = is.placed })
accepts_lawful s t (Path path) is come e =
    let g = cond_some (is_early s) (record s { paths = s.paths ++ path ∷ [] }) t e in
    subst IsScript g.1 (record { size = is.size; error_size = is.error_size; sends = is.sends; folder = is.folder; comes = is.comes; rises = is.rises; placed = is.placed })
accepts_lawful s t (Send event priority) is come e =
    let g = cond_some (length s.turns == 0 && nat_lt (length s.sends) s.size) (record s { sends = s.sends ++ (event, priority) ∷ [] }) t e in
    let test : (length s.turns == 0 && nat_lt (length s.sends) s.size) ≡ true = g.0 in
    let room : length s.sends < s.size = grind (arith, nat_tests, test) in
    subst IsScript g.1 (record { size = is.size; error_size = is.error_size; sends = omega (arith, room, length-append s.sends ((event, priority) ∷ [])); folder = is.folder; comes = is.comes; rises = is.rises; placed = is.placed })
accepts_lawful s t (Turned turn) is come e =
    let g = cond_some (nat_le s.last turn.at) (with_turn (record s { last = turn.at }) (Turn turn)) t e in
    subst IsScript g.1 (record { size = is.size; error_size = is.error_size; sends = is.sends; folder = is.folder; comes = come_more s.turns (Turn turn) is.comes (ap not come); rises = rises_turn s.turns s.last turn is.rises g.0; placed = all_more (list_all is_placed_edit) (edits_of s) [] is.placed refl })
accepts_lawful s t (Failed code) is come e =
    let same : with_turn s (Fault code) ≡ t = some_same e in
    subst IsScript same (record { size = is.size; error_size = is.error_size; sends = is.sends; folder = is.folder; comes = come_more s.turns (Fault code) is.comes refl; rises = rises_fault s.turns s.last code is.rises; placed = all_more (list_all is_placed_edit) (edits_of s) [] is.placed refl })
accepts_lawful s t (Acts acts) is come e = subst IsScript (some_same e) (record { size = is.size; error_size = is.error_size; sends = is.sends; folder = is.folder; comes = is.comes; rises = is.rises; placed = is.placed })
accepts_lawful s t (Filter answer) is come e = subst IsScript (some_same e) (record { size = is.size; error_size = is.error_size; sends = is.sends; folder = is.folder; comes = is.comes; rises = is.rises; placed = is.placed })
accepts_lawful s t (Dir answer) is come e = subst IsScript (some_same e) (record { size = is.size; error_size = is.error_size; sends = is.sends; folder = is.folder; comes = is.comes; rises = is.rises; placed = is.placed })
accepts_lawful s t (Ignore pattern) is come e = subst IsScript (some_same e) (record { size = is.size; error_size = is.error_size; sends = is.sends; folder = is.folder; comes = is.comes; rises = is.rises; placed = is.placed })
accepts_lawful s t (Wishes wish) is come e = subst IsScript (some_same e) (record { size = is.size; error_size = is.error_size; sends = is.sends; folder = is.folder; comes = is.comes; rises = is.rises; placed = is.placed })
accepts_lawful s t (Poll ready) is come e = subst IsScript (some_same e) (record { size = is.size; error_size = is.error_size; sends = is.sends; folder = is.folder; comes = is.comes; rises = is.rises; placed = is.placed })
accepts_lawful s t (Hook words) is come e = subst IsScript (some_same e) (record { size = is.size; error_size = is.error_size; sends = is.sends; folder = is.folder; comes = is.comes; rises = is.rises; placed = is.placed })
accepts_lawful s t (Spawn answer) is come e = subst IsScript (some_same e) (record { size = is.size; error_size = is.error_size; sends = is.sends; folder = is.folder; comes = is.comes; rises = is.rises; placed = is.placed })
accepts_lawful s t (Signal answer) is come e = subst IsScript (some_same e) (record { size = is.size; error_size = is.error_size; sends = is.sends; folder = is.folder; comes = is.comes; rises = is.rises; placed = is.placed })
accepts_lawful s t (Kill answer) is come e = subst IsScript (some_same e) (record { size = is.size; error_size = is.error_size; sends = is.sends; folder = is.folder; comes = is.comes; rises = is.rises; placed = is.placed })
accepts_lawful s t (Wait answer) is come e = subst IsScript (some_same e) (record { size = is.size; error_size = is.error_size; sends = is.sends; folder = is.folder; comes = is.comes; rises = is.rises; placed = is.placed })
accepts_lawful s t (Edit edit) is come e =
    let g = cond_some (is_placed (edited_path edit)) (record s { pending = s.pending ++ edit ∷ [] }) t e in
    let placed = all_other (list_all is_placed_edit) s.edits s.pending (s.pending ++ edit ∷ []) (λ all. all_more is_placed_edit s.pending edit all g.0) is.placed in
    subst IsScript g.1 (record { size = is.size; error_size = is.error_size; sends = is.sends; folder = is.folder; comes = is.comes; rises = is.rises; placed = placed })
accepts_lawful s t (Make answer) is come e = subst IsScript (some_same e) (record { size = is.size; error_size = is.error_size; sends = is.sends; folder = is.folder; comes = is.comes; rises = is.rises; placed = is.placed })
accepts_lawful s t (FailScan failing) is come e = subst IsScript (some_same e) (record { size = is.size; error_size = is.error_size; sends = is.sends; folder = is.folder; comes = is.comes; rises = is.rises; placed = is.placed })
accepts_lawful s t (FailWatch failing) is come e = subst IsScript (some_same e) (record { size = is.size; error_size = is.error_size; sends = is.sends; folder = is.folder; comes = is.comes; rises = is.rises; placed = is.placed })

step_lawful : (s t : Script) (line : List ℕ) → IsScript s → step s line ≡ Some t → IsScript t
step_lawful s t line is e =
    let said = bind_some (line_in line) (accepts s) t e in
    accepts_lawful s t said.0 is (line_comes line said.0 said.1) said.2

begun_lawful : (lines : List (List ℕ)) (s t : Script) → IsScript s → begun_by lines s ≡ Some t → IsScript t
begun_lawful [] s t is e = let same : s ≡ t = some_same e in subst IsScript same is
begun_lawful (line ∷ lines) s t is e =
    let next = bind_some (step s line) (begun_by lines) t e in
    begun_lawful lines next.0 t (step_lawful s next.0 line is next.1) next.2

-- a script that is read is one
pub lawful : (bytes : List ℕ) (s : Script) → IsScriptOf bytes s → IsScript s
lawful bytes s is = begun_lawful is.lines start s start_lawful is.made
