-- Where no line of a script asks to follow links, no settings of its run say so.
use Rattle.std.proofs.Common.{◌≡◌, ℕ, zero, suc, Bool, true, false, cond, Ok, List, [], ◌∷◌, ◌++◌, length, get_or, refl, sym, ap, subst, ◌∙◌, arith}
use Rattle.std.specs.Prelude.{◌&&◌, ◌-◌, ◌^◌, nat_lt, not}
use Rattle.std.specs.List.{list_any}
use Rattle.std.proofs.lemmas.List.{get_or_past}
use Rattle.std.proofs.lemmas.Bool.{or_parts}
use Rattle.wx_config.specs.Changes.{changed}
use Rattle.wx_config.specs.declared.change.Change.{Change as AChange}
use Rattle.wx_config.specs.declared.change.Change.TheVariants.{Signal, Pathset, FileWatcher, FollowSymlinks, KeyboardEvents, Throttle, Filterer, OnError, OnAction}
use Rattle.wx_config.specs.declared.config.Config.{Config}
use Rattle.wx_journal.specs.Acts.{JournalAct as Act}
use Rattle.wx_journal.specs.Names.{was_made}
use Rattle.wx_journal.specs.declared.entry.Act.TheVariants.{Create, Ask as Asks, Change, Quit, QuitGracefully}
use Rattle.wx_journal.specs.declared.entry.Entry.{Entry}
use Rattle.wx_journal.specs.declared.entry.Entry.TheVariants.{Turn as Turned, TurnFault, Hand, Changed, Applied, Dir}
use Rattle.wx_patterns.specs.Ignoring.{ignored}
use Rattle.wx_patterns.proofs.LawLemmas.{none_ignore}
use Rattle.wx_machine.specs.Jobs.{is_there}
use Rattle.wx_machine.specs.Journal.{Verdict}
use Rattle.wx_machine.specs.Last.{without_last}
use Rattle.wx_machine.specs.Quits.{is_quit}
use Rattle.wx_machine.specs.Settings.{changes, first_changed, later, pending, settings, turn_changes}
use Rattle.wx_machine.specs.Start.{Start}
use Rattle.wx_file_turns.specs.Calm.{AreCalm}
use Rattle.wx_script.specs.declared.script.ScriptAct.{ScriptAct}
use Rattle.wx_script.specs.declared.script.ScriptAct.TheVariants.{One, GetOrCreate}
use Rattle.wx_script.specs.declared.script.ScriptTurn.{ScriptTurn}
use Rattle.wx_script.specs.declared.script.ScriptTurn.TheVariants.{Turn, Fault}
use Rattle.wx_script.specs.declared.script.Wanted.TheVariants.{New}
use Rattle.wx_script.specs.Acted.{dirs, hands, next_id, performed, with_act}
use Rattle.wx_script.specs.Answered.{AreAnswered, answers_of, due_answer, due_answers}
use Rattle.wx_script.specs.Ignored.{Ignores}
use Rattle.wx_script.specs.Turns.{FollowsGiven, given, newest, turns_of}
use Rattle.wx_replay.specs.Still.{act_asks_links, asks_links, turn_asks_links}

-- ---- settings

abbrev NoLinks : List AChange → Type 0
NoLinks xs = list_any asks_links xs ≡ false

changed_links : (x : AChange) (c : Config) → asks_links x ≡ false → c.follow_symlinks ≡ false → (changed x c).follow_symlinks ≡ false
changed_links Signal c h off = off
changed_links (Pathset paths) c h off = off
changed_links (FileWatcher watcher) c h off = off
changed_links (FollowSymlinks on) c h off = h
changed_links (KeyboardEvents on) c h off = off
changed_links (Throttle throttle) c h off = off
changed_links (Filterer n) c h off = off
changed_links (OnError n) c h off = off
changed_links (OnAction n) c h off = off

first_links : (xs : List AChange) (c : Config) → NoLinks xs → c.follow_symlinks ≡ false → (first_changed xs c).follow_symlinks ≡ false
first_links [] c h off = off
first_links (x ∷ xs) c h off = changed_links x c (or_parts (asks_links x) (list_any asks_links xs) h).0 off

later_links : (xs : List AChange) → NoLinks xs → NoLinks (later xs)
later_links [] h = refl
later_links (x ∷ xs) h = (or_parts (asks_links x) (list_any asks_links xs) h).1

-- the entry doesn't ask to follow links
abbrev AsksNone : Entry → Type 0
AsksNone (Turned t) = NoLinks (turn_changes t.kind)
AsksNone (Hand n names acts) = NoLinks (changes acts)
AsksNone (_) = Unit {0}

abbrev pub AskNone : List Entry → Type 0
AskNone [] = Unit {0}
AskNone (e ∷ p) = AsksNone e × AskNone p

pending_links : (p : List Entry) → AskNone p → NoLinks (pending p)
pending_links [] h = refl
pending_links (Turned t ∷ p) h = h.0
pending_links (TurnFault code ∷ p) h = refl
pending_links (Hand n names acts ∷ p) h = h.0
pending_links (Changed r ∷ p) h = later_links (pending p) (pending_links p h.1)
pending_links (_ ∷ p) h = pending_links p h.1

settings_links : (s : Start) (p : List Entry) → s.config.follow_symlinks ≡ false → AskNone p → (settings s p).follow_symlinks ≡ false
settings_links s [] off h = off
settings_links s (Changed r ∷ p) off h = first_links (pending p) (settings s p) (pending_links p h.1) (settings_links s p off h.1)
settings_links s (_ ∷ p) off h = settings_links s p off h.1

-- ---- what a journal asks for, by the lines of its script

given_links : (turns : List ScriptTurn) (last k : ℕ) → list_any turn_asks_links turns ≡ false → AsksNone (given turns last k)
given_links [] last k h = refl
given_links (Turn t ∷ turns) last zero h = (or_parts (turn_asks_links (Turn t)) (list_any turn_asks_links turns) h).0
given_links (Fault code ∷ turns) last zero h = tt
given_links (x ∷ turns) last (suc k) h = given_links turns last k (or_parts (turn_asks_links x) (list_any turn_asks_links turns) h).1

newest_links : (turns : List ScriptTurn) (last n : ℕ) → list_any turn_asks_links turns ≡ false → AskNone (newest (given turns last) n)
newest_links turns last zero h = tt
newest_links turns last (suc n) h = (given_links turns last n h, newest_links turns last n h)

with_links : (done : List Act) (x : Act) → NoLinks (changes done) → NoLinks (changes (x ∷ [])) → NoLinks (changes (done ++ x ∷ []))
with_links [] x h one = one
with_links (Create id command ∷ done) x h one = with_links done x h one
with_links (Asks id ask ∷ done) x h one = with_links done x h one
with_links (Change c ∷ done) x h one = let o = or_parts (asks_links c) (list_any asks_links (changes done)) h in rw o.0 (with_links done x o.1 one)
with_links (Quit ∷ done) x h one = with_links done x h one
with_links (QuitGracefully signal grace ∷ done) x h one = with_links done x h one

perhaps_links : (test : Bool) (done : List Act) (x : Act) → NoLinks (changes done) → NoLinks (changes (x ∷ [])) → NoLinks (changes (cond test (done ++ x ∷ []) done))
perhaps_links true done x h one = with_links done x h one
perhaps_links false done x h one = h

last_links : (test : Bool) (xs ys : List Act) → NoLinks (changes xs) → NoLinks (changes ys) → NoLinks (changes (cond test xs ys))
last_links true xs ys h k = h
last_links false xs ys h k = k

more_links : (x : Act) (xs : List Act) → (NoLinks (changes xs) → NoLinks (changes (without_last is_quit xs))) → NoLinks (changes (x ∷ xs)) → NoLinks (changes (x ∷ without_last is_quit xs))
more_links (Create id command) xs more h = more h
more_links (Asks id ask) xs more h = more h
more_links (Change c) xs more h = let o = or_parts (asks_links c) (list_any asks_links (changes xs)) h in rw o.0 (more o.1)
more_links Quit xs more h = more h
more_links (QuitGracefully signal grace) xs more h = more h

unquit_links : (xs : List Act) → NoLinks (changes xs) → NoLinks (changes (without_last is_quit xs))
unquit_links [] h = refl
unquit_links (x ∷ []) h = last_links (is_quit x) [] (x ∷ []) refl h
unquit_links (x ∷ y ∷ xs) h = more_links x (y ∷ xs) (unquit_links (y ∷ xs)) h

act_links : (p : List Entry) (done : List Act) (act : ScriptAct) → NoLinks (changes done) → act_asks_links act ≡ false → NoLinks (changes (with_act p done act))
act_links p done (One (Create New command)) h l = perhaps_links (nat_lt (next_id p done) (2 ^ 32 - 1)) done (Create (record { 0 = next_id p done }) command) h refl
act_links p done (One (Asks id ask)) h l = perhaps_links (is_there p done id) done (Asks id ask) h refl
act_links p done (One (Change change)) h l = with_links done (Change change) h (rw l refl)
act_links p done (One Quit) h l = with_links (without_last is_quit done) Quit (unquit_links done h) refl
act_links p done (One (QuitGracefully signal grace)) h l = with_links (without_last is_quit done) (QuitGracefully signal grace) (unquit_links done h) refl
act_links p done (GetOrCreate id command) h l = perhaps_links (was_made id p && not (is_there p done id)) done (Create id command) h refl

performed_links : (p : List Entry) (done : List Act) (acts : List ScriptAct) → NoLinks (changes done) → list_any act_asks_links acts ≡ false → NoLinks (changes (performed p done acts))
performed_links p done [] h l = h
performed_links p done (act ∷ acts) h l =
    let o = or_parts (act_asks_links act) (list_any act_asks_links acts) l in
    performed_links p (with_act p done act) acts (act_links p done act h o.0) o.1

line_links : (lines : List (List ScriptAct)) (k : ℕ) → list_any (list_any act_asks_links) lines ≡ false → list_any act_asks_links (get_or lines k []) ≡ false
line_links [] k h = ap (list_any act_asks_links) (get_or_past [] k [] (omega arith))
line_links (acts ∷ lines) zero h = (or_parts (list_any act_asks_links acts) _ h).0
line_links (acts ∷ lines) (suc k) h = line_links lines k (or_parts (list_any act_asks_links acts) _ h).1

first_same : {A : Type 0} (x y : A) (xs ys : List A) → ◌≡◌ {A = List A} (x ∷ xs) (y ∷ ys) → x ≡ y
first_same x y xs ys e = cc

rest_same : {A : Type 0} (x y : A) (xs ys : List A) → ◌≡◌ {A = List A} (x ∷ xs) (y ∷ ys) → xs ≡ ys
rest_same x y xs ys e = cc

entries_ask_none : (lines : List (List ScriptAct)) (p : List Entry) → list_any (list_any act_asks_links) lines ≡ false → AskNone (turns_of p) → AreAnswered hands lines p → AskNone p
entries_ask_none lines [] l h a = tt
entries_ask_none lines (Turned t ∷ p) l h a = (h.0, entries_ask_none lines p l h.1 a)
entries_ask_none lines (TurnFault code ∷ p) l h a = (tt, entries_ask_none lines p l h.1 a)
entries_ask_none lines (Hand n names acts ∷ p) l h a =
    let same : acts ≡ due_answer hands lines p (Hand n names acts) = first_same acts (due_answer hands lines p (Hand n names acts)) (answers_of hands p) (due_answers hands lines p) a in
    let rest = rest_same acts (due_answer hands lines p (Hand n names acts)) (answers_of hands p) (due_answers hands lines p) a in
    (subst (λ (xs : List Act). NoLinks (changes xs)) (sym same) (performed_links p [] (get_or lines (length (answers_of hands p)) []) refl (line_links lines (length (answers_of hands p)) l)), entries_ask_none lines p l h rest)
entries_ask_none lines (_ ∷ p) l h a = (tt, entries_ask_none lines p l h a)

pub ask_none : (turns : List ScriptTurn) (last : ℕ) (lines : List (List ScriptAct)) (p : List Entry) → list_any turn_asks_links turns ≡ false → list_any (list_any act_asks_links) lines ≡ false
    → FollowsGiven turns last p → AreAnswered hands lines p → AskNone p
ask_none turns last lines p t l follows a = entries_ask_none lines p l (subst AskNone (sym follows) (newest_links turns last (length (turns_of p)) t)) a

-- ---- a run is calm where no line says how directories are judged, or what is ignored

-- a directory passes of which no line says anything
unsaid : (ignores : Ignores) (k : ℕ) (path : List ℕ) → ignores.patterns ≡ [] → get_or {A = Verdict} [] k (Ok (not (ignored ignores.base ignores.patterns path))) ≡ Ok true
unsaid ignores k path none = get_or_past [] k _ (omega arith) ∙ rw (none, none_ignore ignores.base path) refl

pub run_is_calm : (ignores : Ignores) (s : Start) (p : List Entry) → ignores.patterns ≡ [] → s.config.follow_symlinks ≡ false → AskNone p → AreAnswered (dirs ignores) [] p → AreCalm (λ n q. true) s p
run_is_calm ignores s [] none off h a = tt
run_is_calm ignores s (Applied r ∷ p) none off h a = (settings_links s p off h.1, run_is_calm ignores s p none off h.1 a)
run_is_calm ignores s (Dir n path answer ∷ p) none off h a =
    let due : Verdict = due_answer (dirs ignores) [] p (Dir n path answer) in
    let same : answer ≡ due = first_same answer due (answers_of (dirs ignores) p) (due_answers (dirs ignores) [] p) a in
    let rest = rest_same answer due (answers_of (dirs ignores) p) (due_answers (dirs ignores) [] p) a in
    (same ∙ unsaid ignores (length (answers_of (dirs ignores) p)) path none, run_is_calm ignores s p none off h.1 rest)
run_is_calm ignores s (_ ∷ p) none off h a = (tt, run_is_calm ignores s p none off h.1 a)

-- so is one that starts as another by which links aren't followed
pub starts_calm : (ignores : Ignores) {a b : Start} → a ≡ b → (p : List Entry) → ignores.patterns ≡ [] → b.config.follow_symlinks ≡ false → AskNone p → AreAnswered (dirs ignores) [] p → AreCalm (λ n q. true) a p
starts_calm ignores {a} {b} same p none off h answered = run_is_calm ignores a p none (ap (λ (s : Start). s.config.follow_symlinks) same ∙ off) h answered
