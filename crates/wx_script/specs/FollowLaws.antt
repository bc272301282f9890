-- What a run with the world and the hooks of a script comes to.
use Rattle.std.proofs.Common.{◌≡◌, ℕ, Bool, true, false, cond, if◌then◌else◌, is_some, Option, None, Some, IfSome, Result, get_or, List, [], ◌∷◌, ◌++◌, length, nat_le, ◌&&◌, refl, ap, sym, subst, ◌∙◌}
use Rattle.std.proofs.lemmas.List.{append-nil}
use Rattle.std.specs.List.{list_all}
use Rattle.wx_text.specs.declared.list.Memory.{Memory}
use Rattle.wx_command.specs.declared.command.Command.{Command}
use Rattle.wx_command.specs.declared.spawnable.Spawnable.{Spawnable}
use Rattle.wx_command.specs.Spawnables.{spawnable_of}
use Rattle.wx_control.specs.declared.id.Id.{Id}
use Rattle.wx_machine.specs.History.{RunsOnly}
use Rattle.wx_journal.specs.declared.entry.Entry.{Entry}
use Rattle.wx_journal.specs.declared.entry.Entry.TheVariants.{Filter, Show, Hand, Poll, Hook, Dir, Spawn, Make}
use Rattle.wx_journal.specs.declared.entry.Turn.{Turn as Timed}
use Rattle.wx_journal.specs.Told.{tell_if, tells, anywhere, is_world, is_hooks, is_turn, Obeys, Same, More}
use Rattle.wx_script.specs.declared.script.Script.{Script}
use Rattle.wx_script.specs.declared.script.ScriptTurn.{ScriptTurn}
use Rattle.wx_script.specs.declared.script.ScriptTurn.TheVariants.{Turn, Fault}
use Rattle.wx_script.specs.Answered.{Calls, with_answer, answers_of, due_answer, due_answers, IsAnswered, AreAnswered, AreUsed, AreAmong, answered_by}
use Rattle.wx_script.specs.HostCalls.{HostCall, row, reply, calls, FollowsAnswers}
use Rattle.wx_script.specs.Ignored.{Ignores}
use Rattle.wx_script.specs.Acted.{hands, filters, dirs, errors, polls, LeavesWords, IsHooked, AreHooked, AreHooksUsed, Wished, IsWished}
use Rattle.wx_script.specs.Turns.{comes, risen, Rises, Given, given, newest, turns_of, FollowsGiven}
use Rattle.wx_script.specs.Follows.{given_of, ignores_of, wished_of, FollowsTurns}

-- the calls among these entries
abbrev among : (List Entry → Entry → Bool) → List Entry → List Entry
among mine [] = []
among mine (e ∷ p) = if mine p e then e ∷ among mine p else among mine p

-- what is told is the old list with the calls in front
pub tells_among : (mine : List Entry → Entry → Bool) (p before : List Entry) → tells mine p (Some before) ≡ Some (among mine p ++ before)
tells_among mine [] before = refl
tells_among mine (e ∷ p) before =
    elim (mine p e) as (λ b. tell_if b e (tells mine p (Some before)) ≡ Some (cond b (e ∷ among mine p) (among mine p) ++ before)) [
      | true ↦ rw (tells_among mine p before) refl
      | false ↦ tells_among mine p before
    ]

-- the turns among them are those of the journal
among_turns : (p : List Entry) → among (anywhere is_turn) p ≡ turns_of p
among_turns [] = refl
among_turns (e ∷ p) = rw (among_turns p) refl

-- a world that gives the script's turns, told the first ones, and told those of this run
pub follows_turns : (s : Script) (plan : Given) (told p : List Entry)
    → plan ≡ given_of s → FollowsGiven plan.turns plan.last told → Some (turns_of told) ≡ tells (anywhere is_turn) p (Some []) → FollowsTurns s p
follows_turns s plan told p is follows tells_run =
    subst (λ (turns : List Entry). turns ≡ newest (given s.turns s.last) (length turns)) same (follows ∙ ap (λ (g : Given). newest (given g.turns g.last) (length (turns_of told))) is)
  where
    whole : Some (turns_of told) ≡ Some (turns_of p)
    whole = tells_run ∙ tells_among (anywhere is_turn) p [] ∙ ap Some (append-nil (among (anywhere is_turn) p) ∙ among_turns p)

    same : turns_of told ≡ turns_of p
    same = cc whole

-- ---- what is told of the calls of one kind

-- the answers that are told are those of the journal
told_answers : {Line Answer : Type 0} (calls : Calls Line Answer) (mine : List Entry → Entry → Bool) → AreAmong calls mine → (p : List Entry) → answers_of calls (among mine p) ≡ answers_of calls p
told_answers calls mine all [] = refl
told_answers calls mine all (e ∷ p) = go (mine p e) refl (told_answers calls mine all p)
  where
    go : (b : Bool) → mine p e ≡ b → answers_of calls (among mine p) ≡ answers_of calls p → answers_of calls (cond b (e ∷ among mine p) (among mine p)) ≡ answers_of calls (e ∷ p)
    go true is same = ap (with_answer (calls.pick e)) same
    go false is same = rw (all p e is) same

-- and so are those that were due
told_due : {Answer : Type 0} (pick : Entry → Option Answer) (usual : Answer) (mine : List Entry → Entry → Bool) → AreAmong (answered_by pick usual) mine
    → (lines : List Answer) (p : List Entry) → due_answers (answered_by pick usual) lines (among mine p) ≡ due_answers (answered_by pick usual) lines p
told_due pick usual mine all lines [] = refl
told_due {Answer} pick usual mine all lines (e ∷ p) = go (mine p e) refl (told_answers (answered_by pick usual) mine all p) (told_due pick usual mine all lines p)
  where
    calls : Calls Answer Answer
    calls = answered_by pick usual

    more : List Answer → List Answer → List Answer
    more answers due = cond (is_some (pick e)) (get_or lines (length answers) usual ∷ due) due

    go : (b : Bool) → mine p e ≡ b → answers_of calls (among mine p) ≡ answers_of calls p → due_answers calls lines (among mine p) ≡ due_answers calls lines p
        → due_answers calls lines (cond b (e ∷ among mine p) (among mine p)) ≡ due_answers calls lines (e ∷ p)
    go true is answers due = ap (λ (a : List Answer). more a (due_answers calls lines (among mine p))) answers ∙ ap (more (answers_of calls p)) due
    go false is answers due = rw (all p e is) due

told_answered : {Answer : Type 0} (pick : Entry → Option Answer) (usual : Answer) (mine : List Entry → Entry → Bool) → AreAmong (answered_by pick usual) mine
    → (lines : List Answer) (p : List Entry) → AreAnswered (answered_by pick usual) lines (among mine p) → AreAnswered (answered_by pick usual) lines p
told_answered pick usual mine all lines p so_far = sym (told_answers (answered_by pick usual) mine all p) ∙ so_far ∙ told_due pick usual mine all lines p

-- what is no such entry uses no line
pub uses_over : {Line Answer : Type 0} (calls : Calls Line Answer) (mine : List Entry → Entry → Bool) → AreAmong calls mine → (lines : List Line) (used : ℕ) (p : List Entry) (e : Entry) → mine p e ≡ false → AreUsed calls lines used p → AreUsed calls lines used (e ∷ p)
uses_over calls mine all lines used p e other uses = rw (all p e other) uses

-- where each call on the hooks passes a rule by which calls of this kind are answered what is due, all are
pub obeys_answered : {Line Answer : Type 0} (calls : Calls Line Answer) → AreAmong calls (anywhere is_hooks) → (lines : List Line) (rule : List Entry → Entry → Type 0)
    → ((p : List Entry) (e : Entry) → rule p e → IsAnswered calls lines p e) → (p : List Entry) → Obeys rule [] p → AreAnswered calls lines p
obeys_answered calls all lines rule due _ Same = refl
obeys_answered {Line} {Answer} calls all lines rule due _ (More e p before passes) = go (calls.pick e) (now (is_hooks e) refl) (obeys_answered calls all lines rule due p before)
  where
    now : (b : Bool) → is_hooks e ≡ b → IsAnswered calls lines p e
    now true is = due p e (passes is)
    now false is = rw (all p e is) tt

    go : (o : Option Answer) → IfSome o (λ answer. answer ≡ due_answer calls lines p e) → AreAnswered calls lines p
        → with_answer o (answers_of calls p) ≡ cond (is_some o) (due_answer calls lines p e ∷ due_answers calls lines p) (due_answers calls lines p)
    go None is so_far = so_far
    go (Some answer) is so_far = λ i. is i ∷ so_far i

-- ---- each kind

pub hands_among : AreAmong hands (anywhere is_hooks)
hands_among p (Hand n names acts) other = absurd cc
hands_among p (_) other = refl

pub filters_among : (ignores : Ignores) → AreAmong (filters ignores) (anywhere is_hooks)
filters_among ignores p (Filter n name answer) other = absurd cc
filters_among ignores p (_) other = refl

pub dirs_among : (ignores : Ignores) → AreAmong (dirs ignores) (anywhere is_hooks)
dirs_among ignores p (Dir n path answer) other = absurd cc
dirs_among ignores p (_) other = refl

pub errors_among : AreAmong errors (anywhere is_hooks)
errors_among p (Show n error wish) other = absurd cc
errors_among p (_) other = refl

pub polls_among : AreAmong polls (anywhere is_hooks)
polls_among p (Poll job n ready) other = absurd cc
polls_among p (_) other = refl

-- what is no call on hooks uses no words
pub hooks_over : (lines : List (List (List ℕ))) (used : ℕ) (p : List Entry) (e : Entry) → is_hooks e ≡ false → AreHooksUsed lines used p → AreHooksUsed lines used (e ∷ p)
hooks_over lines used p (Hook job n left) other uses = absurd cc
hooks_over lines used p (_) other uses = uses

-- an entry that is no call on hooks is none of a spawn hook
hooked_over : (lines : List (List (List ℕ))) (p : List Entry) (e : Entry) → is_hooks e ≡ false → IsHooked lines p e
hooked_over lines p (Hook job n left) other = absurd cc
hooked_over lines p (_) other = tt

-- a spawn hook that was given what its job was created to run, and left the words that are due behind, did what was wished
pub leaves_wished : (plan : Wished) (p : List Entry) (job : Id) (n : ℕ) (left : Result Spawnable Memory) (what : Command) → RunsOnly job what p → LeavesWords plan.hooks p (spawnable_of what) (Hook job n left) → IsWished plan p (Hook job n left)
leaves_wished plan p job n left what runs words = record { acts = tt; verdict = tt; judgement = tt; wish = tt; ready = tt; words = λ created so. rw (runs created so) words }

-- where each call on the hooks passes a rule by which spawn hooks leave the words that are due, all do
pub obeys_hooked : (lines : List (List (List ℕ))) (rule : List Entry → Entry → Type 0) → ((p : List Entry) (e : Entry) → rule p e → IsHooked lines p e) → (p : List Entry) → Obeys rule [] p → AreHooked lines p
obeys_hooked lines rule due _ Same = tt
obeys_hooked lines rule due _ (More e p before passes) = (now (is_hooks e) refl, obeys_hooked lines rule due p before)
  where
    now : (b : Bool) → is_hooks e ≡ b → IsHooked lines p e
    now true is = due p e (passes is)
    now false is = hooked_over lines p e is

calls_among : (k : HostCall) → AreAmong (calls k) is_world
calls_among k p (Spawn child job tag what answer) other = search
calls_among k p (Make back kind follow answer) other = search
calls_among k p (_) other = search

-- a world that answers what the script says, told the calls of this run
pub follows_answers : (s : Script) (plan : Given) (told p : List Entry)
    → plan ≡ given_of s → FollowsAnswers plan.answers told → Some told ≡ tells is_world p (Some []) → FollowsAnswers s.answers p
follows_answers s plan told p is follows tells_run k =
    let whole : Some told ≡ Some (among is_world p) = tells_run ∙ tells_among is_world p [] ∙ ap Some (append-nil (among is_world p)) in
    let same : told ≡ among is_world p = cc in
    told_answered (λ e. reply e k) (row k).usual is_world (calls_among k) ((row k).lines s.answers) p
    (subst (λ (g : Given). AreAnswered (calls k) ((row k).lines g.answers) (among is_world p)) is (subst (AreAnswered (calls k) ((row k).lines plan.answers)) same (follows k)))

-- ---- one turn more of a script

-- the last moment after one turn more
pub risen_more : (before last : ℕ) (turns : List ScriptTurn) (x : ScriptTurn) → risen before turns ≡ Some last → risen before (turns ++ x ∷ []) ≡ risen last (x ∷ [])
risen_more before last [] x so_far = cc
risen_more before last (Turn t ∷ turns) x so_far = go (nat_le before t.at) so_far (risen_more t.at last turns x)
  where
    go : (b : Bool) → (if b then risen t.at turns else None) ≡ Some last → (risen t.at turns ≡ Some last → risen t.at (turns ++ x ∷ []) ≡ risen last (x ∷ [])) → (if b then risen t.at (turns ++ x ∷ []) else None) ≡ risen last (x ∷ [])
    go true e more = more e
    go false e more = cc
risen_more before last (Fault code ∷ turns) x so_far = risen_more before last turns x so_far

-- a script goes on with a turn that is no earlier than its last one
pub rises_turn : (turns : List ScriptTurn) (last : ℕ) (t : Timed) → Rises turns last → nat_le last t.at ≡ true → Rises (turns ++ Turn t ∷ []) t.at
rises_turn turns last t so_far later = risen_more 0 last turns (Turn t) so_far ∙ ap (λ b. if b then Some t.at else None) later

-- or with a fault
pub rises_fault : (turns : List ScriptTurn) (last code : ℕ) → Rises turns last → Rises (turns ++ Fault code ∷ []) last
rises_fault turns last code so_far = risen_more 0 last turns (Fault code) so_far

-- and the turn more is no last turn
pub come_more : (turns : List ScriptTurn) (x : ScriptTurn) → list_all comes turns ≡ true → comes x ≡ true → list_all comes (turns ++ x ∷ []) ≡ true
come_more [] x all one = rw one refl
come_more (y ∷ turns) x all one = go (comes y) all (λ e. come_more turns x e one)
  where
    go : (b : Bool) → (b && list_all comes turns) ≡ true → (list_all comes turns ≡ true → list_all comes (turns ++ x ∷ []) ≡ true) → (b && list_all comes (turns ++ x ∷ [])) ≡ true
    go true e more = more e
    go false e more = cc

-- what hooks that follow a script keep, by their rule
pub wished_follows : (s : Script) (plan : Wished) (p : List Entry) → plan ≡ wished_of s → Obeys (λ q e. IsWished plan q e) [] p
    → AreAnswered hands s.actions p × AreAnswered (filters (ignores_of s)) s.filters p × AreAnswered (dirs (ignores_of s)) s.dirs p × AreAnswered errors s.errors p × AreAnswered polls s.polls p × AreHooked s.hooks p
wished_follows s plan p is obeys = (
  subst (λ (w : Wished). AreAnswered hands w.actions p) is (obeys_answered hands hands_among plan.actions _ (λ q e due. due.acts) p obeys),
  subst (λ (w : Wished). AreAnswered (filters w.ignores) w.filters p) is (obeys_answered (filters plan.ignores) (filters_among plan.ignores) plan.filters _ (λ q e due. due.verdict) p obeys),
  subst (λ (w : Wished). AreAnswered (dirs w.ignores) w.dirs p) is (obeys_answered (dirs plan.ignores) (dirs_among plan.ignores) plan.dirs _ (λ q e due. due.judgement) p obeys),
  subst (λ (w : Wished). AreAnswered errors w.errors p) is (obeys_answered errors errors_among plan.errors _ (λ q e due. due.wish) p obeys),
  subst (λ (w : Wished). AreAnswered polls w.polls p) is (obeys_answered polls polls_among plan.polls _ (λ q e due. due.ready) p obeys),
  subst (λ (w : Wished). AreHooked w.hooks p) is (obeys_hooked plan.hooks _ (λ q e due. due.words) p obeys),
)
