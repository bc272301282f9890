-- What is watched is owed where it may come: a step, and what was brought, where a backend stands, and a backend where settings were applied.
use Rattle.std.proofs.Common.{◌≡◌, ℕ, Bool, true, false, cond, List, [], ◌∷◌, Ok, refl, ap, sym, subst, ◌∙◌}
use Rattle.std.specs.Prelude.{Option, None, Some, is_some, Result, Ok, Err}
use Rattle.wx_watch.specs.declared.notify_fault.NotifyFault.{NotifyFault}
use Rattle.wx_watch.specs.declared.watched.Watcher.{Watcher}
use Rattle.wx_config.specs.declared.config.Config.{Config}
use Rattle.wx_error.specs.declared.runtime.RuntimeError.{RuntimeError}
use Rattle.wx_error.specs.declared.error.CriticalError.{CriticalError}
use Rattle.wx_journal.specs.declared.entry.Entry.{Entry}
use Rattle.wx_journal.specs.declared.entry.Word.{Word}
use Rattle.wx_journal.specs.declared.entry.Entry.TheVariants.{Turn as Turned, TurnFault, Offer, Word as Said, Show, Dir, Make, Applied, Heard, Brought, LetGo, Ready}
use Rattle.wx_journal.specs.declared.entry.TurnKind.{TurnKind}
use Rattle.wx_journal.specs.declared.entry.TurnKind.TheVariants.{Listen, File}
use Rattle.wx_journal.specs.Names.{item_count}
use Rattle.wx_machine.specs.Case.{next}
use Rattle.wx_machine.specs.Start.{Start}
use Rattle.wx_machine.specs.Settings.{settings}
use Rattle.wx_machine.specs.Journal.{closed, ending}
use Rattle.wx_machine.specs.Files.{source, is_file_word, is_about_files, was_applied, has_backend, applied, is_applied, is_to_make, finds_full, item_fault, item_named}
use Rattle.wx_machine.specs.Due.{Applies, Makes, Listens, LetsGo, Step, Judges, Errs, Remakes, Finishes, Rests, step_entry, Agenda, Open, Comes, Steps, Plans, Ends, Breaks, IsTurn, Admits, plans, rest, watch_turn, listen_turn, rest_entry, turn_agenda, after_show, after_make, after_brought, after_fault, follow, is_quitting, settle, agenda, IsRun}
use Rattle.wx_machine.proofs.Owners.{either}
use Rattle.wx_machine.proofs.PlanLaws.{lawful_now, of_end, end_is_plan}
use Rattle.wx_machine.proofs.Orderly.{IsBrought, IsFit}
use Rattle.wx_machine.proofs.RunLaws.{brought, follow_plan, orderly}
use Rattle.wx_machine.proofs.LaneLaws.{no_file_word}
use Rattle.wx_machine.proofs.RestLaws.{IsListened, listened_is, IsRest, rest_is}
use Rattle.wx_machine.proofs.NoFiles.{NoFiles, none_plans, none_follow, none_begin, none_turn}

-- A backend is to be made where settings were applied. A step may come where a backend stands too, and one is asked what it brings where it
-- stands. Nothing else stands behind.
abbrev pub Watches : Start → List Entry → Agenda → Type 0
Watches s p (Comes Makes more) = (was_applied s p ≡ true) × NoFiles s more
Watches s p (Comes Applies more) = NoFiles s more
Watches s p (Comes (Listens back) more) = (has_backend s p ≡ true) × NoFiles s more
Watches s p (Comes (LetsGo item) more) = NoFiles s more
Watches s p (Comes x more) = NoFiles s (Comes x more)
Watches s p (Steps untouched more) = (was_applied s p ≡ true) × (has_backend s p ≡ true) × NoFiles s more
Watches s p (_) = Unit {0}

watches_none : (s : Start) (p : List Entry) (k : Agenda) → NoFiles s k → Watches s p k
watches_none s p (Comes Makes more) n = let both : true ≡ false = n.0 [] (Ok tt) in absurd cc
watches_none s p (Comes Applies more) n = n.1
watches_none s p (Comes (Listens back) more) n = let both : true ≡ false = n.0 [] None in absurd cc
watches_none s p (Comes (LetsGo item) more) n = n.1
watches_none s p (Comes x more) n = n
watches_none s p (Steps untouched more) n = absurd n
watches_none s p (_) n = tt

watches_applied : (s : Start) (p : List Entry) (makes : Bool) (more : Agenda) → was_applied s p ≡ true → NoFiles s more → Watches s p (cond makes (Comes Makes more) more)
watches_applied s p true more was n = (was, n)
watches_applied s p false more was n = watches_none s p more n

watches_made : (s : Start) (p : List Entry) (answer : Result (Unit {0}) NotifyFault) (more : Agenda) → Watches s p more → Watches s p (after_make answer more)
watches_made s p (Ok done) more w = w
watches_made s p (Err fault) more w = tt

watches_shown : (s : Start) (p : List Entry) (o : Option CriticalError) (more : Agenda) → Watches s p more → Watches s p (after_show o more)
watches_shown s p None more w = w
watches_shown s p (Some error) more w = tt

watches_brought : (s : Start) (p : List Entry) (full : Bool) (item : ℕ) (more : Agenda) → NoFiles s more → Watches s p (after_brought full item more)
watches_brought s p true item more n = n
watches_brought s p false item more n = watches_none s p more n

watches_heard : (s : Start) (p : List Entry) (shut : Bool) (watcher : Watcher) (fault : Option NotifyFault) (more : Agenda) → NoFiles s more → Watches s p (after_fault shut watcher fault more)
watches_heard s p shut watcher None more n = watches_none s p more n
watches_heard s p true watcher (Some fault) more n = watches_none s p more n
watches_heard s p false watcher (Some fault) more n = (λ q a. refl, n)

-- behind what a point brought
watches_point : (s : Start) (p : List Entry) (e : Entry) (more : Agenda) → IsBrought s p e → NoFiles s more → Watches s (e ∷ p) (follow s e p more)
watches_point s p (Turned t) more b n = absurd b
watches_point s p (TurnFault code) more b n = absurd b
watches_point s p (Said word) more b n = watches_none s (Said word ∷ p) more n
watches_point s p (Dir m path answer) more b n = watches_none s (Dir m path answer ∷ p) more n
watches_point s p (Make back watcher links answer) more b n = watches_made s (Make back watcher links answer ∷ p) answer more (watches_none s (Make back watcher links answer ∷ p) more n)
watches_point s p (Applied named) more b n = watches_applied s (Applied named ∷ p) (is_to_make (settings s p) (source s p)) more refl n
watches_point s p (Offer name item result event priority) more b n = watches_none s (Offer name item result event priority ∷ p) more n
watches_point s p (Brought item back answer) more b n = watches_brought s (Brought item back answer ∷ p) (finds_full s p answer) item more n
watches_point s p (LetGo item cause) more b n = watches_none s (LetGo item cause ∷ p) more n
watches_point s p (Heard item) more b n = watches_heard s (Heard item ∷ p) (closed p) (applied s p).file_watcher (item_fault (item_named item (source s p).lane)) more n
watches_point s p (Ready named) more b n = watches_none s (Ready named ∷ p) more n
watches_point s p (e) more b n = watches_none s (e ∷ p) (follow s e p more) (none_follow s p e more (λ i. i) refl n)

-- behind what comes in place of a step
watches_rest : (s : Start) (p : List Entry) (e : Entry) (untouched : Bool) (more : Agenda) → IsRest e → NoFiles s more → Watches s (e ∷ p) (follow s e p (rest e (Steps untouched more)))
watches_rest s p (Said word) untouched more r n = watches_none s (Said word ∷ p) more n
watches_rest s p (Offer name item result event priority) untouched more r n = watches_none s (Offer name item result event priority ∷ p) more n
watches_rest s p (LetGo item cause) untouched more r n = watches_none s (LetGo item cause ∷ p) more n
watches_rest s p (Heard item) untouched more r n = watches_heard s (Heard item ∷ p) (closed p) (applied s p).file_watcher (item_fault (item_named item (source s p).lane)) more n
watches_rest s p (Ready named) untouched more r n = watches_none s (Ready named ∷ p) more n
watches_rest s p (_) untouched more r n = absurd r

-- behind an entry of a step
watches_step : (s : Start) (p : List Entry) (untouched : Bool) (more : Agenda) (a : Step s p untouched) → Watches s p (Steps untouched more) → Watches s (step_entry s p untouched a ∷ p) (follow s (step_entry s p untouched a) p (rest (step_entry s p untouched a) (Steps untouched more)))
watches_step s p untouched more (Judges path below answer) w = w
watches_step s p untouched more (Errs error wish is_open) w = watches_shown s (Show (settings s p).error_handler error wish ∷ p) (ending error wish) (Steps false more) w
watches_step s p untouched more (Remakes (Ok done)) w = (w.0, refl, w.2)
watches_step s p untouched more (Remakes (Err fault)) w = tt
watches_step s p untouched more Finishes w = watches_none s (step_entry s p untouched Finishes ∷ p) more w.2
watches_step s p untouched more (Rests is_untouched) w = watches_rest s p (rest_entry s p) untouched more (rest_is s p) w.2

-- what a turn about files owes
watches_watch : (s : Start) (p : List Entry) (current : Option ℕ) → (source s p).current ≡ current → was_applied s p ≡ true → Watches s p (watch_turn current)
watches_watch s p None is was = (λ q a. refl, tt)
watches_watch s p (Some back) is was = (was, ap (λ (o : Option ℕ). is_some o) is, tt)

applied_some : (c : Config) (o : Option Config) → is_applied c o ≡ true → is_some o ≡ true
applied_some c None is = absurd cc
applied_some c (Some applied) is = refl

pub watches_file : (s : Start) (p : List Entry) (is : Bool) → is_applied (settings s p) (source s p).applied ≡ is → Watches s p (cond is (watch_turn (source s p).current) (Comes Applies Open))
watches_file s p true e = watches_watch s p (source s p).current refl (applied_some (settings s p) (source s p).applied e)
watches_file s p false e = tt

-- what one owes that asks what was brought
watches_listen : (s : Start) (p : List Entry) (current : Option ℕ) → (source s p).current ≡ current → Watches s p (listen_turn current)
watches_listen s p None is = (λ q a. refl, tt)
watches_listen s p (Some back) is = (ap (λ (o : Option ℕ). is_some o) is, tt)

-- all other turns owe nothing of it
watches_turn : (s : Start) (p : List Entry) (kind : TurnKind) (at : ℕ) → Watches s p (turn_agenda s kind at p)
watches_turn s p File at = watches_file s p (is_applied (settings s p) (source s p).applied) refl
watches_turn s p Listen at = watches_listen s p (source s p).current refl
watches_turn s p (kind) at = watches_none s p (turn_agenda s kind at p) (none_turn s p kind at refl)

watches_turned : (s : Start) (p : List Entry) (e : Entry) → IsTurn e → Watches s (e ∷ p) (follow s e p Open)
watches_turned s p (Turned t) i = watches_turn s (Turned t ∷ p) t.kind t.at
watches_turned s p (TurnFault code) i = tt
watches_turned s p (_) i = absurd i

watches_settle : (s : Start) (p : List Entry) (k : Agenda) → Watches s p k → Watches s p (settle p k)
watches_settle s p Open w = either (Watches s p) (is_quitting p) Ends Open tt tt
watches_settle s p (k) w = w

watches_follow : (s : Start) (p : List Entry) (k : Agenda) (e : Entry) → Admits s p k e → IsFit s p k → Watches s p k → Watches s (e ∷ p) (follow s e p (rest e k))
watches_follow s p Open e d f w = watches_turned s p e d
watches_follow s p (Comes Makes more) e d f w = watches_point s p e more (brought s p Makes more e d f) w.1
watches_follow s p (Comes Applies more) e d f w = watches_point s p e more (brought s p Applies more e d f) w
watches_follow s p (Comes (Listens back) more) e d f w = watches_point s p e more (brought s p (Listens back) more e d f) w.1
watches_follow s p (Comes (LetsGo item) more) e d f w = watches_point s p e more (brought s p (LetsGo item) more e d f) w
watches_follow s p (Comes x more) e d f w = watches_point s p e more (brought s p x more e d f) w.1
watches_follow s p (Steps untouched more) e d f w = subst (λ (x : Entry). Watches s (x ∷ p) (follow s x p (rest x (Steps untouched more)))) (sym d.1) (watches_step s p untouched more d.0 w)
watches_follow s p (Plans k more) e d f w = subst (Watches s (e ∷ p)) (sym (follow_plan s p e (plans (next k e) more) (lawful_now p k e d f.0).of_plan)) (watches_none s (e ∷ p) (plans (next k e) more) (none_plans s (next k e) more f.1))
watches_follow s p Ends e d f w = subst (Watches s (e ∷ p)) (sym (follow_plan s p e Ends (end_is_plan e (of_end p e d)))) tt
watches_follow s p Breaks e d f w = absurd d

-- so it is in each run
pub watches : (s : Start) (p : List Entry) → IsRun s p → Watches s p (agenda s p)
watches s [] r = watches_none s [] (agenda s []) (none_begin s)
watches s (e ∷ p) r = watches_settle s (e ∷ p) (follow s e p (rest e (agenda s p))) (watches_follow s p (agenda s p) e r.0 (orderly s p r.1).fit (watches s p r.1))

-- ---- where one of these entries may come

pub dir_at : (s : Start) (p : List Entry) (k : Agenda) (n : ℕ) (path : List ℕ) (answer : Result Bool RuntimeError) → Admits s p k (Dir n path answer) → IsFit s p k → Watches s p k → (was_applied s p ≡ true) × (has_backend s p ≡ true)
dir_at s p Open n path answer d f w = absurd d
dir_at s p (Comes Makes more) n path answer d f w = let h = d.1 in absurd cc
dir_at s p (Comes (Listens back) more) n path answer d f w = absurd (subst IsListened (sym d.1) (listened_is (item_count p) back d.0))
dir_at s p (Comes x more) n path answer d f w = let h = d.1 in absurd cc
dir_at s p (Steps untouched more) n path answer d f w = (w.0, w.1)
dir_at s p (Plans k more) n path answer d f w = absurd (lawful_now p k (Dir n path answer) d f.0).of_plan
dir_at s p Ends n path answer d f w = absurd (of_end p (Dir n path answer) d)
dir_at s p Breaks n path answer d f w = absurd d

pub make_at : (s : Start) (p : List Entry) (k : Agenda) (back : ℕ) (watcher : Watcher) (links : Bool) (answer : Result (Unit {0}) NotifyFault) → Admits s p k (Make back watcher links answer) → IsFit s p k → Watches s p k → was_applied s p ≡ true
make_at s p Open back watcher links answer d f w = absurd d
make_at s p (Comes Makes more) back watcher links answer d f w = w.0
make_at s p (Comes (Listens from) more) back watcher links answer d f w = absurd (subst IsListened (sym d.1) (listened_is (item_count p) from d.0))
make_at s p (Comes x more) back watcher links answer d f w = let h = d.1 in absurd cc
make_at s p (Steps untouched more) back watcher links answer d f w = w.0
make_at s p (Plans k more) back watcher links answer d f w = absurd (lawful_now p k (Make back watcher links answer) d f.0).of_plan
make_at s p Ends back watcher links answer d f w = absurd (of_end p (Make back watcher links answer) d)
make_at s p Breaks back watcher links answer d f w = absurd d

pub word_at : (s : Start) (p : List Entry) (k : Agenda) (word : Word) → is_file_word word ≡ true → Admits s p k (Said word) → IsFit s p k → Watches s p k → has_backend s p ≡ true
word_at s p Open word is d f w = absurd d
word_at s p (Comes Makes more) word is d f w = let h = d.1 in absurd cc
word_at s p (Comes Applies more) word is d f w = let h = d.1 in absurd cc
word_at s p (Comes (Listens back) more) word is d f w = w.0
word_at s p (Comes (LetsGo item) more) word is d f w = let h = d.1 in absurd cc
word_at s p (Comes x more) word is d f w = let both : true ≡ false = sym is ∙ ap is_about_files d.1 ∙ w.0 p d.0 in absurd cc
word_at s p (Steps untouched more) word is d f w = w.1
word_at s p (Plans k more) word is d f w = let both : true ≡ false = sym is ∙ no_file_word word (lawful_now p k (Said word) d f.0).of_plan in absurd cc
word_at s p Ends word is d f w = absurd (of_end p (Said word) d)
word_at s p Breaks word is d f w = absurd d
