-- What the clauses of a run come to.
use Rattle.std.proofs.Common.{◌≡◌, ℕ, Bool, false, Result, Ok, Err, IfOk, List, [], subst}
use Rattle.wx_text.specs.declared.list.Memory.{Memory}
use Rattle.wx_command.specs.declared.command.Command.{Command}
use Rattle.wx_control.specs.Flags.{Flag}
use Rattle.wx_journal.specs.declared.entry.Entry.{Entry}
use Rattle.wx_journal.specs.Lines.{Answer}
use Rattle.wx_journal.specs.Told.{Obeys, anywhere, is_turn, is_world, tells}
use Rattle.wx_machine.specs.Answer.{Answers}
use Rattle.wx_machine.specs.Seen.{Seen}
use Rattle.wx_machine.specs.Start.{Start}
use Rattle.wx_paths.specs.Paths.{components}
use Rattle.wx_patterns.specs.Lines.{patterns_of}
use Rattle.wx_patterns.specs.declared.patterns.Patterns.{Patterns}
use Rattle.wx_plain.specs.Plain.{ArePlain, IsPlain}
use Rattle.wx_plain.specs.PlainLaws.{obeys_plain}
use Rattle.wx_live_action.specs.LiveActs.{AsksAsLive}
use Rattle.wx_live_run.specs.LiveRuns.{live_start}
use Rattle.wx_live_run.specs.Sides.{IsRunSide}

pub side_of : {Plan : Type 0} (folder : List ℕ) (ignores : List (List ℕ)) (command chosen : Command) (patterns : Patterns) (start : Start) (ready : Flag) (a b : Seen Plan) (journal : List Entry) (short : Bool) (answer : Answer) (r : Result Answer Memory)
    → start ≡ live_start ready folder
    → chosen ≡ command
    → patterns.base ≡ components folder
    → patterns.patterns ≡ patterns_of ignores
    → Answers start journal answer
    → (short ≡ false → Obeys (λ p e. IsPlain patterns.base patterns.patterns (AsksAsLive chosen) p e) [] journal)
    → b.shown.told ≡ tells is_world journal a.shown.told
    → b.progress.turns ≡ tells (anywhere is_turn) journal a.progress.turns
    → IfOk r (λ answered. (short ≡ false) × (answered ≡ answer))
    → IfOk r (λ answered. IsRunSide folder ignores command a b journal answered)
side_of folder ignores command chosen patterns start ready a b journal short answer (Ok answered) starts runs at by answers obeys told turns whole = record {
  ready = ready;
  answers = subst (λ (s : Start). Answers s journal answered) starts (rw whole.1 answers);
  acts = rw (← at, ← by) (subst (λ (c : Command). ArePlain patterns.base patterns.patterns (AsksAsLive c) journal) runs (obeys_plain patterns.base patterns.patterns (AsksAsLive chosen) journal (obeys whole.0)));
  told = told;
  turns = turns;
}
side_of folder ignores command chosen patterns start ready a b journal short answer (Err want) starts runs at by answers obeys told turns whole = tt
