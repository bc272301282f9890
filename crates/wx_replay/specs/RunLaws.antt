-- A run of a script by which no turn and no maker fails, and in which nothing is wished of an error, ends with Ok or for want of memory.
use Rattle.std.proofs.Common.{◌≡◌, ℕ, zero, suc, false, cond, is_some, Option, None, Some, Ok, Err, List, [], ◌∷◌, length, refl, sym, ap, subst, ◌∙◌, arith, inl, inr}
use Rattle.std.specs.List.{list_any}
use Rattle.std.proofs.lemmas.List.{get_or_past}
use Rattle.wx_error.specs.declared.error.CriticalError.{CriticalError}
use Rattle.wx_error.specs.declared.error.CriticalError.TheVariants.{IoError, Memory}
use Rattle.wx_journal.specs.declared.entry.Entry.{Entry}
use Rattle.wx_journal.specs.declared.entry.Entry.TheVariants.{Turn as Turned, TurnFault, Show, Make}
use Rattle.wx_journal.specs.declared.wish.Wish.TheVariants.{Nothing}
use Rattle.wx_journal.specs.Lines.{Answer}
use Rattle.wx_machine.specs.Answer.{Answers, Dying, Alive, Dies, IsBroken, Wishes}
use Rattle.wx_machine.specs.Files.{init_error}
use Rattle.wx_machine.specs.Journal.{ending, turn_fault, wished}
use Rattle.wx_machine.specs.Start.{Start}
use Rattle.wx_script.specs.declared.script.Script.{Script}
use Rattle.wx_script.specs.declared.script.ScriptTurn.{ScriptTurn}
use Rattle.wx_script.specs.declared.script.ScriptTurn.TheVariants.{Turn, Fault}
use Rattle.wx_script.specs.Acted.{errors}
use Rattle.wx_script.specs.Answered.{Calls, AreAnswered, answers_of, due_answer, due_answers, with_answer}
use Rattle.wx_script.specs.HostCalls.{Makes, calls}
use Rattle.wx_script.specs.Turns.{given, newest, turns_of}
use Rattle.wx_engine.specs.Completes.{IsOkOrMemory}
use Rattle.wx_replay.specs.Runs.{IsRunOf, IsSmooth, fails_turn}

first_same : {A : Type 0} (x y : A) (xs ys : List A) → ◌≡◌ {A = List A} (x ∷ xs) (y ∷ ys) → x ≡ y
first_same x y xs ys e = cc

rest_same : {A : Type 0} (x y : A) (xs ys : List A) → ◌≡◌ {A = List A} (x ∷ xs) (y ∷ ys) → xs ≡ ys
rest_same x y xs ys e = cc

some_same : {A : Type 0} {x y : A} → ◌≡◌ {A = Option A} (Some x) (Some y) → x ≡ y
some_same e = cc

-- ---- no turn fails

abbrev NoneFails : List Entry → Type 0
NoneFails [] = Unit {0}
NoneFails (TurnFault code ∷ p) = ⊥
NoneFails (_ ∷ p) = NoneFails p

newest_so : (turns : List ScriptTurn) (last n : ℕ) → list_any fails_turn turns ≡ false → NoneFails (newest (given turns last) n)
newest_so turns last zero h = tt
newest_so turns last (suc n) h = one turns n _ h (newest_so turns last n h)
  where
    one : (xs : List ScriptTurn) (k : ℕ) (p : List Entry) → list_any fails_turn xs ≡ false → NoneFails p → NoneFails (given xs last k ∷ p)
    one [] k p h rest = rest
    one (Turn t ∷ xs) zero p h rest = rest
    one (Fault code ∷ xs) k p h rest = absurd cc
    one (Turn t ∷ xs) (suc k) p h rest = one xs k p h rest

no_fault : (p : List Entry) → NoneFails (turns_of p) → turn_fault p ≡ None
no_fault [] h = refl
no_fault (TurnFault code ∷ p) h = elim h [ ]
no_fault (Turned t ∷ p) h = no_fault p h
no_fault (_ ∷ p) h = no_fault p h

-- ---- nothing is wished

older : {Line Reply : Type 0} (kind : Calls Line Reply) (lines : List Line) (e : Entry) (p : List Entry) → AreAnswered kind lines (e ∷ p) → AreAnswered kind lines p
older {Line} {Reply} kind lines e p = go (kind.pick e)
  where
    go : (o : Option Reply) → with_answer o (answers_of kind p) ≡ cond (is_some o) (due_answer kind lines p e ∷ due_answers kind lines p) (due_answers kind lines p) → AreAnswered kind lines p
    go None same = same
    go (Some answer) same = rest_same answer (due_answer kind lines p e) (answers_of kind p) (due_answers kind lines p) same

before_end : {Line Reply : Type 0} (kind : Calls Line Reply) (lines : List Line) (q : List Entry) {p : List Entry} → Dying q p → AreAnswered kind lines p → AreAnswered kind lines q
before_end kind lines q Alive answered = answered
before_end kind lines q (Dies e p dying admits) answered = before_end kind lines q dying (older kind lines e p answered)

none_wished : (q : List Entry) → AreAnswered errors [] q → AreAnswered (calls Makes) [] q → wished q ≡ None
none_wished [] shown made = refl
none_wished (Show n error wish ∷ q) shown made =
    let same = first_same wish (due_answer errors [] q (Show n error wish)) (answers_of errors q) (due_answers errors [] q) shown in
    ap (ending error) (same ∙ get_or_past [] (length (answers_of errors q)) Nothing (omega arith))
none_wished (Make back watcher follow answer ∷ q) shown made =
    let same = first_same answer (due_answer (calls Makes) [] q (Make back watcher follow answer)) (answers_of (calls Makes) q) (due_answers (calls Makes) [] q) made in
    ap (init_error watcher) (same ∙ get_or_past [] (length (answers_of (calls Makes) q)) (Ok tt) (omega arith))
none_wished (_ ∷ q) shown made = refl

not_broken : (s : Start) (error : CriticalError) (p : List Entry) → AreAnswered errors [] p → AreAnswered (calls Makes) [] p → IsBroken (Wishes error) s p → ⊥
not_broken s error p shown made broken =
    let none = none_wished broken.before (before_end errors [] broken.before broken.dying shown) (before_end (calls Makes) [] broken.before broken.dying made) in
    absurd (differ (sym none ∙ broken.cut))
  where
    differ : ◌≡◌ {A = Option CriticalError} None (Some error) → ⊥
    differ e = absurd cc

-- ---- so it ends well

ends_so : (s : Start) (p : List Entry) (a : Answer) → turn_fault p ≡ None → AreAnswered errors [] p → AreAnswered (calls Makes) [] p → Answers s p a → IsOkOrMemory a
ends_so s p (Ok u) none shown made is = tt
ends_so s p (Err Memory) none shown made is = tt
ends_so s p (Err (IoError about code)) none shown made (inl failed) = absurd (differ (sym none ∙ failed.fault))
  where
    differ : ◌≡◌ {A = Option ℕ} None (Some code) → ⊥
    differ e = absurd cc
ends_so s p (Err (IoError about code)) none shown made (inr broken) = not_broken s (IoError about code) p shown made broken
ends_so s p (Err error) none shown made broken = not_broken s error p shown made broken

pub ends_well : (s : Script) (p : List Entry) (a : Answer) → IsSmooth s → IsRunOf s p a → IsOkOrMemory a
ends_well s p a smooth run =
    let turns = subst NoneFails (sym run.follows.turns) (newest_so s.turns s.last (length (turns_of p)) smooth.turns) in
    ends_so _ p a (no_fault p turns)
    (subst (λ lines. AreAnswered errors lines p) smooth.errors run.follows.wished)
    (subst (λ lines. AreAnswered (calls Makes) lines p) smooth.makes (run.follows.answers Makes))
    run.answers
