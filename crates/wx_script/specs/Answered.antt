-- What a script answers to the calls of each kind.
use Rattle.std.specs.Prelude.{◌≡◌, ℕ, min, Bool, false, is_some, if◌then◌else◌, Option, None, Some, IfSome, List, [], ◌∷◌, length, get_or}
use Rattle.wx_journal.specs.declared.entry.Entry.{Entry}

-- A kind of calls: what its entry was answered, and no other entry was; the line that is taken for an entry, after these, where
-- none is written; and what a line answers, after these entries.
pub record Calls (Line Answer : Type 0) : Type 0 where
  pub pick : Entry → Option Answer
  pub usual : List Entry → Entry → Line
  pub says : List Entry → Line → Answer

-- the answers to the calls of a kind, the newest first
abbrev pub with_answer : {Answer : Type 0} → Option Answer → List Answer → List Answer
with_answer None answers = answers
with_answer (Some answer) answers = answer ∷ answers

abbrev pub answers_of : {Line Answer : Type 0} → Calls Line Answer → List Entry → List Answer
answers_of calls [] = []
answers_of calls (e ∷ p) = with_answer (calls.pick e) (answers_of calls p)

-- the answer that is due of an entry after these: the first call is answered by the first line, and so on, and those for which
-- none is left by the usual one
abbrev pub due_answer : {Line Answer : Type 0} → Calls Line Answer → List Line → List Entry → Entry → Answer
due_answer calls lines p e = calls.says p (get_or lines (length (answers_of calls p)) (calls.usual p e))

-- an entry, after these, was answered so, if it is of this kind
abbrev pub IsAnswered : {Line Answer : Type 0} → Calls Line Answer → List Line → List Entry → Entry → Type 0
IsAnswered calls lines p e = IfSome (calls.pick e) (λ answer. answer ≡ due_answer calls lines p e)

-- the answers that were due
abbrev pub due_answers : {Line Answer : Type 0} → Calls Line Answer → List Line → List Entry → List Answer
due_answers calls lines [] = []
due_answers calls lines (e ∷ p) = if is_some (calls.pick e) then due_answer calls lines p e ∷ due_answers calls lines p else due_answers calls lines p

-- each call of this kind was answered what was due
abbrev pub AreAnswered : {Line Answer : Type 0} → Calls Line Answer → List Line → List Entry → Type 0
AreAnswered calls lines p = answers_of calls p ≡ due_answers calls lines p

-- so many lines are used after these entries
abbrev pub AreUsed : {Line Answer : Type 0} → Calls Line Answer → List Line → ℕ → List Entry → Type 0
AreUsed calls lines used p = used ≡ min (length (answers_of calls p)) (length lines)

-- both
abbrev pub Answered : {Line Answer : Type 0} → Calls Line Answer → List Line → ℕ → List Entry → Type 0
Answered calls lines used p = AreAnswered calls lines p × AreUsed calls lines used p

-- each call of this kind is one of these entries
abbrev pub AreAmong : {Line Answer : Type 0} → Calls Line Answer → (List Entry → Entry → Bool) → Type 0
AreAmong calls mine = (p : List Entry) (e : Entry) → mine p e ≡ false → calls.pick e ≡ None

-- calls whose line is the answer
abbrev pub answered_as : {Answer : Type 0} → (Entry → Option Answer) → (List Entry → Entry → Answer) → Calls Answer Answer
answered_as pick usual = record { pick = pick; usual = usual; says = λ p line. line }

-- and for which the usual one is always this
abbrev pub answered_by : {Answer : Type 0} → (Entry → Option Answer) → Answer → Calls Answer Answer
answered_by pick usual = answered_as pick (λ p e. usual)
