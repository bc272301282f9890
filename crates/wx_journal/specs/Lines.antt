-- The lines of entries, and the end line of a run.
use Rattle.std.proofs.Common.{refl}
use Rattle.std.specs.Prelude.{ℕ, ◌<◌, ◌^◌, Result, Ok, Err, List, [], ◌∷◌, ◌++◌, codes}
use Rattle.wx_words.specs.Line.{joined}
use Rattle.wx_words.specs.Lists.{ListFits}
use Rattle.wx_words.specs.Spellings.{Spelling}
use Rattle.wx_words.specs.Choices.{Row, row, Behind, fields}
use Rattle.wx_words.specs.ChoiceLaws.{MadeAgain, SpeltSo, choice}
use Rattle.wx_words.specs.Parts.{line, nothing, both, named, list_of, as_line, number}
use Rattle.wx_error.specs.Critical.{critical}
use Rattle.wx_error.specs.declared.error.CriticalError.{CriticalError}
use Rattle.wx_journal.specs.declared.entry.Entry.{Entry}
use Rattle.wx_journal.specs.Entries.{entry_words, EntryFits}

-- words as a line, with its line feed
abbrev pub line_of : List (List ℕ) → List ℕ
line_of ws = joined ws ++ 10 ∷ []

abbrev pub entry_line : Entry → List ℕ
entry_line e = line_of (entry_words e)

-- the numbers and texts of a journal are those of the code
abbrev pub JournalFits : List Entry → Type 0
JournalFits journal = ListFits EntryFits journal

-- ---- what a run answers

abbrev pub Answer : Type 0
Answer = Result (Unit {0}) CriticalError

-- each first word of an answer, and what stands behind it
abbrev pub answer_rows : List (Row line Answer)
answer_rows = row (codes "ok") nothing (λ u. Ok u) ∷ row (codes "error") critical Err ∷ []

abbrev pub answer_word : Answer → List ℕ
answer_word (Ok u) = codes "ok"
answer_word (Err error) = codes "error"

abbrev pub answer_behind : Answer → Behind line
answer_behind (Ok u) = fields nothing u
answer_behind (Err error) = fields critical error

pub answer_made : MadeAgain answer_rows answer_word answer_behind
answer_made (Ok u) = (_, refl, refl)
answer_made (Err error) = (_, refl, refl)

pub answer_so : SpeltSo answer_rows answer_word answer_behind
answer_so = search

unfoldable pub answer : Spelling line Answer
answer = choice answer_rows answer_word answer_behind answer_made answer_so refl

abbrev pub AnswerFits : Answer → Type 0
AnswerFits a = answer.fits a

-- the answer, and the names of the events that are lost
abbrev pub end : Spelling line (Answer × List ℕ)
end = named (codes "end") refl (both answer (named (codes "lost") refl (list_of (as_line number))))

abbrev pub end_words : Answer → List ℕ → List (List ℕ)
end_words a lost = end.words (a, lost)

abbrev pub NamesFit : List ℕ → Type 0
NamesFit names = ListFits (λ n. n < 2 ^ 64) names
