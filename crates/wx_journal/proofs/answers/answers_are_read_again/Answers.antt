use Rattle.wx_words.specs.Parts.{line}
use Rattle.wx_words.specs.Spellings.{Spelling}
use Rattle.wx_journal.specs.Answers.{AreReadAgain, done, waited, verdict, backed, news, readied, hooked}
use Rattle.wx_journal.proofs.answers.answers_are_read_again.Goals as goal

-- a spelling has both as its own laws
read_again : {X : Type 0} (s : Spelling line X) → AreReadAgain s
read_again s = record { form = s.form; clean = s.clean }

pub returns-clause-done : goal.returns-clause-done
returns-clause-done c = read_again done

pub returns-clause-waited : goal.returns-clause-waited
returns-clause-waited c = read_again waited

pub returns-clause-verdict : goal.returns-clause-verdict
returns-clause-verdict c = read_again verdict

pub returns-clause-backed : goal.returns-clause-backed
returns-clause-backed c = read_again backed

pub returns-clause-news : goal.returns-clause-news
returns-clause-news c = read_again news

pub returns-clause-readied : goal.returns-clause-readied
returns-clause-readied c = read_again readied

pub returns-clause-hooked : goal.returns-clause-hooked
returns-clause-hooked c = read_again hooked
