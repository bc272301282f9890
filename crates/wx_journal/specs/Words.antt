-- The values of one word that stand in an entry.
use Rattle.std.proofs.Common.{refl}
use Rattle.std.specs.Prelude.{ℕ, List, [], ◌∷◌, codes}
use Rattle.wx_words.specs.Spellings.{Spelling}
use Rattle.wx_words.specs.Parts.{line, HasWords, keyword}
use Rattle.wx_journal.specs.declared.entry.Offered.{Offered}
use Rattle.wx_journal.specs.declared.entry.Offered.TheVariants.{Queued, Full, Closed}
use Rattle.wx_journal.specs.declared.entry.LetGoCause.{LetGoCause}
use Rattle.wx_journal.specs.declared.entry.LetGoCause.TheVariants as causes
use Rattle.wx_journal.specs.declared.entry.Word.{Word}
use Rattle.wx_journal.specs.declared.entry.Word.TheVariants.{Idle, Ignored, Quitting, Later, Quiet, Stepped}

abbrev pub offered_word : Offered → List ℕ
offered_word Queued = codes "queued"
offered_word Full = codes "full"
offered_word Closed = codes "closed"

abbrev pub offered_all : List Offered
offered_all = Queued ∷ Full ∷ Closed ∷ []

pub offered_found : HasWords offered_word offered_all
offered_found Queued = refl
offered_found Full = refl
offered_found Closed = refl

unfoldable pub offered : Spelling line Offered
offered = keyword offered_word offered_all offered_found refl

abbrev pub said_word : Word → List ℕ
said_word Idle = codes "idle"
said_word Ignored = codes "ignored"
said_word Quitting = codes "quitting"
said_word Later = codes "later"
said_word Quiet = codes "quiet"
said_word Stepped = codes "stepped"

abbrev pub said_all : List Word
said_all = Idle ∷ Ignored ∷ Quitting ∷ Later ∷ Quiet ∷ Stepped ∷ []

pub said_found : HasWords said_word said_all
said_found Idle = refl
said_found Ignored = refl
said_found Quitting = refl
said_found Later = refl
said_found Quiet = refl
said_found Stepped = refl

unfoldable pub said : Spelling line Word
said = keyword said_word said_all said_found refl

abbrev pub cause_word : LetGoCause → List ℕ
cause_word causes.Full = codes "full"
cause_word causes.Obsolete = codes "obsolete"
cause_word causes.Uncovered = codes "uncovered"

abbrev pub cause_all : List LetGoCause
cause_all = causes.Full ∷ causes.Obsolete ∷ causes.Uncovered ∷ []

pub cause_found : HasWords cause_word cause_all
cause_found causes.Full = refl
cause_found causes.Obsolete = refl
cause_found causes.Uncovered = refl

unfoldable pub cause : Spelling line LetGoCause
cause = keyword cause_word cause_all cause_found refl
