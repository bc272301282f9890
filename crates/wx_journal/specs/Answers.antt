-- What a call on a child answers, and what a filter, a spawn hook, a maker of backends and a backend do, as words.
use Rattle.std.proofs.Common.{ℕ, Result, refl}
use Rattle.std.specs.Prelude.{Bool, true, false, Ok, Err, List, [], ◌∷◌, codes}
use Rattle.wx_words.specs.Clean.{AllClean}
use Rattle.wx_words.specs.Forms.{IsForm}
use Rattle.wx_words.specs.Spellings.{Spelling}
use Rattle.wx_words.specs.Texts.{text_in}
use Rattle.wx_words.specs.Choices.{Row, row, Behind, fields}
use Rattle.wx_words.specs.ChoiceLaws.{MadeAgain, SpeltSo, choice}
use Rattle.wx_words.specs.Parts.{line, HasWords, nothing, keyword, named, renamed, both, u32}
use Rattle.wx_words.specs.Results.{AreApart, result_of}
use Rattle.wx_words.specs.Done.{ok}
use Rattle.wx_text.specs.declared.list.Memory.{Memory}
use Rattle.wx_events.specs.Ends.{end}
use Rattle.wx_events.specs.declared.process.ProcessEnd.{ProcessEnd}
use Rattle.wx_command.specs.Commands.{spawnable}
use Rattle.wx_command.specs.OptionsLaws.{options}
use Rattle.wx_command.specs.declared.spawnable.Spawnable.{Spawnable}
use Rattle.wx_notify.specs.Notifies.{notify}
use Rattle.wx_notify.specs.declared.notify.Notify.{Notify}
use Rattle.wx_watch.specs.NotifyFaults.{notify_fault}
use Rattle.wx_watch.specs.declared.notify_fault.NotifyFault.{NotifyFault}
use Rattle.wx_error.specs.Runtime.{runtime}
use Rattle.wx_error.specs.declared.runtime.RuntimeError.{RuntimeError}
use Rattle.wx_journal.specs.declared.child.HostFault.{HostFault}

-- the values of a spelling are read again from their words, what is read was spelled so, and no word has a byte of 32 or less
pub record AreReadAgain {X : Type 0} (s : Spelling line X) : Type 0 where
  pub form : IsForm text_in s.fits s.words s.read
  pub clean : (x : X) → s.fits x → AllClean (s.words x)

abbrev pub make_fault : ℕ → HostFault
make_fault code = record { 0 = code }

-- the code behind the word fault
unfoldable pub fault : Spelling line HostFault
fault = named (codes "fault") refl (renamed u32 make_fault (λ f. f.0) (λ f. refl) (λ code. refl))

-- the value, or else a fault, whose words are those of no value
abbrev pub answer_of : {A : Type 0} (s : Spelling line A) → AreApart s fault → Spelling line (Result A HostFault)
answer_of s apart = result_of s fault apart

-- ---- the answers of calls that give no value, and of waits

pub ok_apart : AreApart ok fault
unfolding ok fault
ok_apart f rest = refl

pub end_apart : AreApart end fault
unfolding end fault
end_apart f rest = refl

abbrev pub done : Spelling line (Result (Unit {0}) HostFault)
done = answer_of ok ok_apart

abbrev pub waited : Spelling line (Result ProcessEnd HostFault)
waited = answer_of end end_apart

-- ---- the answer of a filter: whether the event passes, or why that isn't known

abbrev pub verdict_rows : List (Row line (Result Bool RuntimeError))
verdict_rows = row (codes "pass") nothing (λ u. Ok true) ∷ row (codes "reject") nothing (λ u. Ok false) ∷ row (codes "fail") runtime Err ∷ []

abbrev pub verdict_word : Result Bool RuntimeError → List ℕ
verdict_word (Ok true) = codes "pass"
verdict_word (Ok false) = codes "reject"
verdict_word (Err error) = codes "fail"

abbrev pub verdict_behind : Result Bool RuntimeError → Behind line
verdict_behind (Ok true) = fields nothing tt
verdict_behind (Ok false) = fields nothing tt
verdict_behind (Err error) = fields runtime error

pub verdict_made : MadeAgain verdict_rows verdict_word verdict_behind
verdict_made (Ok true) = (_, refl, refl)
verdict_made (Ok false) = (_, refl, refl)
verdict_made (Err error) = (_, refl, refl)

pub verdict_so : SpeltSo verdict_rows verdict_word verdict_behind
verdict_so = search

unfoldable pub verdict : Spelling line (Result Bool RuntimeError)
verdict = choice verdict_rows verdict_word verdict_behind verdict_made verdict_so refl

-- ---- the answer of a maker of backends: that there is one, or why there could not be

abbrev pub Backed : Type 0
Backed = Result (Unit {0}) NotifyFault

abbrev pub backed_rows : List (Row line Backed)
backed_rows = row (codes "ok") nothing (λ u. Ok u) ∷ row (codes "fail") notify_fault Err ∷ []

abbrev pub backed_word : Backed → List ℕ
backed_word (Ok u) = codes "ok"
backed_word (Err error) = codes "fail"

abbrev pub backed_behind : Backed → Behind line
backed_behind (Ok u) = fields nothing u
backed_behind (Err error) = fields notify_fault error

pub backed_made : MadeAgain backed_rows backed_word backed_behind
backed_made (Ok u) = (_, refl, refl)
backed_made (Err error) = (_, refl, refl)

pub backed_so : SpeltSo backed_rows backed_word backed_behind
backed_so = search

unfoldable pub backed : Spelling line Backed
backed = choice backed_rows backed_word backed_behind backed_made backed_so refl

-- ---- what a backend brings: what happened to files, or why that isn't known

abbrev pub News : Type 0
News = Result Notify NotifyFault

abbrev pub news_rows : List (Row line News)
news_rows = row (codes "ok") notify Ok ∷ row (codes "fail") notify_fault Err ∷ []

abbrev pub news_word : News → List ℕ
news_word (Ok event) = codes "ok"
news_word (Err error) = codes "fail"

abbrev pub news_behind : News → Behind line
news_behind (Ok event) = fields notify event
news_behind (Err error) = fields notify_fault error

pub news_made : MadeAgain news_rows news_word news_behind
news_made (Ok event) = (_, refl, refl)
news_made (Err error) = (_, refl, refl)

pub news_so : SpeltSo news_rows news_word news_behind
news_so = search

unfoldable pub news : Spelling line News
news = choice news_rows news_word news_behind news_made news_so refl

-- ---- the answer of the poll of a begun function: whether it is ready

abbrev pub ready_word : Bool → List ℕ
ready_word true = codes "ready"
ready_word false = codes "later"

abbrev pub ready_all : List Bool
ready_all = true ∷ false ∷ []

pub ready_found : HasWords ready_word ready_all
ready_found true = refl
ready_found false = refl

unfoldable pub readied : Spelling line Bool
readied = keyword ready_word ready_all ready_found refl

-- ---- the answer of a spawn hook: what it left to be spawned, or that it had no memory

abbrev pub memory_word : Memory → List ℕ
memory_word m = codes "memory"

abbrev pub memory_all : List Memory
memory_all = record {} ∷ []

pub memory_found : HasWords memory_word memory_all
memory_found m = refl

unfoldable pub memory : Spelling line Memory
memory = keyword memory_word memory_all memory_found refl

pub memory_apart : AreApart spawnable memory
unfolding spawnable options memory both
memory_apart m rest = refl

abbrev pub hooked : Spelling line (Result Spawnable Memory)
hooked = result_of spawnable memory memory_apart
