-- Priorities, keys, tags and events as words.
use Rattle.std.proofs.Common.{refl}
use Rattle.std.specs.Prelude.{ℕ, Option, List, [], ◌∷◌, codes}
use Rattle.wx_words.specs.Spellings.{Spelling}
use Rattle.wx_words.specs.Choices.{Row, row, Behind, fields}
use Rattle.wx_words.specs.ChoiceLaws.{MadeAgain, SpeltSo, choice}
use Rattle.wx_words.specs.Parts.{line, nothing, both, text, u32, HasWords, keyword, renamed, list_of}
use Rattle.wx_events.specs.declared.priority.Priority.{Priority}
use Rattle.wx_events.specs.declared.priority.Priority.TheVariants.{Low, Normal, High, Urgent}
use Rattle.wx_words.specs.Combine.{read_word_by}
use Rattle.wx_events.specs.declared.keyboard.Keyboard.{Keyboard}
use Rattle.wx_events.specs.Keys.{KeyFits, key_word, key_in}
use Rattle.wx_events.specs.KeyLaws.{key_form, key_clean}
use Rattle.wx_events.specs.declared.event.Tag.{Tag}
use Rattle.wx_events.specs.declared.file_type.FileType.{FileType}
use Rattle.wx_events.specs.declared.process.ProcessEnd.{ProcessEnd}
use Rattle.wx_events.specs.Ends.{signal, end}
use Rattle.wx_events.specs.FileTypes.{file_type}
use Rattle.wx_events.specs.Kinds.{kind}
use Rattle.wx_events.specs.OrNone.{IsNeverNone, or_none}
use Rattle.wx_events.specs.Sources.{source}
use Rattle.wx_events.specs.declared.event.Event.{Event}

abbrev pub priority_word : Priority → List ℕ
priority_word Low = codes "low"
priority_word Normal = codes "normal"
priority_word High = codes "high"
priority_word Urgent = codes "urgent"

abbrev pub priorities : List Priority
priorities = Low ∷ Normal ∷ High ∷ Urgent ∷ []

pub priority_found : HasWords priority_word priorities
priority_found Low = refl
priority_found x = refl

unfoldable pub priority : Spelling line Priority
priority = keyword priority_word priorities priority_found refl

-- a key is one word
unfoldable pub key : Spelling line Keyboard
key = record { fits = KeyFits; words = λ k. key_word k ∷ []; read = read_word_by key_in; form = key_form; clean = λ k fits. (key_clean k, tt) }

-- a path and what it leads to
pub file_type_never_none : IsNeverNone file_type
unfolding file_type
file_type_never_none FileType.File rest = refl
file_type_never_none x rest = refl

abbrev pub typed_path : Spelling line (List ℕ × Option FileType)
typed_path = both text (or_none file_type file_type_never_none)

-- an end, where it is known
pub end_never_none : IsNeverNone end
unfolding end
end_never_none ProcessEnd.Success rest = refl
end_never_none x rest = refl

-- each first word of a tag, and what stands behind it
abbrev pub tag_rows : List (Row line Tag)
tag_rows =
    row (codes "path") typed_path (λ p. Tag.Path p.0 p.1)
    ∷ row (codes "kind") kind Tag.FileEventKind
    ∷ row (codes "source") source Tag.Source
    ∷ row (codes "key") key Tag.Keyboard
    ∷ row (codes "process") u32 Tag.Process
    ∷ row (codes "signal") signal Tag.Signal
    ∷ row (codes "end") (or_none end end_never_none) Tag.ProcessCompletion
    ∷ row (codes "unknown") nothing (λ u. Tag.Unknown)
    ∷ []

abbrev pub tag_word : Tag → List ℕ
tag_word (Tag.Path _ _) = codes "path"
tag_word (Tag.FileEventKind _) = codes "kind"
tag_word (Tag.Source _) = codes "source"
tag_word (Tag.Keyboard _) = codes "key"
tag_word (Tag.Process _) = codes "process"
tag_word (Tag.Signal _) = codes "signal"
tag_word (Tag.ProcessCompletion _) = codes "end"
tag_word Tag.Unknown = codes "unknown"

abbrev pub tag_behind : Tag → Behind line
tag_behind (Tag.Path path file_type) = fields typed_path (path, file_type)
tag_behind (Tag.FileEventKind k) = fields kind k
tag_behind (Tag.Source s) = fields source s
tag_behind (Tag.Keyboard k) = fields key k
tag_behind (Tag.Process id) = fields u32 id
tag_behind (Tag.Signal s) = fields signal s
tag_behind (Tag.ProcessCompletion e) = fields (or_none end end_never_none) e
tag_behind Tag.Unknown = fields nothing tt

pub tag_again : MadeAgain tag_rows tag_word tag_behind
tag_again Tag.Unknown = (_, refl, refl)
tag_again x = (_, refl, refl)

pub tag_so : SpeltSo tag_rows tag_word tag_behind
tag_so = search

unfoldable pub tag : Spelling line Tag
tag = choice tag_rows tag_word tag_behind tag_again tag_so refl

-- an event is its list of tags
abbrev pub make_event : List Tag → Event
make_event tags = record { tags = tags }

unfoldable pub event : Spelling line Event
event = renamed (list_of tag) make_event (λ e. e.tags) (λ e. refl) (λ tags. refl)

-- an event behind its priority
abbrev pub ranked : Spelling line (Priority × Event)
ranked = both priority event
