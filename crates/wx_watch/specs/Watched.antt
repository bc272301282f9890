-- How files are watched, and the paths that are, as words.
use Rattle.std.proofs.Common.{refl}
use Rattle.std.specs.Prelude.{ℕ, Bool, true, false, List, [], ◌∷◌, codes}
use Rattle.wx_words.specs.Spellings.{Spelling}
use Rattle.wx_words.specs.Choices.{Row, row, Behind, fields}
use Rattle.wx_words.specs.ChoiceLaws.{Makes, MadeAgain, SpeltSo, choice}
use Rattle.wx_words.specs.Parts.{line, nothing, as_line, number, text}
use Rattle.wx_watch.specs.declared.watched.Watcher.{Watcher}
use Rattle.wx_watch.specs.declared.watched.Watcher.TheVariants.{Native, Poll}
use Rattle.wx_watch.specs.declared.watched.WatchedPath.{WatchedPath}

-- each first word of a watcher, and what stands behind it
abbrev pub watcher_rows : List (Row line Watcher)
watcher_rows = row (codes "native") nothing (λ u. Native) ∷ row (codes "poll") (as_line number) Poll ∷ []

abbrev pub watcher_word : Watcher → List ℕ
watcher_word Native = codes "native"
watcher_word (Poll interval) = codes "poll"

abbrev pub watcher_behind : Watcher → Behind line
watcher_behind Native = fields nothing tt
watcher_behind (Poll interval) = fields (as_line number) interval

pub watcher_again : MadeAgain watcher_rows watcher_word watcher_behind
watcher_again Native = (_, refl, refl)
watcher_again (Poll interval) = (_, refl, refl)

pub watcher_so : SpeltSo watcher_rows watcher_word watcher_behind
watcher_so = search

unfoldable pub watcher : Spelling line Watcher
watcher = choice watcher_rows watcher_word watcher_behind watcher_again watcher_so refl

-- a path with all below it, or with its direct entries
abbrev pub depth_word : Bool → List ℕ
depth_word true = codes "r"
depth_word false = codes "n"

abbrev pub make_path : Bool → List ℕ → WatchedPath
make_path recursive path = record { path = path; recursive = recursive }

abbrev pub path_rows : List (Row line WatchedPath)
path_rows = row (codes "r") text (make_path true) ∷ row (codes "n") text (make_path false) ∷ []

abbrev pub path_word : WatchedPath → List ℕ
path_word p = depth_word p.recursive

abbrev pub path_behind : WatchedPath → Behind line
path_behind p = fields text p.path

pub path_made : (recursive : Bool) (path : List ℕ) → Makes path_rows (depth_word recursive) (fields text path) (make_path recursive path)
path_made true path = (_, refl, refl)
path_made false path = (_, refl, refl)

pub path_again : MadeAgain path_rows path_word path_behind
path_again p = path_made p.recursive p.path

pub path_so : SpeltSo path_rows path_word path_behind
path_so = search

unfoldable pub watched : Spelling line WatchedPath
watched = choice path_rows path_word path_behind path_again path_so refl
