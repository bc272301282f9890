-- Changes of settings as words.
use Rattle.std.proofs.Common.{refl}
use Rattle.std.specs.Prelude.{ℕ, List, [], ◌∷◌, codes}
use Rattle.wx_words.specs.Spellings.{Spelling}
use Rattle.wx_words.specs.Choices.{Row, row, Behind, fields}
use Rattle.wx_words.specs.ChoiceLaws.{MadeAgain, SpeltSo, choice}
use Rattle.wx_words.specs.Parts.{line, nothing, list_of, as_line, number, u32}
use Rattle.wx_words.specs.Switches.{switch}
use Rattle.wx_watch.specs.Watched.{watcher, watched}
use Rattle.wx_config.specs.declared.change.Change.{Change}
use Rattle.wx_config.specs.declared.change.Change.TheVariants.{Signal, Pathset, FileWatcher, FollowSymlinks, KeyboardEvents, Throttle, Filterer, OnError, OnAction}

-- each first word of a change, and what stands behind it
abbrev pub change_rows : List (Row line Change)
change_rows =
    row (codes "signal") nothing (λ u. Signal)
    ∷ row (codes "paths") (list_of watched) Pathset
    ∷ row (codes "watcher") watcher FileWatcher
    ∷ row (codes "follow") switch FollowSymlinks
    ∷ row (codes "keyboard") switch KeyboardEvents
    ∷ row (codes "throttle") (as_line number) Throttle
    ∷ row (codes "filterer") u32 Filterer
    ∷ row (codes "onerror") u32 OnError
    ∷ row (codes "onaction") u32 OnAction
    ∷ []

abbrev pub change_word : Change → List ℕ
change_word Signal = codes "signal"
change_word (Pathset _) = codes "paths"
change_word (FileWatcher _) = codes "watcher"
change_word (FollowSymlinks _) = codes "follow"
change_word (KeyboardEvents _) = codes "keyboard"
change_word (Throttle _) = codes "throttle"
change_word (Filterer _) = codes "filterer"
change_word (OnError _) = codes "onerror"
change_word (OnAction _) = codes "onaction"

abbrev pub change_behind : Change → Behind line
change_behind Signal = fields nothing tt
change_behind (Pathset paths) = fields (list_of watched) paths
change_behind (FileWatcher w) = fields watcher w
change_behind (FollowSymlinks on) = fields switch on
change_behind (KeyboardEvents on) = fields switch on
change_behind (Throttle throttle) = fields (as_line number) throttle
change_behind (Filterer n) = fields u32 n
change_behind (OnError n) = fields u32 n
change_behind (OnAction n) = fields u32 n

pub change_again : MadeAgain change_rows change_word change_behind
change_again Signal = (_, refl, refl)
change_again x = (_, refl, refl)

pub change_so : SpeltSo change_rows change_word change_behind
change_so = search

unfoldable pub change : Spelling line Change
change = choice change_rows change_word change_behind change_again change_so refl
