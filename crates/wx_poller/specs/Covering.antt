-- Which paths a registration is about.
use Rattle.std.specs.Prelude.{ℕ, Bool, false, not, ◌&&◌, ◌||◌, List, [], ◌∷◌, filter}
use Rattle.wx_events.specs.declared.file_type.FileType.TheVariants.{Dir}
use Rattle.wx_tree.specs.Paths.{has_entry, same_part}
use Rattle.wx_tree.specs.Places.{place}
use Rattle.wx_poller.specs.Changes.{has_type}
use Rattle.wx_poller.specs.Listings.{Sight, seen_at}

-- a registered path covers itself, and the direct entries of a directory
abbrev pub covers : List Sight → List ℕ → List ℕ → Bool
covers seen r p = same_part r p || (has_type Dir (seen_at seen r) && has_entry (place r) (place p))

abbrev pub is_covered : List Sight → List (List ℕ) → List ℕ → Bool
is_covered seen [] p = false
is_covered seen (r ∷ rs) p = covers seen r p || is_covered seen rs p

-- r covers it, and none of the others
abbrev pub is_lone : List Sight → List ℕ → List (List ℕ) → List ℕ → Bool
is_lone seen r others p = covers seen r p && not (is_covered seen others p)
