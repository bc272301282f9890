-- How far a place, to which the parts of a path lead one by one, meets another one from the front. Both are lists of parts with the
-- last one first.
use Rattle.std.specs.Prelude.{ℕ, ◌+◌, ◌-◌, ◌==◌, ◌&&◌, ◌||◌, nat_le, Bool, false, if◌then◌else◌, List, [], ◌∷◌, length, codes}
use Rattle.std.specs.Str.{bytes_eq}
use Rattle.std.specs.List.{fold}
use Rattle.wx_paths.specs.Paths.{is_absolute, path_parts}
use Rattle.wx_tree.specs.Paths.{Part, Path, same_part}
use Rattle.wx_tree.specs.declared.root.Root.{Root}
use Rattle.wx_lane.specs.declared.meeting.Meeting.{Meeting}

-- the part behind so many others, from the front on, is this one
abbrev pub is_next : Part → ℕ → Path → Bool
is_next x n [] = false
is_next x n (y ∷ r) = if n == length r then same_part y x else is_next x n r

-- a part more
abbrev pub meet_down : Path → Part → Meeting → Meeting
meet_down r x m =
    if m.shared == m.depth && is_next x m.shared r
    then record { shared = m.depth + 1; depth = m.depth + 1 }
    else record { shared = m.shared; depth = m.depth + 1 }

-- a part less, where there is one
abbrev pub meet_up : Meeting → Meeting
meet_up m =
    if m.shared == m.depth
    then record { shared = m.shared - 1; depth = m.depth - 1 }
    else record { shared = m.shared; depth = m.depth - 1 }

-- a part of a path: `..` leads up
abbrev pub meet_part : Path → Meeting → Part → Meeting
meet_part r m x = if bytes_eq x (codes "..") then meet_up m else meet_down r x m

-- all parts of a path, one after the other
abbrev pub meet_all : Path → Meeting → List Part → Meeting
meet_all r m xs = fold (meet_part r) m xs

-- nothing is walked yet
abbrev pub start : Meeting
start = record { shared = 0; depth = 0 }

-- how far a path meets r, seen from a folder
abbrev pub met : Path → List ℕ → List ℕ → Meeting
met r folder path = meet_all r (if is_absolute path then start else meet_all r start (path_parts folder)) (path_parts path)

-- a path that meets a root so far is of it
abbrev pub is_of_met : Root → Meeting → Bool
is_of_met r m = m.shared == length r.path && (r.recursive || nat_le m.depth (length r.path + 1))
