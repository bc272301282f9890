-- Who owns what, and lists of paths and roots.
use Rattle.std.specs.Prelude.{Bool, true, false, not, ◌&&◌, ◌||◌, List, [], ◌∷◌, filter, if◌then◌else◌}
use Rattle.wx_tree.specs.Paths.{Path, holds, same}
use Rattle.wx_tree.specs.Roots.{same_root}
use Rattle.wx_tree.specs.declared.root.Root.{Root}
use Rattle.wx_recursor.specs.declared.owner.Owner.{Owner}
use Rattle.wx_recursor.specs.declared.work.Item.{Item}
use Rattle.wx_recursor.specs.declared.work.Item.TheVariants.{Candidate}

-- this is what the root owns at the path
abbrev pub is_owner : Root → Path → Owner → Bool
is_owner r p o = same_root r o.root && same p o.path

-- the root owns the path, and has seen it
abbrev pub own : Root → Path → List Owner → List Owner
own r p [] = record { root = r; path = p; seen = true } ∷ []
own r p (o ∷ os) = if is_owner r p o then record { root = r; path = p; seen = true } ∷ os else o ∷ own r p os

-- the root owns nothing at the path and below it
abbrev pub disown : Root → Path → List Owner → List Owner
disown r p os = filter (λ o. not (same_root r o.root && holds p o.path)) os

-- the owners that were seen in this epoch
abbrev pub sweep : List Owner → List Owner
sweep os = filter (λ o. o.seen) os

-- a new epoch: no owner was seen in it
abbrev pub unseen : List Owner → List Owner
unseen [] = []
unseen (o ∷ os) = record { root = o.root; path = o.path; seen = false } ∷ unseen os

-- each of the paths is a candidate of the root
abbrev pub candidates : Root → List Path → List Item
candidates r [] = []
candidates r (c ∷ cs) = Candidate r c ∷ candidates r cs

-- some root owns the path
abbrev pub has_owner : Path → List Owner → Bool
has_owner p [] = false
has_owner p (o ∷ os) = same o.path p || has_owner p os

abbrev pub has_path : Path → List Path → Bool
has_path p [] = false
has_path p (q ∷ qs) = same q p || has_path p qs

abbrev pub has_root : Root → List Root → Bool
has_root r [] = false
has_root r (s ∷ rs) = same_root s r || has_root r rs
