-- Whether a root has met an identity, asked from what is known.
use Rattle.std.specs.Prelude.{Bool, false, ◌&&◌, ◌||◌, List, [], ◌∷◌}
use Rattle.wx_tree.specs.Paths.{Path, same}
use Rattle.wx_tree.specs.Roots.{same_root}
use Rattle.wx_tree.specs.declared.root.Root.{Root}
use Rattle.wx_recursor.specs.Identities.{identity_of, is_identity, same_identity}
use Rattle.wx_recursor.specs.declared.known.Identity.{Identity}
use Rattle.wx_recursor.specs.declared.known.Known.{Known}
use Rattle.wx_recursor.specs.declared.owner.Owner.{Owner}

-- the root has seen the path in this epoch
abbrev pub has_seen : Root → Path → List Owner → Bool
has_seen r p [] = false
has_seen r p (o ∷ os) = ((same_root r o.root && o.seen) && same o.path p) || has_seen r p os

-- one of these has the identity, its root has seen it, and among all that is known its path stands for the identity
abbrev pub has_met_one : Root → Identity → List Known → List Owner → List Known → Bool
has_met_one r i all os [] = false
has_met_one r i all os (k ∷ ks) = ((same_identity k.identity i && has_seen r k.path os) && is_identity i (identity_of k.path all)) || has_met_one r i all os ks
