-- Changes of the state that the rules are made of.
use Rattle.std.specs.Prelude.{Bool, true, false, not, ◌&&◌, ◌||◌, List, [], ◌∷◌, ◌++◌, filter, map, length, ltb, if◌then◌else◌}
use Rattle.wx_tree.specs.Paths.{Path, holds_below, same}
use Rattle.wx_tree.specs.Roots.{same_root}
use Rattle.wx_tree.specs.declared.root.Root.{Root}
use Rattle.wx_recursor.specs.Identities.{guard_known, has_identity, has_known, identity_of, is_identity, know}
use Rattle.wx_recursor.specs.Owners.{disown, has_owner, own}
use Rattle.wx_recursor.specs.States.{RecursorState}
use Rattle.wx_recursor.specs.declared.errors.ShownError.{ShownError}
use Rattle.wx_recursor.specs.declared.known.Identity.{Identity}
use Rattle.wx_recursor.specs.declared.known.Known.{Known}
use Rattle.wx_recursor.specs.declared.owner.GuardWatch.{GuardWatch}
use Rattle.wx_recursor.specs.declared.owner.Owner.{Owner}
use Rattle.wx_recursor.specs.declared.work.Item.TheVariants.{Guard, Scan}
use Rattle.wx_recursor.specs.declared.work.Retry.{Retry}
use Rattle.wx_recursor.specs.declared.work.Work.{Work}
use Rattle.wx_recursor.specs.declared.work.Work.TheVariants.{Plain}

-- an error is shown
abbrev pub show : ShownError → RecursorState → RecursorState
show e s = record s { shown = s.shown ++ e ∷ [] }

-- a rebuild of the backend is asked for
abbrev pub ask_rebuild : RecursorState → RecursorState
ask_rebuild s = record s { asks_rebuild = true }

-- this is put at the end of the queue
abbrev pub enqueue : List Work → RecursorState → RecursorState
enqueue more s = record s { queue = s.queue ++ more }

abbrev pub is_retry : Root → Path → Retry → Bool
is_retry r p x = same_root r x.root && same p x.path

abbrev pub has_retry : Root → Path → List Retry → Bool
has_retry r p [] = false
has_retry r p (x ∷ xs) = is_retry r p x || has_retry r p xs

-- The path is kept for one retry of the root: the next reconcile queues it.
abbrev pub keep_retry : Root → Path → RecursorState → RecursorState
keep_retry r p s = if has_retry r p s.retries then s else record s { retries = s.retries ++ record { root = r; path = p } ∷ [] }

-- the root's ownership goes from the path down
abbrev pub lose : Root → Path → RecursorState → RecursorState
lose r p s = record s { owners = disown r p s.owners }

-- what the root owns below the path goes
abbrev pub lose_below : Root → Path → RecursorState → RecursorState
lose_below r p s = record s { owners = filter (λ o. not (same_root r o.root && holds_below p o.path)) s.owners }

-- the root owns the path under this identity, and has seen it
abbrev pub take_over : Root → Path → Identity → RecursorState → RecursorState
take_over r p i s = record s { owners = own r p s.owners; known = know p i s.known }

-- the root has seen this identity in this epoch, under whatever path
abbrev pub has_met : Root → Identity → List Known → List Owner → Bool
has_met r i ks [] = false
has_met r i ks (o ∷ os) = ((same_root r o.root && o.seen) && is_identity i (identity_of o.path ks)) || has_met r i ks os

-- a scan of the path, unless the root has seen its identity in this epoch
abbrev pub scan_once : Root → Path → Identity → RecursorState → List Work
scan_once r p i s = if has_met r i s.known s.owners then [] else Plain (Scan r p) ∷ []

-- the guards of the roots at this path
abbrev pub guards_at : Path → List Root → List Work
guards_at p [] = []
guards_at p (r ∷ rs) = if same r.path p then Plain (Guard r) ∷ guards_at p rs else guards_at p rs

-- A path that is gone: the root's ownership goes from there down, and the guards of roots at the path are queued.
abbrev pub gone : Root → Path → RecursorState → RecursorState
gone r p s = enqueue (guards_at p s.roots) (lose r p s)

-- what is known of paths that have an owner
abbrev pub still_known : List Owner → List Known → List Known
still_known os ks = filter (λ k. has_owner k.path os) ks

-- an owned path or a guard stands for this identity
abbrev pub serves : List Known → List GuardWatch → Identity → Bool
serves ks gs i = has_identity i ks || has_identity i (map guard_known gs)

-- an owned path or a guard is at the path of the registration, under its identity
abbrev pub is_held : List Known → List GuardWatch → Known → Bool
is_held ks gs g = has_known g.path g.identity ks || has_known g.path g.identity (map guard_known gs)

-- Its representative is lost: other paths stand for the identity of the registration, and its own path is none of them.
abbrev pub is_lost : List Known → List GuardWatch → Known → Bool
is_lost ks gs g = serves ks gs g.identity && not (is_held ks gs g)

-- behind all that are as deep, before those that are less deep
abbrev pub put_deep : Known → List Known → List Known
put_deep k [] = k ∷ []
put_deep k (x ∷ xs) = if ltb (length x.path) (length k.path) then k ∷ (x ∷ xs) else x ∷ put_deep k xs

-- the deepest paths first, those as deep in their order
abbrev pub deepest_first : List Known → List Known → List Known
deepest_first [] out = out
deepest_first (k ∷ ks) out = deepest_first ks (put_deep k out)
