-- In any epoch the first of the queue can be looked at: no link stands above what is queued, and its parts are names.
use Rattle.std.proofs.Common.{◌≡◌, Bool, true, List, [], ◌∷◌, refl, inl}
use Rattle.wx_tree.specs.Lists.{In}
use Rattle.wx_tree.specs.Paths.{Path}
use Rattle.wx_tree.specs.Places.{spelled}
use Rattle.wx_tree.specs.Trees.{Tree, is_chain_above, is_there, node_at}
use Rattle.wx_tree.specs.declared.root.Root.{Root}
use Rattle.wx_tree.proofs.Reaching.{entry-chain, reaches-chain, there_from_dir}
use Rattle.wx_scan.specs.Told.{AreNames, IsNamed}
use Rattle.wx_scan.proofs.LookLemmas.{no_link_above}
use Rattle.wx_recursor.specs.States.{RecursorState}
use Rattle.wx_recursor.specs.declared.errors.ShownError.{ShownError}
use Rattle.wx_recursor.specs.declared.work.Item.{Item}
use Rattle.wx_recursor.specs.declared.work.Item.TheVariants.{Candidate, Guard, Scan, Visit}
use Rattle.wx_recursor.specs.declared.work.Work.{Work}
use Rattle.wx_recursor.specs.declared.work.Work.TheVariants.{Plain, Probe}
use Rattle.wx_holding.specs.Calm.{IsReadable}
use Rattle.wx_step.specs.Calmly.{IsFirstReadable, IsReadableItem}
use Rattle.wx_walk.specs.Reached.{Call}
use Rattle.wx_walk.proofs.Kept.{Fits}
use Rattle.wx_settle.specs.Plain.{plain_queue}
use Rattle.wx_settle.specs.Runs.{IsEpoch}
use Rattle.wx_settle.proofs.Calm.{full_stands}
use Rattle.wx_settle.proofs.EpochLemmas.{epoch_reached}
use Rattle.wx_settle.proofs.Reach.{AllListed, Stands}
use Rattle.wx_settle.proofs.Simple.{is_plain}
use Rattle.wx_settle.proofs.Still.{IsListed}

-- what is there below directories can be looked at
there_readable : (t : Tree) (p : Path) → IsNamed t → is_there t p ≡ true → is_chain_above t p ≡ true → IsReadable t p
there_readable t p named there chain = record { spelled = refl; names = named p there; no_link = no_link_above t p chain }

item_readable : (t : Tree) (ok : Path → Bool) (rs : List Root) (i : Item) → Fits t ok rs i → IsListed t i → IsNamed t → ((r : Root) → In r rs → AreNames r.path) → IsReadableItem t i
item_readable t ok rs (Guard r) fits listed named roots = roots r fits.0
item_readable t ok rs (Visit r) fits listed named roots = roots r fits
item_readable t ok rs (Scan r p) fits listed named roots = there_readable t p named (there_from_dir (node_at t p) fits.2) (reaches-chain t ok r p fits.3)
item_readable t ok rs (Candidate r c) fits listed named roots =
    let q = fits.2 in
    there_readable t c named listed (entry-chain t ok r q.0 c q.1 q.2 q.3)

first_readable : (t : Tree) (ok : Path → Bool) (rs : List Root) (q : List Work) → is_plain q ≡ true → ((i : Item) → In i (plain_queue q) → Fits t ok rs i) → AllListed t (plain_queue q) → IsNamed t → ((r : Root) → In r rs → AreNames r.path) → IsFirstReadable t q
first_readable t ok rs [] plain fits listed named roots = tt
first_readable t ok rs (Plain i ∷ q) plain fits listed named roots = item_readable t ok rs i (fits i (inl refl)) (listed i (inl refl)) named roots
first_readable t ok rs (Probe p owners ∷ q) plain fits listed named roots = cc

-- the first of an epoch's queue
pub epoch_readable : (t : Tree) (c : Call) (cs : List Call) (s : RecursorState) (errors : List ShownError) → IsEpoch t c cs s errors → IsNamed t → ((r : Root) → In r s.roots → AreNames r.path) → IsFirstReadable t s.queue
epoch_readable t c cs s errors x named roots =
    let k : Stands t c.ok s = full_stands t c cs s (epoch_reached t c cs s errors x) in
    first_readable t c.ok s.roots s.queue k.simple.plain (let h = k.holds in h.kept.items) k.listed named roots
