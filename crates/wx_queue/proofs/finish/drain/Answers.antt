use Rattle.std.proofs.Common.{◌≡◌, List, [], ◌∷◌, ◌++◌, length-append, map, ap, ◌∙◌, append_assoc, arith}
use Rattle.std.proofs.Math.ListN.{length-map}
use Rattle.crossbeam_queue.specs.Passes.{view as told}
use Rattle.wx_queue.specs.declared.rule.Known.{Known}
use Rattle.wx_queue.specs.declared.parcel.Sent.{Sent}
use Rattle.wx_queue.proofs.Rows.{fits}
use Rattle.wx_queue.proofs.finish.drain.Goals as goal

pub push_reserved-requires : goal.push_reserved-requires
push_reserved-requires g c =
    let v : Known g.row.I.Denot = told c.args.world.now in
    let w : Known g.row.I.Denot = told c.take.new.world in
    let x : Sent g.row.I.Denot = c.in-Some-take.queued.sent in
    let left : List (Sent g.row.I.Denot) = c.loop.left.items in
    let first = c.count-most.ensures.told in
    let rest = c.learn.ensures.told in
    let is = c.in-Some-take.ensures.taken in
    let same = c.count-most.ensures.pass.1 in
    let noted : w.noted ≡ v.noted = ap (λ (u : Known g.row.I.Denot). u.noted) is ∙ c.loop.invariant.3 ∙ ap (λ (u : Known g.row.I.Denot). u.noted) same in
    let made : w.made ≡ v.made = ap (λ (u : Known g.row.I.Denot). u.made) is ∙ c.loop.invariant.4 ∙ ap (λ (u : Known g.row.I.Denot). u.made) same in
    let given : w.given ≡ v.given ++ (left ++ x ∷ []) =
    ap (λ (u : Known g.row.I.Denot). u.given) is
    ∙ ap (λ l. l ++ x ∷ []) (c.loop.invariant.2 ∙ ap (λ (u : Known g.row.I.Denot). u.given ++ left) same)
    ∙ append_assoc v.given left (x ∷ []) in
    let few = fits v w (left ++ x ∷ []) (map (λ y. y.sent) first.0) (map (λ y. y.sent) rest.0) noted made given c.requires.whole first.2 rest.1 in
    omega (arith, few, length-append left (x ∷ []), length-map first.0 (λ y. y.sent), first.1, c.count-most.ensures.few, c.loop.invariant.5)
