use Rattle.std.proofs.Common.{◌≡◌, ◌≤◌, ℕ, List, length, map, sym, ap, ◌∙◌, subst, take, arith, Some, slice_get, All}
use Rattle.std.proofs.Math.ListN.{length-map}
use Rattle.crossbeam_queue.specs.Passes.{view as told}
use Rattle.wx_queue.specs.declared.rule.Known.{Known}
use Rattle.wx_queue.specs.declared.parcel.Sent.{Sent}
use Rattle.wx_queue.specs.Rule.{Tells}
use Rattle.wx_queue.specs.Ends.{TakingEnd, SendingEnd, entry}
use Rattle.wx_queue.proofs.Rows.{each_sent, each_delivered, only_made}
use Rattle.wx_queue.proofs.queue.PassQueue.finish.Goals as goal

pub returns-clause-sent : goal.returns-clause-sent
returns-clause-sent g c =
    let pass : g.row.P.Denot → SendingEnd g.row.I.Denot = g.P.HoldsPass.pass in
    let v : Known g.row.I.Denot = told c.gather.new.world in
    let n : ℕ = c.args.self.made in
    let made : v.made ≡ n = c.gather.ensures.world.3 ∙ ap (λ (u : Known g.row.I.Denot). u.made) c.self.invariant.1 ∙ ap (λ (e : TakingEnd g.row.I.Denot). e.made) c.self.view_is in
    let inside : c.self.inside.made ≡ n = ap (λ (e : TakingEnd g.row.I.Denot). e.made) c.self.view_is in
    let gathered : List (List (Sent g.row.I.Denot)) = c.gather.new.rows.items in
    let rows : c.from_vec-2.result ≡ take n gathered = c.from_vec-2.ensures ∙ c.truncate.ensures.items ∙ ap (λ m. take m gathered) inside in
    let noted : v.noted ≡ map (λ p. entry (pass p)) c.args.passes = c.gather.ensures.noted ∙ ap (λ (ps : List g.row.P.Denot). map (λ p. entry (pass p)) ps) c.into_vec.ensures in
    let long : length c.from_vec-2.result ≡ length c.truncate.new.self.items = ap length c.from_vec-2.ensures in (
      omega (arith, long, c.truncate.ensures.len, inside, c.gather.ensures.rows.0, c.self.invariant.2),
      subst (λ l. All (λ (p : g.row.P.Denot). slice_get l (pass p).number ≡ Some (pass p).sent) c.args.passes) (sym rows)
          (each_sent pass v c.drain.new.left.items c.args.passes gathered n made noted c.drain.ensures c.gather.ensures.rows.1),
    )

pub returns-clause-delivered : goal.returns-clause-delivered
returns-clause-delivered g c k lt =
    let pass : g.row.P.Denot → SendingEnd g.row.I.Denot = g.P.HoldsPass.pass in
    let v : Known g.row.I.Denot = told c.gather.new.world in
    let n : ℕ = c.args.self.made in
    let made : v.made ≡ n = c.gather.ensures.world.3 ∙ ap (λ (u : Known g.row.I.Denot). u.made) c.self.invariant.1 ∙ ap (λ (e : TakingEnd g.row.I.Denot). e.made) c.self.view_is in
    let inside : c.self.inside.made ≡ n = ap (λ (e : TakingEnd g.row.I.Denot). e.made) c.self.view_is in
    let gathered : List (List (Sent g.row.I.Denot)) = c.gather.new.rows.items in
    let rows : c.from_vec-2.result ≡ take n gathered = c.from_vec-2.ensures ∙ c.truncate.ensures.items ∙ ap (λ m. take m gathered) inside in
    let noted : v.noted ≡ map (λ p. entry (pass p)) c.args.passes = c.gather.ensures.noted ∙ ap (λ (ps : List g.row.P.Denot). map (λ p. entry (pass p)) ps) c.into_vec.ensures in
    let given : v.given ≡ c.from_vec.result = c.gather.ensures.world.2 ∙ ap (λ (u : Known g.row.I.Denot). u.given) c.self.invariant.1 ∙ sym c.from_vec.ensures in
    let left : Tells v c.from_vec-3.result = subst (λ (l : List (Sent g.row.I.Denot)). Tells v l) (sym c.from_vec-3.ensures) c.drain.ensures in
    let many : length v.noted ≡ length (map (λ p. entry (pass p)) c.args.passes) = ap length noted in
    let whole : v.made ≤ length v.noted = omega (arith, made, many, length-map c.args.passes (λ p. entry (pass p)), c.if-len-self.false, c.len.ensures, inside) in
    ap (λ l. slice_get l k) rows
    ∙ each_delivered v c.from_vec.result c.from_vec-3.result gathered n made given whole left c.gather.ensures.rows.1 k lt

pub returns-clause-only : goal.returns-clause-only
returns-clause-only g c =
    let v : Known g.row.I.Denot = told c.gather.new.world in
    let made : v.made ≡ c.args.self.made = c.gather.ensures.world.3 ∙ ap (λ (u : Known g.row.I.Denot). u.made) c.self.invariant.1 ∙ ap (λ (e : TakingEnd g.row.I.Denot). e.made) c.self.view_is in
    let given : v.given ≡ c.from_vec.result = c.gather.ensures.world.2 ∙ ap (λ (u : Known g.row.I.Denot). u.given) c.self.invariant.1 ∙ sym c.from_vec.ensures in
    let left : Tells v c.from_vec-3.result = subst (λ (l : List (Sent g.row.I.Denot)). Tells v l) (sym c.from_vec-3.ensures) c.drain.ensures in
    only_made v c.from_vec.result c.from_vec-3.result c.args.self.made made given left
