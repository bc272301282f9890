use Rattle.std.proofs.Common.{◌≡◌, ℕ, ◌<◌, List, [], ◌∷◌, ◌++◌, length, map, sym, refl, ap, ◌∙◌, append_assoc, append-nil, All, arith, set, subst, Some}
use Rattle.std.proofs.lemmas.List.Elements.{All-pop}
use Rattle.std.specs.List.{IsDistinct}
use Rattle.std.specs.Prelude.{nat_eq}
use Rattle.atomic_table.specs.Seated.{TableId}
use Rattle.crossbeam_queue.specs.Passes.{view as told}
use Rattle.wx_queue.specs.declared.rule.Known.{Known}
use Rattle.wx_queue.specs.declared.parcel.Sent.{Sent}
use Rattle.wx_queue.specs.Rule.{has, numbers, IsNoted}
use Rattle.wx_queue.specs.Ends.{SendingEnd, entry}
use Rattle.wx_queue.proofs.Rows.{noted_more, none_noted}
use Rattle.wx_queue.proofs.finish.gather.Goals as goal

pub loop-holder-init : goal.loop-holder-init
loop-holder-init g c = (
  c.requires.own,
  c.requires.world.0,
  c.requires.world.1,
  refl,
  refl,
  c.requires.world.3,
  c.requires.rows,
  none_noted _ _ c.requires.world.2,
  ([], sym (append-nil c.args.passes.items), c.requires.world.2),
)

pub join-requires : goal.join-requires
join-requires g c =
    let pass : g.row.P.Denot → SendingEnd g.row.I.Denot = g.P.HoldsPass.pass in
    let mine : (pass c.in-Some.holder).queue ≡ c.loop-holder.world.table_id =
    (All-pop (λ (p : g.row.P.Denot). (pass p).queue ≡ c.loop-holder.world.table_id) c.loop-holder.passes.items c.pop.new.self.items (Some c.in-Some.holder) c.in-Some.ensures.items c.loop-holder.invariant.0).1 in
    record {
      pass = (
        c.loop-holder.invariant.1,
        (ap (λ (p : SendingEnd g.row.I.Denot). p.queue) (c.handle.view_is ∙ c.into_pass-handle.ensures) ∙ mine ∙ c.loop-holder.invariant.1.0, c.handle.invariant.0.1),
        c.loop-holder.invariant.2,
        ap (λ (u : Known g.row.I.Denot). u.sends) c.handle.invariant.1,
      );
    }

pub index_mut-requires : goal.index_mut-requires
index_mut-requires g c =
    let n : ℕ = c.handle.inside.number in
    let s : List (Sent g.row.I.Denot) = c.handle.inside.sent.items in
    let v : Known g.row.I.Denot = told c.loop-holder.world in
    let u : Known g.row.I.Denot = told c.join.new.world in
    let noted : u.noted ≡ (n, s) ∷ v.noted =
    ap (λ (w : Known g.row.I.Denot). w.noted) c.join.ensures.world ∙ ap (λ (w : Known g.row.I.Denot). (w.number, w.sent) ∷ v.noted) c.handle.invariant.1 in
    let below : n < u.made = c.learn.ensures.told.1.below (n, s) (subst (λ l. has l (n, s)) (sym noted) (0, refl)) in
    let made : u.made ≡ v.made = ap (λ (w : Known g.row.I.Denot). w.made) c.join.ensures.world in
    omega (arith, below, made, c.loop-holder.invariant.5, c.loop-holder.invariant.6)

pub loop-holder-preserved : goal.loop-holder-preserved
loop-holder-preserved g c =
    let pass : g.row.P.Denot → SendingEnd g.row.I.Denot = g.P.HoldsPass.pass in
    let n : ℕ = c.handle.inside.number in
    let s : List (Sent g.row.I.Denot) = c.handle.inside.sent.items in
    let v : Known g.row.I.Denot = told c.loop-holder.world in
    let u : Known g.row.I.Denot = told c.join.new.world in
    let w : Known g.row.I.Denot = told c.learn.new.world in
    let still : w ≡ u = c.learn.ensures.pass.1 in
    let noted : u.noted ≡ (n, s) ∷ v.noted =
    ap (λ (w : Known g.row.I.Denot). w.noted) c.join.ensures.world ∙ ap (λ (w : Known g.row.I.Denot). (w.number, w.sent) ∷ v.noted) c.handle.invariant.1 in
    let noted' : w.noted ≡ (n, s) ∷ v.noted = ap (λ (x : Known g.row.I.Denot). x.noted) still ∙ noted in
    let made : w.made ≡ v.made = ap (λ (x : Known g.row.I.Denot). x.made) (still ∙ c.join.ensures.world) in
    let table : c.loop-holder.world.table_id ≡ c.learn.new.world.table_id = c.loop-holder.invariant.1.0 ∙ sym c.learn.ensures.pass.0.0 in
    let rest = All-pop (λ (p : g.row.P.Denot). (pass p).queue ≡ c.loop-holder.world.table_id) c.loop-holder.passes.items c.pop.new.self.items (Some c.in-Some.holder) c.in-Some.ensures.items c.loop-holder.invariant.0 in
    let rows : List (List (Sent g.row.I.Denot)) = c.loop-holder.rows.items in
    let before = c.loop-holder.invariant.8 in
    let told' = c.learn.ensures.told.1 in
    let below : n < u.made = told'.below (n, s) (subst (λ l. has l (n, s)) (sym noted) (0, refl)) in
    let lt : n < length rows =
    omega (arith, below, ap (λ (x : Known g.row.I.Denot). x.made) c.join.ensures.world, c.loop-holder.invariant.5, c.loop-holder.invariant.6) in
    let apart : IsDistinct nat_eq (numbers ((n, s) ∷ v.noted)) = subst (λ l. IsDistinct nat_eq (numbers l)) noted told'.apart in
    let each : IsNoted ((n, s) ∷ v.noted) (set rows n s) = noted_more n s v.noted rows lt apart c.loop-holder.invariant.7 in
    let handed : (n, s) ≡ entry (pass c.in-Some.holder) = ap entry (c.handle.view_is ∙ c.into_pass-handle.ensures) in (
      subst (λ (t : TableId). All (λ (p : g.row.P.Denot). (pass p).queue ≡ t) c.pop.new.self.items) table rest.0,
      c.learn.ensures.pass.0,
      ap (λ (x : Known g.row.I.Denot). x.takes) (still ∙ c.join.ensures.world) ∙ c.loop-holder.invariant.2,
      ap (λ (x : Known g.row.I.Denot). x.given) (still ∙ c.join.ensures.world) ∙ c.loop-holder.invariant.3,
      made ∙ c.loop-holder.invariant.4,
      omega (arith, made, c.loop-holder.invariant.5),
      c.loop-holder.invariant.6,
      subst (λ (r : List (Sent g.row.I.Denot)). IsNoted w.noted (set rows n r)) (sym c.from_vec.ensures) (subst (λ l. IsNoted l (set rows n s)) (sym noted') each),
      (
        c.in-Some.holder ∷ before.0,
        before.1 ∙ ap (λ l. l ++ before.0) c.in-Some.ensures.items ∙ append_assoc c.pop.new.self.items (c.in-Some.holder ∷ []) before.0,
        noted' ∙ ap (λ l. (n, s) ∷ l) before.2 ∙ ap (λ (e : ℕ × List (Sent g.row.I.Denot)). e ∷ map (λ p. entry (pass p)) before.0) handed,
      ),
    )
