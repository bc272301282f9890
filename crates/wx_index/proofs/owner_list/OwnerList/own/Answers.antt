use Rattle.std.proofs.Common.{◌∙◌, ap, arith, length, refl, sym}
use Rattle.wx_index.proofs.OwnerLemmas.{own_indexed, own_ok, own_opened}
use Rattle.wx_index.proofs.owner_list.OwnerList.own.Goals as goal

pub invariant_of-self : goal.invariant_of-self
invariant_of-self c =
    own_indexed c.args.root.now c.args.path.now c.args.self.now c.self.inside.items.items c.place-at.result c.index_mut.result.now c.self.inside.index c.take-index.result
    c.self.view_is c.place-at.ensures (omega (arith, c.if-at-len.true)) c.index_mut.ensures.value c.take-index.ensures.value c.self.invariant

pub returns-then-at-len : goal.returns-then-at-len
returns-then-at-len c =
    own_opened c.args.root.now c.args.path.now c.args.self.now c.self.inside.items.items c.place-at.result c.index_mut.result.now
    c.self.view_is c.place-at.ensures (omega (arith, c.if-at-len.true)) c.index_mut.ensures.value

pub returns : goal.returns
returns c =
    let same_length = ap length c.self.view_is in
    own_ok c.push.result c.args.root.now c.in_ok-copy.field-0 c.args.path.now c.in_ok-copy-2.field-0 c.args.self.now c.push.new.self
    c.in_ok-copy.ensures c.in_ok-copy-2.ensures (omega (arith, c.if-at-len.false, c.place-at.ensures, same_length)) c.push.ensures
