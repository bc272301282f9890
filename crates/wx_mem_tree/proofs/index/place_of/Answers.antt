use Rattle.std.proofs.Common.{◌∙◌, ap, sym, refl}
use Rattle.std.proofs.lemmas.Option.{slice_get_read}
use Rattle.wx_tree.specs.Paths.{same}
use Rattle.wx_mem_tree.specs.declared.entry.MemEntry.{MemEntry}
use Rattle.wx_mem_tree.proofs.Placed.{passed, placed_here}
use Rattle.wx_mem_tree.proofs.index.place_of.Goals as goal

pub returns-then-is_same : goal.returns-then-is_same
returns-then-is_same c =
    let there = slice_get_read c.args.entries.now _ c.loop-at.at c.index-entries-at.result refl c.loop-at-test.true c.index-entries-at.is in
    let is = ap (λ (e : MemEntry). same e.path c.args.path.now) c.index-entries-at.is ∙ (sym c.is_same.ensures ∙ c.if-is_same.true) in
    sym (placed_here c.args.path.now c.args.entries.now c.index-entries-at.result c.loop-at.at c.loop-at.invariant there is)

pub loop-at-preserved : goal.loop-at-preserved
loop-at-preserved c =
    let there = slice_get_read c.args.entries.now _ c.loop-at.at c.index-entries-at.result refl c.loop-at-test.true c.index-entries-at.is in
    let is = ap (λ (e : MemEntry). same e.path c.args.path.now) c.index-entries-at.is ∙ (sym c.is_same.ensures ∙ c.if-is_same.false) in
    passed c.args.path.now c.args.entries.now c.index-entries-at.result c.loop-at.at c.loop-at.invariant there is
