use Rattle.std.proofs.Common.{◌∙◌, ap, arith, refl, sym, take}
use Rattle.std.proofs.lemmas.List.{length-take-le}
use Rattle.std.proofs.lemmas.Option.{slice_get_read}
use Rattle.wx_mem_tree.specs.declared.entry.MemEntry.{MemEntry}
use Rattle.wx_mem_tree.specs.Indexed.{place_of}
use Rattle.wx_mem_tree.proofs.Placed.{grown_taken, new_there}
use Rattle.wx_mem_tree.proofs.index.index_of_all.Goals as goal

pub loop-at-preserved : goal.loop-at-preserved
loop-at-preserved c =
    let es = c.args.entries.now in
    let e = c.index-entries-at.result in
    let at = c.loop-at.at in
    let there = slice_get_read es _ at e refl c.loop-at-test.true c.index-entries-at.is in
    let path = ap (λ (x : MemEntry). x.path) c.index-entries-at.is in
    let new = ap (λ p. place_of p (take at es)) (sym path) ∙ new_there es e at c.requires there in
    let len = sym (length-take-le at es (omega (arith, c.loop-at-test.true))) in
    grown_taken es e at c.grown-index.result there (c.grown-index.ensures (take at es) e c.loop-at.invariant path new len)
