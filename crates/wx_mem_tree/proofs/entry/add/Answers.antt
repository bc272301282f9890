use Rattle.std.proofs.Common.{arith, refl, subst, sym}
use Rattle.wx_mem_tree.specs.Indexed.{AreIndexed}
use Rattle.wx_mem_tree.proofs.entry.add.Goals as goal

pub returns-clause-indexed : goal.returns-clause-indexed
returns-clause-indexed c =
    let was = subst (AreIndexed c.args.entries.now.items) (sym c.take.ensures.value) c.requires.indexed in
    subst (λ es. AreIndexed es c.grown-more.result) (sym c.in_ok-push.ensures.items) (c.grown-more.ensures c.args.entries.now.items c.args.entry was refl c.requires.new (omega (arith, c.len.ensures)))
