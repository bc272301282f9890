use Rattle.std.proofs.Common.{◌∙◌, ap, sym}
use Rattle.wx_tree.specs.Places.{place, spelled}
use Rattle.wx_mem_tree.specs.Indexed.{place_of}
use Rattle.wx_mem_tree.proofs.Placed.{added}
use Rattle.wx_mem_tree.proofs.index.EntryIndex.with.Goals as goal

pub returns : goal.returns
returns c = λ es e is same none len.
    let bytes = c.in_ok-copy.ensures ∙ c.text.ensures in (
      added es e c.in_ok-copy.field-0 c.args.at c.args.self.places c.insert.new.self is.0 (bytes ∙ (c.in_ok-bytes.ensures.spelled ∙ ap spelled (sym same))) (ap place bytes ∙ (c.in_ok-bytes.ensures.back ∙ sym same)) (ap (λ p. place_of p es) same ∙ none) len c.in_ok-insert.ensures.updates,
      c.in_ok-children.ensures es e is.1 same len,
    )
