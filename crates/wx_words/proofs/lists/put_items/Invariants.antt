use Rattle.std.proofs.Common.{◌≡◌, ◌++◌, take}
use Rattle.std.specs.List.{flat_map, AllByRecursion}
use Rattle.wx_words.specs.Line.{spaced}
use Rattle.wx_words.proofs.lists.put_items.Given as goal

abbrev pub invariant-loop-item : goal.invariant-loop-item
invariant-loop-item g l = record {
  text : l.out ≡ l.fn.out ++ spaced (flat_map g.T.Spelled.spelling.words (take l.item-index l.items));
  fits : AllByRecursion g.T.Spelled.spelling.fits (take l.item-index l.items);
}
