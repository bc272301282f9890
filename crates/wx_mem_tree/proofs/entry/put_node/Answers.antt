use Rattle.std.proofs.Common.{◌∙◌, ◌<◌, ap, subst, sym}
use Rattle.wx_mem_tree.specs.Indexed.{place_of}
use Rattle.wx_mem_tree.proofs.Placed.{placed_within}
use Rattle.wx_mem_tree.proofs.Put.{put_last, put_there, still_indexed}
use Rattle.wx_mem_tree.proofs.entry.put_node.Goals as goal

pub index_mut-requires : goal.index_mut-requires
index_mut-requires c =
    let placed = sym c.in-Ok-Some.ensures ∙ c.in-Ok-Some.field-0-is in
    subst (λ n. c.in-Ok-Some.at < n) c.as_slice.ensures.len (placed_within c.args.path c.as_slice.result.now c.in-Ok-Some.at placed)

pub returns-in-Ok-Some-clause-ok : goal.returns-in-Ok-Some-clause-ok
returns-in-Ok-Some-clause-ok c =
    let placed = sym (c.in-Ok-Some.ensures ∙ ap (place_of c.args.path) c.as_slice.ensures.value) ∙ c.in-Ok-Some.field-0-is in
    put_there c.args.path c.args.node c.args.entries.now.items c.in-Ok-Some.at c.index_mut.result.now placed c.index_mut.ensures.value

pub returns-in-Ok-Some-clause-indexed : goal.returns-in-Ok-Some-clause-indexed
returns-in-Ok-Some-clause-indexed c =
    let placed = sym (c.in-Ok-Some.ensures ∙ ap (place_of c.args.path) c.as_slice.ensures.value) ∙ c.in-Ok-Some.field-0-is in
    let put = put_there c.args.path c.args.node c.args.entries.now.items c.in-Ok-Some.at c.index_mut.result.now placed c.index_mut.ensures.value in
    still_indexed c.args.path c.args.node c.args.entries.now.items _ c.in-Ok-Some.at c.args.index.now placed put c.requires

pub returns-in-Ok-None-clause-ok : goal.returns-in-Ok-None-clause-ok
returns-in-Ok-None-clause-ok c =
    let none = sym (c.in-Ok-None.ensures ∙ ap (place_of c.args.path) c.as_slice.ensures.value) ∙ c.in-Ok-None.field-0-is in
    put_last c.add.result c.args.path c.args.node c.args.entries.now.items c.add.new.entries.items none c.add.ensures.ok
