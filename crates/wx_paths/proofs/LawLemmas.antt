-- The laws of paths.
use Rattle.std.proofs.Common.{◌≡◌, Bool, [], ap, ◌∙◌}
use Rattle.wx_paths.specs.Paths.{components, is_absolute, path_parts, kept, spelled, normalize}
use Rattle.wx_paths.specs.FrontLaws.{begins_with-same, begins_with-trans}
use Rattle.wx_paths.specs.Laws.{StartsWithItself, StartsWithTheSame, NormalStaysNormal, NormalIsSpelled, ParentOfName}
use Rattle.wx_paths.proofs.ComponentLemmas.{normal-spelled, parent-append}
use Rattle.wx_paths.proofs.SpellLemmas.{spelled-parts, spelled-absolute, kept_parts, kept-stays}

pub starts_with_itself : StartsWithItself
starts_with_itself path = begins_with-same (components path)

pub starts_with_the_same : StartsWithTheSame
starts_with_the_same path middle front = begins_with-trans (components path) (components middle) (components front)

pub normal_stays_normal : NormalStaysNormal
normal_stays_normal path =
    let k = kept_parts path in
    let p : path_parts (normalize path) ≡ kept (path_parts path) = spelled-parts (is_absolute path) _ k.0 in
    let a : is_absolute (normalize path) ≡ is_absolute path = spelled-absolute (is_absolute path) _ k.0 in
    let f : kept (path_parts (normalize path)) ≡ kept (path_parts path) = ap kept p ∙ kept-stays [] (kept (path_parts path)) k.1 in
    ap (λ (b : Bool). spelled b (kept (path_parts (normalize path)))) a ∙ ap (spelled (is_absolute path)) f

pub normal_is_spelled : NormalIsSpelled
normal_is_spelled path = normal-spelled path

pub parent_of_name : ParentOfName
parent_of_name path name some n = parent-append path name some n
