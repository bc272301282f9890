-- When two roots are the same.
use Rattle.std.specs.Prelude.{Bool, true, false, not, ◌&&◌}
use Rattle.wx_tree.specs.declared.root.Root.{Root}
use Rattle.wx_tree.specs.Paths.{same}

abbrev pub same_bool : Bool → Bool → Bool
same_bool true b = b
same_bool false b = not b

abbrev pub same_root : Root → Root → Bool
same_root r s = same r.path s.path && same_bool r.recursive s.recursive
