-- What contracts see of a live outside over the system. It tells nothing of what it was told, of its tree, its ends and its moments.
use Rattle.std.specs.Prelude.{ℕ, ◌^◌, false, None, Some, List, []}
use Rattle.wx_scan.specs.Looked.{Looked}
use Rattle.wx_machine.specs.Seen.{Seen}
use Rattle.wx_live.specs.Drawn.{Drawn}

abbrev pub looked_of : ℕ → ℕ → Looked
looked_of looks faults = record { tree = None; stamps = λ _. 0; shape = None; exact = false; looks = looks; faults = faults }

abbrev pub drawn_of : List ℕ → Drawn
drawn_of folder = record { left = None; answers = None; moments = None; folder = Some folder }

-- what no look changes: its folder, how often a call on a child failed, and the last moment
pub record Kept : Type 0 where
  pub folder : List ℕ
  pub faults : ℕ
  pub moment : ℕ

-- it needs no room
abbrev pub seen_as : Kept → Looked → Seen Drawn
seen_as k l = record {
  plan = drawn_of k.folder;
  shown = record { told = None; faults = k.faults };
  spare = 2 ^ 64;
  progress = record { turns = None; left = 0; moment = k.moment; turn_faults = 0; maker_faults = 0 };
  place = [];
  looked = l;
}
