-- One item more.
use Rattle.std.proofs.Common.{◌≡◌, List, [], ◌∷◌, ◌++◌, refl, ap, ◌∙◌}
use Rattle.wx_control.specs.declared.id.Id.{Id}
use Rattle.wx_control.specs.declared.ask.Ask.{Ask}
use Rattle.wx_queue.specs.declared.parcel.Sent.{Sent}
use Rattle.wx_pass.specs.declared.item.Item.{Item}
use Rattle.wx_pass.specs.declared.item.Item.TheVariants.{Ask as AnAsk, Keys}
use Rattle.wx_pass.specs.Asked.{asks_of, with_ask}

with_one : (item : Item) (xs ys : List (Id × Ask)) → with_ask item (xs ++ ys) ≡ with_ask item xs ++ ys
with_one (AnAsk id ask) xs ys = refl
with_one (Keys bytes) xs ys = refl

pub asks_one : (sent : List (Sent Item)) (s : Sent Item) → asks_of (sent ++ s ∷ []) ≡ asks_of sent ++ with_ask s.item []
asks_one [] s = refl
asks_one (t ∷ sent) s = ap (with_ask t.item) (asks_one sent s) ∙ with_one t.item (asks_of sent) (with_ask s.item [])
