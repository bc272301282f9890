-- Keys among what was sent and given.
use Rattle.std.proofs.Common.{◌≡◌, ℕ, Bool, true, false, ◌&&◌, List, [], ◌∷◌, ◌++◌, length, reverse, refl, sym, ap, subst, ◌∙◌, append_assoc, append-nil}
use Rattle.std.specs.List.{list_all}
use Rattle.std.proofs.lemmas.List.Folds.{list_all-append}
use Rattle.std.proofs.lemmas.List.{reverse-append}
use Rattle.wx_queue.specs.Ends.{sent_item}
use Rattle.wx_queue.specs.declared.parcel.Sent.{Sent}
use Rattle.wx_pass.specs.declared.item.Item.{Item}
use Rattle.wx_pass.specs.declared.item.Item.TheVariants.{Ask, Keys}
use Rattle.wx_reader.specs.Reads.{Sends}
use Rattle.wx_reader.specs.Reads.Sends.{Begun, Went, Dropped}
use Rattle.wx_handles.specs.Turns.{items_of}
use Rattle.wx_live_run.specs.Subsequences.{IsSubsequence}
use Rattle.wx_live_run.proofs.Parts.{front, joined, whole}

abbrev pub is_keys : Item → Bool
is_keys (Ask id ask) = false
is_keys (Keys bytes) = true

abbrev pub item_keys : Item → List ℕ
item_keys (Ask id ask) = []
item_keys (Keys bytes) = bytes

-- the bytes of these items, the oldest first
abbrev pub keys_among : List (Sent Item) → List ℕ
keys_among [] = []
keys_among (s ∷ sent) = item_keys s.item ++ keys_among sent

-- the same, the newest first
abbrev pub keys_back : List Item → List ℕ
keys_back [] = []
keys_back (item ∷ items) = keys_back items ++ item_keys item

among_append : (xs ys : List (Sent Item)) → keys_among (xs ++ ys) ≡ keys_among xs ++ keys_among ys
among_append [] ys = refl
among_append (x ∷ xs) ys = ap (λ (l : List ℕ). item_keys x.item ++ l) (among_append xs ys) ∙ sym (append_assoc (item_keys x.item) (keys_among xs) (keys_among ys))

items_append : (xs ys : List (Sent Item)) → items_of (xs ++ ys) ≡ items_of xs ++ items_of ys
items_append [] ys = refl
items_append (x ∷ xs) ys = ap (λ (l : List Item). x.item ∷ l) (items_append xs ys)

back_append : (items : List Item) (item : Item) → keys_back (items ++ item ∷ []) ≡ item_keys item ++ keys_back items
back_append [] item = sym (append-nil (item_keys item))
back_append (x ∷ items) item = ap (λ (l : List ℕ). l ++ item_keys x) (back_append items item) ∙ append_assoc (item_keys item) (keys_back items) (item_keys x)

-- one item at the front
last_item : (s : Sent Item) (given : List (Sent Item)) → items_of (reverse (s ∷ given)) ≡ items_of (reverse given) ++ s.item ∷ []
last_item s given = ap items_of (reverse-append (s ∷ []) given) ∙ items_append (reverse given) (s ∷ [])

pub back_is : (given : List (Sent Item)) → keys_back (items_of (reverse given)) ≡ keys_among given
back_is [] = refl
back_is (s ∷ given) = ap keys_back (last_item s given) ∙ back_append (items_of (reverse given)) s.item ∙ ap (λ (l : List ℕ). item_keys s.item ++ l) (back_is given)

and_true : (a b : Bool) → a ≡ true → b ≡ true → (a && b) ≡ true
and_true true true x y = refl
and_true true false x y = absurd cc
and_true false b x y = absurd cc

and_first : (a b : Bool) → (a && b) ≡ true → a ≡ true
and_first true b x = refl
and_first false b x = absurd cc

and_second : (a b : Bool) → (a && b) ≡ true → b ≡ true
and_second true b x = x
and_second false b x = absurd cc

-- all are keys
abbrev pub all_keys : List (Sent Item) → Bool
all_keys sent = list_all (λ (s : Sent Item). is_keys s.item) sent

all_more : (items : List Item) (item : Item) → list_all is_keys items ≡ true → is_keys item ≡ true → list_all is_keys (items ++ item ∷ []) ≡ true
all_more items item all one = list_all-append is_keys items (item ∷ []) ∙ and_true (list_all is_keys items) (list_all is_keys (item ∷ [])) all (and_true (is_keys item) true one refl)

pub back_keys : (given : List (Sent Item)) → all_keys given ≡ true → list_all is_keys (items_of (reverse given)) ≡ true
back_keys [] all = refl
back_keys (s ∷ given) all =
    ap (list_all is_keys) (last_item s given)
    ∙ all_more (items_of (reverse given)) s.item (back_keys given (and_second (is_keys s.item) (all_keys given) all)) (and_first (is_keys s.item) (all_keys given) all)

-- ---- what was sent of reads

sent_keys : (number : ℕ) (read : List ℕ) (sent : List (Sent Item)) → Sends number [] read sent → all_keys sent ≡ true
sent_keys number _ _ Begun = refl
sent_keys number _ _ (Went {read} {sent} bytes before) =
    list_all-append (λ (s : Sent Item). is_keys s.item) sent (sent_item number (length sent) (Keys bytes) ∷ []) ∙ and_true (all_keys sent) true (sent_keys number read sent before) refl
sent_keys number _ _ (Dropped {read} {sent} bytes before) = sent_keys number read sent before

sent_part : (number : ℕ) (read : List ℕ) (sent : List (Sent Item)) → Sends number [] read sent → IsSubsequence (keys_among sent) read
sent_part number _ _ Begun = tt
sent_part number _ _ (Went {read} {sent} bytes before) =
    let is : keys_among (sent ++ sent_item number (length sent) (Keys bytes) ∷ []) ≡ keys_among sent ++ bytes =
    among_append sent (sent_item number (length sent) (Keys bytes) ∷ []) ∙ ap (λ (l : List ℕ). keys_among sent ++ l) (append-nil bytes) in
    subst (λ (l : List ℕ). IsSubsequence l (read ++ bytes)) (sym is) (joined (keys_among sent) read bytes bytes (sent_part number read sent before) (whole bytes))
sent_part number _ _ (Dropped {read} {sent} bytes before) =
    subst (λ (l : List ℕ). IsSubsequence l (read ++ bytes)) (append-nil (keys_among sent)) (joined (keys_among sent) read [] bytes (sent_part number read sent before) tt)

-- what was given is a front of what was sent
pub given_keys : (number : ℕ) (read : List ℕ) (sent given left : List (Sent Item)) → Sends number [] read sent → sent ≡ given ++ left → all_keys given ≡ true
given_keys number read sent given left sends is =
    and_first (all_keys given) (all_keys left) (sym (list_all-append (λ (s : Sent Item). is_keys s.item) given left) ∙ ap all_keys (sym is) ∙ sent_keys number read sent sends)

pub given_part : (number : ℕ) (read : List ℕ) (sent given left : List (Sent Item)) → Sends number [] read sent → sent ≡ given ++ left → IsSubsequence (keys_among given) read
given_part number read sent given left sends is =
    front (keys_among given) (keys_among left) read (subst (λ (l : List ℕ). IsSubsequence l read) (ap keys_among is ∙ among_append given left) (sent_part number read sent sends))
