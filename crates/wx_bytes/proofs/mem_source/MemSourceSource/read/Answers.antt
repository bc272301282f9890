use Rattle.std.proofs.Common.{◌≡◌, ◌<◌, ◌≤◌, ◌+◌, ◌-◌, ◌++◌, min, arith, length, length-append, length-take, length-drop, ℕ, List, drop, take, subst}
use Rattle.std.proofs.lemmas.List.{drop_all}
use Rattle.wx_bytes.proofs.Parts.{read_part}
use Rattle.wx_bytes.proofs.mem_source.MemSourceSource.read.Goals as goal

pub returns-clause-bytes : goal.returns-clause-bytes
returns-clause-bytes c =
    let xs : List ℕ = c.args.self.now.bytes.items in
    let p : ℕ = c.args.self.now.position in
    let n : ℕ = c.min-count.result in
    let got : c.copy_from_slice.new.self ≡ take n (take (length xs - p) (drop p xs)) =
    subst (λ (t : List ℕ). c.copy_from_slice.new.self ≡ take n (take (length t - p) (drop p t))) c.deref-2.ensures.value c.copy_from_slice.ensures.after in
    let rest : length (take (length xs - p) (drop p xs)) ≡ length xs - p = omega (arith, length-take {A = ℕ}, length-drop {A = ℕ}) in
    let fits : n ≤ length xs - p = omega (arith, c.min-count.ensures, c.min.ensures, c.deref-2.ensures.len, rest, length-take {A = ℕ}, length-drop {A = ℕ}) in
    let most : c.min.result ≡ min (length (take (length xs - p) (drop p xs))) c.args.self.now.piece =
    subst (λ (t : List ℕ). c.min.result ≡ min (length (take (length t - p) (drop p t))) c.args.self.now.piece) c.deref-2.ensures.value c.min.ensures in
    let end : n ≡ 0 → 0 < length (c.copy_from_slice.new.self ++ drop n c.args.buf.now) → length xs ≤ p + n =
    λ is room. omega (arith, is, room, most, rest, c.min-count.ensures, c.copy_from_slice.ensures.len, c.args.self.now.some, length-append {A = ℕ}, length-take {A = ℕ}, length-drop {A = ℕ}) in
    (read_part xs _ (drop n c.args.buf.now) p n fits got, λ is room. drop_all (p + n) xs (end is room))
