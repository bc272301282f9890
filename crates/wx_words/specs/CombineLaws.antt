-- Each way to make a form of forms keeps both laws.
use Rattle.std.proofs.Common.{◌≡◌, ℕ, Bool, true, false, cond, Option, None, Some, List, [], ◌∷◌, ◌++◌, refl, sym, ap, subst, ◌∙◌, append_assoc, inl, inr, ◌⊎◌}
use Rattle.std.specs.Str.{bytes_eq}
use Rattle.std.specs.List.{AllByRecursion}
use Rattle.wx_words.specs.Line.{◌>>=◌}
use Rattle.wx_words.specs.LineLaws.{bytes_same, bytes_again}
use Rattle.wx_words.specs.OptionLaws.{bind_some, guarded}
use Rattle.wx_words.specs.Combine.{Reader, pair_words, read_pair, read_as, read_some, read_nothing, read_never, read_literal, row_at, read_rows}
use Rattle.wx_words.specs.Forms.{Stood, IsForm}
use Rattle.wx_words.specs.FormLaws.{stood-one, stood-then, same_read}

abbrev Words : Type 0
Words = List (List ℕ)

-- ---- one behind the other

pub pair_form : {V : Type 0} {see : List ℕ → V} {A B : Type 0} {fa : A → Type 0} {wa : A → Words} {ra : Reader A} {fb : B → Type 0} {wb : B → Words} {rb : Reader B}
    → IsForm see fa wa ra → IsForm see fb wb rb → IsForm see (λ (p : A × B). fa p.0 × fb p.1) (pair_words wa wb) (read_pair ra rb)
pair_form {V} {see} {A} {B} {fa} {wa} {ra} {fb} {wb} {rb} first second = record { again = again; takes = takes }
  where
    again : (p : A × B) (rest : Words) → fa p.0 × fb p.1 → read_pair ra rb (pair_words wa wb p ++ rest) ≡ Some (p, rest)
    again p rest fits =
        ap (read_pair ra rb) (append_assoc (wa p.0) (wb p.1) rest) ∙ rw (first.again p.0 (wb p.1 ++ rest) fits.0, second.again p.1 rest fits.1) refl

    takes : (ws : Words) (p : A × B) (rest : Words) → read_pair ra rb ws ≡ Some (p, rest) → (fa p.0 × fb p.1) × Stood see (pair_words wa wb p) ws rest
    takes ws p rest e =
        let a = bind_some (ra ws) (λ a. rb a.1 >>= λ b. Some ((a.0, b.0), b.1)) (p, rest) e in
        let b = bind_some (rb a.0.1) (λ b. Some ((a.0.0, b.0), b.1)) (p, rest) a.2 in
        let t = first.takes ws a.0.0 a.0.1 a.1 in
        let u = second.takes a.0.1 b.0.0 b.0.1 b.1 in
        same_read (λ (q : A × B) (r : Words). (fa q.0 × fb q.1) × Stood see (pair_words wa wb q) ws r) (a.0.0, b.0.0) p b.0.1 rest b.2
        ((t.0, u.0), stood-then see _ _ ws a.0.1 b.0.1 t.1 u.1)

pub nothing_form : {V : Type 0} (see : List ℕ → V) → IsForm see (λ (u : Unit {0}). Unit {0}) (λ u. []) read_nothing
nothing_form see = record {
  again = λ u rest fits. refl;
  takes = λ ws u rest e. (tt, record { front = []; parts = ap (λ (o : Option (Unit {0} × Words)). rest_of ws o) e; same = refl });
}
  where
    rest_of : Words → Option (Unit {0} × Words) → Words
    rest_of ws None = ws
    rest_of ws (Some p) = p.1

pub never_form : {V : Type 0} (see : List ℕ → V) {X : Type 0} → IsForm see (λ (x : X). ⊥) (λ x. []) read_never
never_form see = record { again = λ x rest fits. absurd fits; takes = λ ws x rest e. absurd cc }

pub literal_form : {V : Type 0} (see : List ℕ → V) (v : List ℕ) → IsForm see (λ (u : Unit {0}). Unit {0}) (λ u. v ∷ []) (read_literal v)
literal_form {V} see v = record { again = λ u rest fits. rw (bytes_again v) refl; takes = takes }
  where
    takes : (ws : Words) (u : Unit {0}) (rest : Words) → read_literal v ws ≡ Some (u, rest) → Unit {0} × Stood see (v ∷ []) ws rest
    takes [] u rest e = absurd cc
    takes (w ∷ ws) u rest e =
        let g = guarded (bytes_eq w v) (Some (tt, ws)) (u, rest) e in
        same_read (λ (y : Unit {0}) (r : Words). Unit {0} × Stood see (v ∷ []) (w ∷ ws) r) tt u ws rest g.1 (tt, stood-one see w v ws (ap see (bytes_same w v g.0)))

-- the same form of another type
pub as_form : {V : Type 0} {see : List ℕ → V} {A X : Type 0} {fa : A → Type 0} {wa : A → Words} {ra : Reader A} → IsForm see fa wa ra → (make : A → X) (back : X → A) → ((x : X) → make (back x) ≡ x) → ((a : A) → back (make a) ≡ a)
    → IsForm see (λ x. fa (back x)) (λ x. wa (back x)) (read_as make ra)
as_form {V} {see} {A} {X} {fa} {wa} {ra} form make back there again = record { again = λ x rest fits. rw (form.again (back x) rest fits) (ap (λ (y : X). Some (y, rest)) (there x)); takes = takes }
  where
    takes : (ws : Words) (x : X) (rest : Words) → read_as make ra ws ≡ Some (x, rest) → fa (back x) × Stood see (wa (back x)) ws rest
    takes ws x rest e =
        let a = bind_some (ra ws) (λ b. Some (make b.0, b.1)) (x, rest) e in
        let t = form.takes ws a.0.0 a.0.1 a.1 in
        same_read (λ (y : X) (r : Words). fa (back y) × Stood see (wa (back y)) ws r) (make a.0.0) x a.0.1 rest a.2
        (subst (λ (b : A). fa b × Stood see (wa b) ws a.0.1) (sym (again a.0.0)) t)

-- the same where not every value is one of the other type
pub some_form : {V : Type 0} {see : List ℕ → V} {A X : Type 0} {fa : A → Type 0} {wa : A → Words} {ra : Reader A} → IsForm see fa wa ra → (make : A → Option X) (back : X → A) → ((x : X) → make (back x) ≡ Some x) → ((a : A) (x : X) → make a ≡ Some x → back x ≡ a)
    → IsForm see (λ x. fa (back x)) (λ x. wa (back x)) (read_some make ra)
some_form {V} {see} {A} {X} {fa} {wa} {ra} form make back there again = record { again = λ x rest fits. rw (form.again (back x) rest fits, there x) refl; takes = takes }
  where
    takes : (ws : Words) (x : X) (rest : Words) → read_some make ra ws ≡ Some (x, rest) → fa (back x) × Stood see (wa (back x)) ws rest
    takes ws x rest e =
        let a = bind_some (ra ws) (λ b. make b.0 >>= λ y. Some (y, b.1)) (x, rest) e in
        let b = bind_some (make a.0.0) (λ y. Some (y, a.0.1)) (x, rest) a.2 in
        let t = form.takes ws a.0.0 a.0.1 a.1 in
        same_read (λ (y : X) (r : Words). fa (back y) × Stood see (wa (back y)) ws r) b.0 x a.0.1 rest b.2
        (subst (λ (c : A). fa c × Stood see (wa c) ws a.0.1) (sym (again a.0.0 b.0 b.1)) t)

-- ---- one for each first word

-- what a row of a table reads has the row's word and then that form
pub record IsRow {V : Type 0} (see : List ℕ → V) {X : Type 0} (fits : X → Type 0) (words : X → Words) (row : List ℕ × Reader X) : Type 0 where
  pub takes : (ws : Words) (x : X) (rest : Words) → row.1 ws ≡ Some (x, rest) → fits x × Stood see (words x) (row.0 ∷ ws) rest

pub row_of : {V : Type 0} {see : List ℕ → V} {A X : Type 0} {fa : A → Type 0} {wa : A → Words} {ra : Reader A} (form : IsForm see fa wa ra) (make : A → X) (word : List ℕ) (fits : X → Type 0) (words : X → Words)
    → ((a : A) → fa a → fits (make a)) → ((a : A) → words (make a) ≡ word ∷ wa a) → IsRow see fits words (word, read_as make ra)
row_of {V} {see} {A} {X} {fa} {wa} {ra} form make word fits words fit spell = record { takes = takes }
  where
    takes : (ws : Words) (x : X) (rest : Words) → read_as make ra ws ≡ Some (x, rest) → fits x × Stood see (words x) (word ∷ ws) rest
    takes ws x rest e =
        let a = bind_some (ra ws) (λ b. Some (make b.0, b.1)) (x, rest) e in
        let t = form.takes ws a.0.0 a.0.1 a.1 in
        same_read (λ (y : X) (r : Words). fits y × Stood see (words y) (word ∷ ws) r) (make a.0.0) x a.0.1 rest a.2
        (fit a.0.0 t.0, subst (λ (v : Words). Stood see v (word ∷ ws) a.0.1) (sym (spell a.0.0)) (stood-then see (word ∷ []) (wa a.0.0) (word ∷ ws) ws a.0.1 (stood-one see word word ws refl) t.1))

pub row_again : {V : Type 0} {see : List ℕ → V} {A X : Type 0} {fa : A → Type 0} {wa : A → Words} {ra : Reader A} (form : IsForm see fa wa ra) (make : A → X) (a : A) (rest : Words) → fa a → read_as make ra (wa a ++ rest) ≡ Some (make a, rest)
row_again form make a rest fits = rw (form.again a rest fits) refl

pub rows_take : {V : Type 0} (see : List ℕ → V) {X : Type 0} (fits : X → Type 0) (words : X → Words) (rows : List (List ℕ × Reader X)) → AllByRecursion (IsRow see fits words) rows
    → (ws : Words) (x : X) (rest : Words) → read_rows rows ws ≡ Some (x, rest) → fits x × Stood see (words x) ws rest
rows_take {V} see {X} fits words rows all [] x rest e = absurd cc
rows_take {V} see {X} fits words rows all (w ∷ ws) x rest e = at rows all w ws x rest e
  where
    which : (b : Bool) (o q : Option (X × Words)) (z : X × Words) → cond b o q ≡ Some z → ((b ≡ true) × (o ≡ Some z)) ⊎ (q ≡ Some z)
    which true o q z e = inl (refl, e)
    which false o q z e = inr e

    at : (rows : List (List ℕ × Reader X)) → AllByRecursion (IsRow see fits words) rows → (w : List ℕ) (ws : Words) (x : X) (rest : Words) → row_at rows w ws ≡ Some (x, rest) → fits x × Stood see (words x) (w ∷ ws) rest
    at [] all w ws x rest e = absurd cc
    at (row ∷ rows) all w ws x rest e =
        elim (which (bytes_eq w row.0) (row.1 ws) (row_at rows w ws) (x, rest) e) [
          | inl p ↦ subst (λ (v : List ℕ). fits x × Stood see (words x) (v ∷ ws) rest) (sym (bytes_same w row.0 p.0)) (all.0.takes ws x rest p.1)
          | inr p ↦ at rows all.1 w ws x rest p
        ]
