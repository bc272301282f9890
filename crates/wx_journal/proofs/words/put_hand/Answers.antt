use Rattle.std.proofs.Common.{◌≡◌, ◌++◌, OnOk, ℕ, List, sym, ap, subst, ◌∙◌, append_assoc}
use Rattle.std.specs.Prelude.{codes}
use Rattle.std.specs.List.{flat_map}
use Rattle.wx_words.specs.Line.{spaced}
use Rattle.wx_words.specs.LineLaws.{spaced-append}
use Rattle.wx_words.specs.Parts.{both, list_of, as_line, number, u32}
use Rattle.wx_journal.specs.Acts.{act}
use Rattle.wx_journal.proofs.words.put_hand.Goals as goal

put : (old w : List ℕ) (vs zs : List (List ℕ)) → (old ++ (w ++ spaced vs)) ++ spaced zs ≡ old ++ (w ++ spaced (vs ++ zs))
put old w vs zs =
    append_assoc old (w ++ spaced vs) (spaced zs) ∙ ap (λ (t : List ℕ). old ++ t) (append_assoc w (spaced vs) (spaced zs) ∙ ap (λ (t : List ℕ). w ++ t) (sym (spaced-append vs zs)))

pub returns-clause-text : goal.returns-clause-text
unfolding both
returns-clause-text c =
    subst (λ (t : List ℕ). OnOk c.put_items.result (c.put_items.new.out ≡ t)) (rw (c.in_ok-begin_row.ensures.text, c.as_slice.ensures) (put c.args.out.now (codes "hand") (u32.words c.args.n ++ (list_of (as_line number)).words c.args.names.now) (flat_map act.words c.args.acts.now))) c.put_items.ensures.text
