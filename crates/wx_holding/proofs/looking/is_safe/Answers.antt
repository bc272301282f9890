use Rattle.std.proofs.Common.{inl, inr}
use Rattle.wx_recursor.specs.declared.answers.Found.TheVariants.{Barred, Entries, Fault, Missing, Refused, Rejected}
use Rattle.wx_holding.proofs.StillLooks.{unsafe_found}
use Rattle.wx_holding.proofs.looking.is_safe.Goals as goal

pub returns-clause-told : goal.returns-clause-told
returns-clause-told g c t no_links still names =
    let found = c.in_ok-look_at_root.ensures.told t no_links still names in
    elim c.in-Missing.is [
      | inl e ↦ unsafe_found t c.args.path.now c.in_ok-look_at_root.field-0 Missing found e (λ i h. cc)
      | inr more ↦ elim more [
        | inl e ↦ unsafe_found t c.args.path.now c.in_ok-look_at_root.field-0 Barred found e (λ i h. cc)
        | inr others ↦ elim others [
          | inl e ↦ unsafe_found t c.args.path.now c.in_ok-look_at_root.field-0 Rejected found e (λ i h. cc)
          | inr rest ↦ elim rest [
            | inl e ↦ unsafe_found t c.args.path.now c.in_ok-look_at_root.field-0 (Fault e.0 e.1) found e.2 (λ i h. cc)
            | inr last ↦ elim last [
              | inl e ↦ unsafe_found t c.args.path.now c.in_ok-look_at_root.field-0 (Refused e.0) found e.1 (λ i h. cc)
              | inr e ↦ unsafe_found t c.args.path.now c.in_ok-look_at_root.field-0 (Entries e.0) found e.1 (λ i h. cc)
            ]
          ]
        ]
      ]
    ]
