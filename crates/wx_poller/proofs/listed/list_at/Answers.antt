use Rattle.std.proofs.Common.{ap, sym, ◌∙◌}
use Rattle.wx_tree.specs.Trees.{node_at}
use Rattle.wx_poller.specs.Listings.{is_dir}
use Rattle.wx_poller.proofs.Looks.{told_after, told_before}
use Rattle.wx_poller.proofs.Shown.{absent_listed, answers_map, directory_node, found_is, is_not_there, is_there_too, leaf_listed}
use Rattle.wx_poller.proofs.listed.list_at.Goals as goal

pub returns-in-Ok-None-clause-told : goal.returns-in-Ok-None-clause-told
returns-in-Ok-None-clause-told g c = λ t q x named s p. absent_listed t q c.args.path.now p _ s (found_is _ _ _ c.in-Ok-None.field-0-is (c.in-Ok-None.ensures.told t q x s))

pub returns-in-Ok-None-clause-there : goal.returns-in-Ok-None-clause-there
returns-in-Ok-None-clause-there g c = λ t q x s. is_not_there (node_at t q) (found_is _ _ _ c.in-Ok-None.field-0-is (c.in-Ok-None.ensures.told t q x s))

pub returns-in-Dir-clause-told : goal.returns-in-Dir-clause-told
returns-in-Dir-clause-told g c = λ t q x named s.
    let k = found_is _ _ _ c.in-Ok-Some.field-0-is (c.in-Ok-Some.ensures.told t q (told_before t _ _ _ _ c.list_directory.ensures.looked x) s) in
    c.list_directory.ensures.told t q (told_after t _ _ _ _ c.look.ensures.looked x) named s (directory_node (node_at t q) c.in-Ok-Some.seen.file_type c.in-Dir.is k) c.in-Dir.is

pub returns-in-Dir-clause-there : goal.returns-in-Dir-clause-there
returns-in-Dir-clause-there g c = λ t q x s.
    let k = found_is _ _ _ c.in-Ok-Some.field-0-is (c.in-Ok-Some.ensures.told t q (told_before t _ _ _ _ c.list_directory.ensures.looked x) s) in
    answers_map c.list_directory.result _ _ (λ b h. h ∙ is_there_too (node_at t q) c.in-Ok-Some.seen.file_type k) (c.list_directory.ensures.there t q (told_after t _ _ _ _ c.look.ensures.looked x) s (directory_node (node_at t q) c.in-Ok-Some.seen.file_type c.in-Dir.is k))

pub returns-in-File-clause-told : goal.returns-in-File-clause-told
returns-in-File-clause-told g c = λ t q x named s.
    answers_map c.put_there.result _ _ (λ b h p. leaf_listed t q c.args.path.now p c.in-Ok-Some.seen.file_type _ _ s (ap is_dir c.in-File.is) (found_is _ _ _ c.in-Ok-Some.field-0-is (c.in-Ok-Some.ensures.told t q x s)) (h p)) c.put_there.ensures.put

pub returns-in-File-clause-there : goal.returns-in-File-clause-there
returns-in-File-clause-there g c = λ t q x s.
    answers_map c.put_there.result _ _ (λ b h. h ∙ is_there_too (node_at t q) c.in-Ok-Some.seen.file_type (found_is _ _ _ c.in-Ok-Some.field-0-is (c.in-Ok-Some.ensures.told t q x s))) c.put_there.ensures.there

pub returns-in-Symlink-clause-told : goal.returns-in-Symlink-clause-told
returns-in-Symlink-clause-told g c = λ t q x named s.
    answers_map c.put_there-in-Symlink.result _ _ (λ b h p. leaf_listed t q c.args.path.now p c.in-Ok-Some.seen.file_type _ _ s (ap is_dir c.in-Symlink.is) (found_is _ _ _ c.in-Ok-Some.field-0-is (c.in-Ok-Some.ensures.told t q x s)) (h p)) c.put_there-in-Symlink.ensures.put

pub returns-in-Symlink-clause-there : goal.returns-in-Symlink-clause-there
returns-in-Symlink-clause-there g c = λ t q x s.
    answers_map c.put_there-in-Symlink.result _ _ (λ b h. h ∙ is_there_too (node_at t q) c.in-Ok-Some.seen.file_type (found_is _ _ _ c.in-Ok-Some.field-0-is (c.in-Ok-Some.ensures.told t q x s))) c.put_there-in-Symlink.ensures.there

pub returns-in-Other-clause-told : goal.returns-in-Other-clause-told
returns-in-Other-clause-told g c = λ t q x named s.
    answers_map c.put_there-in-Other.result _ _ (λ b h p. leaf_listed t q c.args.path.now p c.in-Ok-Some.seen.file_type _ _ s (ap is_dir c.in-Other.is) (found_is _ _ _ c.in-Ok-Some.field-0-is (c.in-Ok-Some.ensures.told t q x s)) (h p)) c.put_there-in-Other.ensures.put

pub returns-in-Other-clause-there : goal.returns-in-Other-clause-there
returns-in-Other-clause-there g c = λ t q x s.
    answers_map c.put_there-in-Other.result _ _ (λ b h. h ∙ is_there_too (node_at t q) c.in-Ok-Some.seen.file_type (found_is _ _ _ c.in-Ok-Some.field-0-is (c.in-Ok-Some.ensures.told t q x s))) c.put_there-in-Other.ensures.there
