use Rattle.wx_file_turns.proofs.Journals.{few_more}
use Rattle.wx_file_turns.proofs.EpochWalks.{few_done, walks_step}
use Rattle.wx_file_turns.proofs.laws.few_steps.Goals as goal

pub returns-clause-goes_on : goal.returns-clause-goes_on
returns-clause-goes_on c = λ t ok s p kind u v h errors asks on same. let k = walks_step t ok s p kind u v h errors asks on same in k.walking

pub returns-clause-few : goal.returns-clause-few
returns-clause-few c = λ t ok s p kind u v h errors asks on same shows few. let k = walks_step t ok s p kind u v h errors asks on same in few_more s t p few (few_done t ok s p v errors asks k shows)
