use Rattle.std.proofs.Common.{refl, ◌++◌}
use Rattle.zk_talk.proofs.FirstMessages.{first_of_good, first_of_any}
use Rattle.zk_talk.proofs.fronts.front_comes_first.Goals as goal

pub returns-clause-good : goal.returns-clause-good
returns-clause-good c = λ limits front rest a b.
    let v = a.spelt in
    let w = b.spelt in
    first_of_good limits (front ++ rest) front rest v.conversation v.client_rest v.server_rest a.messages b.messages refl v.good a.order w.conversation w.client_rest w.server_rest w.good b.order

pub returns-clause-any : goal.returns-clause-any
returns-clause-any c = λ limits front rest a all ending are.
    let v = a.spelt in
    first_of_any limits (front ++ rest) front rest v.conversation v.client_rest v.server_rest a.messages all refl v.good a.order ending are
