use Rattle.zk_talk.proofs.{Deciding.good_or_fault, FaultOnce.fault_once, Headline.same_good, Headline.fault_is_bad, Headline.fault_more, OrderOnce.order_once, Small.small_limits}
use Rattle.zk_talk.proofs.laws.history_laws.Goals as goal

pub returns-clause-conversation : goal.returns-clause-conversation
returns-clause-conversation c = λ limits h a b.
    same_good limits (small_limits limits) h a.conversation b.conversation a.client_rest a.server_rest b.client_rest b.server_rest a.good b.good

pub returns-clause-order : goal.returns-clause-order
returns-clause-order c = λ limits h a messages others order other.
    order_once limits (small_limits limits) h a.conversation messages others order other a.client_rest a.server_rest a.good.whole

pub returns-clause-fault : goal.returns-clause-fault
returns-clause-fault c = λ limits h fault other is also. fault_once limits (small_limits limits) h fault other is also

pub returns-clause-never_both : goal.returns-clause-never_both
returns-clause-never_both c = λ limits h fault is good. fault_is_bad limits h fault is good

pub returns-clause-decided : goal.returns-clause-decided
returns-clause-decided c = λ limits h rest fault is. fault_more limits h rest fault is

pub returns-clause-decides : goal.returns-clause-decides
returns-clause-decides c = good_or_fault
