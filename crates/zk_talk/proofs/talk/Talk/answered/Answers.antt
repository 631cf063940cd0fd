use Rattle.std.proofs.Common.{subst, None, arith}
use Rattle.zk_talk.specs.{contracts.talk.Talk.the_view, Conversation.Conversation, Numbers.AnswersFrame, Numbers.NewestAnswers, Numbers.IsNewest}
use Rattle.zk_talk.proofs.{Headline.stands_alone, Viewing.not_none}
use Rattle.zk_talk.proofs.talk.Talk.answered.Goals as goal

pub returns-in-Some-clause-none : goal.returns-in-Some-clause-none
returns-in-Some-clause-none c = rw (← c.self.view_is) (λ none. absurd (not_none c.self.inside.server.count c.self.inside.server.kept c.in_ok-_payload._payload.now c.in_ok-_payload.ensures none))

pub returns-in-Some-clause-stands : goal.returns-in-Some-clause-stands
returns-in-Some-clause-stands c =
    let T = the_view c.self.inside in
    rw (← c.self.view_is) (λ h M v cr sr st g kept. subst (λ (u : Conversation). AnswersFrame u c.in-Some.request.frame) (stands_alone T h M st v cr sr g).0 (subst (IsNewest st.conversation) c.in-Some.is (st.newest kept)))

pub returns-in-None-clause-none : goal.returns-in-None-clause-none
returns-in-None-clause-none c = rw (← c.self.view_is) (λ none. absurd (not_none c.self.inside.server.count c.self.inside.server.kept c.in_ok-_payload._payload.now c.in_ok-_payload.ensures none))

pub returns-in-None-clause-stands : goal.returns-in-None-clause-stands
returns-in-None-clause-stands c =
    let T = the_view c.self.inside in
    rw (← c.self.view_is) (λ h M v cr sr st g kept.
    let known = subst (IsNewest st.conversation) c.in-None.is (st.newest kept) in
    subst (λ (u : Conversation). AnswersFrame u 0) (stands_alone T h M st v cr sr g).0 (known.0 (omega (arith, c.if-count-eq1.true, c.count.ensures, st.server_frames))))

pub returns-in-None-clause-refuses : goal.returns-in-None-clause-refuses
returns-in-None-clause-refuses c =
    rw (← c.self.view_is) (λ h M f r kept.
    let known = subst (IsNewest r.is.conversation) c.in-None.is (r.newest kept) in
    known.0 (omega (arith, c.if-count-eq1.true, c.count.ensures, r.server_frames)))

pub returns-in-None-2-clause-stands : goal.returns-in-None-2-clause-stands
returns-in-None-2-clause-stands c =
    let T = the_view c.self.inside in
    rw (← c.self.view_is) (λ h M v cr sr st g kept.
    let known = subst (IsNewest st.conversation) c.in-None-2.is (st.newest kept) in
    subst (λ (u : Conversation). NewestAnswers u None) (stands_alone T h M st v cr sr g).0 (known.1 (λ one. c.if-count-eq1.false (omega (arith, one, c.count.ensures, st.server_frames)))))

pub returns-in-None-2-clause-refuses : goal.returns-in-None-2-clause-refuses
returns-in-None-2-clause-refuses c =
    rw (← c.self.view_is) (λ h M f r kept.
    let known = subst (IsNewest r.is.conversation) c.in-None-2.is (r.newest kept) in
    known.1 (λ one. c.if-count-eq1.false (omega (arith, one, c.count.ensures, r.server_frames))))
