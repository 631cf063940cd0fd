-- A recording comes to one thing, with one list of messages.
use Rattle.std.proofs.Common.{◌≡◌, ℕ, List, [], ◌++◌, Option, Some, refl, sym, ap, ◌∙◌, subst}
use Rattle.std.proofs.lemmas.Option.{none-some}
use Rattle.zk_talk.specs.{declared.message.Side.Side, declared.limits.Limits.Limits, declared.message.Ending.Ending, declared.message.Fault.Fault, History.History, Conversation.Conversation, Held.Message, Good.Good, Good.IsOrder}
use Rattle.zk_talk.specs.declared.message.Side.TheVariants.{Client, Server}
use Rattle.zk_talk.specs.declared.message.Ending.TheVariants.{Whole, Cut, Refused}
use Rattle.zk_talk.specs.{Answer.AreMessages, Ending.IsEnding, Ending.IsCutAt, Ending.unanswered}
use Rattle.zk_talk.proofs.{Small.small_limits, FaultOnce.same_before, FaultOnce.answer_fault, Headline.same_good, Headline.fault_is_bad, FirstMessages.first_of_good, FirstMessages.first_of_any, OrderOnce.order_once}
use Rattle.zk_recordings.specs.{declared.parts.DamageAt.DamageAt, Recording.Recording, Recording.history_of, Recording.limits_of, Recording.damage_of}
use Rattle.zk_listings.specs.{declared.summary.Summary.Summary, Outcome.ComesTo, Outcome.HasMessages, Outcome.IsGoodWith, Outcome.IsOutcome}
use Rattle.zk_listings.specs.declared.summary.Summary.TheVariants.{Ended, Broken}

-- one conversation ends in one place
cut-once : (v : Conversation) (cr sr : List ℕ) (s t : Side) (n m k l : ℕ) → IsCutAt v cr sr s n k → IsCutAt v cr sr t m l → Cut s n k ≡ Cut t m l
cut-once v cr sr Client Client n m k l p q = ap (λ a. Cut Client a k) (p.1 ∙ sym q.1) ∙ ap (Cut Client m) (p.2 ∙ sym q.2)
cut-once v cr sr Client Server n m k l p q = absurd (p.0 q.0)
cut-once v cr sr Server Client n m k l p q = absurd (q.0 p.0)
cut-once v cr sr Server Server n m k l p q = ap (λ a. Cut Server a k) (p.2 ∙ sym q.2) ∙ ap (Cut Server m) (p.3 ∙ sym q.3)

not-cut : (v : Conversation) (s : Side) (n k : ℕ) → IsCutAt v [] [] s n k → ⊥
not-cut v Client n k p = p.0 refl
not-cut v Server n k p = p.1 refl

module _ (limits : Limits) (h : History) where
  same : (v w : Conversation) (cb sb db tb : List ℕ) → Good limits h v cb sb → Good limits h w db tb → (v ≡ w) × (cb ≡ db) × (sb ≡ tb)
  same = same_good limits (small_limits limits) h

  ending-once : (d e : Ending) → IsEnding limits h d → IsEnding limits h e → d ≡ e
  ending-once (Refused f) e p q = sym (answer_fault limits (small_limits limits) h e q f p)
  ending-once d (Refused g) p q = answer_fault limits (small_limits limits) h d p g q
  ending-once (Whole n) (Whole m) p q = ap Whole (p.2 ∙ ap unanswered (same p.0 q.0 [] [] [] [] p.1 q.1).0 ∙ sym q.2)
  ending-once (Whole n) (Cut t m l) p q =
      let s = same p.0 q.0 [] [] q.1 q.2 p.1 q.3 in
      absurd (not-cut q.0 t m l (subst (λ b. IsCutAt q.0 [] b t m l) (sym s.2) (subst (λ b. IsCutAt q.0 b q.2 t m l) (sym s.1) q.4)))
  ending-once (Cut s n k) (Whole m) p q =
      let r = same q.0 p.0 [] [] p.1 p.2 q.1 p.3 in
      absurd (not-cut p.0 s n k (subst (λ b. IsCutAt p.0 [] b s n k) (sym r.2) (subst (λ b. IsCutAt p.0 b p.2 s n k) (sym r.1) p.4)))
  ending-once (Cut s n k) (Cut t m l) p q =
      let r = same q.0 p.0 q.1 q.2 p.1 p.2 q.3 p.3 in
      cut-once p.0 p.1 p.2 s t n m k l p.4
      (subst (λ v. IsCutAt v p.1 p.2 t m l) r.0 (subst (λ b. IsCutAt q.0 p.1 b t m l) r.2 (subst (λ b. IsCutAt q.0 b q.2 t m l) r.1 q.4)))

  -- the history of a recording that comes to an ending ends so
  ended : (damage : Option DamageAt) (e : Ending) → ComesTo limits h damage (Ended e) → IsEnding limits h e
  ended damage (Refused f) p = p
  ended damage _ p = p.1

  not-both : (damage : Option DamageAt) (e : Ending) (d : DamageAt) → ComesTo limits h damage (Ended e) → ComesTo limits h damage (Broken d) → ⊥
  not-both damage (Refused f) d p q = q.0 f p
  not-both damage _ d p q = none-some d (sym p.0 ∙ q.1)

  pub comes_to-once : (damage : Option DamageAt) (s t : Summary) → ComesTo limits h damage s → ComesTo limits h damage t → s ≡ t
  comes_to-once damage (Ended e) (Ended f) p q = ap (λ z. Ended z) (ending-once e f (ended damage e p) (ended damage f q))
  comes_to-once damage (Ended e) (Broken d) p q = absurd (not-both damage e d p q)
  comes_to-once damage (Broken d) (Ended e) p q = absurd (not-both damage e d q p)
  comes_to-once damage (Broken d) (Broken e) p q = let b : Some d ≡ Some e = sym p.1 ∙ q.1 in ap Broken (cc)

-- the messages before a fault
pub good-before : (limits : Limits) (h : History) (M : List Message) (f : Fault) (m : AreMessages limits h M (Refused f)) → IsGoodWith limits m.0.before M
good-before limits h M f m = record { conversation = m.0.conversation; client_rest = m.0.client_rest; server_rest = m.0.server_rest; good = m.0.good; order = m.1 }

-- those of an ending that is no fault
pub good-all : (limits : Limits) (h : History) (M : List Message) → AreMessages limits h M (Whole 0) → IsGoodWith limits h M
good-all limits h M m = record { conversation = m.0; client_rest = m.1; server_rest = m.2; good = m.3; order = m.4 }

order-once : (limits : Limits) (h : History) (M N : List Message) → IsGoodWith limits h M → IsGoodWith limits h N → M ≡ N
order-once limits h M N p q =
    let s = same limits h p.conversation q.conversation p.client_rest p.server_rest q.client_rest q.server_rest p.good q.good in
    order_once limits (small_limits limits) h p.conversation M N p.order (subst (λ z. IsOrder limits h z N) (sym s.0) q.order) p.client_rest p.server_rest p.good.whole

messages-once : (limits : Limits) (h : History) (M N : List Message) (s : Summary) → HasMessages limits h M s → HasMessages limits h N s → M ≡ N
messages-once limits h M N (Ended (Refused f)) p q =
    order-once limits p.0.before M N (good-before limits h M f p) (subst (λ k. IsGoodWith limits k N) (sym (same_before limits h f f p.0 q.0).0) (good-before limits h N f q))
messages-once limits h M N (Ended _) p q = order-once limits h M N (good-all limits h M p) (good-all limits h N q)
messages-once limits h M N (Broken d) p q = order-once limits h M N p q

pub outcome-once : (limits : Limits) (r : Recording) (M N : List Message) (s t : Summary) → IsOutcome limits r M s → IsOutcome limits r N t → (N ≡ M) × (t ≡ s)
outcome-once limits r M N s t p q =
    let e = comes_to-once (limits_of limits r) (history_of r) (damage_of r) t s q.comes_to p.comes_to in
    (messages-once (limits_of limits r) (history_of r) N M s (subst (HasMessages (limits_of limits r) (history_of r) N) e q.messages_are) p.messages_are, e)

-- a recording whose history is good has no messages but those of the history
good-once : (limits : Limits) (h : History) (M N : List Message) (s : Summary) → IsGoodWith limits h M → HasMessages limits h N s → N ≡ M
good-once limits h M N (Ended (Refused f)) g m = absurd (fault_is_bad limits h f m.0 (g.conversation, g.client_rest, g.server_rest, g.good))
good-once limits h M N (Ended _) g m = order-once limits h N M (good-all limits h N m) g
good-once limits h M N (Broken d) g m = order-once limits h N M m g

pub outcome-good : (limits : Limits) (r : Recording) (M N : List Message) (s : Summary) → IsGoodWith (limits_of limits r) (history_of r) M → IsOutcome limits r N s → N ≡ M
outcome-good limits r M N s g o = good-once (limits_of limits r) (history_of r) M N s g o.messages_are

-- the messages of a good front stand first in all that a recording comes to
has-first : (limits : Limits) (h front rest : History) (M N : List Message) (s : Summary) → h ≡ front ++ rest → IsGoodWith limits front M → HasMessages limits h N s → (more : List Message) × (N ≡ M ++ more)
has-first limits h front rest M N (Ended e) i g m = first_of_any limits h front rest g.conversation g.client_rest g.server_rest M N i g.good g.order e m
has-first limits h front rest M N (Broken d) i g m =
    first_of_good limits h front rest g.conversation g.client_rest g.server_rest M N i g.good g.order m.conversation m.client_rest m.server_rest m.good m.order

pub outcome-first : (limits : Limits) (r : Recording) (front rest : History) (M N : List Message) (s : Summary) → history_of r ≡ front ++ rest → IsGoodWith (limits_of limits r) front M → IsOutcome limits r N s → (more : List Message) × (N ≡ M ++ more)
outcome-first limits r front rest M N s i g o = has-first (limits_of limits r) (history_of r) front rest M N s i g o.messages_are
