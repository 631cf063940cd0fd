-- What a talk does whose kept frame is given up first.
use Rattle.std.proofs.Common.{◌≡◌, ◌≢◌, inl, inr, ℕ, List, [], ◌∷◌, take, Bool, true, false, Some, None, refl, sym, ◌∙◌, subst}
use Rattle.std.proofs.lemmas.List.{append-nil}
use Rattle.zk_jute.specs.declared.fault.Reason.TheVariants.{NoMemory}
use Rattle.zk_talk.specs.{declared.message.Side.Side, declared.message.Fault.Fault, Held.Message, History.History, Stands.TalkState, Stands.Stands, Stands.Refuses, Stands.held_on}
use Rattle.zk_talk.specs.declared.message.Side.TheVariants.{Client, Server}
use Rattle.zk_talk.specs.Taking.{GoesOn, Steps, StepsOn, Passes, PassesOn, IsRefused, Fails, dropped, lacks_memory}
use Rattle.zk_talk.proofs.{Headline.refuses_with, Answering.rekept}

pub stands_given : (side : Side) (t : TalkState) (h : History) (M : List Message) → Stands t h M → Stands (dropped side t) h M
stands_given Client t h M st = rekept t [] t.server_kept h M st st.newest
stands_given Server t h M st = rekept t t.client_kept [] h M st (λ kept. absurd (kept refl))

pub given_twice : (side : Side) (t : TalkState) → dropped side (dropped side t) ≡ dropped side t
given_twice Client t = refl
given_twice Server t = refl

same_want : (side : Side) (t : TalkState) → lacks_memory (dropped side t) side ≡ lacks_memory t side
same_want Client t = refl
same_want Server t = refl

pub fault_stays : (side : Side) (t : TalkState) → t.fault ≡ (dropped side t).fault
fault_stays Client t = refl
fault_stays Server t = refl

module _ (side : Side) (t new : TalkState) where
  -- what was done after the frame was given up is so of the talk before
  pub goes_first : (used : List ℕ) (messages : List Message) → GoesOn (dropped side t) side used messages new → GoesOn t side used messages new
  goes_first used messages goes h M st = goes h M (stands_given side t h M st)

  pub steps_first : (used : List ℕ) (whole : Bool) → Steps (dropped side t) side used whole new → Steps t side used whole new
  steps_first used true s = (s.0, goes_first used (s.0 ∷ []) s.1, s.2, s.3)
  steps_first used false s = (goes_first used [] s.0, s.1)

  pub passes_first : (used : List ℕ) (whole : Bool) → Passes (dropped side t) side used whole new → Passes t side used whole new
  passes_first used true s = (s.0, goes_first used (s.0 ∷ []) s.1, s.2)
  passes_first used false s = goes_first used [] s

  pub refused_first : (piece : List ℕ) (fault : Fault) → IsRefused (dropped side t) side piece fault new → IsRefused t side piece fault new
  refused_first piece fault r h M st = r h M (stands_given side t h M st)

  pub fails_first : (piece : List ℕ) (fault : Fault) → Fails (dropped side t) side piece fault new → Fails t side piece fault new
  fails_first piece fault (inl k) = inl (record {
    told = k.told ∙ same_want side t;
    same = k.same ∙ given_twice side t;
    used = k.used;
    part = k.part;
    message = k.message;
    after = k.after;
    goes = λ h M st. k.goes h M (stands_given side t h M st);
  })
  fails_first piece fault (inr r) = inr (refused_first piece fault r)

held_given : (side other : Side) (t : TalkState) → held_on other (dropped side t) ≡ held_on other t
held_given Client Client t = refl
held_given Client Server t = refl
held_given Server Client t = refl
held_given Server Server t = refl

pub refuses_given : (side : Side) (t : TalkState) (h : History) (M : List Message) (f : Fault) → Refuses t h M f → Refuses (dropped side t) h M f
refuses_given Client t h M f r = subst (λ z. Refuses (dropped Client t) z M f) (append-nil h) (refuses_with t [] t.server_kept h [] M f r r.newest)
refuses_given Server t h M f r = subst (λ z. Refuses (dropped Server t) z M f) (append-nil h) (refuses_with t t.client_kept [] h [] M f r (λ kept. absurd (kept refl)))

-- what was done after the frame was given up, by what the talk was then
module _ (side : Side) (t given new : TalkState) (same : given ≡ dropped side t) (piece : List ℕ) where
  pub steps_then : (used : ℕ) (whole : Bool) → StepsOn given side piece used whole new → StepsOn t side piece used whole new
  steps_then used whole x = (x.0, x.1, steps_first side t new (take used piece) whole (subst (λ z. Steps z side (take used piece) whole new) same x.2))

  pub passes_then : (used : ℕ) (whole : Bool) → PassesOn given side piece used whole new → PassesOn t side piece used whole new
  passes_then used whole x = (x.0, x.1, passes_first side t new (take used piece) whole (subst (λ z. Passes z side (take used piece) whole new) same x.2))

  pub refused_then : (f : Fault) → (f.reason ≢ NoMemory) × IsRefused given side piece f new → (f.reason ≢ NoMemory) × IsRefused t side piece f new
  refused_then f x = (x.0, refused_first side t new piece f (subst (λ z. IsRefused z side piece f new) same x.1))

-- what a step did, whose frame is given up then
module _ (side : Side) (t new : TalkState) where
  pub passes_after : (used : List ℕ) (whole : Bool) → Steps t side used whole new → Passes t side used whole (dropped side new)
  passes_after used true s = (s.0, (λ h M st. stands_given side new _ _ (s.1 h M st)), held_given side side new ∙ s.3)
  passes_after used false s = λ h M st. stands_given side new _ _ (s.0 h M st)

  pub refused_after : (piece : List ℕ) (fault : Fault) → IsRefused t side piece fault new → IsRefused t side piece fault (dropped side new)
  refused_after piece fault r h M st = refuses_given side new _ M fault (r h M st)

pub no_fault : (f : Fault) → None ≡ Some f → ⊥
no_fault f e = cc

-- a fault is never want of memory where none was
pub known_fault : (t : TalkState) (f : Fault) (side : Side) → t.fault ≡ Some f → (new : TalkState) (piece : List ℕ) → IsRefused t side piece f new
known_fault t f side e new piece h M st = absurd (no_fault f (sym st.no_fault ∙ e))

pub same_fault : (f g : Fault) → Some f ≡ Some g → f ≡ g
same_fault f g e = cc
