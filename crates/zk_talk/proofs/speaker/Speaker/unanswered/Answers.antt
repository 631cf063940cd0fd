use Rattle.std.proofs.Common.{◌≡◌, ◌+◌, ℕ, true, false, cond, sym, subst, arith, Bool}
use Rattle.zk_talk.specs.Said.{SpeakerState, Says}
use Rattle.zk_talk.proofs.Speaking.{unanswered_is}
use Rattle.zk_talk.proofs.speaker.Speaker.unanswered.Goals.{else-self-via-then-self+else-not-self, else-self-via-else-self}
use Rattle.zk_talk.proofs.speaker.Speaker.unanswered.Goals as goal

unspoken : (asked welcomed : Bool) (m n : ℕ) → asked ≡ true → welcomed ≡ false → m ≡ cond {A = ℕ} asked (cond {A = ℕ} welcomed 0 1) 0 + n → n + 1 ≡ m
unspoken true false m n a b e = omega (arith, e)
unspoken true true m n a b e = absurd (cc)
unspoken false w m n a b e = absurd (cc)

both_spoke : (asked welcomed : Bool) (m n : ℕ) → asked ≡ true → welcomed ≡ true → m ≡ cond {A = ℕ} asked (cond {A = ℕ} welcomed 0 1) 0 + n → n ≡ m
both_spoke true true m n a b e = omega (arith, e)
both_spoke true false m n a b e = absurd (cc)
both_spoke false w m n a b e = absurd (cc)

none_spoke : (asked welcomed : Bool) (m n : ℕ) → asked ≡ false → m ≡ cond {A = ℕ} asked (cond {A = ℕ} welcomed 0 1) 0 + n → n ≡ m
none_spoke false w m n a e = omega (arith, e)
none_spoke true w m n a e = absurd (cc)

pub returns-then-not-self : goal.returns-then-not-self
returns-then-not-self c = λ before says.
    let x = c.self.inside in
    let says' = subst (λ (z : SpeakerState). Says z before) (sym c.self.view_is) says in
    let fresh : x.welcomed ≡ false = cc in
    unspoken x.asked x.welcomed _ _ c.if-self.true fresh (unanswered_is _ c.count-waiting.result c.count-waiting.ensures.value before says')

pub returns-else-self : goal.returns-else-self
returns-else-self c = λ before says.
    let x = c.self.inside in
    let says' = subst (λ (z : SpeakerState). Says z before) (sym c.self.view_is) says in
    let e = unanswered_is _ c.count-waiting.result c.count-waiting.ensures.value before says' in
    elim c.else-self.branch [
      | else-self-via-then-self+else-not-self w ↦ let spoke : x.welcomed ≡ true = cc in both_spoke x.asked x.welcomed _ _ w.if-self.true spoke e
      | else-self-via-else-self w ↦ none_spoke x.asked x.welcomed _ _ w.if-self.false e
    ]
