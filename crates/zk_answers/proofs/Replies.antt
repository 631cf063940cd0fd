-- Replies: given the request, a fault is unique and excludes each frame, and frames tell their payloads apart.
use Rattle.std.proofs.Common.{◌≡◌, ℕ, zero, suc, ◌+◌, inl, inr, List, refl, sym, ap, subst, ◌∙◌, arith}
use Rattle.std.specs.Prelude.{◌≢◌, ℤ, pos, negsuc}
use Rattle.zk_jute.specs.{declared.fault.Reason.Reason, Item.bytes_of, Item.HaveBytes, Layout.End}
use Rattle.zk_jute.proofs.{Layouts.have_parts, Sequels.Same}
use Rattle.zk_records.specs.{declared.header.ReplyHeader.ReplyHeader, declared.op.Op.Op, declared.op.PartOp.PartOp, Records.reply_header}
use Rattle.zk_answers.specs.{Held.Outcome, Held.Reply, Held.ServerFrame, Rows.body_items}
use Rattle.zk_answers.specs.declared.frame.OutcomeOf.TheVariants as outcome
use Rattle.zk_answers.specs.declared.frame.ServerFrameOf.TheVariants as frame
use Rattle.zk_answers.specs.Frames.{err_of, header_of, op_of_outcome, rest_items, IsOutcome, IsReplyOf, IsSent, IsReplyTo, OutcomeFits, payload}
use Rattle.zk_answers.specs.Faults.{Shape, Fields, IsOfShape, IsHead, IsRestFault, rest_shape, IsReplyFault, in_head, in_rest, body_shape}
use Rattle.zk_answers.proofs.{Heads.Headed, Heads.headed_unique, Heads.headed_excludes, Heads.head_unique, Heads.stands_head, Rests.rest_unique, Rests.rest_excludes, Bodies.body_is, Bodies.body_same}

abbrev pub Judged : Op → List PartOp → ReplyHeader → List ℕ → ℕ → Reason → Type 0
Judged op parts header rest p r = (behind : ℕ) × (p ≡ 16 + behind) × IsRestFault (rest_shape op parts header.err) rest behind r

pub headed : {op : Op} {parts : List PartOp} {bytes : List ℕ} {p : ℕ} {r : Reason} → IsReplyFault op parts bytes p r → Headed (Judged op parts) bytes p r
headed (in_head bytes place reason f) = inl f
headed (in_rest bytes rest header behind reason h f) = inr (header, rest, h, (behind, refl, f))

pub reply_unique : (op : Op) (parts : List PartOp) (bytes : List ℕ) (p q : ℕ) (r s : Reason) → IsReplyFault op parts bytes p r → IsReplyFault op parts bytes q s → Same p r q s
reply_unique op parts bytes p q r s f g =
    headed_unique (Judged op parts)
    (λ header rest p q r s a b.
    let same = rest_unique (rest_shape op parts header.err) rest a.0 b.0 r s a.2 b.2 in
    let number : p ≡ q = let x = a.1 in let y = b.1 in let z = same.0 in omega arith in
    (number, same.1))
    bytes p q r s (headed f) (headed g)

-- ---- what follows the header

pub failed_shape : (op : Op) (parts : List PartOp) (err : ℤ) → err ≢ pos 0 → rest_shape op parts err ≡ Fields End
failed_shape op parts (pos zero) not = absurd (not refl)
failed_shape op parts (pos (suc n)) not = refl
failed_shape op parts (negsuc n) not = refl

pub rest_is : (op : Op) (parts : List PartOp) (o : Outcome) → OutcomeFits op parts o → IsOutcome o → HaveBytes (rest_items o) → IsOfShape (rest_shape op parts (err_of o)) (rest_items o)
rest_is op parts (outcome.Done b) fits is have = subst (λ (op : Op). IsOfShape (body_shape op parts) (body_items b)) fits.0 (body_is b parts fits.1 have)
rest_is op parts (outcome.Failed o e) fits is have = subst (λ (s : Shape). IsOfShape s (rest_items (outcome.Failed o e))) (sym (failed_shape op parts e is)) (refl, tt)

pub reply_excludes : (op : Op) (parts : List PartOp) (s : ServerFrame) (p : ℕ) (r : Reason) → IsReplyTo op parts s → IsSent s → IsReplyFault op parts (payload s) p r → ⊥
reply_excludes op parts (frame.Answered a) p r fits sent f =
    headed_excludes (Judged op parts) (header_of a) (rest_items a.outcome) p r sent.2
    (λ j. rest_excludes (rest_shape op parts (err_of a.outcome)) (rest_items a.outcome) j.0 r (rest_is op parts a.outcome fits sent.1 (have_parts (reply_header.items (header_of a)) (rest_items a.outcome) sent.2).1) j.2)
    (headed f)
reply_excludes op parts (frame.Connected hello flag) p r fits sent f = absurd fits
reply_excludes op parts (frame.Event zxid event) p r fits sent f = absurd fits

-- the header that a reply's payload begins with
pub reply_heads : (r : Reply) → IsSent (frame.Answered r) → IsHead (payload (frame.Answered r)) (header_of r) (bytes_of (rest_items r.outcome))
reply_heads r sent = stands_head (header_of r) (rest_items r.outcome) sent.2

outcome_same : (op : Op) (parts : List PartOp) (o n : Outcome) → OutcomeFits op parts o → OutcomeFits op parts n → IsOutcome o → IsOutcome n → HaveBytes (rest_items o) → HaveBytes (rest_items n) → err_of o ≡ err_of n → bytes_of (rest_items o) ≡ bytes_of (rest_items n) → o ≡ n
outcome_same op parts (outcome.Done b) (outcome.Done c) f g i j h k e s = ap outcome.Done (body_same parts b c (f.0 ∙ sym g.0) f.1 g.1 h k s)
outcome_same op parts (outcome.Done b) (outcome.Failed o n) f g i j h k e s = absurd (j (sym e))
outcome_same op parts (outcome.Failed o n) (outcome.Done b) f g i j h k e s = absurd (i e)
outcome_same op parts (outcome.Failed o n) (outcome.Failed p m) f g i j h k e s = ap (λ (z : Op). outcome.Failed z n) (f ∙ sym g) ∙ ap (λ (z : ℤ). outcome.Failed p z) e

pub reply_same : (a b : Reply) → a.xid ≡ b.xid → a.zxid ≡ b.zxid → a.outcome ≡ b.outcome → a ≡ b
reply_same a b x z o = ap (λ (v : ℤ). record { xid = v; zxid = a.zxid; outcome = a.outcome }) x ∙ ap (λ (v : ℤ). record { xid = b.xid; zxid = v; outcome = a.outcome }) z ∙ ap (λ (v : Outcome). record { xid = b.xid; zxid = b.zxid; outcome = v }) o

pub reply_injective : (op : Op) (parts : List PartOp) (s t : ServerFrame) → IsReplyTo op parts s → IsReplyTo op parts t → IsSent s → IsSent t → payload s ≡ payload t → s ≡ t
reply_injective op parts (frame.Answered a) (frame.Answered b) f g u v e =
    let k = reply_heads b v in
    let heads = head_unique (payload (frame.Answered a)) (header_of a) (header_of b) (bytes_of (rest_items a.outcome)) (bytes_of (rest_items b.outcome)) (reply_heads a u) (k.0, e ∙ k.1) in
    let x = (have_parts (reply_header.items (header_of a)) (rest_items a.outcome) u.2).1 in
    let y = (have_parts (reply_header.items (header_of b)) (rest_items b.outcome) v.2).1 in
    let same = outcome_same op parts a.outcome b.outcome f g u.1 v.1 x y (ap (λ (h : ReplyHeader). h.err) heads.0) heads.1 in
    ap frame.Answered (reply_same a b (ap (λ (h : ReplyHeader). h.xid) heads.0) (ap (λ (h : ReplyHeader). h.zxid) heads.0) same)
reply_injective op parts (frame.Answered a) (frame.Connected hello flag) f g u v e = absurd g
reply_injective op parts (frame.Answered a) (frame.Event zxid event) f g u v e = absurd g
reply_injective op parts (frame.Connected hello flag) t f g u v e = absurd f
reply_injective op parts (frame.Event zxid event) t f g u v e = absurd f

-- a reply to the request is one of its operation
pub reply_of : (op : Op) (parts : List PartOp) (s : ServerFrame) → IsReplyTo op parts s → IsReplyOf op s
reply_of op parts (frame.Answered r) fits = of_outcome r.outcome fits where
  of_outcome : (o : Outcome) → OutcomeFits op parts o → op_of_outcome o ≡ op
  of_outcome (outcome.Done b) fits = fits.0
  of_outcome (outcome.Failed o e) fits = fits
reply_of op parts (frame.Connected hello flag) fits = absurd fits
reply_of op parts (frame.Event zxid event) fits = absurd fits
