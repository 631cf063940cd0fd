-- The first payload: its fault is unique and excludes each frame, and frames tell their payloads apart.
use Rattle.std.proofs.Common.{◌≡◌, ℕ, List, Option, Bool, inl, inr, refl, sym, ap, subst, ◌∙◌}
use Rattle.std.specs.Prelude.{Result, Ok, Err, IfOk, IfErr}
use Rattle.zk_jute.specs.{declared.fault.ItemFault.ItemFault, declared.fault.Reason.Reason, Flagged.flag_items, Told.IsTold, Told.IsReadAs, Item.Item, Item.bytes_of}
use Rattle.zk_jute.proofs.{Layouts.have_parts, Flagged.flagged_unique, Flagged.flagged_excludes, Flagged.flagged_injective, Sequels.Same}
use Rattle.zk_records.specs.{Records.connect_request, Held.ConnectRequest}
use Rattle.zk_asks.specs.{Held.ClientFrame, Faults.IsFirstFault, Forms.IsHello, Frames.frame_items, Frames.IsSent, Frames.IsFirst, Frames.payload}
use Rattle.zk_asks.specs.declared.frame.ClientFrameOf.TheVariants as frame

pub first_unique : (bytes : List ℕ) (p q : ℕ) (r s : Reason) → IsFirstFault bytes p r → IsFirstFault bytes q s → Same p r q s
first_unique bytes p q r s f g = flagged_unique connect_request.layout bytes p q r s f g

pub hello_not : (items : List Item) (p : ℕ) (r : Reason) → IsHello items → IsFirstFault (bytes_of items) p r → ⊥
hello_not items p r h fault = flagged_excludes connect_request.layout h.0 h.1 p r h.2 (subst (λ (i : List Item). IsFirstFault (bytes_of i) p r) h.3 fault)

-- a connect request's items are of the form
pub is_hello : (f : ClientFrame) → IsFirst f → IsSent f → IsHello (frame_items f)
is_hello (frame.Connect hello flag) first sent =
    let h = have_parts (connect_request.items hello) (flag_items flag) sent.1 in
    (connect_request.items hello, flag, (connect_request.unfolds hello, h.0), refl)
is_hello (frame.Ask xid a) first sent = absurd first

pub first_excludes : (f : ClientFrame) (p : ℕ) (r : Reason) → IsFirst f → IsSent f → IsFirstFault (payload f) p r → ⊥
first_excludes f p r first sent fault = hello_not (frame_items f) p r (is_hello f first sent) fault

pub first_injective : (f g : ClientFrame) → IsFirst f → IsFirst g → IsSent f → IsSent g → payload f ≡ payload g → f ≡ g
first_injective (frame.Connect hello flag) (frame.Connect other bit) _ _ s t e =
    let a = connect_request.items hello in
    let b = connect_request.items other in
    let h = have_parts a (flag_items flag) s.1 in
    let k = have_parts b (flag_items bit) t.1 in
    let same = flagged_injective connect_request.layout a b flag bit (connect_request.unfolds hello, h.0) (connect_request.unfolds other, k.0) e in
    ap (λ (x : ConnectRequest). frame.Connect x flag) (connect_request.tells_apart hello other same.0) ∙ ap (λ (x : Option Bool). frame.Connect other x) same.1
first_injective (frame.Connect hello flag) (frame.Ask xid a) _ g s t e = absurd g
first_injective (frame.Ask xid a) g f _ s t e = absurd f

-- what is sent is read
pub first_only : (src : List ℕ) (answer : Result ClientFrame ItemFault) → IfOk answer (λ f. IsFirst f × IsSent f × (src ≡ payload f)) → IfErr answer (λ e. IsTold (IsFirstFault src) e)
    → (f : ClientFrame) → IsFirst f → IsSent f → src ≡ payload f → IsReadAs f answer
unfolding IsTold
first_only src (Ok g) found fault f first sent e = first_injective g f found.0 first found.1 sent (sym found.2 ∙ e)
first_only src (Err x) found fault f first sent e = elim fault [ inl m ↦ m | inr k ↦ absurd (first_excludes f k.0 x.reason first sent (subst (λ (b : List ℕ). IsFirstFault b k.0 x.reason) e k.1)) ]
