-- The line behind a last line.
use Rattle.std.proofs.Common.{◌≡◌, ℕ, List, Option, None, Some, Bor, refl, sym, subst}
use Rattle.zk_answers.specs.declared.layout.Layout.{Layout}
use Rattle.zk_talk.specs.{declared.limits.Limits.Limits, declared.message.Ending.TheVariants.Refused, declared.message.Fault.Fault, Held.Message, History.History, Stands.TalkState}
use Rattle.zk_listings.specs.{declared.summary.Summary.Summary, declared.summary.Summary.TheVariants.Ended, declared.listing.Listing.Listing, Following.HasRefused, Following.IsKept, Running.HasFoundBy}
use Rattle.zk_listings.specs.Earliest.{IsTail, IsTailOf, IsFoundWith, IsToldOf, TellsBody, in_body, in_none}
use Rattle.zk_recordings.specs.Recording.{history_of, limits_of}

tail-of : (limits : Limits) (h : History) (f : Fault) (body : Option (Layout × Bor (List ℕ))) (b : TellsBody limits h f body) (tail : List ℕ) → IsToldOf (Ended (Refused f)) body tail → IsTailOf limits h f b.0 tail
tail-of limits h f None b tail is = subst (IsTailOf limits h f b.0) (sym is) (in_none b.1)
tail-of limits h f (Some body) b tail is = subst (IsTailOf limits h f b.0) (sym is.2) (in_body body.0 body.1.now b.1 is.0 is.1)

told-tail : (limits : Limits) (h : History) (summary : Summary) (body : Option (Layout × Bor (List ℕ))) (tail : List ℕ) → ((f : Fault) → summary ≡ Ended (Refused f) → TellsBody limits h f body) →
    IsToldOf summary body tail → IsTail limits h summary tail
told-tail limits h (Ended (Refused f)) body tail told is = let b = told f refl in (b.0, tail-of limits h f body b tail is)
told-tail limits h _ None tail told is = is
told-tail limits h _ (Some body) tail told is = is

-- it is that of the body that the talk tells
pub found-with : (talk : Option TalkState) (body : Option (Layout × Bor (List ℕ))) →
    ((limits : Limits) (h : History) (messages : List Message) (f : Fault) → HasRefused limits talk h messages f → TellsBody limits h f body) →
    (limits : Limits) (listing : Listing) (unread unread_now contents contents_now : Option (List ℕ)) (summary : Summary) (tail : List ℕ) →
    HasFoundBy limits listing unread unread_now contents contents_now talk summary → IsToldOf summary body tail → IsFoundWith limits unread unread_now summary tail
found-with talk body told limits listing unread unread_now contents contents_now summary tail f is =
    let r = f.found.recording in
    let l = limits_of limits r in
    let h = history_of r in
    let messages = f.messages in
    record { messages = messages; found = f.found; is = told-tail l h summary body tail (λ fault e. told l h messages fault (subst (IsKept l talk h messages) e f.kept)) is }
