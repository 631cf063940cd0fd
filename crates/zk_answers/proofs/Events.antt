-- Events: a fault is unique and excludes each frame, and frames tell their payloads apart.
use Rattle.std.proofs.Common.{◌≡◌, ℕ, ◌+◌, ◌⊎◌, inl, inr, List, [], ◌++◌, refl, sym, ap, ◌∙◌, arith}
use Rattle.std.specs.Prelude.{◌≢◌, ℤ, pos}
use Rattle.std.proofs.lemmas.List.{append-nil}
use Rattle.zk_jute.specs.{declared.fault.Reason.Reason, declared.fault.Reason.TheVariants.EventErr, Item.bytes_of, Item.HaveBytes, Layout.IsValueOf}
use Rattle.zk_jute.proofs.{Layouts.bytes_only, Layouts.have_parts, Sequels.Same}
use Rattle.zk_records.specs.{declared.header.ReplyHeader.ReplyHeader, Held.WatcherEvent, Records.reply_header, Records.watcher_event}
use Rattle.zk_answers.specs.{Held.ServerFrame, Frames.event_header, Frames.IsEvent, Frames.IsSent, Frames.payload}
use Rattle.zk_answers.specs.declared.frame.ServerFrameOf.TheVariants as frame
use Rattle.zk_answers.specs.Faults.{Fields, IsHead, IsRestFault, IsEventFault, in_header, bad_err, in_event}
use Rattle.zk_answers.proofs.{Heads.Headed, Heads.headed_unique, Heads.headed_excludes, Heads.head_unique, Heads.stands_head, Rests.rest_unique, Rests.rest_excludes}

abbrev pub Judged : ReplyHeader → List ℕ → ℕ → Reason → Type 0
Judged header rest p r = ((header.err ≢ pos 0) × (p ≡ 12) × (r ≡ EventErr)) ⊎ ((header.err ≡ pos 0) × (behind : ℕ) × (p ≡ 16 + behind) × IsRestFault (Fields watcher_event.layout) rest behind r)

pub headed : {bytes : List ℕ} {p : ℕ} {r : Reason} → IsEventFault bytes p r → Headed Judged bytes p r
headed (in_header bytes place reason f) = inl f
headed (bad_err bytes rest header h not) = inr (header, rest, h, inl (not, refl, refl))
headed (in_event bytes rest header behind reason h is f) = inr (header, rest, h, inr (is, behind, refl, f))

judged_same : (header : ReplyHeader) (rest : List ℕ) (p q : ℕ) (r s : Reason) → Judged header rest p r → Judged header rest q s → Same p r q s
judged_same header rest p q r s f g =
    elim f [
      | inl a ↦ elim g [ inl b ↦ (a.1 ∙ sym b.1, a.2 ∙ sym b.2) | inr b ↦ absurd (a.0 b.0) ]
      | inr a ↦ elim g [
        | inl b ↦ absurd (b.0 a.0)
        | inr b ↦
            let same = rest_unique (Fields watcher_event.layout) rest a.1 b.1 r s a.3 b.3 in
            let number : p ≡ q = let x = a.2 in let y = b.2 in let z = same.0 in omega arith in
            (number, same.1)
      ]
    ]

pub event_unique : (bytes : List ℕ) (p q : ℕ) (r s : Reason) → IsEventFault bytes p r → IsEventFault bytes q s → Same p r q s
event_unique bytes p q r s f g = headed_unique Judged judged_same bytes p q r s (headed f) (headed g)

event_is : (zxid : ℤ) (event : WatcherEvent) → HaveBytes (reply_header.items (event_header zxid) ++ watcher_event.items event) → IsValueOf watcher_event.layout (watcher_event.items event)
event_is zxid event have = (watcher_event.unfolds event, (have_parts (reply_header.items (event_header zxid)) (watcher_event.items event) have).1)

pub event_excludes : (s : ServerFrame) (p : ℕ) (r : Reason) → IsEvent s → IsSent s → IsEventFault (payload s) p r → ⊥
event_excludes (frame.Event zxid event) p r is sent f =
    headed_excludes Judged (event_header zxid) (watcher_event.items event) p r sent.2
    (λ j. elim j [ inl a ↦ a.0 refl | inr a ↦ rest_excludes (Fields watcher_event.layout) (watcher_event.items event) a.1 r (event_is zxid event sent.2) a.3 ])
    (headed f)
event_excludes (frame.Connected hello flag) p r is sent f = absurd is
event_excludes (frame.Answered a) p r is sent f = absurd is

-- the header that an event's payload begins with
pub event_head : (zxid : ℤ) (event : WatcherEvent) → IsSent (frame.Event zxid event) → IsHead (payload (frame.Event zxid event)) (event_header zxid) (bytes_of (watcher_event.items event))
event_head zxid event sent = stands_head (event_header zxid) (watcher_event.items event) sent.2

pub event_injective : (s t : ServerFrame) → IsEvent s → IsEvent t → IsSent s → IsSent t → payload s ≡ payload t → s ≡ t
event_injective (frame.Event zxid event) (frame.Event id other) i j u v e =
    let k = event_head id other v in
    let heads = head_unique (payload (frame.Event zxid event)) (event_header zxid) (event_header id) (bytes_of (watcher_event.items event)) (bytes_of (watcher_event.items other)) (event_head zxid event u) (k.0, e ∙ k.1) in
    let same = bytes_only watcher_event.layout (watcher_event.items event) (watcher_event.items other) [] [] (event_is zxid event u.2) (event_is id other v.2) (append-nil (bytes_of (watcher_event.items event)) ∙ heads.1 ∙ sym (append-nil (bytes_of (watcher_event.items other)))) in
    ap (λ (z : ℤ). frame.Event z event) (ap (λ (h : ReplyHeader). h.zxid) heads.0) ∙ ap (λ (w : WatcherEvent). frame.Event id w) (watcher_event.tells_apart event other same.0)
event_injective (frame.Event zxid event) (frame.Connected hello flag) i j u v e = absurd j
event_injective (frame.Event zxid event) (frame.Answered a) i j u v e = absurd j
event_injective (frame.Connected hello flag) t i j u v e = absurd i
event_injective (frame.Answered a) t i j u v e = absurd i
