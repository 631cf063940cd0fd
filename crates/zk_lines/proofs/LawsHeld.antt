-- What may be said can be held: items that have bytes are those of values that fit.
use Rattle.std.proofs.Common.{◌≡◌, List, [], ◌∷◌, false, refl, ap, ne_eqb, FitsSigned, w32}
use Rattle.std.specs.Prelude.{ℤ, pos, negsuc, ◌≢◌}
use Rattle.zk_jute.specs.Item.{HaveBytes}
use Rattle.zk_records.specs.declared.profile.Profile.{Profile}
use Rattle.zk_asks.specs.Held.{ClientFrame}
use Rattle.zk_asks.specs.declared.frame.ClientFrameOf.TheVariants as client
use Rattle.zk_asks.specs.Frames as sent
use Rattle.zk_answers.specs.Held.{Outcome, ServerFrame}
use Rattle.zk_answers.specs.declared.frame.OutcomeOf.TheVariants as outcome
use Rattle.zk_answers.specs.declared.frame.ServerFrameOf.TheVariants as server
use Rattle.zk_answers.specs.Frames as given
use Rattle.zk_items.specs.Codes.{is_zero}
use Rattle.zk_talk.specs.{Held.Message, declared.limits.Limits.Limits, Conversation.ClientMay, Conversation.ServerMay, Said.MaySay, Said.conversation_of}
use Rattle.zk_talk.specs.declared.message.MessageOf.TheVariants as message
use Rattle.zk_lines.specs.Answers as answers
use Rattle.zk_lines.specs.Lines.{ClientFits, ServerFits, Fits}
use Rattle.zk_lines.proofs.{Held.int_fits, Held.long_fits, Asks.connect_is, Asks.ask_held, Answers.connected_is, Answers.event_is, Answers.body_held}

-- ---- what a client sends

pub client_held : (f : ClientFrame) → HaveBytes (sent.frame_items f) → ClientFits f
client_held (client.Connect hello flag) h = connect_is.held (hello, flag) h
client_held (client.Ask xid a) h = (int_fits xid h.0, ask_held a h.1.1)

-- ---- what a server sends

not_zero : (e : ℤ) → e ≢ pos 0 → is_zero e ≡ false
not_zero (pos n) h = ne_eqb n 0 (λ k. h (ap pos k))
not_zero (negsuc n) h = refl

outcome_held : (o : Outcome) → given.IsOutcome o → FitsSigned w32 (given.err_of o) → HaveBytes (given.rest_items o) → answers.outcome_fits o
outcome_held (outcome.Done b) is small h = body_held b h
outcome_held (outcome.Failed op e) is small h = (int_fits e small, not_zero e is)

pub server_held : (s : ServerFrame) → given.IsTrueFailure s → HaveBytes (given.frame_items s) → ServerFits s
server_held (server.Connected hello flag) is h = connected_is.held (hello, flag) h
server_held (server.Answered r) is h = (int_fits r.xid h.0, (long_fits r.zxid h.1.0, outcome_held r.outcome is h.1.1.0 h.1.1.1))
server_held (server.Event zxid e) is h = event_is.held (zxid, e) (h.1.0, h.1.1.1)

-- ---- what may be said

client_sent : (profile : Profile) (fs : List ClientFrame) (f : ClientFrame) → ClientMay profile fs f → sent.IsSent f
client_sent profile [] f h = h.1
client_sent profile (x ∷ fs) f h = h.1

server_sent : (asked : List ClientFrame) (fs : List ServerFrame) (s : ServerFrame) → ServerMay asked fs s → given.IsSent s
server_sent asked [] (server.Connected hello flag) h = h.0
server_sent asked [] (server.Answered r) h = absurd h
server_sent asked [] (server.Event zxid e) h = absurd h
server_sent asked (x ∷ fs) (server.Connected hello flag) h = absurd h
server_sent asked (x ∷ fs) (server.Answered r) h = h.0
server_sent asked (x ∷ fs) (server.Event zxid e) h = h

pub said_held : (limits : Limits) (before : List Message) (m : Message) → MaySay limits before m → Fits m
said_held limits before (message.Client f) h = client_held f (client_sent limits.profile (conversation_of before).client f h.0).1
said_held limits before (message.Server s) h =
    let is = server_sent (conversation_of before).client (conversation_of before).server s h.0 in
    server_held s is.1 is.2
