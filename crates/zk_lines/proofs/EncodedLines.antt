-- A line that is read into bytes is that of one message, whose payload they are.
use Rattle.std.proofs.Common.{◌≡◌, ℕ, ℤ, List, [], ◌++◌, Option, Some, None, Bool, true, false, refl, sym, ap, subst, ◌∙◌, bytes_eq}
use Rattle.std.specs.Prelude.{codes}
use Rattle.zk_jute.specs.Item.{Item, bytes_of}
use Rattle.zk_records.specs.{Held.ConnectRequest, Held.ConnectResponse, Held.WatcherEvent, declared.op.Op.Op}
use Rattle.zk_asks.specs.Held.{Ask}
use Rattle.zk_asks.specs.declared.frame.ClientFrameOf.TheVariants as client
use Rattle.zk_asks.specs.Frames as asked
use Rattle.zk_answers.specs.{Held.Outcome, Frames.IsOutcome, Frames.op_of_reply, Frames.reply_items}
use Rattle.zk_answers.specs.declared.frame.OutcomeOf.TheVariants as outcome
use Rattle.zk_answers.specs.declared.frame.ServerFrameOf.TheVariants as server
use Rattle.zk_answers.specs.Frames as answered
use Rattle.zk_items.specs.Form.{Read, ◌>>=◌, read_map, word_at}
use Rattle.zk_items.specs.{Codes.is_zero, Encoded.Encoded}
use Rattle.zk_talk.specs.{Held.Message, declared.message.Kind.Kind, Payloads.client_payload, Payloads.server_payload, Said.payload_of, Written.IsTrueFailure, Written.IsWritten, Written.items_of, Written.kind_of}
use Rattle.zk_talk.specs.declared.message.Kind.TheVariants as kinds
use Rattle.zk_talk.specs.declared.message.MessageOf.TheVariants as message
use Rattle.zk_lines.specs.Asks as asks
use Rattle.zk_lines.specs.Answers as answers
use Rattle.zk_lines.specs.{Encoded.EncodedMessage, Encoded.IsEncoded, Series.if_passed}
use Rattle.zk_lines.specs.Lines.{line, letters, client_at, server_at, message_at, Fits, whole, said}
use Rattle.zk_lines.proofs.Lines.{asked_at, answered_at, message_found}

-- ---- a frame that is read, and its kind

abbrev pub EncodedClient : Kind → List ℕ → List ℕ → List ℕ → List ℕ → Type 0
EncodedClient kind line rest old new = (c : Encoded client_at asked.frame_items line rest old new) × (kind_of (message.Client c.value) ≡ kind)

abbrev pub EncodedServer : Kind → List ℕ → List ℕ → List ℕ → List ℕ → Type 0
EncodedServer kind line rest old new = (c : Encoded server_at answered.frame_items line rest old new) × (kind_of (message.Server c.value) ≡ kind)

-- a frame is made of what was read
abbrev framed : {X F : Type 0} {at : List ℕ → Read X} {frame_at : List ℕ → Read F} {line mid rest old new : List ℕ} (items : F → List Item) (make : X → F) → frame_at line ≡ read_map make (at mid)
    → Encoded at (λ x. items (make x)) mid rest old new → Encoded frame_at items line rest old new
framed items make is c = record { value = make c.value; read = is ∙ ap (read_map make) c.read; have = c.have; appended = c.appended }

pub connect_encoded : (line mid rest old new : List ℕ) → bytes_eq (letters line) (codes "connect") ≡ true → word_at (codes "connect") line ≡ Some mid
    → Encoded asks.connect.at (λ p. asked.frame_items (client.Connect p.0 p.1)) mid rest old new → EncodedClient kinds.Connect line rest old new
connect_encoded line mid rest old new is word c =
    let make = λ (p : ConnectRequest × Option Bool). client.Connect p.0 p.1 in
    (framed asked.frame_items make (ap (λ (t : Bool). asked_at t line) is ∙ ap (λ (o : Option (List ℕ)). read_map make (o >>= asks.connect.at)) word) c, refl)

pub ask_encoded : (line rest old new : List ℕ) → bytes_eq (letters line) (codes "connect") ≡ false
    → Encoded asks.request.at (λ p. asked.frame_items (client.Ask p.0 p.1)) line rest old new → EncodedClient kinds.Ask line rest old new
ask_encoded line rest old new other c = (framed asked.frame_items (λ (p : ℤ × Ask). client.Ask p.0 p.1) (ap (λ (t : Bool). asked_at t line) other) c, refl)

module _ (line : List ℕ) (first second : Bool) (is : bytes_eq (letters line) (codes "connect") ≡ first) where
  by_first : server_at line ≡ answered_at first (bytes_eq (letters line) (codes "event")) line
  by_first = ap (λ (t : Bool). answered_at t (bytes_eq (letters line) (codes "event")) line) is

  by_both : bytes_eq (letters line) (codes "event") ≡ second → server_at line ≡ answered_at first second line
  by_both also = by_first ∙ ap (λ (t : Bool). answered_at first t line) also

pub connected_encoded : (line mid rest old new : List ℕ) → bytes_eq (letters line) (codes "connect") ≡ true → word_at (codes "connect") line ≡ Some mid
    → Encoded answers.connected.at (λ p. answered.frame_items (server.Connected p.0 p.1)) mid rest old new → EncodedServer kinds.Connected line rest old new
connected_encoded line mid rest old new is word c =
    let make = λ (p : ConnectResponse × Option Bool). server.Connected p.0 p.1 in
    (framed answered.frame_items make (by_first line true true is ∙ ap (λ (o : Option (List ℕ)). read_map make (o >>= answers.connected.at)) word) c, refl)

pub event_encoded : (line mid rest old new : List ℕ) → bytes_eq (letters line) (codes "connect") ≡ false → bytes_eq (letters line) (codes "event") ≡ true → word_at (codes "event") line ≡ Some mid
    → Encoded answers.event.at (λ p. answered.frame_items (server.Event p.0 p.1)) mid rest old new → EncodedServer kinds.Event line rest old new
event_encoded line mid rest old new other is word c =
    let make = λ (p : ℤ × WatcherEvent). server.Event p.0 p.1 in
    (framed answered.frame_items make (by_both line false true other is ∙ ap (λ (o : Option (List ℕ)). read_map make (o >>= answers.event.at)) word) c, refl)

pub reply_encoded : (line rest old new : List ℕ) (op : Op) → bytes_eq (letters line) (codes "connect") ≡ false → bytes_eq (letters line) (codes "event") ≡ false
    → (c : Encoded answers.reply.at reply_items line rest old new) × (op_of_reply c.value ≡ op) → EncodedServer (kinds.Answered op) line rest old new
reply_encoded line rest old new op other third k = (framed answered.frame_items server.Answered (by_both line false false other third) k.0, ap kinds.Answered k.1)

-- ---- the whole line

pub frame_whole : {F : Type 0} {at : List ℕ → Read F} {line rest old new : List ℕ} {kind : Kind} (side : F → Message) (c : Encoded at (λ f. items_of (side f)) line rest old new) → kind_of (side c.value) ≡ kind → rest ≡ []
    → EncodedMessage (said side (whole (at line))) kind old new
frame_whole {F} side c kind_is done = record {
  message = side c.value;
  is = ap (λ (r : Read F). said side (whole r)) (c.read ∙ ap (λ (r : List ℕ). Some (c.value, r)) done);
  kind_is = kind_is;
  have = c.have;
  appended = c.appended;
}

-- by the side that comes first
abbrev by_side : Option (List ℕ) → List ℕ → Option Message
by_side o line = if_passed o (λ rest. said message.Client (whole (client_at rest))) (word_at (codes "S ") line >>= λ rest. said message.Server (whole (server_at rest)))

pub of_client : (line rest : List ℕ) → word_at (codes "C ") line ≡ Some rest → message_at line ≡ said message.Client (whole (client_at rest))
of_client line rest word = ap (λ (o : Option (List ℕ)). by_side o line) word

pub of_server : (line rest : List ℕ) → word_at (codes "C ") line ≡ None → word_at (codes "S ") line ≡ Some rest → message_at line ≡ said message.Server (whole (server_at rest))
of_server line rest other word = ap (λ (o : Option (List ℕ)). by_side o line) other ∙ ap (λ (o : Option (List ℕ)). o >>= λ rest. said message.Server (whole (server_at rest))) word

-- ---- the message

true_outcome : (o : Outcome) → answers.outcome_fits o → IsOutcome o
true_outcome (outcome.Done b) fit = tt
true_outcome (outcome.Failed op e) fit = λ zero. let k : ◌≡◌ {A = Bool} true false = sym (ap is_zero zero) ∙ fit.1 in cc

true_failure : (m : Message) → Fits m → IsTrueFailure m
true_failure (message.Client f) fit = tt
true_failure (message.Server (server.Connected hello read_only)) fit = tt
true_failure (message.Server (server.Answered r)) fit = true_outcome r.outcome fit.1.1
true_failure (message.Server (server.Event zxid e)) fit = tt

payload_is : (m : Message) → payload_of m ≡ bytes_of (items_of m)
unfolding client_payload server_payload
payload_is (message.Client f) = refl
payload_is (message.Server s) = refl

pub line_encoded : (bytes old new : List ℕ) (kind : Kind) → EncodedMessage (message_at bytes) kind old new → IsEncoded kind bytes old new
line_encoded bytes old new kind c =
    let m = c.message in
    let found = message_found bytes m c.is in
    (bytes_of (items_of m), m, c.appended, found.0, found.1, record { kind_is = c.kind_is; failure = true_failure m found.1; have = c.have; is = payload_is m })

-- the message whose payload was appended to nothing has the line
pub viewed : (bytes old new p : List ℕ) (kind : Kind) → old ≡ [] → p ≡ new → IsEncoded kind bytes old new → (m : Message) × IsWritten kind p m × ((bytes ≡ line m) × Fits m)
viewed bytes old new p kind none is c =
    let same : c.0 ≡ p = sym (is ∙ c.2 ∙ ap (λ (o : List ℕ). o ++ c.0) none) in
    (c.1, subst (λ (l : List ℕ). IsWritten kind l c.1) same c.5, (c.3, c.4))
