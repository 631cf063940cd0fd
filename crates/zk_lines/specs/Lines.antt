-- The line of each message, and which message's line some bytes are.
use Rattle.std.specs.Prelude.{◌≡◌, ℕ, List, [], ◌∷◌, ◌++◌, Option, Some, None, Result, Ok, Err, codes, take, bytes_eq, if◌then◌else◌}
use Rattle.std.specs.List.{prefix_len}
use Rattle.zk_asks.specs.Held.{ClientFrame}
use Rattle.zk_asks.specs.declared.frame.ClientFrameOf.TheVariants as client
use Rattle.zk_answers.specs.Held.{ServerFrame}
use Rattle.zk_answers.specs.declared.frame.ServerFrameOf.TheVariants as server
use Rattle.zk_items.specs.Form.{Read, ◌>>=◌, read_map, led, word_at}
use Rattle.zk_items.specs.{Leaf.in_word, declared.fault.LineFault.LineFault, declared.fault.LineReason.TheVariants.NoMemory}
use Rattle.zk_talk.specs.Held.{Message}
use Rattle.zk_talk.specs.declared.message.MessageOf.TheVariants as message
use Rattle.zk_lines.specs.{Asks.connect, Asks.request, Answers.connected, Answers.event, Answers.reply, Series.if_passed}

-- ---- lines

abbrev pub client_line : ClientFrame → List ℕ
client_line (client.Connect hello read_only) = codes "C connect" ++ connect.spell (hello, read_only)
client_line (client.Ask xid ask) = codes "C " ++ request.spell (xid, ask)

abbrev pub server_line : ServerFrame → List ℕ
server_line (server.Connected hello read_only) = codes "S connect" ++ connected.spell (hello, read_only)
server_line (server.Answered r) = codes "S " ++ reply.spell r
server_line (server.Event zxid e) = codes "S event" ++ event.spell (zxid, e)

-- ---- the frames that a program can hold: numbers of their types, texts that are UTF-8

abbrev pub ClientFits : ClientFrame → Type 0
ClientFits (client.Connect hello read_only) = connect.fits (hello, read_only)
ClientFits (client.Ask xid ask) = request.fits (xid, ask)

abbrev pub ServerFits : ServerFrame → Type 0
ServerFits (server.Connected hello read_only) = connected.fits (hello, read_only)
ServerFits (server.Answered r) = reply.fits r
ServerFits (server.Event zxid e) = event.fits (zxid, e)

-- ---- reading

-- the longest run of letters
abbrev pub letters : List ℕ → List ℕ
letters bytes = take (prefix_len in_word bytes) bytes

-- what comes after `C `
abbrev pub client_at : List ℕ → Read ClientFrame
client_at bytes =
    if bytes_eq (letters bytes) (codes "connect")
    then read_map (λ (hello, read_only). client.Connect hello read_only) ((led (codes "connect") connect).at bytes)
    else read_map (λ (xid, ask). client.Ask xid ask) (request.at bytes)

-- what comes after `S `
abbrev pub server_at : List ℕ → Read ServerFrame
server_at bytes =
    if bytes_eq (letters bytes) (codes "connect")
    then read_map (λ (hello, read_only). server.Connected hello read_only) ((led (codes "connect") connected).at bytes)
    else if bytes_eq (letters bytes) (codes "event") then read_map (λ (zxid, e). server.Event zxid e) ((led (codes "event") event).at bytes)
    else read_map server.Answered (reply.at bytes)

-- ---- messages

-- by the side that says it
abbrev pub line : Message → List ℕ
line (message.Client f) = client_line f
line (message.Server f) = server_line f

-- a message that a program can hold
abbrev pub Fits : Message → Type 0
Fits (message.Client f) = ClientFits f
Fits (message.Server f) = ServerFits f

-- where nothing is left
abbrev pub whole : {X : Type 0} → Read X → Option X
whole None = None
whole (Some (x, [])) = Some x
whole (Some (x, b ∷ rest)) = None

abbrev pub said : {X : Type 0} → (X → Message) → Option X → Option Message
said side frame = frame >>= λ f. Some (side f)

-- the message of a line
abbrev pub message_at : List ℕ → Option Message
message_at bytes = if_passed (word_at (codes "C ") bytes) (λ rest. said message.Client (whole (client_at rest)))
    (word_at (codes "S ") bytes >>= λ rest. said message.Server (whole (server_at rest)))

-- the message, unless memory is refused
abbrev pub Reads : Message → Result Message LineFault → Type 0
Reads m (Ok n) = n ≡ m
Reads m (Err e) = e.reason ≡ NoMemory
