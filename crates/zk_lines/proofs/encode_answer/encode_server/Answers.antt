use Rattle.std.proofs.Common.{rules}
use Rattle.zk_lines.proofs.EncodedLines.{connected_encoded, event_encoded, reply_encoded}
use Rattle.zk_lines.proofs.encode_answer.encode_server.Goals as goal

pub returns-in_ok-encode_connected-clause-encoded : goal.returns-in_ok-encode_connected-clause-encoded
returns-in_ok-encode_connected-clause-encoded c = connected_encoded c.args.line.now _ _ _ _ (first_of (cc, search rules)) c.in_ok-literal.ensures.read c.in_ok-encode_connected.ensures.encoded

pub returns-in_ok-encode_event-clause-encoded : goal.returns-in_ok-encode_event-clause-encoded
returns-in_ok-encode_event-clause-encoded c =
    event_encoded c.args.line.now _ _ _ _ (first_of (cc, search rules)) (first_of (cc, search rules)) c.in_ok-literal-2.ensures.read c.in_ok-encode_event.ensures.encoded

pub returns-in_ok-op-clause-encoded : goal.returns-in_ok-op-clause-encoded
returns-in_ok-op-clause-encoded c = reply_encoded c.args.line.now _ _ _ c.in_ok-op.op (first_of (cc, search rules)) (first_of (cc, search rules)) c.in_ok-op.ensures.encoded
