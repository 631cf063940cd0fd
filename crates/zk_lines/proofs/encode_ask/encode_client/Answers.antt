use Rattle.std.proofs.Common.{rules}
use Rattle.zk_lines.proofs.EncodedLines.{connect_encoded, ask_encoded}
use Rattle.zk_lines.proofs.encode_ask.encode_client.Goals as goal

pub returns-in_ok-encode_connect-clause-encoded : goal.returns-in_ok-encode_connect-clause-encoded
returns-in_ok-encode_connect-clause-encoded c = connect_encoded c.args.line.now _ _ _ _ (first_of (cc, search rules)) c.in_ok-literal.ensures.read c.in_ok-encode_connect.ensures.encoded

pub returns-in_ok-encode_request-clause-encoded : goal.returns-in_ok-encode_request-clause-encoded
returns-in_ok-encode_request-clause-encoded c = ask_encoded c.args.line.now _ _ _ (first_of (cc, search rules)) c.in_ok-encode_request.ensures.encoded
