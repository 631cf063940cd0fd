use Rattle.std.proofs.Common.{subst, length, arith}
use Rattle.std.specs.Prelude.{◌≤◌, IsUtf8}
use Rattle.std.specs.Str.{IsAscii}
use Rattle.std.proofs.lemmas.List.{take_rest, take-append-drop, take_all}
use Rattle.simdutf8.proofs.StepsLemmas.{IsUtf8-after_ascii}
use Rattle.zk_jute.proofs.Primitives.{ascii_text}
use Rattle.zk_jute.proofs.utf8.is_long_text.Goals as goal

pub returns-then-front-bytes : goal.returns-then-front-bytes
returns-then-front-bytes c t =
    let bytes = c.args.bytes.now in
    let front = c.plain_front-front.result in
    let all : length bytes ≤ front = omega (arith, c.if-front-bytes.true) in
    ascii_text bytes (subst IsAscii (take_all front bytes all) c.plain_front-front.ensures.1)

pub returns-else-front-bytes : goal.returns-else-front-bytes
returns-else-front-bytes c t =
    let bytes = c.args.bytes.now in
    let at = c.plain_front-front.result in
    let rest = rw (take_rest) at (c.is_text_after_front.ensures t) in
    subst IsUtf8 (take-append-drop at bytes) ((IsUtf8-after_ascii _ _ c.plain_front-front.ensures.1).1 rest)
