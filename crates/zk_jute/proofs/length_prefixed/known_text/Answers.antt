use Rattle.std.proofs.Common.{ap, ◌∙◌, Option, Ok, List, ℕ, Bor, option_copied}
use Rattle.zk_jute.proofs.Known.{text_is_one}
use Rattle.zk_jute.proofs.length_prefixed.known_text.Goals as goal

pub from_utf8_unchecked-requires : goal.from_utf8_unchecked-requires
from_utf8_unchecked-requires c =
    let after = c.known_run-after.result.1 in
    let read = c.known_run-after.ensures.exact ∙ ap (λ (o : Option (Bor (List ℕ))). Ok (option_copied o, after)) c.in-Some.is in
    text_is_one c.args.src.now c.args.place c.in-Some.bytes.now after read c.requires.known
