use Rattle.std.proofs.Common.{◌≡◌, ◌∙◌, ℕ, ◌+◌, ◌≤◌, List, ◌++◌, length, take, sym, ap, arith}
use Rattle.std.proofs.{lemmas.List.length-take-le, lemmas.List.take-append-le, Math.Seq.take-append-add}
use Rattle.zk_listings.proofs.long_frame.read_to.Goals as goal

behind : (at' n : ℕ) (room buf post : List ℕ) → at' ≤ length room → n ≤ length buf → take (at' + n) (take at' room ++ (buf ++ post)) ≡ take at' room ++ take n buf
behind at' n room buf post l m =
    ap (λ k. take (k + n) (take at' room ++ (buf ++ post))) (sym (length-take-le at' room l))
    ∙ take-append-add (take at' room) (buf ++ post) n ∙ ap (λ b. take at' room ++ b) (take-append-le n buf post m)

pub returns-in-Ok-clause-bytes : goal.returns-in-Ok-clause-bytes
returns-in-Ok-clause-bytes g c =
    let count = c.in-Ok.count in
    let buf = c.read.new.buf in (
      take count buf,
      length-take-le count buf c.in-Ok.ensures.bound,
      c.in-Ok.ensures.bytes.0,
      behind c.args.at count c.args.room.now buf _ (omega (arith, c.requires.room)) c.in-Ok.ensures.bound,
    )
