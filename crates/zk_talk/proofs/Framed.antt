-- The frame of a payload, as it is written.
use Rattle.std.proofs.Common.{◌≡◌, ◌≤◌, ◌+◌, ◌-◌, ℕ, List, ◌++◌, length, take, drop, pos, sym, ap, ◌∙◌, arith, append_assoc}
use Rattle.std.proofs.{lemmas.List.length-drop, lemmas.List.take-append-drop, lemmas.Slice.take-put_mid, lemmas.Slice.drop-put_mid}
use borrow.Rule.Slice.PartMut.{put_mid}
use Rattle.zk_jute.specs.Item as jute
use Rattle.zk_asks.specs.Held.{ClientFrame}
use Rattle.zk_asks.specs.Frames as asks
use Rattle.zk_answers.specs.Held.{ServerFrame}
use Rattle.zk_answers.specs.Frames as answers
use Rattle.zk_frames.specs.Framing.{int_bytes, frame}
use Rattle.zk_talk.specs.Payloads.{client_payload, server_payload}

pub framed : (out between after payload : List ℕ) (n : ℕ) → n ≡ length payload → between ≡ out ++ jute.int_bytes (pos n) → after ≡ between ++ payload → after ≡ out ++ frame payload
unfolding frame int_bytes
framed out between after payload n e b a =
    a ∙ ap (λ z. z ++ payload) (b ∙ ap (λ m. out ++ jute.int_bytes (pos m)) e) ∙ append_assoc out (jute.int_bytes (pos (length payload))) payload

pub framed_client : (f : ClientFrame) (out between after : List ℕ) (n : ℕ) → n ≡ length (asks.payload f) → between ≡ out ++ jute.int_bytes (pos n) → after ≡ between ++ asks.payload f → after ≡ out ++ frame (client_payload f)
unfolding client_payload
framed_client f out between after n e b a = framed out between after (asks.payload f) n e b a

pub framed_server : (s : ServerFrame) (out between after : List ℕ) (n : ℕ) → n ≡ length (answers.payload s) → between ≡ out ++ jute.int_bytes (pos n) → after ≡ between ++ answers.payload s → after ≡ out ++ frame (server_payload s)
unfolding server_payload
framed_server s out between after n e b a = framed out between after (answers.payload s) n e b a

-- the length of a payload, put into the four bytes that stand before it
pub framed_in : (out size : List ℕ) (start n : ℕ) → start + 4 ≤ length out → n ≡ length out - start - 4 → size ≡ jute.int_bytes (pos n) → put_mid start (start + 4 - start) out size ≡ take start out ++ frame (drop (start + 4) out)
unfolding frame int_bytes
framed_in out size start n within count is =
    let new = put_mid start (start + 4 - start) out size in
    let payload = drop (start + 4) out in
    let four : length size ≡ 4 = ap length is in
    let front : take (start + 4) new ≡ take start out ++ size = take-put_mid start (start + 4 - start) out size (start + 4) (omega (arith, four)) (omega (arith, within)) in
    let back : drop (start + 4) new ≡ payload = drop-put_mid start (start + 4 - start) out size (start + 4) (omega arith) (omega (arith, within)) (omega (arith, four)) in
    let long : n ≡ length payload = omega (arith, count, length-drop (start + 4) out) in
    sym (take-append-drop (start + 4) new) ∙ (λ k. front k ++ back k) ∙ append_assoc (take start out) size payload
    ∙ ap (λ z. take start out ++ (z ++ payload)) (is ∙ ap (λ m. jute.int_bytes (pos m)) long)
