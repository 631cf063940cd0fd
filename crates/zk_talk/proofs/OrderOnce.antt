-- The messages of a history stand in one order.
use Rattle.std.proofs.Common.{◌≡◌, ℕ, ◌+◌, ◌<◌, ◌^◌, ◌⊎◌, inl, inr, map, List, [], ◌∷◌, ◌++◌, length, refl, sym, ap, ◌∙◌, subst, arith, append_assoc, length-append}
use Rattle.std.proofs.lemmas.List.{append-nil, length-map, length_push, nil_from_length, append_cancel_left}
use Rattle.zk_asks.specs.Held.{ClientFrame}
use Rattle.zk_answers.specs.Held.{ServerFrame}
use Rattle.zk_talk.specs.{Payloads.client_payload, Payloads.server_payload, declared.message.Side.Side, declared.limits.Limits.Limits, History.History, History.side_bytes, Conversation.Conversation, Held.Message}
use Rattle.zk_talk.specs.declared.message.Side.TheVariants.{Client, Server}
use Rattle.zk_frames.specs.Framing.{frame, frames, IsCut}
use Rattle.zk_talk.specs.Good.{client_payloads, server_payloads, IsWhole, AreWholeIn, clients, servers, IsOrder}
use Rattle.zk_talk.proofs.{Small.AreSmall, Cuts.cut_front, Cuts.Shorter, Cuts.Shorter.within_frame, Cuts.Shorter.frame_end, Histories.no_bytes, Histories.side_bytes-same, Histories.other-bytes, Steps.same_whole, FaultOnce.fronts_nested}
use Rattle.zk_frames.proofs.Cuts.{length-frame, same_cut, same_fronts}
use Rattle.zk_talk.specs.declared.message.MessageOf.TheVariants.{Client as FromClient, Server as FromServer}
use Rattle.zk_talk.proofs.Standing.{clients-append, servers-append}

record WholeFront (limits : Limits) (M : List Message) (g : History) : Type 0 where
  first : List Message
  more : List Message
  is : M ≡ first ++ more
  whole : AreWholeIn limits g (clients first) (servers first)

length-messages : (M : List Message) → length M ≡ length (clients M) + length (servers M)
length-messages [] = omega arith
length-messages (FromClient f ∷ M) = omega (arith, length-messages M)
length-messages (FromServer f ∷ M) = omega (arith, length-messages M)

-- two fronts of a list of one length are one
same_front : {X : Type 0} (a b c d : List X) → a ++ b ≡ c ++ d → length a ≡ length c → a ≡ c
same_front a b c d e l = (same_fronts a c b d l e).0

no_frames : (P : List (List ℕ)) (r : List ℕ) → [] ≡ frames P ++ r → P ≡ []
no_frames [] r e = refl
no_frames (p ∷ P) r e = absurd (omega (arith, ap length e, length-append (frame p ++ frames P) r, length-append (frame p) (frames P), length-frame p))

same_message : (m n : Message) → clients (m ∷ []) ≡ clients (n ∷ []) → servers (m ∷ []) ≡ servers (n ∷ []) → m ≡ n
same_message (FromClient f) (FromClient g) c s = ap FromClient (cc)
same_message (FromServer f) (FromServer g) c s = ap FromServer (cc)
same_message (FromClient f) (FromServer g) c s = absurd (cc)
same_message (FromServer f) (FromClient g) c s = absurd (cc)

-- how many frames are whole with one more byte
data Grows (limits : Limits) (g : History) (x : Side × ℕ) (C : List ClientFrame) (S : List ServerFrame) (C₀ : List ClientFrame) (S₀ : List ServerFrame) : Type 0 where
  no_more : length C ≡ length C₀ → length S ≡ length S₀ → Grows limits g x C S C₀ S₀
  one_more : length C + length S ≡ length C₀ + length S₀ + 1 → Grows limits g x C S C₀ S₀

-- one cut has one number of frames, and with a byte more as many, or one more
module _ {F : Type 0} (payload : F → List ℕ) (limit : ℕ) (small : limit < 2 ^ 31) (bytes : List ℕ) (A : List F) (rest : List ℕ) (cut : IsCut limit bytes (map payload A) rest) where
  same_number : (B : List F) (r : List ℕ) → IsCut limit bytes (map payload B) r → length B ≡ length A
  same_number B r c = sym (length-map B payload) ∙ ap length (same_cut limit _ _ _ _ _ small c cut).0 ∙ length-map A payload

  number_more : (b : ℕ) (B : List F) (r : List ℕ) → IsCut limit (bytes ++ b ∷ []) (map payload B) r → (length B ≡ length A) ⊎ (length B ≡ length A + 1)
  number_more b B r c = go (cut_front limit bytes b (map payload B) r c)
    where
      go : Shorter limit bytes b (map payload B) r → (length B ≡ length A) ⊎ (length B ≡ length A + 1)
      go (within_frame r' e c') = inl (same_number B r' c')
      go (frame_end Q q r' e n l is c') =
          inr (omega (arith, length-map B payload, ap length e, length_push Q q, ap length (same_cut limit _ _ _ _ _ small c' cut).0, length-map A payload))

grows : (limits : Limits) → AreSmall limits → (g : History) (side : Side) (b : ℕ) (C : List ClientFrame) (S : List ServerFrame) (C₀ : List ClientFrame) (S₀ : List ServerFrame) →
    AreWholeIn limits (g ++ (side, b) ∷ []) C S → AreWholeIn limits g C₀ S₀ → Grows limits g (side, b) C S C₀ S₀
grows limits small g Client b C S C₀ S₀ w w₀ =
    let others = same_number server_payload limits.server small.1 (side_bytes Server g) S₀ w₀.1 w₀.2.server_cut S w.1 (subst (λ z. IsCut limits.server z (server_payloads S) w.1) (other-bytes Client g b) w.2.server_cut) in
    elim (number_more client_payload limits.client small.0 (side_bytes Client g) C₀ w₀.0 w₀.2.client_cut b C w.0 (subst (λ z. IsCut limits.client z (client_payloads C) w.0) (side_bytes-same Client g b) w.2.client_cut)) [
      | inl e ↦ no_more e others
      | inr e ↦ one_more (omega (arith, e, others))
    ]
grows limits small g Server b C S C₀ S₀ w w₀ =
    let others = same_number client_payload limits.client small.0 (side_bytes Client g) C₀ w₀.0 w₀.2.client_cut C w.0 (subst (λ z. IsCut limits.client z (client_payloads C) w.0) (other-bytes Server g b) w.2.client_cut) in
    elim (number_more server_payload limits.server small.1 (side_bytes Server g) S₀ w₀.1 w₀.2.server_cut b S w.1 (subst (λ z. IsCut limits.server z (server_payloads S) w.1) (side_bytes-same Server g b) w.2.server_cut)) [
      | inl e ↦ no_more others e
      | inr e ↦ one_more (omega (arith, e, others))
    ]

-- in each front the messages come first whose frames are whole in it
abbrev pub ComeFirst : Limits → History → List Message → Type 0
ComeFirst limits h M = (front rest : History) → h ≡ front ++ rest → (first more : List Message) × (M ≡ first ++ more) × AreWholeIn limits front (clients first) (servers first)

-- two lists of messages that come first, of which the first may have more frames
module _ (limits : Limits) (small : AreSmall limits) (h : History) (M N : List Message) (a : ComeFirst limits h M) (b : ComeFirst limits h N) (C : List ClientFrame) (S : List ServerFrame) (all_clients : clients M ≡ clients N ++ C) (all_servers : servers M ≡ servers N ++ S) where
  abbrev Agree : History → Type 0
  Agree g = (x : WholeFront limits M g) (y : WholeFront limits N g) → x.first ≡ y.first

  -- what is whole of both is the same frames
  same_whole_fronts : (g : History) (x : WholeFront limits M g) (y : WholeFront limits N g) → (clients x.first ≡ clients y.first) × (servers x.first ≡ servers y.first)
  same_whole_fronts g x y =
      let s = same_whole limits small g _ _ _ _ _ _ _ _ x.whole.2 y.whole.2 in
      let lc = sym (length-map (clients x.first) client_payload) ∙ ap length s.0 ∙ length-map (clients y.first) client_payload in
      let ls = sym (length-map (servers x.first) server_payload) ∙ ap length s.1 ∙ length-map (servers y.first) server_payload in
      let mc = ap (λ z. clients z ++ C) y.is ∙ ap (λ z. z ++ C) (clients-append y.first y.more) ∙ append_assoc (clients y.first) (clients y.more) C in
      let ms = ap (λ z. servers z ++ S) y.is ∙ ap (λ z. z ++ S) (servers-append y.first y.more) ∙ append_assoc (servers y.first) (servers y.more) S in (
        same_front (clients x.first) (clients x.more) (clients y.first) (clients y.more ++ C) (sym (clients-append x.first x.more) ∙ sym (ap clients x.is) ∙ all_clients ∙ mc) lc,
        same_front (servers x.first) (servers x.more) (servers y.first) (servers y.more ++ S) (sym (servers-append x.first x.more) ∙ sym (ap servers x.is) ∙ all_servers ∙ ms) ls,
      )

  step : (g : History) (x : Side × ℕ) (r : History) → h ≡ g ++ x ∷ r → Agree g → Agree (g ++ x ∷ [])
  step g x r e agree p q = go (grows limits small g x.0 x.1 (clients p.first) (servers p.first) (clients p₀.first) (servers p₀.first) p.whole p₀.whole)
    where
      p₀ : WholeFront limits M g
      p₀ = let w = a g (x ∷ r) e in record { first = w.0; more = w.1; is = w.2; whole = w.3 }

      q₀ : WholeFront limits N g
      q₀ = let w = b g (x ∷ r) e in record { first = w.0; more = w.1; is = w.2; whole = w.3 }

      sides : (clients p.first ≡ clients q.first) × (servers p.first ≡ servers q.first)
      sides = same_whole_fronts (g ++ x ∷ []) p q

      first : p₀.first ≡ q₀.first
      first = agree p₀ q₀

      lengths : length p.first ≡ length q.first
      lengths = omega (arith, length-messages p.first, length-messages q.first, ap length sides.0, ap length sides.1)

      pushed : length p.first ≡ length p₀.first + 1 → p.first ≡ q.first
      pushed l =
          let i = fronts_nested p₀.first p₀.more p.first p.more (sym p₀.is ∙ p.is) (omega arith) in
          let j = fronts_nested q₀.first q₀.more q.first q.more (sym q₀.is ∙ q.is) (omega (arith, lengths, ap length first)) in
          let ni = nil_from_length i.1 (omega (arith, l, ap length i.2, length-append p₀.first (i.0 ∷ i.1))) in
          let nj = nil_from_length j.1 (omega (arith, l, lengths, ap length first, ap length j.2, length-append q₀.first (j.0 ∷ j.1))) in
          let pi = i.2 ∙ ap (λ z. p₀.first ++ i.0 ∷ z) ni in
          let qj = j.2 ∙ ap (λ z. q₀.first ++ j.0 ∷ z) nj ∙ ap (λ z. z ++ j.0 ∷ []) (sym first) in
          let c = append_cancel_left (clients p₀.first) (clients (i.0 ∷ [])) (clients (j.0 ∷ [])) (sym (clients-append p₀.first (i.0 ∷ [])) ∙ sym (ap clients pi) ∙ sides.0 ∙ ap clients qj ∙ clients-append p₀.first (j.0 ∷ [])) in
          let s = append_cancel_left (servers p₀.first) (servers (i.0 ∷ [])) (servers (j.0 ∷ [])) (sym (servers-append p₀.first (i.0 ∷ [])) ∙ sym (ap servers pi) ∙ sides.1 ∙ ap servers qj ∙ servers-append p₀.first (j.0 ∷ [])) in
          pi ∙ ap (λ z. p₀.first ++ z ∷ []) (same_message i.0 j.0 c s) ∙ sym qj

      go : Grows limits g (x.0, x.1) (clients p.first) (servers p.first) (clients p₀.first) (servers p₀.first) → p.first ≡ q.first
      go (no_more c s) =
          let l : length p.first ≡ length p₀.first = omega (arith, c, s, length-messages p.first, length-messages p₀.first) in
          same_front p.first p.more p₀.first p₀.more (sym p.is ∙ p₀.is) l ∙ first ∙ same_front q₀.first q₀.more q.first q.more (sym q₀.is ∙ q.is) (omega (arith, l, lengths, ap length first))
      go (one_more n) = pushed (omega (arith, n, length-messages p.first, length-messages p₀.first))

  at_start : Agree []
  at_start x y = empty x.first x.whole ∙ sym (empty y.first y.whole)
    where
      empty : (P : List Message) → AreWholeIn limits [] (clients P) (servers P) → P ≡ []
      empty P w =
          let c = no_frames (client_payloads (clients P)) w.0 (sym (no_bytes Client) ∙ w.2.client_cut.whole) in
          let s = no_frames (server_payloads (servers P)) w.1 (sym (no_bytes Server) ∙ w.2.server_cut.whole) in
          nil_from_length P (omega (arith, length-messages P, ap length c, ap length s, length-map (clients P) client_payload, length-map (servers P) server_payload))

  along : (g r : History) → h ≡ g ++ r → Agree g → Agree h
  along g [] e agree = subst Agree (sym (append-nil g) ∙ sym e) agree
  along g (x ∷ r) e agree = along (g ++ x ∷ []) r (e ∙ sym (append_assoc g (x ∷ []) r)) (step g x r e agree)

  -- what is whole of the first is all of the second, where that is whole
  pub same_first : (first more : List Message) → M ≡ first ++ more → AreWholeIn limits h (clients first) (servers first) → AreWholeIn limits h (clients N) (servers N) → first ≡ N
  same_first first more e w z =
      along [] h refl at_start
      (record { first = first; more = more; is = e; whole = w })
      (record { first = N; more = []; is = sym (append-nil N); whole = z })

-- the frames of an order, whole in its history
pub order_whole : (limits : Limits) (h : History) (v : Conversation) (M : List Message) → IsOrder limits h v M → (cb sb : List ℕ) → IsWhole limits h v.client v.server cb sb → AreWholeIn limits h (clients M) (servers M)
order_whole limits h v M a cb sb w = (cb, sb, subst (λ z. IsWhole limits h z (servers M) cb sb) (sym a.client) (subst (λ z. IsWhole limits h v.client z cb sb) (sym a.server) w))

pub order_once : (limits : Limits) → AreSmall limits → (h : History) (v : Conversation) (M N : List Message) → IsOrder limits h v M → IsOrder limits h v N → (cb sb : List ℕ) → IsWhole limits h v.client v.server cb sb → M ≡ N
order_once limits small h v M N a b cb sb w =
    same_first limits small h M N a.fronts b.fronts [] [] (a.client ∙ sym b.client ∙ sym (append-nil (clients N))) (a.server ∙ sym b.server ∙ sym (append-nil (servers N)))
    M [] (sym (append-nil M)) (order_whole limits h v M a cb sb w) (order_whole limits h v N b cb sb w)
