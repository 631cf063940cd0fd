-- The header alone: its three numbers, read one after another.
use Rattle.std.proofs.Common.{◌≡◌, ℕ, ◌+◌, List, [], ◌∷◌, drop, Ok, Err, ap, ◌∙◌, arith}
use Rattle.std.specs.Prelude.{ℤ}
use Rattle.zk_jute.specs.{declared.fault.ItemFault.ItemFault, Item.Int, Item.Long, Item.AnInt, Item.ALong}
use Rattle.zk_jute.specs.Layout.{Layout, End, One, ◌then◌}
use Rattle.zk_jute.specs.Reading.{Fails, Tells, end_of, items_at, told_place}
use Rattle.zk_jute.specs.Reading as reading
use Rattle.zk_jute.proofs.{Steps.IsBytes, Fields.int_gives, Fields.long_gives, Fields.int_plain, Fields.long_plain, Chains.then_read_one, Chains.then_fails, Chains.then_fails_later, Theorems.found, Theorems.plain_fault}
use Rattle.zk_records.specs.Records.{reply_header}
use Rattle.zk_answers.specs.Faults.{IsHead, IsHeadFault}

abbrev First : Layout
First = One Int End

abbrev Second : Layout
Second = One Long End

module _ (src : List ℕ) (fits : IsBytes src) where
  abbrev pub IsShort : ItemFault → Type 0
  IsShort e = (place : ℕ) × IsHeadFault src place e.reason × (e.place ≡ told_place place)

  refused : (e : ItemFault) → Fails e (items_at reply_header.layout src 0) → IsShort e
  refused e h =
      let f = (plain_fault reply_header.layout reply_header.items src 0 fits (omega arith) (Err e) h).0 in
      let same : 0 + f.0 ≡ f.0 = omega arith in
      (f.0, f.1, f.2 ∙ ap told_place same)

  pub no_xid : (e : ItemFault) → Tells {X = ℤ × ℕ} (λ x. x) (Err e) (reading.int_at src 0) → IsShort e
  no_xid e h = refused e (then_fails First (Second then First) src 0 e (int_plain src 0 (Err e) h))

  module _ (xid : ℤ) (middle : ℕ) (one : Tells (λ x. x) (Ok (xid, middle)) (reading.int_at src 0)) where
    pub no_zxid : (e : ItemFault) → Tells {X = ℤ × ℕ} (λ x. x) (Err e) (reading.long_at src middle) → IsShort e
    no_zxid e h = refused e (then_fails_later First (Second then First) src 0 e middle (ap end_of (int_gives src 0 (Ok (xid, middle)) one)) (then_fails Second First src middle e (long_plain src middle (Err e) h)))

    module _ (zxid : ℤ) (last : ℕ) (two : Tells (λ x. x) (Ok (zxid, last)) (reading.long_at src middle)) where
      pub no_err : (e : ItemFault) → Tells {X = ℤ × ℕ} (λ x. x) (Err e) (reading.int_at src last) → IsShort e
      no_err e h =
          refused e (then_fails_later First (Second then First) src 0 e middle (ap end_of (int_gives src 0 (Ok (xid, middle)) one))
          (then_fails_later Second First src middle e last (ap end_of (long_gives src middle (Ok (zxid, last)) two)) (int_plain src last (Err e) h)))

      pub whole_head : (err : ℤ) (end : ℕ) → Tells (λ x. x) (Ok (err, end)) (reading.int_at src last) → (rest : List ℕ) × IsHead src (record { xid = xid; zxid = zxid; err = err }) rest
      whole_head err end three =
          let later = then_read_one Second First src middle (ALong zxid) (AnInt err ∷ []) last end (long_gives src middle (Ok (zxid, last)) two) (int_gives src last (Ok (err, end)) three) in
          let all = then_read_one First (Second then First) src 0 (AnInt xid) (ALong zxid ∷ AnInt err ∷ []) middle end (int_gives src 0 (Ok (xid, middle)) one) later in
          let f = found reply_header.layout reply_header.items src 0 fits (omega arith) (Ok (record { xid = xid; zxid = zxid; err = err }, end)) all in
          (drop end src, (f.0.1, f.1.0))
