-- The turns of a run that reads once in each.
use Rattle.std.proofs.Common.{◌≡◌, ℕ, ◌+◌, ◌-◌, ◌^◌, ◌<◌, ◌≤◌, ◌||◌, inl, inr, List, [], ◌++◌, length, min, Option, Bool, true, false, Err, ap, ◌∙◌, subst, append-nil, arith}
use Rattle.std.specs.Io.KnownBytes.{Consumes}
use Rattle.zk_listings.specs.{declared.listing.RunFault.TheVariants.Read, Running.LeavesDevices}
use Rattle.zk_listings.proofs.{Bytes.Consumes-then, Exits.left-by-read}

-- before a turn: the buffer is a block, and no device has failed
pub record IsAtTurn (turn reads reads_now : ℕ) (reader_failed writer_failed : Bool) (buf : List ℕ) : Type 0 where
  pub block : length buf ≡ 65536
  pub live : reader_failed ≡ false
  pub writer_live : writer_failed ≡ false
  pub count : reads_now ≡ reads + turn

module _ (turn reads reads_now : ℕ) (reader_failed writer_failed : Bool) (buf : List ℕ) (now : IsAtTurn turn reads reads_now reader_failed writer_failed buf) (reads_then : ℕ) (failed_then : Bool) where
  -- the read of this turn failed
  pub left-in-turn : {X : Type 0} → turn < 4294967296 → failed_then ≡ (reader_failed || true) → reads_then ≡ min (reads_now + 1) (2 ^ 64 - 1) →
      LeavesDevices {X = X} (Err Read) reads reads_then failed_then writer_failed
  left-in-turn less failed counted = left-by-read reads reads_then failed_then writer_failed (inl (failed ∙ ap (λ b. b || true) now.live)) (omega (arith, counted, now.count, less))

  pub next-turn : (writer_then : Bool) (buf_then : List ℕ) → turn < 4294967296 → reads < 2 ^ 62 → failed_then ≡ (reader_failed || false) → reads_then ≡ min (reads_now + 1) (2 ^ 64 - 1) →
      length buf_then ≡ length buf → writer_then ≡ false → IsAtTurn (turn + 1) reads reads_then failed_then writer_then buf_then
  next-turn writer_then buf_then less few failed counted long writer_live = record {
    block = long ∙ now.block;
    live = failed ∙ ap (λ b. b || false) now.live;
    writer_live = writer_live;
    count = omega (arith, counted, now.count, less, few);
  }

-- there is no turn left
pub left-after-turns : {X : Type 0} (turn reads reads_now : ℕ) (reader_failed writer_failed : Bool) (buf : List ℕ) → IsAtTurn turn reads reads_now reader_failed writer_failed buf → 4294967296 ≤ turn → turn ≤ 4294967296 →
    LeavesDevices {X = X} (Err Read) reads reads_now reader_failed writer_failed
left-after-turns turn reads reads_now reader_failed writer_failed buf now all most =
    left-by-read reads reads_now reader_failed writer_failed (inr (omega (arith, now.count, all))) (omega (arith, now.count, most))

-- a read that gave nothing
pub read-none : (unread mid unread_now : Option (List ℕ)) (x none : List ℕ) → Consumes unread mid x → Consumes mid unread_now none → none ≡ [] → Consumes unread unread_now x
read-none unread mid unread_now x none p q nothing = subst (Consumes unread unread_now) (ap (λ b. x ++ b) nothing ∙ append-nil x) (Consumes-then unread mid unread_now x none p q)
