-- What a piece does to a side's frame, over plain lists.
use Rattle.std.proofs.Common.{◌≡◌, ℕ, ◌+◌, ◌-◌, ◌<◌, ◌≤◌, ◌^◌, List, [], ◌++◌, length, take, refl, sym, ap, ◌∙◌, subst, arith, true, false, length-append}
use Rattle.std.proofs.lemmas.List.{append-nil, take_all, length-take-le}
use Rattle.zk_jute.specs.declared.fault.Reason.TheVariants.{StreamEnd, LengthRange as OutOfRange}
use Rattle.zk_frames.specs.{declared.frames.Took.Took, declared.frames.FrameFault.FrameFault, declared.frames.FrameFault.TheVariants.LengthRange, Framing.frame, Framing.IsBeginning, Framing.IsFrame, Framing.IsBadLength}
use Rattle.zk_frames.specs.Held.{IsTaken, EndsWell, IsRefusal, IsFront}
use Rattle.zk_frames.proofs.Cuts.{take-frame}
use Rattle.zk_talk.specs.{Advance.IsStop, Advance.IsStop.too_many, Advance.IsStop.out_of_range}
use Rattle.zk_talk.proofs.Lists.{front_again}

-- a frame is refused for its length alone
pub only_fault : (e : FrameFault) → e ≡ LengthRange
only_fault LengthRange = refl

-- a whole frame's length is in range
pub never_both : (limit : ℕ) (w p : List ℕ) → length p ≤ limit → w ≡ frame p → IsBadLength limit w → ⊥
never_both limit w p l e bad = bad.1 (length p) l (sym (take_all 4 w (omega (arith, bad.0))) ∙ ap (take 4) (e ∙ sym (append-nil (frame p))) ∙ take-frame p [])

module _ (limit size : ℕ) (held piece part after : List ℕ) (room : ℕ) (is : part ≡ take room piece) (short : room ≤ length piece) (fits : size + room < 2 ^ 62) where
  long : length part ≡ room
  long = ap length is ∙ length-take-le room piece short

  pub whole_taken : (t : Took) → IsTaken limit held part t after → t.whole ≡ true → (0 < t.used) × (t.used ≤ length piece) × (size + t.used < 2 ^ 62) × (after ≡ held ++ take t.used piece) × IsFrame limit after
  whole_taken t k e =
      let ends = subst (λ b. EndsWell limit b t.used (length part) after) e k.ends in
      (ends.0, omega (arith, k.part, long, short), omega (arith, k.part, long, fits), k.bytes ∙ ap (λ z. held ++ z) (front_again piece part room t.used is k.part), ends.1)

  -- the part of the piece was used up, within a frame
  used_up : (t : Took) → IsTaken limit held part t after → t.whole ≡ false → (after ≡ held ++ part) × IsBeginning limit after
  used_up t k e =
      let ends = subst (λ b. EndsWell limit b t.used (length part) after) e k.ends in
      (k.bytes ∙ ap (λ z. held ++ take z part) ends.0 ∙ ap (λ z. held ++ z) (take_all (length part) part (omega arith)), ends.1)

  pub end_taken : (t : Took) → IsTaken limit held part t after → t.whole ≡ false → room < length piece → size + room + 1 ≡ 2 ^ 62 → IsStop limit size held piece (room + 1) StreamEnd after × (room + 1 ≤ length piece)
  end_taken t k e l full =
      let u = used_up t k e in
      let same = u.0 ∙ ap (λ z. held ++ z) is in
      (too_many room refl l full (subst (IsBeginning limit) same u.1) refl same, omega arith)

  pub within_taken : (t : Took) → IsTaken limit held part t after → t.whole ≡ false → (room < length piece → ⊥) → (after ≡ held ++ piece) × IsBeginning limit (held ++ piece) × (size + length piece < 2 ^ 62)
  within_taken t k e n =
      let u = used_up t k e in
      let all : part ≡ piece = is ∙ take_all room piece (omega (arith, n)) in
      let same : after ≡ held ++ piece = u.0 ∙ ap (λ z. held ++ z) all in
      (same, subst (IsBeginning limit) same u.1, omega (arith, fits, ap length all, long))

  -- the whole frame that the part begins with, where nothing was held
  pub front_taken : (used : ℕ) → IsFront held part used (record { limit = limit; bytes = after }) → (held ≡ []) × ((0 < used) × (used ≤ length piece) × (size + used < 2 ^ 62) × (after ≡ held ++ take used piece) × IsFrame limit after)
  front_taken used f = (f.nothing, (f.some, omega (arith, f.part, long, short), omega (arith, f.part, long, fits), f.bytes ∙ front_again piece part room used is f.part ∙ ap (λ z. z ++ take used piece) (sym f.nothing), f.whole))

  pub range_taken : (h : ℕ) → h ≡ length held → IsRefusal limit held part LengthRange after → IsStop limit size held piece (4 - h) OutOfRange after × (4 - h ≤ length piece)
  range_taken h e r =
      let few = length-take-le r.0 part r.2 in
      let n : r.0 ≡ 4 - h = omega (arith, e, r.5.0, ap length r.4, length-append held (take r.0 part), few, r.3) in
      let bytes : after ≡ held ++ take r.0 piece = r.4 ∙ ap (λ z. held ++ z) (front_again piece part room r.0 is r.2) in
      let stop = out_of_range r.1 (omega (arith, r.2, long, short)) (omega (arith, r.2, long, fits)) r.3 (subst (IsBadLength limit) bytes r.5) refl bytes in
      (subst (λ z. IsStop limit size held piece z OutOfRange after) n stop, omega (arith, n, r.2, long, short))
