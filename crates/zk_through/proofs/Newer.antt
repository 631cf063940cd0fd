-- A multi whose first fault is at the header of a part of a later profile.
use Rattle.std.proofs.Common.{◌≡◌, ◌≢◌, ℕ, ◌+◌, ◌<◌, ◌≤◌, ◌^◌, ◌⊎◌, inl, inr, List, length, refl, sym, ap, ◌∙◌, subst, arith, Bool, true, false}
use Rattle.std.proofs.lemmas.Bool.Decides.{nat_tests}
use Rattle.std.specs.Prelude.{MatchBool, nat_le}
use Rattle.zk_jute.specs.{declared.fault.ItemFault.ItemFault, declared.fault.Reason.TheVariants.BadPart, Reading.no_memory, Told.IsSurelyTold, Told.IsTold, Reading.told_place}
use Rattle.zk_records.specs.declared.profile.Profile.{Profile}
use Rattle.zk_asks.specs.{Faults.IsAskFault, Fronts.IsOutlined, declared.judge.Outline.Outline}
use Rattle.zk_asks.specs.declared.frame.ClientFrameOf.TheVariants.{Ask}
use Rattle.zk_asks.proofs.Later.{ask_unique, ask_excludes}
use Rattle.zk_through.specs.LeftOut.{is_newer_at, HasNewerPart}

-- the fault that was found is the payload's
found : (profile : Profile) (p : List ℕ) (e : ItemFault) → IsSurelyTold (IsAskFault profile p) e → (place : ℕ) × IsAskFault profile p place e.reason × (e.place ≡ told_place place)
unfolding IsTold
found profile p e x = go x.0
  where
    go : (e ≡ no_memory) ⊎ ((place : ℕ) × IsAskFault profile p place e.reason × (e.place ≡ told_place place)) → (place : ℕ) × IsAskFault profile p place e.reason × (e.place ≡ told_place place)
    go (inl lacks) = absurd (x.1 (ap (λ (z : ItemFault). z.reason) lacks))
    go (inr f) = f

-- where such a header is, its nine bytes are there
it_fits : (p : List ℕ) (place : ℕ) → is_newer_at p place ≡ true → place + 9 ≤ length p
unfolding is_newer_at
it_fits p place e = go (nat_le (place + 9) (length p)) refl
  where
    go : (b : Bool) → nat_le (place + 9) (length p) ≡ b → place + 9 ≤ length p
    go true fits = grind (arith, nat_tests)
    go false short = absurd (let off : is_newer_at p place ≡ false = rw short refl in cc)

module _ (profile : Profile) (p : List ℕ) where
  -- a request of the profile has none
  pub none_outlined : (o : Outline) → IsOutlined profile o p → HasNewerPart profile p → ⊥
  none_outlined o x newer = ask_excludes profile (Ask o.xid x.0) newer.0 BadPart tt x.1 x.3 (subst (λ z. IsAskFault profile z newer.0 BadPart) x.4 newer.1)

  module _ (e : ItemFault) (told : IsSurelyTold (IsAskFault profile p) e) where
    same : (newer : HasNewerPart profile p) → let f = found profile p e told in (f.0 ≡ newer.0) × (e.reason ≡ BadPart)
    same newer = let f = found profile p e told in ask_unique profile p f.0 newer.0 e.reason BadPart f.1 newer.1

    -- no other fault is one
    pub not_bad : (e.reason ≢ BadPart) → HasNewerPart profile p → ⊥
    not_bad other newer = other (same newer).1

    pub judged_newer : length p < 2 ^ 32 → e.reason ≡ BadPart → (b : Bool) → b ≡ is_newer_at p e.place → MatchBool b (HasNewerPart profile p) (HasNewerPart profile p → ⊥)
    judged_newer small bad true is =
        let f = found profile p e told in
        let fits = it_fits p e.place (sym is) in
        let place : e.place ≡ f.0 = omega (arith, f.2, fits, small) in
        (f.0, subst (IsAskFault profile p f.0) bad f.1, ap (is_newer_at p) (sym place) ∙ sym is)
    judged_newer small bad false is = λ newer.
        let f = found profile p e told in
        let fits = it_fits p newer.0 newer.2 in
        let place : e.place ≡ newer.0 = omega (arith, f.2, (same newer).0, fits, small) in
        let on : is_newer_at p e.place ≡ true = ap (is_newer_at p) place ∙ newer.2 in
        cc
