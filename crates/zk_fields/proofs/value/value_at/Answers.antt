use Rattle.std.proofs.Common.{arith, option_copied, get_or, suc, ◌+◌, ◌≡◌, subst, sym, ap, ◌∙◌, ℕ}
use Rattle.std.specs.Prelude.{Option}
use Rattle.std.specs.List.{slice_get}
use Rattle.std.proofs.lemmas.Option.{slice_get-get_or}
use Rattle.zk_fields.specs.{declared.field.Field.Field, Written.Pair, Written.pairs, Written.said, Values.IsSaid}
use Rattle.zk_fields.proofs.Saying.{pair_at, no_one, got}
use Rattle.zk_fields.proofs.value.value_at.Goals as goal

pub returns : goal.returns
returns c = λ d.
    let fields = c.args.fields.now in
    let i = c.args.index in
    let f = get_or fields i no_one in
    let one : i + 1 ≡ suc i = omega arith in
    let next : option_copied c.get.result ≡ slice_get fields (i + 1) = got fields (i + 1) c.get.result c.get.ensures.lookup in
    let here : get_or (pairs fields) i d ≡ (f, slice_get fields (suc i)) = pair_at fields i f d (slice_get-get_or fields i no_one c.requires) in
    let same : slice_get fields (suc i) ≡ option_copied c.get.result = sym (next ∙ ap (λ (n : ℕ). slice_get fields n) one) in
    subst (λ (z : Pair). IsSaid (said c.args.heads c.args.content.now z) c.value_of.result) (sym (here ∙ ap (λ (z : Option Field). (f, z)) same)) c.value_of.ensures
