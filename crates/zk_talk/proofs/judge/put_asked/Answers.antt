use Rattle.std.proofs.Common.{◌≡◌, ◌≢◌, ℤ, List, [], Some, refl, sym, ap, ◌∙◌, subst, w32}
use Rattle.std.proofs.lemmas.Int.{to_z-of_z}
use Rattle.zk_records.specs.declared.op.Op.TheVariants as ops
use Rattle.zk_asks.specs.{Held.Ask as AnAsk, Held.ClientFrame, declared.judge.Outline.Outline, Fronts.asking_of, Rows.op_of_ask, Frames.ops_of_ask}
use Rattle.zk_asks.specs.declared.frame.AskOf.TheVariants as ask
use Rattle.zk_asks.specs.declared.frame.ClientFrameOf.TheVariants.{Connect, Ask}
use Rattle.zk_asks.proofs.Judged.{outline_is}
use Rattle.zk_waiting.specs.{Lane.lane_of, Waiting.IsPut}
use Rattle.zk_talk.proofs.Settling.{HasParts, fits_asked, put_to}
use Rattle.zk_talk.proofs.judge.put_asked.Goals as goal

-- what is no multi has no parts
alone : (a : AnAsk) → op_of_ask a ≢ ops.Multi → ops_of_ask a ≡ []
alone (ask.Multi ps) other = absurd (other refl)
alone _ other = refl

none_asked : (of : Outline) → of.op ≢ ops.Multi → (f : ClientFrame) → asking_of f ≡ Some of → HasParts [] f
none_asked of other (Connect hello read_only) e = tt
none_asked of other (Ask xid a) e = alone a (λ is. other (sym (ap (λ (o : Outline). o.op) (outline_is of xid a e)) ∙ is))

pub returns-in-Ok-clause-put : goal.returns-in-Ok-clause-put
returns-in-Ok-clause-put c = λ yes f a.
    let of = c.in-Some.outline in
    let w = c.args.waiting.now in
    let new = c.put_numbered.new.self in
    let e = a.0 ∙ c.in-Some.is in
    let put = subst (λ (z : ℤ). IsPut (lane_of z) (record { xid = z; op = of.op; parts = []; frame = c.args.number }) w new) (to_z-of_z w32 of.xid (fits_asked of c.args.payload.now f (e, a.1, a.2))) c.in-Ok.ensures.ok in
    put_to of [] w c.args.number new of.op refl f e (none_asked of c.in_default-op.not-Multi f e) c.in-Ok.ensures.fits put
