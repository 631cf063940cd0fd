use Rattle.std.proofs.Common.{rules, ◌≡◌, ◌∙◌, ap, ℤ, w32, SFits, Bool, true, false, sym, subst}
use Rattle.std.specs.Prelude.{MatchBool}
use Rattle.std.proofs.{lemmas.Bool.false≢true, lemmas.Int.to_z-of_z}
use Rattle.zk_records.specs.{declared.profile.Profile.Profile, Codes.IsNoOp}
use Rattle.zk_waiting.specs.Lane.{lane_of}
use Rattle.zk_through.specs.LeftOut.{may_be_out, IsLackedUnder}
use Rattle.zk_through.proofs.turn.is_lacked.Goals as goal

lacked : (profile : Profile) (xid number : ℤ) (b : Bool) → b ≡ may_be_out (lane_of xid) → IsNoOp profile number → MatchBool b (IsLackedUnder profile xid number) (IsLackedUnder profile xid number → ⊥)
lacked profile xid number true e none = (sym e, none)
lacked profile xid number false e none = λ x. false≢true (e ∙ x.0)

pub returns-in-None : goal.returns-in-None
returns-in-None c =
    let fits : SFits w32 c.args.xid = search rules in
    let lane : c.lane_of.result ≡ lane_of c.args.xid = c.lane_of.ensures ∙ ap lane_of (to_z-of_z w32 c.args.xid fits) in
    let number : SFits w32 c.args.number = search rules in
    let none = subst (IsNoOp c.args.profile) (to_z-of_z w32 c.args.number number) c.in-None.ensures in
    lacked c.args.profile c.args.xid c.args.number c.may_be_out.result (c.may_be_out.ensures ∙ ap may_be_out lane) none
