use Rattle.std.proofs.Common.{ap, refl}
use Rattle.zk_records.specs.{Records.acl, Shown.acl_value, Shown.acl_is_value}
use Rattle.zk_jute.proofs.Valued.{one_told}
use Rattle.zk_records.proofs.acl.AclRefMember.pass.Goals as goal

pub returns-clause-value : goal.returns-clause-value
returns-clause-value c =
    let src = c.args.payload.now in
    let x = c.known_at-end.result in
    (x.0, one_told acl src (acl_value src) (acl_is_value src) c.args.place c.requires.place c.requires.known x c.known_at-end.ensures, refl)

pub returns-clause-only : goal.returns-clause-only
returns-clause-only c = λ x end have stands. ap (λ z. z.1) (c.known_at-end.ensures x end have stands)
