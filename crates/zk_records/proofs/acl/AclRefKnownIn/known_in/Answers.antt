use Rattle.zk_jute.proofs.Valued.{one_told}
use Rattle.zk_records.specs.{Records.acl, Shown.acl_value, Shown.acl_is_value}
use Rattle.zk_records.proofs.acl.AclRefKnownIn.known_in.Goals as goal

pub returns-clause-value : goal.returns-clause-value
returns-clause-value c =
    let src = c.args.payload.now in
    one_told acl src (acl_value src) (acl_is_value src) c.args.place c.requires.place c.requires.known c.known_at.result c.known_at.ensures
