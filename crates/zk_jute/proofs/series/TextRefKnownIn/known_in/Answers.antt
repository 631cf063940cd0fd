use Rattle.zk_jute.specs.{Wired.ustring, Shown.text_value, Shown.text_is_value}
use Rattle.zk_jute.proofs.Valued.{one_told}
use Rattle.zk_jute.proofs.series.TextRefKnownIn.known_in.Goals as goal

pub returns-clause-value : goal.returns-clause-value
returns-clause-value c =
    let src = c.args.payload.now in
    one_told ustring src (text_value src) (text_is_value src) c.args.place c.requires.place c.requires.known c.known_at.result c.known_at.ensures
