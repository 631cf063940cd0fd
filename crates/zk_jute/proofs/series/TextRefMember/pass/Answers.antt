use Rattle.std.proofs.Common.{ap, refl}
use Rattle.zk_jute.specs.{Wired.ustring, Shown.text_value, Shown.text_is_value}
use Rattle.zk_jute.proofs.Valued.{one_told}
use Rattle.zk_jute.proofs.series.TextRefMember.pass.Goals as goal

pub returns-clause-value : goal.returns-clause-value
returns-clause-value c =
    let src = c.args.payload.now in
    let x = c.known_at-end.result in
    (x.0, one_told ustring src (text_value src) (text_is_value src) c.args.place c.requires.place c.requires.known x c.known_at-end.ensures, refl)

pub returns-clause-only : goal.returns-clause-only
returns-clause-only c = λ x end have stands. ap (λ z. z.1) (c.known_at-end.ensures x end have stands)
