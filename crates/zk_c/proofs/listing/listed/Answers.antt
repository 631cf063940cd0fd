use Rattle.std.proofs.Common.{refl, sym, ap, ◌∙◌, subst}
use Rattle.zk_talk.specs.{Answer.history_of, Answer.AreMessages, Ending.IsEnding, History.History}
use Rattle.zk_c.proofs.Texts.{told_of}
use Rattle.zk_c.proofs.listing.listed.Goals as goal

pub returns : goal.returns
returns c =
    let cut = c.in-Some.cut.items in
    let both = told_of _ _ c.in_ok-cut.field-0 c.in-Some.cut c.in_ok-cut.ensures c.in-Some.is in
    let ended = c.in_ok-ended.ended in
    record {
      history = history_of cut;
      cut = (both (history_of cut)).1 refl;
      is = λ h a. let same = ap history_of c.deref.ensures.value ∙ sym ((both h).0 a) in record {
        messages = ended.messages.items;
        ending = ended.ending;
        are = subst (λ (z : History). AreMessages c.args.limits z ended.messages.items ended.ending) same c.in_ok-ended.ensures.messages;
        ends = subst (λ (z : History). IsEnding c.args.limits z ended.ending) same c.in_ok-ended.ensures.ending;
        is = c.in_ok-text.ensures;
      };
    }
