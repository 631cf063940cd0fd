use Rattle.std.proofs.Common.{ℕ, List, refl, subst, ◌∙◌}
use Rattle.zk_c.specs.Handle.{TellsText, no_memory}
use Rattle.zk_c.proofs.conversation.write_ending.Goals as goal

pub returns-in_default : goal.returns-in_default
returns-in_default c = no_memory c.none.ensures refl

pub returns : goal.returns
returns c = subst (λ (text : List ℕ). TellsText text c.args.out.now c.put.new.out c.put.result) (c.deref.ensures.value ∙ c.in-Ok.ensures) c.put.ensures.told
