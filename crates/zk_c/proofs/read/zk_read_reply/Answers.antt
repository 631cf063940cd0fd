use Rattle.std.proofs.Common.{w32, subst, sym, refl}
use Rattle.std.proofs.{lemmas.Int.to_z-of_z, lemmas.Bool.false≢true}
use Rattle.zk_records.specs.declared.profile.TheConstants.{NEWEST}
use Rattle.zk_records.specs.Codes.{IsNoOp}
use Rattle.zk_talk.specs.declared.message.MessageOf.TheVariants.{Server}
use Rattle.zk_c.specs.Read.{IsOp}
use Rattle.zk_c.proofs.{Parts.of_one, Parts.where_asked, Reading.read_ok, Reading.read_err}
use Rattle.zk_c.proofs.read.zk_read_reply.Goals as goal

pub borrow_reply-requires : goal.borrow_reply-requires
borrow_reply-requires c = λ header rest h e. false≢true (c.if-is_of_event.ensures.1 (header, rest, h, e))

pub returns-in-Ok-clause-reads : goal.returns-in-Ok-clause-reads
returns-in-Ok-clause-reads c = where_asked _ (to_z-of_z w32 c.args.operation c.ranges.operation) c.in-Some.ensures (λ small not.
    read_ok Server c.in-Ok.frame c.in-Ok.ensures.found c.in-Ok.ensures.only c.read_server.ensures small)

pub returns-in-Ok-clause-unknown : goal.returns-in-Ok-clause-unknown
returns-in-Ok-clause-unknown c = λ no small none. of_one (to_z-of_z w32 c.args.operation c.ranges.operation) c.in-Some.ensures no

pub returns-in-Err-clause-unknown : goal.returns-in-Err-clause-unknown
returns-in-Err-clause-unknown c = λ no small none. of_one (to_z-of_z w32 c.args.operation c.ranges.operation) c.in-Some.ensures no

pub returns-in-Err-clause-reads : goal.returns-in-Err-clause-reads
returns-in-Err-clause-reads c = where_asked _ (to_z-of_z w32 c.args.operation c.ranges.operation) c.in-Some.ensures (λ small not.
    read_err Server c.in-Err.ensures.only c.in-Err.ensures.fault refl (c.read_fault.ensures small))

pub returns-in_default-clause-range : goal.returns-in_default-clause-range
returns-in_default-clause-range c = λ none known. (c.unasked.ensures.range (subst IsOp (sym (to_z-of_z w32 c.args.operation c.ranges.operation)) known), refl)

pub returns-in_default-clause-other : goal.returns-in_default-clause-other
returns-in_default-clause-other c = λ no small head. (c.unasked.ensures.event (subst (IsNoOp NEWEST) (sym (to_z-of_z w32 c.args.operation c.ranges.operation)) no) small head, refl)

pub returns-in_default-clause-unknown : goal.returns-in_default-clause-unknown
returns-in_default-clause-unknown c = λ no small none. (c.unasked.ensures.unknown (subst (IsNoOp NEWEST) (sym (to_z-of_z w32 c.args.operation c.ranges.operation)) no) small none, refl)
