use Rattle.std.proofs.Common.{subst, sym, ◌∙◌}
use Rattle.zk_records.specs.declared.profile.Profile.{Profile}
use Rattle.zk_talk.specs.declared.message.MessageOf.TheVariants.{Client}
use Rattle.zk_c.specs.Read.{ReadsRequest}
use Rattle.zk_c.proofs.Reading.{read_ok, read_err}
use Rattle.zk_records.proofs.Numbers.{profile_apart}
use Rattle.zk_c.proofs.read.zk_read_request.Goals as goal

pub returns-in-Ok-clause-reads : goal.returns-in-Ok-clause-reads
returns-in-Ok-clause-reads c = λ p number small. let found = c.in-Ok.ensures.found in
    subst (λ (q : Profile). ReadsRequest q c.args.payload.now c.args.room.now c.read_client.new.room c.read_client.result) (profile_apart c.in-Some.profile p (sym c.in-Some.ensures ∙ number))
    (read_ok Client c.in-Ok.frame ((found.0, found.1), found.2, found.3) (λ f form. c.in-Ok.ensures.only f form.0 form.1) c.read_client.ensures small)

pub returns-in-Err-clause-reads : goal.returns-in-Err-clause-reads
returns-in-Err-clause-reads c = λ p number small.
    subst (λ (q : Profile). ReadsRequest q c.args.payload.now c.args.room.now c.read_fault.new.room c.read_fault.result) (profile_apart c.in-Some.profile p (sym c.in-Some.ensures ∙ number))
    (read_err Client (λ f form. c.in-Err.ensures.only f form.0 form.1) c.in-Err.ensures.fault c.ask_of.ensures (c.read_fault.ensures small))
