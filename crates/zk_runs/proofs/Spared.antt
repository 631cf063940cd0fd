-- Where a run that builds halts by no failed read or write, neither has failed.
use Rattle.std.proofs.Common.{Result, Ok, Err, IfOk, IfErr}
use Rattle.zk_runs.specs.{declared.builder.Halt.Halt, Accepting.answer_of, Accepting.IfSpared}
use Rattle.zk_runs.specs.declared.builder.Halt.TheVariants.{Refused, Fails}
use Rattle.zk_listings.specs.declared.listing.RunFault.TheVariants.{Read, Write}

pub spared-halt : (halt : Halt) (P : Type 0) → P → IfSpared halt P
spared-halt (Fails Read) P p = tt
spared-halt (Fails Write) P p = tt
spared-halt _ P p = p

pub spared-result : {T : Type 0} (r : Result T Halt) (P : Type 0) → P → IfErr r (λ halt. IfSpared halt P)
spared-result (Ok x) P p = tt
spared-result (Err halt) P p = spared-halt halt P p

pub open-answer : (halt : Halt) (P : Type 0) → IfSpared halt P → IfOk (answer_of halt) (λ _. P)
open-answer (Refused built) P p = p
open-answer (Fails fault) P p = tt
