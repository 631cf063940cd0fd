-- Forms: as many results answer as there are parts.
use Rattle.std.proofs.Common.{◌≡◌, ℕ, zero, suc, List, [], ◌∷◌, length, Option, Some, ◌<◌, refl, subst, arith}
use Rattle.std.specs.{List.slice_get, Option.IsSome}
use Rattle.std.proofs.lemmas.Option.{slice_get-get_or}
use Rattle.zk_records.specs.declared.op.PartOp.{PartOp}
use Rattle.zk_records.specs.declared.op.PartOp.TheVariants as parts
use Rattle.zk_answers.specs.{Held.PartDone, Results.Answers, Results.AnswerAll}

some_same : {X : Type 0} (x y : X) → ◌≡◌ {A = Option X} (Some x) (Some y) → x ≡ y
some_same x y e = cc

pub answers_length : (parts : List PartOp) (dones : List PartDone) → AnswerAll parts dones → length parts ≡ length dones
answers_length [] [] all = refl
answers_length [] (d ∷ dones) all = absurd all
answers_length (op ∷ parts) [] all = absurd all
answers_length (op ∷ parts) (d ∷ dones) all = let more = answers_length parts dones all.1 in omega arith

-- where all are answered, each one is
pub answered_at : (parts : List PartOp) (dones : List PartDone) (j : ℕ) (op : PartOp) (d : PartDone) → AnswerAll parts dones → slice_get parts j ≡ Some op → slice_get dones j ≡ Some d → Answers op d
answered_at [] dones j op d all p q = absurd cc
answered_at (o ∷ parts) [] j op d all p q = absurd all
answered_at (o ∷ parts) (e ∷ dones) zero op d all p q =
    let one : o ≡ op = some_same o op p in
    let two : e ≡ d = some_same e d q in
    subst (λ (x : PartOp). Answers x d) one (subst (λ (x : PartDone). Answers o x) two all.0)
answered_at (o ∷ parts) (e ∷ dones) (suc j) op d all p q = answered_at parts dones j op d all.1 p q

pub some_below : (ops : List PartOp) (j : ℕ) → j < length ops → IsSome (slice_get ops j)
some_below ops j lt = rw (slice_get-get_or ops j parts.Create lt) refl
