use Rattle.std.specs.Prelude.{pos, length}
use Rattle.zk_jute.specs.Item.{int_bytes}
use Rattle.zk_jute.proofs.Puts.{on_err, on_err_map, on_ok_map}
use Rattle.zk_jute.proofs.length_prefixed.put_run.Goals as goal

pub returns-in_err-put_count-in-Some-clause-err : goal.returns-in_err-put_count-in-Some-clause-err
returns-in_err-put_count-in-Some-clause-err g c =
    let bytes = c.in-Some.bytes.now in
    on_err c.from_residual.result (rw c.in-Some.is (λ short.
    g.met.O.Output.stops_first c.args.out.now c.put_count-in-Some.new.out (int_bytes (pos (length bytes))) bytes (c.in_err-put_count-in-Some.ensures.err short)))

pub returns-in_ok-put_count-in-Some-clause-ok : goal.returns-in_ok-put_count-in-Some-clause-ok
returns-in_ok-put_count-in-Some-clause-ok g c =
    let bytes = c.in-Some.bytes.now in
    let count = c.in_ok-put_count-in-Some.ensures.ok in
    on_ok_map c.take.result (λ takes. rw c.in-Some.is (
      count.0,
      g.met.O.Output.takes_both c.args.out.now c.put_count-in-Some.new.out c.take.new.self (int_bytes (pos (length bytes))) bytes count.1 takes,
    )) c.take.ensures.ok

pub returns-in_ok-put_count-in-Some-clause-err : goal.returns-in_ok-put_count-in-Some-clause-err
returns-in_ok-put_count-in-Some-clause-err g c =
    let bytes = c.in-Some.bytes.now in
    let count = c.in_ok-put_count-in-Some.ensures.ok in
    on_err_map c.take.result (λ stops. rw c.in-Some.is (λ short.
    g.met.O.Output.stops_later c.args.out.now c.put_count-in-Some.new.out c.take.new.self (int_bytes (pos (length bytes))) bytes count.1 stops)) c.take.ensures.err
