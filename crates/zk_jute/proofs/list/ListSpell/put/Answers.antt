use Rattle.std.specs.Prelude.{pos, length}
use Rattle.std.specs.List.{flat_map}
use Rattle.zk_jute.specs.Item.{bytes_of, int_bytes}
use Rattle.zk_jute.proofs.Puts.{on_err, on_err_map, on_ok_map}
use Rattle.zk_jute.proofs.list.ListSpell.put.Goals as goal

pub returns-in_err-put_count-in-Full-clause-err : goal.returns-in_err-put_count-in-Full-clause-err
returns-in_err-put_count-in-Full-clause-err g c =
    let xs = c.as_slice-items.result.now in
    let bytes = bytes_of (flat_map g.T.Spell.items xs) in
    on_err c.from_residual.result (rw (c.in-Full.is, ← c.as_slice-items.ensures) (λ have.
    g.met.O.Output.stops_first c.args.out.now c.put_count-in-Full.new.out (int_bytes (pos (length xs))) bytes (c.in_err-put_count-in-Full.ensures.err have.0)))

pub returns-in_ok-put_count-in-Full-clause-ok : goal.returns-in_ok-put_count-in-Full-clause-ok
returns-in_ok-put_count-in-Full-clause-ok g c =
    let xs = c.as_slice-items.result.now in
    let bytes = bytes_of (flat_map g.T.Spell.items xs) in
    let count = c.in_ok-put_count-in-Full.ensures.ok in
    on_ok_map c.put_elements.result (λ put. rw (c.in-Full.is, ← c.as_slice-items.ensures) (
      (count.0, put.0),
      g.met.O.Output.takes_both c.args.out.now c.put_count-in-Full.new.out c.put_elements.new.out (int_bytes (pos (length xs))) bytes count.1 put.1,
    )) c.put_elements.ensures.ok

pub returns-in_ok-put_count-in-Full-clause-err : goal.returns-in_ok-put_count-in-Full-clause-err
returns-in_ok-put_count-in-Full-clause-err g c =
    let xs = c.as_slice-items.result.now in
    let bytes = bytes_of (flat_map g.T.Spell.items xs) in
    let count = c.in_ok-put_count-in-Full.ensures.ok in
    on_err_map c.put_elements.result (λ stops. rw (c.in-Full.is, ← c.as_slice-items.ensures) (λ have.
    g.met.O.Output.stops_later c.args.out.now c.put_count-in-Full.new.out c.put_elements.new.out (int_bytes (pos (length xs))) bytes count.1 (stops have.1))) c.put_elements.ensures.err
