use Rattle.std.proofs.Common.{◌≤◌, ◌+◌, length, sym, subst, ◌∙◌, arith}
use Rattle.zk_waiting.specs.Waiting.{Lanes, Request, weight_of}
use Rattle.zk_waiting.specs.declared.lane.Lane.TheVariants.{Ping, Auth, Watches}
use Rattle.zk_waiting.proofs.Counted.{numbers_fit, put_weighs, put_ping, put_auth, put_watches}
use Rattle.zk_waiting.proofs.awaited.Awaited.append.Goals as goal

pub put_number-requires : goal.put_number-requires
put_number-requires g c =
    let x = c.self.inside in
    omega (arith, c.self.invariant, numbers_fit x.max x.pings.items x.auths.items x.watches.items x.plain.requests (g.F.Asked.part_ops c.args.form.now) c.args.self.now c.self.view_is c.requires.room)

pub invariant_of-self : goal.invariant_of-self
invariant_of-self g c =
    let x = c.self.inside in
    let form = c.args.form.now in
    let parts = g.F.Asked.part_ops form in
    let r : Request = record { xid = c.args.xid; op = g.F.Asked.operation form; parts = parts; frame = c.args.frame } in
    let room = subst (λ (w : Lanes). weight_of w + (1 + length parts) ≤ w.max) (sym c.self.view_is) c.requires.room in
    let put = put_ping x.max x.pings.items x.auths.items x.watches.items x.plain.requests r c.requires.allowed (g.met.F.Asked.lawful form) (sym c.in-Ping.is ∙ c.requires.lane) in
    rw (c.parts.ensures, c.put_number.ensures) (put_weighs Ping r _ _ x.weight c.self.invariant.0 room put, c.self.invariant.1, c.self.invariant.2, c.self.invariant.3, c.self.invariant.4)

pub returns-in-Ping : goal.returns-in-Ping
returns-in-Ping g c =
    let x = c.self.inside in
    let form = c.args.form.now in
    let r : Request = record { xid = c.args.xid; op = g.F.Asked.operation form; parts = g.F.Asked.part_ops form; frame = c.args.frame } in
    rw (c.in-Ping.is, ← c.self.view_is, c.put_number.ensures) (put_ping x.max x.pings.items x.auths.items x.watches.items x.plain.requests r c.requires.allowed (g.met.F.Asked.lawful form) (sym c.in-Ping.is ∙ c.requires.lane))

pub put_number-requires-in-Auth : goal.put_number-requires-in-Auth
put_number-requires-in-Auth g c =
    let x = c.self.inside in
    omega (arith, c.self.invariant, numbers_fit x.max x.pings.items x.auths.items x.watches.items x.plain.requests (g.F.Asked.part_ops c.args.form.now) c.args.self.now c.self.view_is c.requires.room)

pub invariant_of-self-in-Auth : goal.invariant_of-self-in-Auth
invariant_of-self-in-Auth g c =
    let x = c.self.inside in
    let form = c.args.form.now in
    let parts = g.F.Asked.part_ops form in
    let r : Request = record { xid = c.args.xid; op = g.F.Asked.operation form; parts = parts; frame = c.args.frame } in
    let room = subst (λ (w : Lanes). weight_of w + (1 + length parts) ≤ w.max) (sym c.self.view_is) c.requires.room in
    let put = put_auth x.max x.pings.items x.auths.items x.watches.items x.plain.requests r c.requires.allowed (g.met.F.Asked.lawful form) (sym c.in-Auth.is ∙ c.requires.lane) in
    rw (c.parts.ensures, c.put_number-in-Auth.ensures) (put_weighs Auth r _ _ x.weight c.self.invariant.0 room put, c.self.invariant.1, c.self.invariant.2, c.self.invariant.3, c.self.invariant.4)

pub returns-in-Auth : goal.returns-in-Auth
returns-in-Auth g c =
    let x = c.self.inside in
    let form = c.args.form.now in
    let r : Request = record { xid = c.args.xid; op = g.F.Asked.operation form; parts = g.F.Asked.part_ops form; frame = c.args.frame } in
    rw (c.in-Auth.is, ← c.self.view_is, c.put_number-in-Auth.ensures) (put_auth x.max x.pings.items x.auths.items x.watches.items x.plain.requests r c.requires.allowed (g.met.F.Asked.lawful form) (sym c.in-Auth.is ∙ c.requires.lane))

pub put_number-requires-in-Watches : goal.put_number-requires-in-Watches
put_number-requires-in-Watches g c =
    let x = c.self.inside in
    omega (arith, c.self.invariant, numbers_fit x.max x.pings.items x.auths.items x.watches.items x.plain.requests (g.F.Asked.part_ops c.args.form.now) c.args.self.now c.self.view_is c.requires.room)

pub invariant_of-self-in-Watches : goal.invariant_of-self-in-Watches
invariant_of-self-in-Watches g c =
    let x = c.self.inside in
    let form = c.args.form.now in
    let parts = g.F.Asked.part_ops form in
    let r : Request = record { xid = c.args.xid; op = g.F.Asked.operation form; parts = parts; frame = c.args.frame } in
    let room = subst (λ (w : Lanes). weight_of w + (1 + length parts) ≤ w.max) (sym c.self.view_is) c.requires.room in
    let put = put_watches x.max x.pings.items x.auths.items x.watches.items x.plain.requests r c.requires.allowed (g.met.F.Asked.lawful form) (sym c.in-Watches.is ∙ c.requires.lane) in
    rw (c.parts.ensures, c.put_number-in-Watches.ensures) (put_weighs Watches r _ _ x.weight c.self.invariant.0 room put, c.self.invariant.1, c.self.invariant.2, c.self.invariant.3, c.self.invariant.4)

pub returns-in-Watches : goal.returns-in-Watches
returns-in-Watches g c =
    let x = c.self.inside in
    let form = c.args.form.now in
    let r : Request = record { xid = c.args.xid; op = g.F.Asked.operation form; parts = g.F.Asked.part_ops form; frame = c.args.frame } in
    rw (c.in-Watches.is, ← c.self.view_is, c.put_number-in-Watches.ensures) (put_watches x.max x.pings.items x.auths.items x.watches.items x.plain.requests r c.requires.allowed (g.met.F.Asked.lawful form) (sym c.in-Watches.is ∙ c.requires.lane))
