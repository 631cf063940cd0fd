-- A client's payload has no fault of its own that too much waits.
use Rattle.std.proofs.Common.{◌≢◌, ℕ, List}
use Rattle.zk_jute.specs.{declared.fault.Reason.Reason, declared.fault.Reason.TheVariants.QueueFull, Item.Kind, Item.Item, Layout.Layout, Flagged.IsFlaggedFault, Flagged.in_value, Flagged.in_flag, Flagged.behind_flag}
use Rattle.zk_jute.specs.Faults.{IsFault, IsBad, too_short, no_boolean, bad_length, no_content, bad_text}
use Rattle.zk_records.specs.declared.profile.Profile.{Profile}
use Rattle.zk_asks.specs.Rows.{Body, Fields, Parts, body_of}
use Rattle.zk_asks.specs.Faults.{IsMultiFault, in_mark, bad_mark, in_part, behind_part, IsFaultOf, IsAskFault, in_header, unknown_op, bad_xid, in_body, behind_body}

of_bad : {k : Kind} {bytes : List ℕ} {r : Reason} {p : ℕ} → IsBad k bytes r p → r ≢ QueueFull
of_bad (too_short k bytes lt) e = absurd cc
of_bad (no_boolean b bytes lt) e = absurd cc
of_bad (bad_length k bytes sized long low) e = absurd cc
of_bad (no_content k bytes sized long lacks) e = absurd cc
of_bad (bad_text bytes front long bad) e = absurd cc

pub of_items : {V : List Item → Type 0} {bytes : List ℕ} {place : ℕ} {r : Reason} → IsFault V bytes place r → r ≢ QueueFull
of_items f e = of_bad f.bad e

pub of_flagged : {l : Layout} {bytes : List ℕ} {place : ℕ} {r : Reason} → IsFlaggedFault l bytes place r → r ≢ QueueFull
of_flagged (in_value bytes place reason f) e = of_items f e
of_flagged (in_flag bytes rest value behind reason v o some f) e = of_items f e
of_flagged (behind_flag bytes rest value flag v w o some) e = absurd cc

of_multi : {bytes : List ℕ} {place : ℕ} {r : Reason} → IsMultiFault bytes place r → r ≢ QueueFull
of_multi (in_mark bytes place reason f) e = of_items f e
of_multi (bad_mark bytes rest header have o not) e = absurd cc
of_multi (in_part bytes rest op behind reason o f) e = of_items f e
of_multi (behind_part bytes rest op part behind reason v o f) e = of_multi f e

of_body : (b : Body) (bytes : List ℕ) (place : ℕ) (r : Reason) → IsFaultOf b bytes place r → r ≢ QueueFull
of_body (Fields l) bytes place r f e = of_items f e
of_body Parts bytes place r f e = of_multi f e

pub of_ask : {profile : Profile} {bytes : List ℕ} {place : ℕ} {r : Reason} → IsAskFault profile bytes place r → r ≢ QueueFull
of_ask (in_header place reason f) e = of_items f e
of_ask (unknown_op xid kind header none) e = absurd cc
of_ask (bad_xid xid op header has not) e = absurd cc
of_ask (in_body xid op behind reason r f) e = of_body (body_of op) _ _ _ f e
of_ask (behind_body place t) e = absurd cc
