-- The requests of a special lane differ only in the numbers of their frames, where each has an xid that its operation allows.
use Rattle.std.specs.Prelude.{ℕ, ℤ, List, [], map, Option, Some, None}
use Rattle.zk_records.specs.declared.op.Op.{Op}
use Rattle.zk_records.specs.declared.op.Op.TheVariants as ops
use Rattle.zk_asks.specs.Codes.{ping_xid, auth_xid, watches_xid}
use Rattle.zk_waiting.specs.Waiting.{Request, Lanes}

-- a request without parts
abbrev pub bare : ℤ → Op → ℕ → Request
bare xid op frame = record { xid = xid; op = op; parts = []; frame = frame }

abbrev pub bare_of : ℤ → Op → Option ℕ → Option Request
bare_of xid op (Some frame) = Some (bare xid op frame)
bare_of xid op None = None

-- the lanes, by the numbers of the frames of the requests that each special lane has
abbrev pub numbered : ℕ → List ℕ → List ℕ → List ℕ → List Request → Lanes
numbered max pings auths watches plain = record {
  max = max;
  ping = map (bare ping_xid ops.Ping) pings;
  auth = map (bare auth_xid ops.Auth) auths;
  watches = map (bare watches_xid ops.SetWatches) watches;
  plain = plain;
}
