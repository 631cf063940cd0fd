-- The numbers and names of operations (ZooDefs.OpCode), as tables.
use Rattle.std.specs.Prelude.{◌≢◌, ℕ, zero, suc, ℤ, pos, negsuc, ◌≤◌, List, [], ◌∷◌, map, nat_eq, Option, codes}
use Rattle.std.specs.Map.{lookup}
use Rattle.zk_records.specs.{declared.op.Op.Op, declared.op.PartOp.PartOp, declared.profile.Profile.Profile}
use Rattle.zk_records.specs.declared.op.Op.TheVariants as ops
use Rattle.zk_records.specs.declared.op.PartOp.TheVariants as parts
use Rattle.zk_records.specs.declared.profile.Profile.TheVariants as profiles

-- the number n below zero
abbrev pub minus : ℕ → ℤ
minus zero = pos 0
minus (suc n) = negsuc n

-- the first profile that has each operation, its number and its name
abbrev pub op_row : Op → Profile × ℤ × List ℕ
op_row ops.Create = (profiles.V34, pos 1, codes "create")
op_row ops.Delete = (profiles.V34, pos 2, codes "delete")
op_row ops.Exists = (profiles.V34, pos 3, codes "exists")
op_row ops.GetData = (profiles.V34, pos 4, codes "getData")
op_row ops.SetData = (profiles.V34, pos 5, codes "setData")
op_row ops.GetAcl = (profiles.V34, pos 6, codes "getACL")
op_row ops.SetAcl = (profiles.V34, pos 7, codes "setACL")
op_row ops.GetChildren = (profiles.V34, pos 8, codes "getChildren")
op_row ops.Sync = (profiles.V34, pos 9, codes "sync")
op_row ops.Ping = (profiles.V34, pos 11, codes "ping")
op_row ops.GetChildren2 = (profiles.V34, pos 12, codes "getChildren2")
op_row ops.Multi = (profiles.V34, pos 14, codes "multi")
op_row ops.Create2 = (profiles.V35, pos 15, codes "create2")
op_row ops.Auth = (profiles.V34, pos 100, codes "auth")
op_row ops.SetWatches = (profiles.V34, pos 101, codes "setWatches")
op_row ops.CloseSession = (profiles.V34, minus 11, codes "closeSession")
op_row ops.Reconfig = (profiles.V37, pos 16, codes "reconfig")
op_row ops.CheckWatches = (profiles.V37, pos 17, codes "checkWatches")
op_row ops.RemoveWatches = (profiles.V37, pos 18, codes "removeWatches")
op_row ops.CreateContainer = (profiles.V37, pos 19, codes "createContainer")
op_row ops.CreateTtl = (profiles.V37, pos 21, codes "createTTL")
op_row ops.GetEphemerals = (profiles.V37, pos 103, codes "getEphemerals")
op_row ops.GetAllChildrenNumber = (profiles.V37, pos 104, codes "getAllChildrenNumber")
op_row ops.AddWatch = (profiles.V37, pos 106, codes "addWatch")

abbrev pub op_number : Op → ℤ
op_number op = (op_row op).1

abbrev pub op_name : Op → List ℕ
op_name op = (op_row op).2

abbrev pub all_ops : List Op
all_ops =
    ops.Create ∷ ops.Delete ∷ ops.Exists ∷ ops.GetData ∷ ops.SetData ∷ ops.GetAcl ∷ ops.SetAcl ∷ ops.GetChildren ∷ ops.Sync
    ∷ ops.Ping ∷ ops.GetChildren2 ∷ ops.Multi ∷ ops.Auth ∷ ops.SetWatches ∷ ops.CloseSession ∷ ops.Create2
    ∷ ops.Reconfig ∷ ops.CheckWatches ∷ ops.RemoveWatches ∷ ops.CreateContainer ∷ ops.CreateTtl ∷ ops.GetEphemerals ∷ ops.GetAllChildrenNumber
    ∷ ops.AddWatch ∷ []

-- a profile's number: its release, without the point
abbrev pub profile_number : Profile → ℕ
profile_number profiles.V34 = 34
profile_number profiles.V35 = 35
profile_number profiles.V37 = 37

abbrev pub all_profiles : List Profile
all_profiles = profiles.V34 ∷ profiles.V35 ∷ profiles.V37 ∷ []

-- the profile of a number, if it is one's
abbrev pub profile_of : ℕ → Option Profile
profile_of n = lookup (nat_eq n) (map (λ p. (profile_number p, p)) all_profiles)

-- a profile is the first, or a later one; each has what that of 3.4 has
abbrev pub IsSince : (first : Profile) → Profile → Type 0
IsSince profiles.V34 profile = Unit {0}
IsSince first profile = profile_number first ≤ profile_number profile

-- the operations of a profile
abbrev pub HasOp : Profile → Op → Type 0
HasOp profile op = IsSince (op_row op).0 profile

-- no operation of the profile has the number
abbrev pub IsNoOp : Profile → ℤ → Type 0
IsNoOp profile number = (op : Op) → HasOp profile op → number ≢ op_number op

-- the number and the name of each part's operation
abbrev pub part_row : PartOp → ℤ × List ℕ
part_row parts.Create = (pos 1, codes "create")
part_row parts.Delete = (pos 2, codes "delete")
part_row parts.SetData = (pos 5, codes "setData")
part_row parts.Check = (pos 13, codes "check")

abbrev pub part_number : PartOp → ℤ
part_number op = (part_row op).0

abbrev pub part_name : PartOp → List ℕ
part_name op = (part_row op).1

abbrev pub all_parts : List PartOp
all_parts = parts.Create ∷ parts.Delete ∷ parts.SetData ∷ parts.Check ∷ []
