-- The names of errors and events (ZooKeeper 3.4: KeeperException.Code, Watcher.Event.EventType), as tables.
use Rattle.std.specs.Prelude.{ℕ, List, [], ◌∷◌, Option, ℤ, pos, codes}
use Rattle.std.specs.{Map.lookup, Ordering.int_eq}
use Rattle.zk_records.specs.Codes.{minus}

abbrev pub errors : List (ℤ × List ℕ)
errors =
    (pos 0, codes "OK") ∷
    (minus 1, codes "SYSTEMERROR") ∷
    (minus 2, codes "RUNTIMEINCONSISTENCY") ∷
    (minus 3, codes "DATAINCONSISTENCY") ∷
    (minus 4, codes "CONNECTIONLOSS") ∷
    (minus 5, codes "MARSHALLINGERROR") ∷
    (minus 6, codes "UNIMPLEMENTED") ∷
    (minus 7, codes "OPERATIONTIMEOUT") ∷
    (minus 8, codes "BADARGUMENTS") ∷
    (minus 100, codes "APIERROR") ∷
    (minus 101, codes "NONODE") ∷
    (minus 102, codes "NOAUTH") ∷
    (minus 103, codes "BADVERSION") ∷
    (minus 108, codes "NOCHILDRENFOREPHEMERALS") ∷
    (minus 110, codes "NODEEXISTS") ∷
    (minus 111, codes "NOTEMPTY") ∷
    (minus 112, codes "SESSIONEXPIRED") ∷
    (minus 113, codes "INVALIDCALLBACK") ∷
    (minus 114, codes "INVALIDACL") ∷
    (minus 115, codes "AUTHFAILED") ∷
    (minus 118, codes "SESSIONMOVED") ∷
    (minus 119, codes "NOTREADONLY") ∷
    []

abbrev pub events : List (ℤ × List ℕ)
events =
    (minus 1, codes "None") ∷
    (pos 1, codes "NodeCreated") ∷
    (pos 2, codes "NodeDeleted") ∷
    (pos 3, codes "NodeDataChanged") ∷
    (pos 4, codes "NodeChildrenChanged") ∷
    []

-- the name beside the number, where the table has the number
abbrev pub name_in : List (ℤ × List ℕ) → ℤ → Option (List ℕ)
name_in rows number = lookup (int_eq number) rows

abbrev pub code_name : ℤ → Option (List ℕ)
code_name code = name_in errors code

abbrev pub event_name : ℤ → Option (List ℕ)
event_name kind = name_in events kind
