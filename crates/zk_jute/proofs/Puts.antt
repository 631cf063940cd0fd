-- What an output was given, part by part.
use Rattle.std.specs.Prelude.{Result, Ok, Err, OnOk, OnErr}
use Rattle.zk_jute.proofs.Layouts.{have_both, have_parts, bytes_both}

pub on_err : {T E P : Type 0} (r : Result T E) → P → OnErr r P
on_err (Ok x) p = tt
on_err (Err e) p = p

pub on_err_map : {T E P Q : Type 0} (r : Result T E) → (P → Q) → OnErr r P → OnErr r Q
on_err_map (Ok x) f p = tt
on_err_map (Err e) f p = f p

pub on_ok_map : {T E P Q : Type 0} (r : Result T E) → (P → Q) → OnOk r P → OnOk r Q
on_ok_map (Ok x) f p = f p
on_ok_map (Err e) f p = tt

pub ruleset both = (have_both, have_parts, bytes_both)
